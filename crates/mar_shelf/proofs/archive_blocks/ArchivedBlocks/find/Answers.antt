use Rattle.mar_shelf.proofs.Archives.{found_in}
use Rattle.mar_shelf.proofs.archive_blocks.ArchivedBlocks.find.Goals as goal

pub returns-clause-found : goal.returns-clause-found
returns-clause-found g c = rw (← c.self.view_is) (found_in _ _ _ _ c.block_found.ensures c.get.ensures.found)

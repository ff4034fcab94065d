use Rattle.std.proofs.Common.{◌∙◌}
use Rattle.mar_shelf.proofs.Archives.{puts_block}
use Rattle.mar_shelf.proofs.archive_blocks.ArchivedBlocks.put.Goals as goal

pub returns-in-Ok-clause-done : goal.returns-in-Ok-clause-done
returns-in-Ok-clause-done g c =
    rw (← c.self.view_is, c.wrapped.ensures) (puts_block g.A.Archive.stored g.A.Wreck.ArchiveRuin.left (g.A.Archive.stored c.self.inside.archive) (g.V.Variant.plain c.args.block.now) _ _ c.put.result c.in-Ok.ensures (c.get.ensures.value ∙ c.height.ensures) c.put.ensures.done)

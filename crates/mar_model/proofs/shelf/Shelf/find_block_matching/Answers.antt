use Rattle.mar_model.specs.Entries.{is_sought}
use Rattle.mar_model.proofs.Looking.{block_found}
use Rattle.mar_model.proofs.shelf.Shelf.find_block_matching.Goals as goal

pub returns-in-Ok-Some-clause-found : goal.returns-in-Ok-Some-clause-found
returns-in-Ok-Some-clause-found g c = rw (← c.sought_block.ensures) (block_found g.V.Variant.plain g.Self.Notarization.AsFinalization.plain g.F.AsFinalization.plain (g.Self.Cache.kept c.args.self.now).held (is_sought g.V.Digest.Named.bytes g.V.Commitment.Named.bytes g.V.Variant.inner c.sought_block.result) _ c.in-Ok-Some.entry c.into_block.result c.in-Ok-Some.field-0-is c.into_block.ensures c.in-Ok-Some.ensures.found)

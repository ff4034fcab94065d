use Rattle.mar_model.proofs.Looking.{finalization_found}
use Rattle.mar_model.proofs.shelf.Shelf.get_finalization_for.Goals as goal

pub returns-in-Ok-Some-clause-found : goal.returns-in-Ok-Some-clause-found
returns-in-Ok-Some-clause-found g c = finalization_found g.V.Variant.plain g.Self.Notarization.AsFinalization.plain g.F.AsFinalization.plain (g.Self.Cache.kept c.args.self.now).held g.V.Variant.inner (g.V.Digest.Named.bytes c.args.digest) _ c.in-Ok-Some.entry c.into_finalization.result c.in-Ok-Some.field-0-is c.into_finalization.ensures c.in-Ok-Some.ensures.found

use Rattle.mar_model.proofs.Looking.{verified_found}
use Rattle.mar_model.proofs.shelf.Shelf.get_verified.Goals as goal

pub returns-in-Ok-Some-clause-found : goal.returns-in-Ok-Some-clause-found
returns-in-Ok-Some-clause-found g c = verified_found g.V.Variant.plain g.Self.Notarization.AsFinalization.plain g.F.AsFinalization.plain (g.Self.Cache.kept c.args.self.now).held c.args.round c.epoch.result _ c.in-Ok-Some.entry c.into_block.result c.epoch.ensures c.in-Ok-Some.field-0-is c.into_block.ensures c.in-Ok-Some.ensures.found

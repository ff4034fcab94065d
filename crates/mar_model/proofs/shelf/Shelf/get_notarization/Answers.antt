use Rattle.mar_model.proofs.Looking.{notarization_found}
use Rattle.mar_model.proofs.shelf.Shelf.get_notarization.Goals as goal

pub returns-in-Ok-Some-clause-found : goal.returns-in-Ok-Some-clause-found
returns-in-Ok-Some-clause-found g c = notarization_found g.V.Variant.plain g.Self.Notarization.AsFinalization.plain g.F.AsFinalization.plain (g.Self.Cache.kept c.args.self.now).held c.args.round c.epoch.result _ c.in-Ok-Some.entry c.into_notarization.result c.epoch.ensures c.in-Ok-Some.field-0-is c.into_notarization.ensures c.in-Ok-Some.ensures.found

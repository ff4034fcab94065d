use Rattle.mar_model.specs.Cached.{cached_block}
use Rattle.mar_model.specs.Entries.{has_digest}
use Rattle.mar_model.proofs.Looking.{has_found}
use Rattle.mar_model.proofs.shelf.Shelf.has_verified.Goals as goal

pub returns-in-Ok-clause-found : goal.returns-in-Ok-clause-found
returns-in-Ok-clause-found g c = has_found g.V.Variant.plain g.Self.Notarization.AsFinalization.plain g.F.AsFinalization.plain (g.Self.Cache.kept c.args.self.now).held c.args.round (λ x. has_digest (g.V.Digest.Named.bytes c.args.digest) (cached_block x)) c.epoch.result c.in-Ok.found c.is_some.result c.epoch.ensures c.is_some.ensures c.in-Ok.ensures.found

use Rattle.std.proofs.Common.{Some, ◌∷◌, [], ap}
use Rattle.std.proofs.lemmas.Result.{IfErr-weaker}
use Rattle.mar_model.specs.Cache.{is_verified_of}
use Rattle.mar_model.specs.Cached.{verified_entry}
use Rattle.mar_model.specs.Moves.{KeepsFor}
use Rattle.mar_model.proofs.Growing.{WithinWritten-nothing}
use Rattle.mar_rules.proofs.KeptFor.{kept_entry, taken_in, untaken_limit, verified_archive}
use Rattle.mar_rules.proofs.keeping.keep_verified.Goals as goal

pub returns-in-Ok-clause-keeps : goal.returns-in-Ok-clause-keeps
returns-in-Ok-clause-keeps g c =
    let old = g.S.HoldsCache.held c.args.stores.now in
    let b = g.V.Variant.plain c.args.block in
    taken_in (λ t. KeepsFor c.args.round.epoch (verified_entry c.args.round b ∷ []) (is_verified_of c.args.round.epoch) (Some c.args.answer) t old) c.open_started.result _ _ _ c.open_started.ensures.opened c.open_started.ensures.ticket
    (kept_entry (verified_entry c.args.round b) (is_verified_of c.args.round.epoch) (Some c.args.answer) c.in-Ok.started old _ _ _ (verified_archive c.args.round b) c.in-Ok.ensures.caches)

pub returns-in-Ok-clause-goes_on : goal.returns-in-Ok-clause-goes_on
returns-in-Ok-clause-goes_on g c start all grew within = c.open_started.ensures.goes_on start all (c.in-Ok.ensures.goes_on start all grew within) (WithinWritten-nothing all)

pub returns-in-Ok-clause-kind : goal.returns-in-Ok-clause-kind
returns-in-Ok-clause-kind g c =
    IfErr-weaker c.open_started.result _ _ (λ e is. untaken_limit c.args.round.epoch c.in-Ok.started (g.S.HoldsCache.held c.args.stores.now) (g.S.HoldsCache.held c.put_verified.new.self) _ (λ low. (c.in-Ok.ensures.caches.puts.ready low).0) (ap (λ h. h.writes) c.in-Ok.ensures.caches.same) is) c.open_started.ensures.kind

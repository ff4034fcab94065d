use Rattle.std.proofs.Common.{None, ◌∷◌, [], ap}
use Rattle.std.proofs.lemmas.Result.{IfErr-weaker}
use Rattle.mar_model.specs.Cache.{is_notarization_of}
use Rattle.mar_model.specs.Cached.{notarization_entry}
use Rattle.mar_model.specs.Moves.{KeepsFor}
use Rattle.mar_model.proofs.Growing.{WithinWritten-nothing}
use Rattle.mar_rules.proofs.KeptFor.{kept_entry, notarization_archive, taken_in, untaken_limit}
use Rattle.mar_rules.proofs.notarizing.keep_notarization.Goals as goal

pub returns-in-Ok-clause-keeps : goal.returns-in-Ok-clause-keeps
returns-in-Ok-clause-keeps g c =
    let old = g.S.HoldsCache.held c.args.stores.now in
    let f = g.S.Notarization.AsFinalization.plain c.args.notarization in
    taken_in (λ t. KeepsFor f.round.epoch (notarization_entry f ∷ []) (is_notarization_of f.round.epoch) None t old) c.open_started.result _ _ _ c.open_started.ensures.opened c.open_started.ensures.ticket
    (kept_entry (notarization_entry f) (is_notarization_of f.round.epoch) None c.in-Ok.started old _ _ _ (notarization_archive f) c.in-Ok.ensures.caches)

pub returns-in-Ok-clause-goes_on : goal.returns-in-Ok-clause-goes_on
returns-in-Ok-clause-goes_on g c start all grew within = c.open_started.ensures.goes_on start all (c.in-Ok.ensures.goes_on start all grew within) (WithinWritten-nothing all)

pub returns-in-Ok-clause-kind : goal.returns-in-Ok-clause-kind
returns-in-Ok-clause-kind g c =
    let f = g.S.Notarization.AsFinalization.plain c.args.notarization in
    IfErr-weaker c.open_started.result _ _ (λ e is. untaken_limit f.round.epoch c.in-Ok.started (g.S.HoldsCache.held c.args.stores.now) (g.S.HoldsCache.held c.put_notarization.new.self) _ (λ low. (c.in-Ok.ensures.caches.puts.ready low).0) (ap (λ h. h.writes) c.in-Ok.ensures.caches.same) is) c.open_started.ensures.kind

use Rattle.std.proofs.Common.{Some, ap, ◌∙◌}
use Rattle.std.proofs.lemmas.Result.{IfErr-weaker}
use Rattle.mar_model.specs.Cache.{certified_covers, notarized_where}
use Rattle.mar_model.specs.Moves.{KeepsFor, is_verified_in}
use Rattle.mar_model.proofs.Growing.{WithinWritten-nothing}
use Rattle.mar_rules.proofs.KeptFor.{joined_ready, kept_certified, taken_in, untaken_limit}
use Rattle.mar_rules.proofs.keeping.keep_certified.Goals as goal

pub returns-in-Ok-start_sync_notarizations-clause-keeps : goal.returns-in-Ok-start_sync_notarizations-clause-keeps
returns-in-Ok-start_sync_notarizations-clause-keeps g c =
    let old = g.S.HoldsCache.held c.args.stores.now in
    let b = g.V.Variant.plain c.args.block in
    taken_in (λ t. KeepsFor c.args.round.epoch (notarized_where (is_verified_in old c.args.round b) c.args.round b) (certified_covers c.args.round.epoch (is_verified_in old c.args.round b)) (Some c.args.answer) t old) c.open_started.result _ _ _ c.open_started.ensures.opened c.open_started.ensures.ticket
    (rw c.joined.ensures (kept_certified c.args.round b (Some c.args.answer) c.in-Ok.started c.in-Ok-start_sync_notarizations.others old _ _ _ _ _ c.law.ensures.joins c.in-Ok.ensures.puts (rw c.epoch.ensures at c.in-Ok-start_sync_notarizations.ensures.starts)))

pub returns-in-Ok-start_sync_notarizations-clause-goes_on : goal.returns-in-Ok-start_sync_notarizations-clause-goes_on
returns-in-Ok-start_sync_notarizations-clause-goes_on g c start all grew within = c.open_started.ensures.goes_on start all (c.in-Ok-start_sync_notarizations.ensures.goes_on start all (c.in-Ok.ensures.goes_on start all grew within) (WithinWritten-nothing all)) (WithinWritten-nothing all)

pub returns-in-Err-start_sync_notarizations-clause-goes_on : goal.returns-in-Err-start_sync_notarizations-clause-goes_on
returns-in-Err-start_sync_notarizations-clause-goes_on g c start all grew within = c.in-Err-start_sync_notarizations.ensures.goes_on start all (c.in-Ok.ensures.goes_on start all grew within) (WithinWritten-nothing all)

pub returns-in-Ok-start_sync_notarizations-clause-kind : goal.returns-in-Ok-start_sync_notarizations-clause-kind
returns-in-Ok-start_sync_notarizations-clause-kind g c =
    IfErr-weaker c.open_started.result _ _
    (λ e is. untaken_limit c.args.round.epoch c.joined.result (g.S.HoldsCache.held c.args.stores.now) (g.S.HoldsCache.held c.start_sync_notarizations.new.self) _ (λ low. c.joined.ensures ∙ joined_ready _ _ (c.in-Ok.ensures.puts.below low).0) (ap (λ h. h.writes) c.in-Ok-start_sync_notarizations.ensures.starts.same ∙ ap (λ h. h.writes) c.in-Ok.ensures.puts.same) is)
    c.open_started.ensures.kind

use Rattle.std.proofs.Common.{None, Ok, ◌∷◌, [], ap}
use Rattle.std.specs.Prelude.{⊤}
use Rattle.mar_model.specs.Cache.{is_notarized_of}
use Rattle.mar_model.specs.Cached.{notarized_entry}
use Rattle.mar_model.specs.Moves.{KeepsFor}
use Rattle.mar_model.proofs.Growing.{WithinWritten-nothing}
use Rattle.mar_rules.proofs.KeptFor.{kept_entry, notarized_archive, taken_in, untaken_limit}
use Rattle.mar_rules.proofs.notarizing.keep_unverified.Goals as goal

pub returns-in-Ok-open_started-clause-keeps : goal.returns-in-Ok-open_started-clause-keeps
returns-in-Ok-open_started-clause-keeps g c =
    let old = g.S.HoldsCache.held c.args.stores.now in
    let b = g.V.Variant.plain c.args.block in (
      _,
      taken_in {E = ⊤} (λ t. KeepsFor c.args.round.epoch (notarized_entry c.args.round b ∷ []) (is_notarized_of c.args.round.epoch) None t old) (Ok c.in-Ok-open_started.field-0) _ _ _ c.in-Ok-open_started.ensures.opened c.in-Ok-open_started.ensures.ticket
          (kept_entry (notarized_entry c.args.round b) (is_notarized_of c.args.round.epoch) None c.in-Ok.started old _ _ _ (notarized_archive c.args.round b) c.in-Ok.ensures.caches),
    )

pub returns-in-Ok-open_started-clause-goes_on : goal.returns-in-Ok-open_started-clause-goes_on
returns-in-Ok-open_started-clause-goes_on g c start all grew within = c.in-Ok-open_started.ensures.goes_on start all (c.in-Ok.ensures.goes_on start all grew within) (WithinWritten-nothing all)

pub returns-in-Err-open_started-clause-goes_on : goal.returns-in-Err-open_started-clause-goes_on
returns-in-Err-open_started-clause-goes_on g c start all grew within = c.in-Err-open_started.ensures.goes_on start all (c.in-Ok.ensures.goes_on start all grew within) (WithinWritten-nothing all)

pub returns-in-Err-open_started-clause-kind : goal.returns-in-Err-open_started-clause-kind
returns-in-Err-open_started-clause-kind g c =
    untaken_limit c.args.round.epoch c.in-Ok.started (g.S.HoldsCache.held c.args.stores.now) (g.S.HoldsCache.held c.put_notarized.new.self) _ (λ low. (c.in-Ok.ensures.caches.puts.ready low).0) (ap (λ h. h.writes) c.in-Ok.ensures.caches.same) c.in-Err-open_started.ensures.kind

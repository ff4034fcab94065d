use Rattle.std.specs.Prelude.{⊤}
use Rattle.std.proofs.Common.{ap, ◌∙◌}
use Rattle.mar_model.specs.Views.{fault_of}
use Rattle.mar_model.proofs.Doing.{law_behind}
use Rattle.mar_actor.proofs.Filled.{Does-synced, Does-unsynced, on_both, unbarred}
use Rattle.mar_actor.proofs.start.sync_filled.Goals as goal

pub returns-in-None-clause-runs : goal.returns-in-None-clause-runs
returns-in-None-clause-runs g c =
    let least = rw (ap (λ w. w.uncovered) c.writes.ensures) at c.barrier.ensures in
    λ life standing heard. Does-unsynced {T = ⊤} g.V.Variant.inner (fault_of g.V.Commitment.Named.bytes) (g.S.HoldsCache.held c.args.stores.now) life standing heard tt (c.law.ensures.lawful c.requires.intact) (unbarred _ _ _ least c.in-None.is)

pub returns-in-Some-clause-whole : goal.returns-in-Some-clause-whole
returns-in-Some-clause-whole g c = on_both c.sync_archives-synced.result (λ same. ap (λ h. h.intact) same ∙ c.requires.intact) c.sync_archives-synced.ensures.same

pub returns-in-Some-clause-runs : goal.returns-in-Some-clause-runs
returns-in-Some-clause-runs g c =
    let e = c.sync_archives-synced.ensures in
    let r = c.sync_archives-synced.result in
    let least = rw (ap (λ w. w.uncovered) c.writes.ensures) at c.barrier.ensures in
    λ life standing heard. Does-synced g.V.Variant.inner (fault_of g.V.Commitment.Named.bytes) (g.S.HoldsCache.held c.args.stores.now) _ life standing heard _ _ _ least c.in-Some.is r e.blocks e.certs (e.written c.requires.intact) e.same (law_behind _ r (returns-in-Some-clause-whole g c) c.law-in-Some.ensures.lawful) e.goes_on e.archive

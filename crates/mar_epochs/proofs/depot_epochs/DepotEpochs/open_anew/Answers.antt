use Rattle.std.proofs.Common.{ap, refl, [], arith, sym, ◌≡◌, true, false}
use Rattle.std.specs.Map.{lookup}
use Rattle.std.specs.Ordering.{nat_cmp}
use Rattle.std.specs.BTreeMap.{is_at, get}
use Rattle.mar_epochs.specs.EpochStates.{OpensEpoch, none_gone, state_at, state_under, states_of}
use Rattle.mar_epochs.proofs.Leaving.{left_ways, loses_unslotted, not_at, same_view}
use Rattle.mar_epochs.specs.Failures.{count_at, count_under, failures_of, first_way}
use Rattle.mar_epochs.proofs.Failing.{counts_since, no_less}
use Rattle.mar_epochs.proofs.depot_epochs.DepotEpochs.open_anew.Goals as goal

pub returns-in-Ok-clause-done : goal.returns-in-Ok-clause-done
returns-in-Ok-clause-done g c =
    let old = c.args.self in
    let e = c.args.epoch in
    same_view OpensEpoch [] none_gone (λ s. states_of g.A.EpochArchives.book g.A.Wreck.EpochArchivesRuin.left s.opening s.slots (g.D.Depot.names s.depot)) (λ w. left_ways g.A.EpochArchives.book g.A.Wreck.EpochArchivesRuin.left w.opening w.slots (g.D.Wreck.DepotRuin.left w.depot)) e (state_under g.A.Wreck.EpochArchivesRuin.left (g.D.Depot.names old.depot e)) (state_under g.A.Wreck.EpochArchivesRuin.left (g.D.Depot.names old.depot e)) (states_of g.A.EpochArchives.book g.A.Wreck.EpochArchivesRuin.left old.opening old.slots (g.D.Depot.names old.depot)) (states_of g.A.EpochArchives.book g.A.Wreck.EpochArchivesRuin.left old.opening c.insert.new.self (g.D.Depot.names old.depot)) c.open_name.result
    refl (λ k other. ap (λ s. state_at g.A.EpochArchives.book g.A.Wreck.EpochArchivesRuin.left old.opening s (g.D.Depot.names old.depot k)) (c.in-Ok.ensures.updates.2 k (not_at e k other))) c.open_name.ensures.done

pub returns-clause-done : goal.returns-clause-done
returns-clause-done g c = loses_unslotted g.A.EpochArchives.book g.A.Wreck.EpochArchivesRuin.left c.args.self.opening c.args.self.slots c.insert.new.self (g.D.Depot.names c.args.self.depot) c.args.epoch _ (λ k. ap (lookup (is_at (nat_cmp k))) c.in-Err.ensures.err) c.requires.none c.wreck.ensures.left

pub returns-in-Ok-clause-picked : goal.returns-in-Ok-clause-picked
returns-in-Ok-clause-picked g c = c.open_name.ensures.picked

pub returns-in-Ok-clause-counts : goal.returns-in-Ok-clause-counts
returns-in-Ok-clause-counts g c =
    let old = c.args.self in
    let e = c.args.epoch in
    let names = g.D.Depot.names old.depot in
    counts_since (λ s. failures_of g.A.EpochArchives.faults g.A.Wreck.EpochArchivesRuin.faults (g.D.Depot.watch s.depot).faults s.slots (g.D.Depot.names s.depot)) (λ w. failures_of g.A.EpochArchives.faults g.A.Wreck.EpochArchivesRuin.faults (g.D.Wreck.DepotRuin.watch w.depot).faults w.slots (first_way (g.D.Wreck.DepotRuin.left w.depot))) e (count_under g.A.Wreck.EpochArchivesRuin.faults (names e)) (count_under g.A.Wreck.EpochArchivesRuin.faults (names e)) (failures_of g.A.EpochArchives.faults g.A.Wreck.EpochArchivesRuin.faults (g.D.Depot.watch old.depot).faults old.slots (g.D.Depot.names old.depot)) (failures_of g.A.EpochArchives.faults g.A.Wreck.EpochArchivesRuin.faults (g.D.Depot.watch old.depot).faults c.insert.new.self names) c.open_name.result
    (omega arith) (omega arith)
    (λ k other. no_less _ _ (ap (λ s. count_at g.A.EpochArchives.faults g.A.Wreck.EpochArchivesRuin.faults s (names k)) (sym (c.in-Ok.ensures.updates.2 k (not_at e k other)))))
    c.open_name.ensures.counts

pub returns-clause-counts : goal.returns-clause-counts
returns-clause-counts g c = λ fault. absurd (let clash : false ≡ true = fault in cc)

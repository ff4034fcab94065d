use Rattle.std.proofs.Common.{[], ap, inl, sym, ◌∙◌}
use Rattle.mar_epochs.specs.EpochStates.{OpensEpoch, none_gone, shut, state_under, states_of}
use Rattle.mar_epochs.proofs.Leaving.{as_told, handed_is, left_ways, loses_name, not_at, others_handed, same_view}
use Rattle.mar_epochs.proofs.Picking.{picks_same}
use Rattle.mar_epochs.specs.Picks.{follows_if, picks_by}
use Rattle.std.specs.Ordering.{nat_cmp}
use Rattle.std.specs.BTreeMap.{get}
use Rattle.mar_epochs.specs.Failures.{count_at, count_under, failures_of, first_way}
use Rattle.mar_epochs.proofs.Failing.{counts_since, fault_rose, handed_count, no_less}
use Rattle.mar_epochs.proofs.depot_epochs.DepotEpochs.open_name.Goals as goal

pub returns-in-Ok-clause-done : goal.returns-in-Ok-clause-done
returns-in-Ok-clause-done g c =
    let old = c.args.self in
    let e = c.args.epoch in
    let left = g.A.Wreck.EpochArchivesRuin.left in
    let names = g.D.Depot.names old.depot in
    let handed = as_told g.D.Depot.told g.met.D.EpochArchivesDepot.tells c.in-Ok.ensures.done in
    same_view OpensEpoch [] none_gone (λ s. states_of g.A.EpochArchives.book left s.opening s.slots (g.D.Depot.names s.depot)) (λ w. left_ways g.A.EpochArchives.book left w.opening w.slots (g.D.Wreck.DepotRuin.left w.depot)) e (shut (left c.in-Ok.ruin)) (state_under left (names e)) (states_of g.A.EpochArchives.book left old.opening old.slots names) (states_of g.A.EpochArchives.book left old.opening old.slots (g.D.Depot.names c.in-Ok.depot)) c.open_ruin.result
    (handed_is left g.D.Depot.is_empty g.met.D.EpochArchivesDepot.empties names e c.in-Ok.ruin (g.D.Depot.names c.in-Ok.depot) handed)
    (others_handed left g.D.Depot.is_empty g.met.D.EpochArchivesDepot.empties names e c.in-Ok.ruin (g.D.Depot.names c.in-Ok.depot) g.A.EpochArchives.book old.opening old.slots handed)
    c.open_ruin.ensures.done

pub returns-in-Err-clause-done : goal.returns-in-Err-clause-done
returns-in-Err-clause-done g c =
    let old = c.args.self in
    rw (c.lost_by.ensures.wreck, c.parts_of-failed.ensures.wreck) (loses_name g.A.EpochArchives.book g.A.Wreck.EpochArchivesRuin.left old.opening g.D.Depot.is_empty g.met.D.EpochArchivesDepot.empties old.slots c.remove.new.self c.args.epoch c.remove.ensures.updates.1 (λ k other. c.remove.ensures.updates.2 k (not_at c.args.epoch k other)) (g.D.Depot.names old.depot) _ (as_told g.D.Depot.told g.met.D.EpochArchivesDepot.tells c.in-Err.ensures.done))

pub returns-in-Ok-clause-picked : goal.returns-in-Ok-clause-picked
returns-in-Ok-clause-picked g c =
    let old = c.args.self in
    let left = g.A.Wreck.EpochArchivesRuin.left in
    let names = g.D.Depot.names old.depot in
    let handed = as_told g.D.Depot.told g.met.D.EpochArchivesDepot.tells c.in-Ok.ensures.done in
    picks_same (λ s. states_of g.A.EpochArchives.book left s.opening s.slots (g.D.Depot.names s.depot)) (λ s. s.luck) (picks_by (follows_if g.D.EpochArchivesDepot.is_certain g.A.EpochArchives.keeps) old.luck) old.luck c.args.epoch (shut (left c.in-Ok.ruin)) (state_under left (names c.args.epoch)) c.open_ruin.result
    (handed_is left g.D.Depot.is_empty g.met.D.EpochArchivesDepot.empties names c.args.epoch c.in-Ok.ruin (g.D.Depot.names c.in-Ok.depot) handed) c.open_ruin.ensures.picked

pub returns-in-Ok-clause-counts : goal.returns-in-Ok-clause-counts
returns-in-Ok-clause-counts g c =
    let old = c.args.self in
    let e = c.args.epoch in
    let names = g.D.Depot.names old.depot in
    let handed = as_told g.D.Depot.told g.met.D.EpochArchivesDepot.tells c.in-Ok.ensures.done in
    counts_since (λ s. failures_of g.A.EpochArchives.faults g.A.Wreck.EpochArchivesRuin.faults (g.D.Depot.watch s.depot).faults s.slots (g.D.Depot.names s.depot)) (λ w. failures_of g.A.EpochArchives.faults g.A.Wreck.EpochArchivesRuin.faults (g.D.Wreck.DepotRuin.watch w.depot).faults w.slots (first_way (g.D.Wreck.DepotRuin.left w.depot))) e (count_under g.A.Wreck.EpochArchivesRuin.faults (names e)) (g.A.Wreck.EpochArchivesRuin.faults c.in-Ok.ruin) (failures_of g.A.EpochArchives.faults g.A.Wreck.EpochArchivesRuin.faults (g.D.Depot.watch old.depot).faults old.slots (g.D.Depot.names old.depot)) (failures_of g.A.EpochArchives.faults g.A.Wreck.EpochArchivesRuin.faults (g.D.Depot.watch c.in-Ok.depot).faults old.slots (g.D.Depot.names c.in-Ok.depot)) c.open_ruin.result
    (no_less _ _ (ap (λ w. w.faults) (sym c.in-Ok.ensures.watched.1)))
    (handed_count g.A.Wreck.EpochArchivesRuin.faults g.D.Depot.is_empty names (g.D.Depot.names c.in-Ok.depot) e c.in-Ok.ruin handed)
    (λ k other. no_less _ _ (ap (λ n. count_at g.A.EpochArchives.faults g.A.Wreck.EpochArchivesRuin.faults (get nat_cmp old.slots k) n) (sym (handed.others k other))))
    c.open_ruin.ensures.counts

pub returns-in-Err-clause-counts : goal.returns-in-Err-clause-counts
returns-in-Err-clause-counts g c = λ fault. rw (c.lost_by.ensures.wreck, c.parts_of-failed.ensures.wreck) (inl (fault_rose g.D.Wreck.DepotRuin.watch (g.D.Depot.watch c.args.self.depot) c.in-Err.lost c.in-Err.ensures.watched (sym (c.lost_by.ensures.fault ∙ c.parts_of-failed.ensures.fault) ∙ fault)))

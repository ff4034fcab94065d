use Rattle.std.proofs.Common.{ap, sym, Some, ◌∙◌, []}
use Rattle.mar_epochs.specs.declared.slot.Slot.TheVariants.{Away}
use Rattle.mar_epochs.specs.EpochStates.{OpensEpoch, none_gone, shut, state_under, states_of}
use Rattle.mar_epochs.proofs.Leaving.{exchanged_elsewhere, left_ways, same_view, slot_is, standing_shut}
use Rattle.mar_epochs.proofs.Picking.{picks_on}
use Rattle.mar_epochs.specs.Picks.{follows_if}
use Rattle.std.specs.Ordering.{nat_cmp}
use Rattle.std.specs.BTreeMap.{get}
use Rattle.mar_epochs.specs.Failures.{count_at, count_under, failures_of, first_way}
use Rattle.mar_epochs.proofs.Failing.{counts_others, counts_since, no_less}
use Rattle.mar_epochs.proofs.depot_epochs.DepotEpochsEpochs.open.Goals as goal

pub returns-in-None-clause-done : goal.returns-in-None-clause-done
returns-in-None-clause-done g c =
    let old = c.args.self in
    let new = c.exchange-epochs.result.0 in
    let step = c.exchange-epochs.ensures in
    let e = c.args.epoch in
    same_view OpensEpoch [] none_gone (λ s. states_of g.A.EpochArchives.book g.A.Wreck.EpochArchivesRuin.left s.opening s.slots (g.D.Depot.names s.depot)) (λ w. left_ways g.A.EpochArchives.book g.A.Wreck.EpochArchivesRuin.left w.opening w.slots (g.D.Wreck.DepotRuin.left w.depot)) e (state_under g.A.Wreck.EpochArchivesRuin.left (g.D.Depot.names new.depot e)) ((states_of g.A.EpochArchives.book g.A.Wreck.EpochArchivesRuin.left old.opening old.slots (g.D.Depot.names old.depot)) e) (states_of g.A.EpochArchives.book g.A.Wreck.EpochArchivesRuin.left old.opening old.slots (g.D.Depot.names old.depot)) (states_of g.A.EpochArchives.book g.A.Wreck.EpochArchivesRuin.left new.opening new.slots (g.D.Depot.names new.depot)) c.open_anew.result
    (slot_is g.A.EpochArchives.book g.A.Wreck.EpochArchivesRuin.left old.opening _ _ (g.D.Depot.names old.depot e) (sym step.taken ∙ c.in-None.is) ∙ ap (λ d. state_under g.A.Wreck.EpochArchivesRuin.left (g.D.Depot.names d e)) (sym step.depot))
    (exchanged_elsewhere g.A.EpochArchives.book g.A.Wreck.EpochArchivesRuin.left old.opening new.opening old.slots new.slots (g.D.Depot.names old.depot) (g.D.Depot.names new.depot) e Away step.opening (ap g.D.Depot.names step.depot) step.slots) c.open_anew.ensures.done

pub returns-in-Some-Leftover-clause-done : goal.returns-in-Some-Leftover-clause-done
returns-in-Some-Leftover-clause-done g c =
    let old = c.args.self in
    let new = c.exchange-epochs.result.0 in
    let step = c.exchange-epochs.ensures in
    let e = c.args.epoch in
    same_view OpensEpoch [] none_gone (λ s. states_of g.A.EpochArchives.book g.A.Wreck.EpochArchivesRuin.left s.opening s.slots (g.D.Depot.names s.depot)) (λ w. left_ways g.A.EpochArchives.book g.A.Wreck.EpochArchivesRuin.left w.opening w.slots (g.D.Wreck.DepotRuin.left w.depot)) e (shut (g.A.Wreck.EpochArchivesRuin.left c.in-Some-Leftover.ruin)) ((states_of g.A.EpochArchives.book g.A.Wreck.EpochArchivesRuin.left old.opening old.slots (g.D.Depot.names old.depot)) e) (states_of g.A.EpochArchives.book g.A.Wreck.EpochArchivesRuin.left old.opening old.slots (g.D.Depot.names old.depot)) (states_of g.A.EpochArchives.book g.A.Wreck.EpochArchivesRuin.left new.opening new.slots (g.D.Depot.names new.depot)) c.open_ruin.result
    (slot_is g.A.EpochArchives.book g.A.Wreck.EpochArchivesRuin.left old.opening _ _ (g.D.Depot.names old.depot e) (sym step.taken ∙ c.in-Some-Leftover.is ∙ ap (λ s. Some s) c.in-Some-Leftover.field-0-is))
    (exchanged_elsewhere g.A.EpochArchives.book g.A.Wreck.EpochArchivesRuin.left old.opening new.opening old.slots new.slots (g.D.Depot.names old.depot) (g.D.Depot.names new.depot) e Away step.opening (ap g.D.Depot.names step.depot) step.slots) c.open_ruin.ensures.done

pub returns-in-Some-Standing-clause-done : goal.returns-in-Some-Standing-clause-done
returns-in-Some-Standing-clause-done g c =
    let old = c.args.self in
    let new = c.exchange-epochs.result.0 in
    let step = c.exchange-epochs.ensures in
    let e = c.args.epoch in
    same_view OpensEpoch [] none_gone (λ s. states_of g.A.EpochArchives.book g.A.Wreck.EpochArchivesRuin.left s.opening s.slots (g.D.Depot.names s.depot)) (λ w. left_ways g.A.EpochArchives.book g.A.Wreck.EpochArchivesRuin.left w.opening w.slots (g.D.Wreck.DepotRuin.left w.depot)) e (shut (g.A.Wreck.EpochArchivesRuin.left c.wreck.result)) ((states_of g.A.EpochArchives.book g.A.Wreck.EpochArchivesRuin.left old.opening old.slots (g.D.Depot.names old.depot)) e) (states_of g.A.EpochArchives.book g.A.Wreck.EpochArchivesRuin.left old.opening old.slots (g.D.Depot.names old.depot)) (states_of g.A.EpochArchives.book g.A.Wreck.EpochArchivesRuin.left new.opening new.slots (g.D.Depot.names new.depot)) c.open_ruin-in-Some-Standing.result
    (standing_shut g.A.EpochArchives.book g.A.Wreck.EpochArchivesRuin.left old.opening c.in-Some-Standing.archives _ _ (g.D.Depot.names old.depot e) (sym step.taken ∙ c.in-Some-Standing.is ∙ ap (λ s. Some s) c.in-Some-Standing.field-0-is) c.requires.shut ∙ ap (λ l. shut l) (sym c.wreck.ensures.left))
    (exchanged_elsewhere g.A.EpochArchives.book g.A.Wreck.EpochArchivesRuin.left old.opening new.opening old.slots new.slots (g.D.Depot.names old.depot) (g.D.Depot.names new.depot) e Away step.opening (ap g.D.Depot.names step.depot) step.slots) c.open_ruin-in-Some-Standing.ensures.done

pub returns-in-Some-Away-clause-done : goal.returns-in-Some-Away-clause-done
returns-in-Some-Away-clause-done g c =
    let old = c.args.self in
    let new = c.exchange-epochs.result.0 in
    let step = c.exchange-epochs.ensures in
    let e = c.args.epoch in
    same_view OpensEpoch [] none_gone (λ s. states_of g.A.EpochArchives.book g.A.Wreck.EpochArchivesRuin.left s.opening s.slots (g.D.Depot.names s.depot)) (λ w. left_ways g.A.EpochArchives.book g.A.Wreck.EpochArchivesRuin.left w.opening w.slots (g.D.Wreck.DepotRuin.left w.depot)) e (state_under g.A.Wreck.EpochArchivesRuin.left (g.D.Depot.names new.depot e)) ((states_of g.A.EpochArchives.book g.A.Wreck.EpochArchivesRuin.left old.opening old.slots (g.D.Depot.names old.depot)) e) (states_of g.A.EpochArchives.book g.A.Wreck.EpochArchivesRuin.left old.opening old.slots (g.D.Depot.names old.depot)) (states_of g.A.EpochArchives.book g.A.Wreck.EpochArchivesRuin.left new.opening new.slots (g.D.Depot.names new.depot)) c.open_name.result
    (slot_is g.A.EpochArchives.book g.A.Wreck.EpochArchivesRuin.left old.opening _ _ (g.D.Depot.names old.depot e) (sym step.taken ∙ c.in-Some-Away.is ∙ ap (λ s. Some s) c.in-Some-Away.field-0-is) ∙ ap (λ d. state_under g.A.Wreck.EpochArchivesRuin.left (g.D.Depot.names d e)) (sym step.depot))
    (exchanged_elsewhere g.A.EpochArchives.book g.A.Wreck.EpochArchivesRuin.left old.opening new.opening old.slots new.slots (g.D.Depot.names old.depot) (g.D.Depot.names new.depot) e Away step.opening (ap g.D.Depot.names step.depot) step.slots) c.open_name.ensures.done

pub returns-in-None-clause-picked : goal.returns-in-None-clause-picked
returns-in-None-clause-picked g c =
    let old = c.args.self in
    let step = c.exchange-epochs.ensures in
    picks_on (λ s. states_of g.A.EpochArchives.book g.A.Wreck.EpochArchivesRuin.left s.opening s.slots (g.D.Depot.names s.depot)) (λ s. s.luck) (follows_if g.D.EpochArchivesDepot.is_certain g.A.EpochArchives.keeps) old.luck c.exchange-epochs.result.0.luck c.args.epoch (state_under g.A.Wreck.EpochArchivesRuin.left (g.D.Depot.names c.exchange-epochs.result.0.depot c.args.epoch)) (states_of g.A.EpochArchives.book g.A.Wreck.EpochArchivesRuin.left old.opening old.slots (g.D.Depot.names old.depot) c.args.epoch) c.open_anew.result
    (slot_is g.A.EpochArchives.book g.A.Wreck.EpochArchivesRuin.left old.opening _ _ (g.D.Depot.names old.depot c.args.epoch) (sym step.taken ∙ c.in-None.is) ∙ ap (λ d. state_under g.A.Wreck.EpochArchivesRuin.left (g.D.Depot.names d c.args.epoch)) (sym step.depot)) step.luck c.open_anew.ensures.picked

pub returns-in-Some-Leftover-clause-picked : goal.returns-in-Some-Leftover-clause-picked
returns-in-Some-Leftover-clause-picked g c =
    let old = c.args.self in
    let step = c.exchange-epochs.ensures in
    picks_on (λ s. states_of g.A.EpochArchives.book g.A.Wreck.EpochArchivesRuin.left s.opening s.slots (g.D.Depot.names s.depot)) (λ s. s.luck) (follows_if g.D.EpochArchivesDepot.is_certain g.A.EpochArchives.keeps) old.luck c.exchange-epochs.result.0.luck c.args.epoch (shut (g.A.Wreck.EpochArchivesRuin.left c.in-Some-Leftover.ruin)) (states_of g.A.EpochArchives.book g.A.Wreck.EpochArchivesRuin.left old.opening old.slots (g.D.Depot.names old.depot) c.args.epoch) c.open_ruin.result
    (slot_is g.A.EpochArchives.book g.A.Wreck.EpochArchivesRuin.left old.opening _ _ (g.D.Depot.names old.depot c.args.epoch) (sym step.taken ∙ c.in-Some-Leftover.is ∙ ap (λ s. Some s) c.in-Some-Leftover.field-0-is)) step.luck c.open_ruin.ensures.picked

pub returns-in-Some-Standing-clause-picked : goal.returns-in-Some-Standing-clause-picked
returns-in-Some-Standing-clause-picked g c =
    let old = c.args.self in
    let step = c.exchange-epochs.ensures in
    picks_on (λ s. states_of g.A.EpochArchives.book g.A.Wreck.EpochArchivesRuin.left s.opening s.slots (g.D.Depot.names s.depot)) (λ s. s.luck) (follows_if g.D.EpochArchivesDepot.is_certain g.A.EpochArchives.keeps) old.luck c.exchange-epochs.result.0.luck c.args.epoch (shut (g.A.Wreck.EpochArchivesRuin.left c.wreck.result)) (states_of g.A.EpochArchives.book g.A.Wreck.EpochArchivesRuin.left old.opening old.slots (g.D.Depot.names old.depot) c.args.epoch) c.open_ruin-in-Some-Standing.result
    (standing_shut g.A.EpochArchives.book g.A.Wreck.EpochArchivesRuin.left old.opening c.in-Some-Standing.archives _ _ (g.D.Depot.names old.depot c.args.epoch) (sym step.taken ∙ c.in-Some-Standing.is ∙ ap (λ s. Some s) c.in-Some-Standing.field-0-is) c.requires.shut ∙ ap (λ l. shut l) (sym c.wreck.ensures.left)) step.luck c.open_ruin-in-Some-Standing.ensures.picked

pub returns-in-Some-Away-clause-picked : goal.returns-in-Some-Away-clause-picked
returns-in-Some-Away-clause-picked g c =
    let old = c.args.self in
    let step = c.exchange-epochs.ensures in
    picks_on (λ s. states_of g.A.EpochArchives.book g.A.Wreck.EpochArchivesRuin.left s.opening s.slots (g.D.Depot.names s.depot)) (λ s. s.luck) (follows_if g.D.EpochArchivesDepot.is_certain g.A.EpochArchives.keeps) old.luck c.exchange-epochs.result.0.luck c.args.epoch (state_under g.A.Wreck.EpochArchivesRuin.left (g.D.Depot.names c.exchange-epochs.result.0.depot c.args.epoch)) (states_of g.A.EpochArchives.book g.A.Wreck.EpochArchivesRuin.left old.opening old.slots (g.D.Depot.names old.depot) c.args.epoch) c.open_name.result
    (slot_is g.A.EpochArchives.book g.A.Wreck.EpochArchivesRuin.left old.opening _ _ (g.D.Depot.names old.depot c.args.epoch) (sym step.taken ∙ c.in-Some-Away.is ∙ ap (λ s. Some s) c.in-Some-Away.field-0-is) ∙ ap (λ d. state_under g.A.Wreck.EpochArchivesRuin.left (g.D.Depot.names d c.args.epoch)) (sym step.depot)) step.luck c.open_name.ensures.picked

pub returns-in-None-clause-counts : goal.returns-in-None-clause-counts
returns-in-None-clause-counts g c =
    let old = c.args.self in
    let new = c.exchange-epochs.result.0 in
    let step = c.exchange-epochs.ensures in
    let e = c.args.epoch in
    counts_since (λ s. failures_of g.A.EpochArchives.faults g.A.Wreck.EpochArchivesRuin.faults (g.D.Depot.watch s.depot).faults s.slots (g.D.Depot.names s.depot)) (λ w. failures_of g.A.EpochArchives.faults g.A.Wreck.EpochArchivesRuin.faults (g.D.Wreck.DepotRuin.watch w.depot).faults w.slots (first_way (g.D.Wreck.DepotRuin.left w.depot))) e _ (count_under g.A.Wreck.EpochArchivesRuin.faults (g.D.Depot.names new.depot e)) _ (failures_of g.A.EpochArchives.faults g.A.Wreck.EpochArchivesRuin.faults (g.D.Depot.watch new.depot).faults new.slots (g.D.Depot.names new.depot)) c.open_anew.result
    (no_less _ _ (ap (λ d. (g.D.Depot.watch d).faults) (sym step.depot)))
    (no_less _ _ (ap (λ s. count_at g.A.EpochArchives.faults g.A.Wreck.EpochArchivesRuin.faults s (g.D.Depot.names old.depot e)) (sym step.taken ∙ c.in-None.is) ∙ ap (λ d. count_under g.A.Wreck.EpochArchivesRuin.faults (g.D.Depot.names d e)) (sym step.depot)))
    (λ k other. no_less _ _ (sym (ap (λ d. count_at g.A.EpochArchives.faults g.A.Wreck.EpochArchivesRuin.faults (get nat_cmp new.slots k) (g.D.Depot.names d k)) step.depot ∙ counts_others g.A.EpochArchives.faults g.A.Wreck.EpochArchivesRuin.faults old.slots new.slots e Away step.slots (g.D.Depot.names old.depot) k other)))
    c.open_anew.ensures.counts

pub returns-in-Some-Leftover-clause-counts : goal.returns-in-Some-Leftover-clause-counts
returns-in-Some-Leftover-clause-counts g c =
    let old = c.args.self in
    let new = c.exchange-epochs.result.0 in
    let step = c.exchange-epochs.ensures in
    let e = c.args.epoch in
    counts_since (λ s. failures_of g.A.EpochArchives.faults g.A.Wreck.EpochArchivesRuin.faults (g.D.Depot.watch s.depot).faults s.slots (g.D.Depot.names s.depot)) (λ w. failures_of g.A.EpochArchives.faults g.A.Wreck.EpochArchivesRuin.faults (g.D.Wreck.DepotRuin.watch w.depot).faults w.slots (first_way (g.D.Wreck.DepotRuin.left w.depot))) e _ (g.A.Wreck.EpochArchivesRuin.faults c.in-Some-Leftover.ruin) _ (failures_of g.A.EpochArchives.faults g.A.Wreck.EpochArchivesRuin.faults (g.D.Depot.watch new.depot).faults new.slots (g.D.Depot.names new.depot)) c.open_ruin.result
    (no_less _ _ (ap (λ d. (g.D.Depot.watch d).faults) (sym step.depot)))
    (no_less _ _ (ap (λ s. count_at g.A.EpochArchives.faults g.A.Wreck.EpochArchivesRuin.faults s (g.D.Depot.names old.depot e)) (sym step.taken ∙ c.in-Some-Leftover.is ∙ ap (λ s. Some s) c.in-Some-Leftover.field-0-is)))
    (λ k other. no_less _ _ (sym (ap (λ d. count_at g.A.EpochArchives.faults g.A.Wreck.EpochArchivesRuin.faults (get nat_cmp new.slots k) (g.D.Depot.names d k)) step.depot ∙ counts_others g.A.EpochArchives.faults g.A.Wreck.EpochArchivesRuin.faults old.slots new.slots e Away step.slots (g.D.Depot.names old.depot) k other)))
    c.open_ruin.ensures.counts

pub returns-in-Some-Standing-clause-counts : goal.returns-in-Some-Standing-clause-counts
returns-in-Some-Standing-clause-counts g c =
    let old = c.args.self in
    let new = c.exchange-epochs.result.0 in
    let step = c.exchange-epochs.ensures in
    let e = c.args.epoch in
    counts_since (λ s. failures_of g.A.EpochArchives.faults g.A.Wreck.EpochArchivesRuin.faults (g.D.Depot.watch s.depot).faults s.slots (g.D.Depot.names s.depot)) (λ w. failures_of g.A.EpochArchives.faults g.A.Wreck.EpochArchivesRuin.faults (g.D.Wreck.DepotRuin.watch w.depot).faults w.slots (first_way (g.D.Wreck.DepotRuin.left w.depot))) e _ (g.A.Wreck.EpochArchivesRuin.faults c.wreck.result) _ (failures_of g.A.EpochArchives.faults g.A.Wreck.EpochArchivesRuin.faults (g.D.Depot.watch new.depot).faults new.slots (g.D.Depot.names new.depot)) c.open_ruin-in-Some-Standing.result
    (no_less _ _ (ap (λ d. (g.D.Depot.watch d).faults) (sym step.depot)))
    (no_less _ _ (ap (λ s. count_at g.A.EpochArchives.faults g.A.Wreck.EpochArchivesRuin.faults s (g.D.Depot.names old.depot e)) (sym step.taken ∙ c.in-Some-Standing.is ∙ ap (λ s. Some s) c.in-Some-Standing.field-0-is) ∙ sym c.wreck.ensures.count))
    (λ k other. no_less _ _ (sym (ap (λ d. count_at g.A.EpochArchives.faults g.A.Wreck.EpochArchivesRuin.faults (get nat_cmp new.slots k) (g.D.Depot.names d k)) step.depot ∙ counts_others g.A.EpochArchives.faults g.A.Wreck.EpochArchivesRuin.faults old.slots new.slots e Away step.slots (g.D.Depot.names old.depot) k other)))
    c.open_ruin-in-Some-Standing.ensures.counts

pub returns-in-Some-Away-clause-counts : goal.returns-in-Some-Away-clause-counts
returns-in-Some-Away-clause-counts g c =
    let old = c.args.self in
    let new = c.exchange-epochs.result.0 in
    let step = c.exchange-epochs.ensures in
    let e = c.args.epoch in
    counts_since (λ s. failures_of g.A.EpochArchives.faults g.A.Wreck.EpochArchivesRuin.faults (g.D.Depot.watch s.depot).faults s.slots (g.D.Depot.names s.depot)) (λ w. failures_of g.A.EpochArchives.faults g.A.Wreck.EpochArchivesRuin.faults (g.D.Wreck.DepotRuin.watch w.depot).faults w.slots (first_way (g.D.Wreck.DepotRuin.left w.depot))) e _ (count_under g.A.Wreck.EpochArchivesRuin.faults (g.D.Depot.names new.depot e)) _ (failures_of g.A.EpochArchives.faults g.A.Wreck.EpochArchivesRuin.faults (g.D.Depot.watch new.depot).faults new.slots (g.D.Depot.names new.depot)) c.open_name.result
    (no_less _ _ (ap (λ d. (g.D.Depot.watch d).faults) (sym step.depot)))
    (no_less _ _ (ap (λ s. count_at g.A.EpochArchives.faults g.A.Wreck.EpochArchivesRuin.faults s (g.D.Depot.names old.depot e)) (sym step.taken ∙ c.in-Some-Away.is ∙ ap (λ s. Some s) c.in-Some-Away.field-0-is) ∙ ap (λ d. count_under g.A.Wreck.EpochArchivesRuin.faults (g.D.Depot.names d e)) (sym step.depot)))
    (λ k other. no_less _ _ (sym (ap (λ d. count_at g.A.EpochArchives.faults g.A.Wreck.EpochArchivesRuin.faults (get nat_cmp new.slots k) (g.D.Depot.names d k)) step.depot ∙ counts_others g.A.EpochArchives.faults g.A.Wreck.EpochArchivesRuin.faults old.slots new.slots e Away step.slots (g.D.Depot.names old.depot) k other)))
    c.open_name.ensures.counts

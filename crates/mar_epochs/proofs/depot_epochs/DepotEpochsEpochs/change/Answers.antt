use Rattle.std.proofs.Common.{ap, sym, Some, ◌∙◌}
use Rattle.mar_epochs.specs.declared.slot.Slot.TheVariants.{Away}
use Rattle.mar_epochs.specs.EpochStates.{ChangesEpoch, opened, states_of}
use Rattle.mar_epochs.proofs.Leaving.{changes_back, exchanged_elsewhere, left_ways, memory_back, same_view, settles_back, standing_not_shut, standing_open}
use Rattle.mar_epochs.proofs.Unarmed.{and_left}
use Rattle.mar_epochs.specs.Failures.{count_at, failures_of, first_way}
use Rattle.mar_epochs.proofs.Failing.{counts_back, counts_none, counts_others, counts_since, no_less}
use Rattle.std.specs.Ordering.{nat_cmp}
use Rattle.std.specs.BTreeMap.{get}
use Rattle.mar_epochs.proofs.depot_epochs.DepotEpochsEpochs.change.Goals as goal

pub returns-in-Some-Standing-clause-done : goal.returns-in-Some-Standing-clause-done
returns-in-Some-Standing-clause-done g c =
    let old = c.args.self in
    let new = c.exchange-epochs.result.0 in
    let step = c.exchange-epochs.ensures in
    let e = c.args.epoch in
    same_view (ChangesEpoch g.A.Entry.AsEntry.plain c.args.change) _ _ (λ s. states_of g.A.EpochArchives.book g.A.Wreck.EpochArchivesRuin.left s.opening s.slots (g.D.Depot.names s.depot)) (λ w. left_ways g.A.EpochArchives.book g.A.Wreck.EpochArchivesRuin.left w.opening w.slots (g.D.Wreck.DepotRuin.left w.depot)) e (opened (g.A.EpochArchives.book c.in-Some-Standing.archives)) ((states_of g.A.EpochArchives.book g.A.Wreck.EpochArchivesRuin.left old.opening old.slots (g.D.Depot.names old.depot)) e) (states_of g.A.EpochArchives.book g.A.Wreck.EpochArchivesRuin.left old.opening old.slots (g.D.Depot.names old.depot)) (states_of g.A.EpochArchives.book g.A.Wreck.EpochArchivesRuin.left new.opening new.slots (g.D.Depot.names new.depot)) c.put_back.result
    (standing_open g.A.EpochArchives.book g.A.Wreck.EpochArchivesRuin.left old.opening c.in-Some-Standing.archives c.in-Some-Standing.opening _ _ (sym step.taken ∙ c.in-Some-Standing.is ∙ ap (λ s. Some s) c.in-Some-Standing.field-0-is) (c.if-opening-epochs.true ∙ step.opening))
    (exchanged_elsewhere g.A.EpochArchives.book g.A.Wreck.EpochArchivesRuin.left old.opening new.opening old.slots new.slots (g.D.Depot.names old.depot) (g.D.Depot.names new.depot) e Away step.opening (ap g.D.Depot.names step.depot) step.slots) (changes_back g.A.EpochArchives.book g.A.Wreck.EpochArchivesRuin.left (λ s. states_of g.A.EpochArchives.book g.A.Wreck.EpochArchivesRuin.left s.opening s.slots (g.D.Depot.names s.depot)) (λ w. left_ways g.A.EpochArchives.book g.A.Wreck.EpochArchivesRuin.left w.opening w.slots (g.D.Wreck.DepotRuin.left w.depot)) e _ g.A.Entry.AsEntry.plain c.args.change (g.A.EpochArchives.book c.in-Some-Standing.archives) (g.met.A.EpochArchives.nested c.in-Some-Standing.archives) c.change-answer.result c.put_back.result c.put_back.ensures.done c.change-answer.ensures.done)

pub returns-in-Some-Standing-clause-shut : goal.returns-in-Some-Standing-clause-shut
returns-in-Some-Standing-clause-shut g c =
    let old = c.args.self in
    let step = c.exchange-epochs.ensures in
    λ closed. absurd (standing_not_shut g.A.EpochArchives.book g.A.Wreck.EpochArchivesRuin.left old.opening c.in-Some-Standing.archives c.in-Some-Standing.opening _ (g.D.Depot.names old.depot c.args.epoch) (sym step.taken ∙ c.in-Some-Standing.is ∙ ap (λ s. Some s) c.in-Some-Standing.field-0-is) (c.if-opening-epochs.true ∙ step.opening) closed)

pub returns-in-Some-Standing-clause-memory : goal.returns-in-Some-Standing-clause-memory
returns-in-Some-Standing-clause-memory g c = λ only. memory_back g.A.EpochArchives.book g.A.Wreck.EpochArchivesRuin.left (λ s. states_of g.A.EpochArchives.book g.A.Wreck.EpochArchivesRuin.left s.opening s.slots (g.D.Depot.names s.depot)) (λ w. left_ways g.A.EpochArchives.book g.A.Wreck.EpochArchivesRuin.left w.opening w.slots (g.D.Wreck.DepotRuin.left w.depot)) c.args.epoch _ c.change-answer.result c.put_back.result c.put_back.ensures.done (c.change-answer.ensures.unfailing (and_left _ _ only))

pub returns-in-Some-Standing-clause-settled : goal.returns-in-Some-Standing-clause-settled
returns-in-Some-Standing-clause-settled g c =
    let old = c.args.self in
    let step = c.exchange-epochs.ensures in
    settles_back g.A.EpochArchives.book g.A.Wreck.EpochArchivesRuin.left (λ s. states_of g.A.EpochArchives.book g.A.Wreck.EpochArchivesRuin.left s.opening s.slots (g.D.Depot.names s.depot)) (λ w. left_ways g.A.EpochArchives.book g.A.Wreck.EpochArchivesRuin.left w.opening w.slots (g.D.Wreck.DepotRuin.left w.depot)) c.args.epoch _ c.args.change (g.A.EpochArchives.book c.in-Some-Standing.archives) _ c.change-answer.result c.put_back.result
    (standing_open g.A.EpochArchives.book g.A.Wreck.EpochArchivesRuin.left old.opening c.in-Some-Standing.archives c.in-Some-Standing.opening _ _ (sym step.taken ∙ c.in-Some-Standing.is ∙ ap (λ s. Some s) c.in-Some-Standing.field-0-is) (c.if-opening-epochs.true ∙ step.opening))
    c.put_back.ensures.done c.change-answer.ensures.settled

pub returns-in-Some-Standing-clause-counts : goal.returns-in-Some-Standing-clause-counts
returns-in-Some-Standing-clause-counts g c =
    let old = c.args.self in
    let new = c.exchange-epochs.result.0 in
    let step = c.exchange-epochs.ensures in
    let e = c.args.epoch in
    counts_since (λ s. failures_of g.A.EpochArchives.faults g.A.Wreck.EpochArchivesRuin.faults (g.D.Depot.watch s.depot).faults s.slots (g.D.Depot.names s.depot)) (λ w. failures_of g.A.EpochArchives.faults g.A.Wreck.EpochArchivesRuin.faults (g.D.Wreck.DepotRuin.watch w.depot).faults w.slots (first_way (g.D.Wreck.DepotRuin.left w.depot))) e _ (g.A.EpochArchives.faults c.in-Some-Standing.archives) _ (failures_of g.A.EpochArchives.faults g.A.Wreck.EpochArchivesRuin.faults (g.D.Depot.watch new.depot).faults new.slots (g.D.Depot.names new.depot)) c.put_back.result
    (no_less _ _ (ap (λ d. (g.D.Depot.watch d).faults) (sym step.depot)))
    (no_less _ _ (ap (λ s. count_at g.A.EpochArchives.faults g.A.Wreck.EpochArchivesRuin.faults s (g.D.Depot.names old.depot e)) (sym step.taken ∙ c.in-Some-Standing.is ∙ ap (λ s. Some s) c.in-Some-Standing.field-0-is)))
    (λ k other. no_less _ _ (sym (ap (λ d. count_at g.A.EpochArchives.faults g.A.Wreck.EpochArchivesRuin.faults (get nat_cmp new.slots k) (g.D.Depot.names d k)) step.depot ∙ counts_others g.A.EpochArchives.faults g.A.Wreck.EpochArchivesRuin.faults old.slots new.slots e Away step.slots (g.D.Depot.names old.depot) k other)))
    (counts_back (λ s. failures_of g.A.EpochArchives.faults g.A.Wreck.EpochArchivesRuin.faults (g.D.Depot.watch s.depot).faults s.slots (g.D.Depot.names s.depot)) (λ w. failures_of g.A.EpochArchives.faults g.A.Wreck.EpochArchivesRuin.faults (g.D.Wreck.DepotRuin.watch w.depot).faults w.slots (first_way (g.D.Wreck.DepotRuin.left w.depot))) e g.A.EpochArchives.faults g.A.Wreck.EpochArchivesRuin.faults (g.A.EpochArchives.faults c.in-Some-Standing.archives) (failures_of g.A.EpochArchives.faults g.A.Wreck.EpochArchivesRuin.faults (g.D.Depot.watch new.depot).faults new.slots (g.D.Depot.names new.depot)) c.change-answer.result c.put_back.result c.put_back.ensures.counts c.change-answer.ensures.counts)

pub returns-in-None-clause-counts : goal.returns-in-None-clause-counts
returns-in-None-clause-counts g c =
    let old = c.args.self in
    let new = c.exchange-epochs.result.0 in
    let step = c.exchange-epochs.ensures in
    let e = c.args.epoch in (
      no_less _ _ (ap (λ d. (g.D.Depot.watch d).faults) (sym step.depot)),
      no_less _ _ (sym (ap (λ d. count_at g.A.EpochArchives.faults g.A.Wreck.EpochArchivesRuin.faults (get nat_cmp new.slots e) (g.D.Depot.names d e)) step.depot ∙ counts_none g.A.EpochArchives.faults g.A.Wreck.EpochArchivesRuin.faults old.slots new.slots e Away step.slots (g.D.Depot.names old.depot e) (sym step.taken ∙ c.in-None.is))),
      λ k other. no_less _ _ (sym (ap (λ d. count_at g.A.EpochArchives.faults g.A.Wreck.EpochArchivesRuin.faults (get nat_cmp new.slots k) (g.D.Depot.names d k)) step.depot ∙ counts_others g.A.EpochArchives.faults g.A.Wreck.EpochArchivesRuin.faults old.slots new.slots e Away step.slots (g.D.Depot.names old.depot) k other)),
    )

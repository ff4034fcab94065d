use Rattle.std.proofs.Common.{◌∙◌, ◌&&◌, ap, sym}
use Rattle.mar_store.specs.Watch.{after_call}
use Rattle.mar_epochs.proofs.Leaving.{as_told, loses_removed, not_at, removed}
use Rattle.mar_epochs.proofs.Unarmed.{and_right, for_memory, none_due, still_armed}
use Rattle.mar_epochs.specs.Failures.{count_at, failures_of, first_way}
use Rattle.mar_epochs.proofs.Failing.{fault_rose, named_counts, no_less}
use Rattle.mar_epochs.proofs.depot_epochs.DepotEpochsEpochs.destroy.Goals as goal

pub returns-in-Ok-clause-done : goal.returns-in-Ok-clause-done
returns-in-Ok-clause-done g c = removed g.A.EpochArchives.book g.A.Wreck.EpochArchivesRuin.left c.args.self.opening c.args.self.slots c.remove.new.self c.args.epoch _ _ c.remove.ensures.updates.1 (λ k other. c.remove.ensures.updates.2 k (not_at c.args.epoch k other)) (as_told g.D.Depot.told g.met.D.EpochArchivesDepot.tells c.in-Ok.ensures.done)

pub returns-in-Err-clause-done : goal.returns-in-Err-clause-done
returns-in-Err-clause-done g c = rw (c.lost_by.ensures.wreck, c.parts_of-failed.ensures.wreck) (loses_removed _ _ _ c.args.self.slots _ _ _ (as_told g.D.Depot.told g.met.D.EpochArchivesDepot.tells c.in-Err.ensures.done))

pub invariant_of-result-clause-quiet : goal.invariant_of-result-clause-quiet
invariant_of-result-clause-quiet g c = ap (λ w. w.due) c.in-Ok.ensures.watched.1 ∙ ap after_call c.args.self.quiet

pub returns-in-Ok-clause-calm : goal.returns-in-Ok-clause-calm
returns-in-Ok-clause-calm g c = ap (λ w. g.A.EpochArchives.unfailing && w.only_armed) c.in-Ok.ensures.watched.1

pub invariant_of-wreck-clause-quiet : goal.invariant_of-wreck-clause-quiet
invariant_of-wreck-clause-quiet g c = rw c.parts_of-failed.ensures.wreck (none_due g.D.Wreck.DepotRuin.watch (g.D.Depot.watch c.args.self.depot) c.in-Err.lost c.args.self.quiet c.in-Err.ensures.watched)

pub returns-in-Err-clause-calm : goal.returns-in-Err-clause-calm
returns-in-Err-clause-calm g c = rw (c.lost_by.ensures.wreck, c.parts_of-failed.ensures.wreck) (ap (λ b. g.A.EpochArchives.unfailing && b) (still_armed g.D.Wreck.DepotRuin.watch (g.D.Depot.watch c.args.self.depot) c.in-Err.lost c.in-Err.ensures.watched))

pub returns-in-Err-clause-memory : goal.returns-in-Err-clause-memory
returns-in-Err-clause-memory g c = λ only. c.lost_by.ensures.fault ∙ c.parts_of-failed.ensures.fault ∙ for_memory g.D.Wreck.DepotRuin.watch (g.D.Depot.watch c.args.self.depot) c.in-Err.lost c.args.self.quiet c.in-Err.ensures.watched (and_right _ _ only)

pub returns-in-Ok-clause-counts : goal.returns-in-Ok-clause-counts
returns-in-Ok-clause-counts g c = (
  no_less _ _ (ap (λ w. w.faults) (sym c.in-Ok.ensures.watched.1)),
  λ k other. no_less _ _ (sym (named_counts g.A.EpochArchives.faults g.A.Wreck.EpochArchivesRuin.faults c.args.self.slots c.remove.new.self (g.D.Depot.names c.args.self.depot) _ c.args.epoch k other (c.remove.ensures.updates.2 k (not_at c.args.epoch k other)) (as_told g.D.Depot.told g.met.D.EpochArchivesDepot.tells c.in-Ok.ensures.done))),
)

pub returns-in-Err-clause-counts : goal.returns-in-Err-clause-counts
returns-in-Err-clause-counts g c = λ fault. rw (c.lost_by.ensures.wreck, c.parts_of-failed.ensures.wreck) (fault_rose g.D.Wreck.DepotRuin.watch (g.D.Depot.watch c.args.self.depot) c.in-Err.lost c.in-Err.ensures.watched (sym (c.lost_by.ensures.fault ∙ c.parts_of-failed.ensures.fault) ∙ fault))

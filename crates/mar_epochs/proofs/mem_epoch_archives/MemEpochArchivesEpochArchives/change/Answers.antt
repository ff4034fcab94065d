use Rattle.std.proofs.Common.{refl, sym}
use Rattle.mar_epochs.specs.EntryLogs.{log_of}
use Rattle.mar_epochs.specs.declared.change.Change.TheVariants.{Sync}
use Rattle.mar_epochs.specs.Laws.{covers_last}
use Rattle.mar_epochs.proofs.EpochArchivesChanges.{loses_pruned, loses_same, marks, prunes, puts}
use Rattle.mar_epochs.proofs.mem_epoch_archives.MemEpochArchivesEpochArchives.change.Goals as goal

pub returns-in-Ok-clause-done : goal.returns-in-Ok-clause-done
returns-in-Ok-clause-done g c = rw (c.in-Put.is) (puts g.E.AsEntry.plain c.in-Put.entry _ _ _ _ c.in-Ok.ensures.number c.in-Ok.ensures.ok)

pub returns-in-Put-clause-done : goal.returns-in-Put-clause-done
returns-in-Put-clause-done g c = rw (c.in-Put.is) (loses_same g.E.AsEntry.plain _ _ _ c.in-Err.ensures.err)

pub returns-in-Sync-clause-done : goal.returns-in-Sync-clause-done
returns-in-Sync-clause-done g c = rw (c.in-Sync.is, c.marked.ensures.accepted) (marks g.E.AsEntry.plain (Sync c.in-Sync.section) c.in-Sync.section _ _ _ _ c.marked.ensures.log (λ held. refl) (sym (covers_last (log_of g.E.AsEntry.plain c.args.self.log.items.items) c.in-Sync.section)) (λ x. refl))

pub returns-in-Finish-clause-done : goal.returns-in-Finish-clause-done
returns-in-Finish-clause-done g c = rw c.in-Finish.is c.finished.ensures.done

pub returns-in-Ok-of-clause-done : goal.returns-in-Ok-of-clause-done
returns-in-Ok-of-clause-done g c = rw (c.in-PruneBelow.is, c.in-Ok-of.ensures.ok, c.without_below.ensures.accepted) (prunes g.E.AsEntry.plain _ _ _ _ c.without_below.ensures.log (λ held. refl) refl)

pub returns-in-PruneBelow-clause-done : goal.returns-in-PruneBelow-clause-done
returns-in-PruneBelow-clause-done g c = rw (c.in-PruneBelow.is, c.in-Err-of.ensures.err) (loses_pruned g.E.AsEntry.plain _ c.args.self.log.accepted _ _ c.without_below.ensures.log)

pub returns-in-Ok-of-2-clause-done : goal.returns-in-Ok-of-2-clause-done
returns-in-Ok-of-2-clause-done g c = rw (c.in-PruneCertified.is, c.in-Ok-of-2.ensures.ok, c.without_certified.ensures.accepted) (prunes g.E.AsEntry.plain _ _ _ _ c.without_certified.ensures.log (λ held. refl) refl)

pub returns-clause-done : goal.returns-clause-done
returns-clause-done g c = rw (c.in-PruneCertified.is, c.in-Err-of-2.ensures.err) (loses_pruned g.E.AsEntry.plain _ c.args.self.log.accepted _ _ c.without_certified.ensures.log)

pub returns-in-Finish-clause-settled : goal.returns-in-Finish-clause-settled
returns-in-Finish-clause-settled g c = rw c.in-Finish.is c.finished.ensures.settled

use Rattle.std.proofs.Common.{Err, ap, refl}
use Rattle.mar_store.specs.Watch.{Watch}
use Rattle.mar_journal_stores.proofs.ArchiveSteps.{are_good, front_written, has_room, marked_all, part_written, write_moments, wrote}
use Rattle.mar_journal_stores.proofs.Watching.{lost_calmly}
use Rattle.mar_journal_stores.proofs.journal_archive.JournalArchive.flush.Goals as goal

pub write-requires-clause-room : goal.write-requires-clause-room
write-requires-clause-room g c = has_room g.T.Item.name g.T.JournalItem.spelled g.T.Item.fits g.D.Disk.seen g.D.Disk.may_leave c.args.self.log.disk c.args.self.log.end c.args.self.aside.gone.items c.args.self.entries.pile.items.items c.args.self.entries.pile.synced c.args.self.entries.pile.accepted c.args.self.log.waiting.items c.args.self.log.marks.items c.args.self.backed

pub write-requires-clause-good : goal.write-requires-clause-good
write-requires-clause-good g c = are_good g.T.Item.name g.T.JournalItem.spelled g.T.Item.fits g.D.Disk.seen g.D.Disk.may_leave c.args.self.log.disk c.args.self.log.end c.args.self.aside.gone.items c.args.self.entries.pile.items.items c.args.self.entries.pile.synced c.args.self.entries.pile.accepted c.args.self.log.waiting.items c.args.self.log.marks.items c.args.self.backed

pub write-requires-clause-marked : goal.write-requires-clause-marked
write-requires-clause-marked g c = marked_all g.T.Item.name g.T.JournalItem.spelled g.T.Item.fits g.D.Disk.seen g.D.Disk.may_leave c.args.self.log.disk c.args.self.log.end c.args.self.aside.gone.items c.args.self.entries.pile.items.items c.args.self.entries.pile.synced c.args.self.entries.pile.accepted c.args.self.log.waiting.items c.args.self.log.marks.items c.args.self.backed

pub invariant_of-result : goal.invariant_of-result
invariant_of-result g c = record {
  may_is = c.args.self.may_is;
  backed = front_written g.T.Item.name g.T.JournalItem.spelled g.T.Item.fits g.D.Disk.seen g.D.Disk.may_leave c.args.self.log.disk c.args.self.log.end c.args.self.aside.gone.items c.args.self.entries.pile.items.items c.args.self.entries.pile.synced c.args.self.entries.pile.accepted c.args.self.log.waiting.items c.args.self.log.marks.items c.args.count c.args.self.backed c.write.new.self.disk c.write.new.self.end c.in-Ok.ensures.done c.write.new.self.waiting.items c.write.new.self.marks.items c.in-Ok.ensures.waiting c.in-Ok.ensures.marks;
}

pub invariant_of-wreck : goal.invariant_of-wreck
invariant_of-wreck g c = rw (c.into_pile.ensures, c.into_disk.ensures) (record {
  may_is = c.args.self.may_is;
  is_left = part_written g.T.Item.name g.T.JournalItem.spelled g.T.Item.fits g.D.Disk.seen g.D.Disk.may_leave c.args.self.log.disk c.args.self.log.end c.args.self.aside.gone.items c.args.self.entries.pile.items.items c.args.self.entries.pile.synced c.args.self.entries.pile.accepted c.args.self.log.waiting.items c.args.self.log.marks.items c.args.count g.D.Disk.moment g.D.Disk.left_since g.met.D.Disk.counts_now c.args.self.entries.pile.once c.args.self.backed c.write.new.self.disk c.write.ensures.any_moment;
})

pub returns-in-Ok-clause-any_moment : goal.returns-in-Ok-clause-any_moment
returns-in-Ok-clause-any_moment g c = write_moments g.T.Item.name g.T.JournalItem.spelled g.T.Item.fits g.D.Disk.seen g.D.Disk.may_leave c.args.self.log.disk c.args.self.log.end c.args.self.aside.gone.items c.args.self.entries.pile.items.items c.args.self.entries.pile.synced c.args.self.entries.pile.accepted c.args.self.log.waiting.items c.args.self.log.marks.items c.args.count g.D.Disk.moment g.D.Disk.left_since c.args.self.entries.pile.once c.args.self.backed c.write.new.self.disk c.write.ensures.any_moment

pub returns-in-Ok-clause-written : goal.returns-in-Ok-clause-written
returns-in-Ok-clause-written g c = wrote g.T.Item.name g.T.JournalItem.spelled g.T.Item.fits g.D.Disk.seen g.D.Disk.may_leave c.args.self.log.disk c.args.self.log.end c.args.self.aside.gone.items c.args.self.entries.pile.items.items c.args.self.entries.pile.synced c.args.self.entries.pile.accepted c.args.self.log.waiting.items c.args.self.log.marks.items c.args.count c.args.self.backed c.write.new.self.disk c.write.new.self.end c.in-Ok.ensures.done

pub returns-in-Err-clause-any_moment : goal.returns-in-Err-clause-any_moment
returns-in-Err-clause-any_moment g c = rw (c.lost_by.ensures.disk, c.into_disk.ensures) (write_moments g.T.Item.name g.T.JournalItem.spelled g.T.Item.fits g.D.Disk.seen g.D.Disk.may_leave c.args.self.log.disk c.args.self.log.end c.args.self.aside.gone.items c.args.self.entries.pile.items.items c.args.self.entries.pile.synced c.args.self.entries.pile.accepted c.args.self.log.waiting.items c.args.self.log.marks.items c.args.count g.D.Disk.moment g.D.Disk.left_since c.args.self.entries.pile.once c.args.self.backed c.write.new.self.disk c.write.ensures.any_moment)

pub returns-in-Err-clause-watched : goal.returns-in-Err-clause-watched
returns-in-Err-clause-watched g c = lost_calmly {S = Watch} (λ s. s) (λ w. w.alarm.faults) (λ w. w.alarm.due.items) c.args.self.alarm.faults c.args.self.alarm.due.items c.lost_by.result c.lost_by.ensures.counts c.lost_by.ensures.due

pub returns-in-Err-clause-cause : goal.returns-in-Err-clause-cause
returns-in-Err-clause-cause g c = λ due. c.lost_by.ensures.cause due (g.D.Disk.faults c.args.self.log.disk) (λ is. rw c.into_disk.ensures (c.in-Err.ensures.cause.failed (ap Err is)))

pub returns-in-Err-clause-left : goal.returns-in-Err-clause-left
returns-in-Err-clause-left g c = rw (c.lost_by.ensures.pile, c.into_pile.ensures) refl

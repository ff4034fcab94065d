use Rattle.std.proofs.Common.{[], inr, refl, subst, sym, ◌∙◌}
use Rattle.mar_store.proofs.Settled.{fails_still}
use Rattle.mar_store.specs.Watch.{Watch}
use Rattle.mar_journal.specs.ArchiveRecords.{IsArchived, archive_bytes, kept_from}
use Rattle.mar_journal.specs.Journal.{HasReason}
use Rattle.mar_journal_stores.proofs.ArchiveSteps.{crash_left, crash_moments, not_damaged, opened_kept, reopen_moments, reopened, reopened_backed, unopened_left}
use Rattle.mar_journal_stores.proofs.Reasons.{fault_told, none_seen}
use Rattle.mar_journal_stores.proofs.Watching.{lost_calmly}
use Rattle.mar_journal_stores.proofs.journal_archive.JournalArchiveWreck.find.Goals as goal

pub invariant_of-wreck : goal.invariant_of-wreck
invariant_of-wreck g c = record {
  may_is = c.args.self.may_is;
  is_left = crash_left g.T.Item.name g.T.JournalItem.spelled g.T.Item.fits g.D.Disk.seen g.D.Disk.may_leave g.D.Disk.moment g.D.Disk.left_since g.met.D.Disk.counts_now g.met.T.JournalItem.keyed g.met.T.JournalItem.one c.args.self.disk c.crash.new.self c.crash.new.self c.args.self.aside.gone.items c.args.self.pile.items.items c.args.self.pile.synced c.crash.ensures.crash c.args.self.is_left;
}

pub invariant_of-wreck-in-Err : goal.invariant_of-wreck-in-Err
invariant_of-wreck-in-Err g c = record {
  may_is = c.args.self.may_is;
  is_left = unopened_left g.T.Item.name g.T.JournalItem.spelled g.T.Item.fits g.D.Disk.seen g.D.Disk.may_leave g.D.Disk.moment g.D.Disk.left_since g.met.D.Disk.counts_now g.met.T.JournalItem.keyed g.met.T.JournalItem.one c.args.self.disk c.crash.new.self c.open_entries.new.disk c.args.self.aside.gone.items c.args.self.pile.items.items c.args.self.pile.synced c.crash.ensures.crash c.args.self.is_left (g.met.D.Disk.is_image c.crash.new.self) c.open_entries.ensures.any_moment;
}

pub invariant_of-result : goal.invariant_of-result
invariant_of-result g c =
    let done = c.in-Ok.ensures.done in
    rw (c.new.ensures.gone, c.new.ensures.may, c.new-in-Ok.ensures.disk, c.new-in-Ok.ensures.end, c.new-in-Ok.ensures.waiting, c.new-in-Ok.ensures.marks) (record {
      may_is = refl;
      backed = reopened_backed g.T.Item.name g.T.JournalItem.spelled g.T.Item.fits g.D.Disk.seen g.D.Disk.may_leave g.D.Disk.moment g.D.Disk.left_since g.met.D.Disk.counts_now g.met.T.JournalItem.keyed g.met.T.JournalItem.one c.args.self.disk c.crash.new.self c.open_entries.new.disk c.args.self.aside.gone.items c.args.self.pile.items.items c.args.self.pile.synced c.crash.ensures.crash c.args.self.is_left g.row.T.coded (g.met.D.Disk.is_image c.crash.new.self) done.0 done.2 c.in-Ok.entries.pile.items.items c.in-Ok.entries.pile.synced c.in-Ok.entries.pile.once done.3 done.4 c.in-Ok.end c.in-Ok.entries.pile.accepted done.1 c.in-Ok.entries.pile.fits;
    })

pub returns-in-Ok-clause-done : goal.returns-in-Ok-clause-done
returns-in-Ok-clause-done g c = let done = c.in-Ok.ensures.done in rw c.new.ensures.gone (reopened g.T.Item.name g.T.JournalItem.spelled g.T.Item.fits g.D.Disk.seen g.D.Disk.may_leave g.D.Disk.moment g.D.Disk.left_since g.met.D.Disk.counts_now g.met.T.JournalItem.keyed g.met.T.JournalItem.one c.args.self.disk c.crash.new.self c.open_entries.new.disk c.args.self.aside.gone.items c.args.self.pile.items.items c.args.self.pile.synced c.crash.ensures.crash c.args.self.is_left g.row.T.coded (g.met.D.Disk.is_image c.crash.new.self) done.0 done.2 c.in-Ok.entries.pile.items.items c.in-Ok.entries.pile.synced c.in-Ok.entries.pile.once done.3 done.4)

pub returns-in-Ok-clause-found : goal.returns-in-Ok-clause-found
returns-in-Ok-clause-found g c =
    let done = c.in-Ok.ensures.done in
    rw (c.new.ensures.gone, c.new-in-Ok.ensures.disk) (g.D.Disk.seen c.crash.new.self, done.0, c.crash.ensures.crash _ (g.met.D.Disk.is_image c.crash.new.self), done.2, inr (c.in-Ok.end, (done.1).journal), opened_kept c.in-Ok.entries.pile.items.items c.in-Ok.entries.pile.synced (kept_from g.T.Item.name [] done.0) done.3 done.4)

pub returns-in-Ok-clause-any_moment : goal.returns-in-Ok-clause-any_moment
returns-in-Ok-clause-any_moment g c = rw c.new-in-Ok.ensures.disk (reopen_moments g.T.Item.name g.T.JournalItem.spelled g.T.Item.fits g.D.Disk.seen g.D.Disk.may_leave g.D.Disk.moment g.D.Disk.left_since g.met.D.Disk.counts_now g.met.T.JournalItem.keyed g.met.T.JournalItem.one c.args.self.disk c.crash.new.self c.open_entries.new.disk c.args.self.aside.gone.items c.args.self.pile.items.items c.args.self.pile.synced c.crash.ensures.crash c.args.self.is_left g.met.D.Disk.only_now c.crash.ensures.time (g.met.D.Disk.is_image c.crash.new.self) c.open_entries.ensures.any_moment)

pub returns-then-is_err-clause-done : goal.returns-then-is_err-clause-done
returns-then-is_err-clause-done g c = fails_still _ _ refl

pub returns-then-is_err-clause-any_moment : goal.returns-then-is_err-clause-any_moment
returns-then-is_err-clause-any_moment g c = crash_moments g.T.Item.name g.T.JournalItem.spelled g.T.Item.fits g.D.Disk.seen g.D.Disk.may_leave g.D.Disk.moment g.D.Disk.left_since g.met.D.Disk.counts_now g.met.T.JournalItem.keyed g.met.T.JournalItem.one c.args.self.disk c.crash.new.self c.crash.new.self c.args.self.aside.gone.items c.args.self.pile.items.items c.args.self.pile.synced c.crash.ensures.crash c.args.self.is_left g.met.D.Disk.only_now c.crash.ensures.time

pub returns-in-Err-clause-done : goal.returns-in-Err-clause-done
returns-in-Err-clause-done g c = rw (c.lost_by.ensures.pile, c.lost_by.ensures.aside) (fails_still _ _ refl)

pub returns-in-Err-clause-watched : goal.returns-in-Err-clause-watched
returns-in-Err-clause-watched g c = lost_calmly {S = Watch} (λ s. s) (λ w. w.alarm.faults) (λ w. w.alarm.due.items) c.args.self.alarm.faults c.args.self.alarm.due.items c.lost_by.result c.lost_by.ensures.counts c.lost_by.ensures.due

pub returns-in-Err-clause-undamaged : goal.returns-in-Err-clause-undamaged
returns-in-Err-clause-undamaged g c = c.lost_by.ensures.damage ∙ c.told_by-told.ensures.damage ∙ none_seen c.in-Err.reason (λ at is. not_damaged g.T.Item.name g.T.JournalItem.spelled g.T.Item.fits g.D.Disk.seen g.D.Disk.may_leave g.D.Disk.moment g.D.Disk.left_since g.met.D.Disk.counts_now g.met.T.JournalItem.keyed g.met.T.JournalItem.one c.args.self.disk c.crash.new.self c.open_entries.new.disk c.args.self.aside.gone.items c.args.self.pile.items.items c.args.self.pile.synced c.crash.ensures.crash c.args.self.is_left at (g.met.D.Disk.is_image c.crash.new.self) (subst (HasReason (archive_bytes g.T.Item.name g.T.JournalItem.spelled) (IsArchived g.T.Item.fits g.T.JournalItem.spelled) _ _ _) is c.in-Err.ensures.reason).1)

pub returns-in-Err-clause-cause : goal.returns-in-Err-clause-cause
returns-in-Err-clause-cause g c = λ due. c.lost_by.ensures.cause due (g.D.Disk.faults c.args.self.disk) (λ miss. fault_told c.in-Err.reason
    (λ at is. not_damaged g.T.Item.name g.T.JournalItem.spelled g.T.Item.fits g.D.Disk.seen g.D.Disk.may_leave g.D.Disk.moment g.D.Disk.left_since g.met.D.Disk.counts_now g.met.T.JournalItem.keyed g.met.T.JournalItem.one c.args.self.disk c.crash.new.self c.open_entries.new.disk c.args.self.aside.gone.items c.args.self.pile.items.items c.args.self.pile.synced c.crash.ensures.crash c.args.self.is_left at (g.met.D.Disk.is_image c.crash.new.self) (subst (HasReason (archive_bytes g.T.Item.name g.T.JournalItem.spelled) (IsArchived g.T.Item.fits g.T.JournalItem.spelled) _ _ _) is c.in-Err.ensures.reason).1)
    (λ is. rw c.crash.ensures.cause at (subst (HasReason (archive_bytes g.T.Item.name g.T.JournalItem.spelled) (IsArchived g.T.Item.fits g.T.JournalItem.spelled) _ _ _) is c.in-Err.ensures.reason))
    (sym c.told_by-told.ensures.miss ∙ miss))

pub returns-in-Err-clause-any_moment : goal.returns-in-Err-clause-any_moment
returns-in-Err-clause-any_moment g c = rw c.lost_by.ensures.disk (reopen_moments g.T.Item.name g.T.JournalItem.spelled g.T.Item.fits g.D.Disk.seen g.D.Disk.may_leave g.D.Disk.moment g.D.Disk.left_since g.met.D.Disk.counts_now g.met.T.JournalItem.keyed g.met.T.JournalItem.one c.args.self.disk c.crash.new.self c.open_entries.new.disk c.args.self.aside.gone.items c.args.self.pile.items.items c.args.self.pile.synced c.crash.ensures.crash c.args.self.is_left g.met.D.Disk.only_now c.crash.ensures.time (g.met.D.Disk.is_image c.crash.new.self) c.open_entries.ensures.any_moment)

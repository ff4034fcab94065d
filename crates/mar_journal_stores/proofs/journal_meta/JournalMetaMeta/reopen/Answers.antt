use Rattle.std.proofs.Common.{Contains, [], ap, inl, inr, subst, sym, ◌∙◌, ◌∷◌}
use Rattle.mar_store.specs.MemMeta.{values_of}
use Rattle.mar_store.specs.Watch.{Watch}
use Rattle.mar_journal.specs.Journal.{HasReason}
use Rattle.mar_journal.specs.MetaRecords.{IsMeta, meta_bytes}
use Rattle.mar_journal_stores.specs.MetaStore.{failed_entries, failed_in, left_by_meta}
use Rattle.mar_journal_stores.proofs.MetaSteps.{crash_moments, leaves_still, opening_finds, opening_left, reopen_moments, store_opened, undamaged, wreck_moments}
use Rattle.mar_journal_stores.proofs.Reasons.{fault_told, none_seen}
use Rattle.mar_journal_stores.proofs.Watching.{lost_calm, lost_calmly, struck, unstruck}
use Rattle.mar_journal_stores.proofs.journal_meta.JournalMetaMeta.reopen.Goals as goal

pub invariant_of-left-then-is_err : goal.invariant_of-left-then-is_err
invariant_of-left-then-is_err g c = (λ x now. c.left.invariant x (c.crash.ensures.crash x now))

pub invariant_of-left-in-Err : goal.invariant_of-left-in-Err
invariant_of-left-in-Err g c = opening_left g.D.Disk.seen g.D.Disk.may_leave g.D.Disk.moment g.D.Disk.left_since g.met.D.Disk.counts_now c.crash.new.self c.open_maps.new.disk (left_by_meta (values_of c.left.inside.synced) (failed_in (failed_entries c.left.inside.failed))) (g.met.D.Disk.is_image c.crash.new.self) (λ x now. c.left.invariant x (c.crash.ensures.crash x now)) c.open_maps.ensures.any_moment

pub invariant_of-result : goal.invariant_of-result
invariant_of-result g c =
    let done = c.in-Ok.ensures.done in
    store_opened g.D.Disk.seen g.D.Disk.may_leave c.open_maps.new.disk c.in-Ok.end (values_of c.in-Ok.values) (values_of c.in-Ok.copy) done.0 done.1 done.3 done.4 c.new.result.items c.new.ensures.items

pub returns-then-rings-clause-done : goal.returns-then-rings-clause-done
returns-then-rings-clause-done g c = rw (← c.left.view_is) (leaves_still c.left.inside.synced.entries (failed_entries c.left.inside.failed))

pub returns-then-rings-clause-any_moment : goal.returns-then-rings-clause-any_moment
returns-then-rings-clause-any_moment g c = rw (← c.left.view_is) (wreck_moments g.D.Disk.seen g.D.Disk.may_leave g.D.Disk.moment g.D.Disk.left_since g.met.D.Disk.only_now c.left.inside.disk (left_by_meta (values_of c.left.inside.synced) (failed_in (failed_entries c.left.inside.failed))) c.left.invariant)

pub returns-then-rings-clause-watched : goal.returns-then-rings-clause-watched
returns-then-rings-clause-watched g c = rw (← c.left.view_is) (struck c.left.inside.alarm.faults _ c.left.inside.alarm.due.items _ c.rings.result c.if-rings.true c.rings.ensures.rings c.rings.ensures.due c.rings.ensures.faults)

pub returns-then-rings-clause-cause : goal.returns-then-rings-clause-cause
returns-then-rings-clause-cause g c = rw (← c.left.view_is) (inl (sym c.rings.ensures.rings ∙ c.if-rings.true))

pub returns-then-is_err-clause-done : goal.returns-then-is_err-clause-done
returns-then-is_err-clause-done g c = rw (← c.left.view_is) (leaves_still c.left.inside.synced.entries (failed_entries c.left.inside.failed))

pub returns-then-is_err-clause-any_moment : goal.returns-then-is_err-clause-any_moment
returns-then-is_err-clause-any_moment g c = rw (← c.left.view_is) (crash_moments g.D.Disk.seen g.D.Disk.may_leave g.D.Disk.moment g.D.Disk.left_since g.met.D.Disk.only_now c.left.inside.disk c.crash.new.self (left_by_meta (values_of c.left.inside.synced) (failed_in (failed_entries c.left.inside.failed))) c.left.invariant c.crash.ensures.crash c.crash.ensures.time)

pub returns-then-is_err-clause-watched : goal.returns-then-is_err-clause-watched
returns-then-is_err-clause-watched g c = rw (← c.left.view_is) (unstruck c.left.inside.alarm.faults _ c.left.inside.alarm.due.items _ c.rings.result c.if-rings.false c.rings.ensures.rings c.rings.ensures.due c.rings.ensures.faults)

pub returns-in-Ok-clause-done : goal.returns-in-Ok-clause-done
returns-in-Ok-clause-done g c =
    let done = c.in-Ok.ensures.done in
    rw (← c.left.view_is)
    (subst (Contains (left_by_meta (values_of c.left.inside.synced) (failed_in (failed_entries c.left.inside.failed)))) (sym done.3) (opening_finds g.D.Disk.seen g.D.Disk.may_leave c.crash.new.self (left_by_meta (values_of c.left.inside.synced) (failed_in (failed_entries c.left.inside.failed))) done.0 (g.met.D.Disk.is_image c.crash.new.self) (λ x now. c.left.invariant x (c.crash.ensures.crash x now)) done.2))

pub returns-in-Ok-clause-synced : goal.returns-in-Ok-clause-synced
returns-in-Ok-clause-synced g c = let done = c.in-Ok.ensures.done in ap (λ v. v ∷ []) (done.4 ∙ sym done.3)

pub returns-in-Ok-clause-found : goal.returns-in-Ok-clause-found
returns-in-Ok-clause-found g c = let done = c.in-Ok.ensures.done in
    rw (← c.left.view_is) (g.D.Disk.seen c.crash.new.self, done.0, c.crash.ensures.crash _ (g.met.D.Disk.is_image c.crash.new.self), done.2, inr (c.in-Ok.end, (done.1).journal), done.3)

pub returns-in-Ok-clause-any_moment : goal.returns-in-Ok-clause-any_moment
returns-in-Ok-clause-any_moment g c = rw (← c.left.view_is) (reopen_moments g.D.Disk.seen g.D.Disk.may_leave g.D.Disk.moment g.D.Disk.left_since g.met.D.Disk.only_now c.left.inside.disk c.crash.new.self c.open_maps.new.disk (left_by_meta (values_of c.left.inside.synced) (failed_in (failed_entries c.left.inside.failed))) c.left.invariant c.crash.ensures.crash c.crash.ensures.time (g.met.D.Disk.is_image c.crash.new.self) c.open_maps.ensures.any_moment)

pub returns-in-Ok-clause-watched : goal.returns-in-Ok-clause-watched
returns-in-Ok-clause-watched g c = rw (← c.left.view_is) (unstruck c.left.inside.alarm.faults _ c.left.inside.alarm.due.items _ c.rings.result c.if-rings.false c.rings.ensures.rings c.rings.ensures.due c.rings.ensures.faults)

pub returns-in-Err-clause-done : goal.returns-in-Err-clause-done
returns-in-Err-clause-done g c = rw (c.lost_by.ensures.kept, ← c.left.view_is) (leaves_still c.left.inside.synced.entries (failed_entries c.left.inside.failed))

pub returns-in-Err-clause-any_moment : goal.returns-in-Err-clause-any_moment
returns-in-Err-clause-any_moment g c = rw (c.lost_by.ensures.kept, ← c.left.view_is) (reopen_moments g.D.Disk.seen g.D.Disk.may_leave g.D.Disk.moment g.D.Disk.left_since g.met.D.Disk.only_now c.left.inside.disk c.crash.new.self c.open_maps.new.disk (left_by_meta (values_of c.left.inside.synced) (failed_in (failed_entries c.left.inside.failed))) c.left.invariant c.crash.ensures.crash c.crash.ensures.time (g.met.D.Disk.is_image c.crash.new.self) c.open_maps.ensures.any_moment)

pub returns-in-Err-clause-watched : goal.returns-in-Err-clause-watched
returns-in-Err-clause-watched g c = rw (← c.left.view_is) (lost_calm (λ w. w.faults) (λ w. w.due) c.left.inside.alarm.faults _ c.left.inside.alarm.due.items _ c.rings.result c.if-rings.false c.rings.ensures.rings c.rings.ensures.due c.rings.ensures.faults c.lost_by.result (lost_calmly {S = Watch} (λ s. s) (λ w. w.faults) (λ w. w.due) _ _ c.lost_by.result c.lost_by.ensures.counts (ap (λ w. w.due) c.lost_by.ensures.kept)))

pub returns-in-Err-clause-undamaged : goal.returns-in-Err-clause-undamaged
returns-in-Err-clause-undamaged g c = ap (λ w. w.damage) c.lost_by.ensures.kept ∙ c.told_by-told.ensures.damage ∙ none_seen c.in-Err.reason (λ at is. undamaged g.D.Disk.seen g.D.Disk.may_leave c.crash.new.self (left_by_meta (values_of c.left.inside.synced) (failed_in (failed_entries c.left.inside.failed))) at (g.met.D.Disk.is_image c.crash.new.self) (λ x now. c.left.invariant x (c.crash.ensures.crash x now)) (subst (HasReason meta_bytes IsMeta _ _ _) is c.in-Err.ensures.reason).1)

pub returns-in-Err-clause-cause : goal.returns-in-Err-clause-cause
returns-in-Err-clause-cause g c = rw (← c.left.view_is) (c.lost_by.ensures.cause c.left.inside.alarm.due.items (g.D.Disk.faults c.left.inside.disk) (λ miss. fault_told c.in-Err.reason (λ at is. undamaged g.D.Disk.seen g.D.Disk.may_leave c.crash.new.self (left_by_meta (values_of c.left.inside.synced) (failed_in (failed_entries c.left.inside.failed))) at (g.met.D.Disk.is_image c.crash.new.self) (λ x now. c.left.invariant x (c.crash.ensures.crash x now)) (subst (HasReason meta_bytes IsMeta _ _ _) is c.in-Err.ensures.reason).1) (λ is. rw c.crash.ensures.cause at (subst (HasReason meta_bytes IsMeta _ _ _) is c.in-Err.ensures.reason)) (sym c.told_by-told.ensures.miss ∙ miss)))

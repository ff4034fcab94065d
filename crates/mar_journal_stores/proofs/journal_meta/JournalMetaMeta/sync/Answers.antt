use Rattle.std.proofs.Common.{Err, [], ap, arith, inl, map, sym, ◌∙◌, ◌∷◌}
use Rattle.std.proofs.lemmas.List.{nil_from_length}
use Rattle.mar_store.specs.MemMeta.{values_of}
use Rattle.mar_store.specs.Watch.{Watch}
use Rattle.mar_journal.specs.MetaRecords.{record_for}
use Rattle.mar_journal.proofs.Bodies.{none_from}
use Rattle.mar_journal_stores.proofs.MetaSteps.{adds_batch, adds_none, idle_moments, leaves_failed, store_same, store_synced, sync_left, sync_moments}
use Rattle.mar_journal_stores.proofs.Watching.{lost_calm, lost_calmly, struck, unstruck}
use Rattle.mar_journal_stores.proofs.journal_meta.JournalMetaMeta.sync.Goals as goal

pub returns-then-rings-clause-done : goal.returns-then-rings-clause-done
returns-then-rings-clause-done g c = rw (c.fallen.ensures, ← c.store.view_is) (leaves_failed (values_of c.store.inside.synced) (values_of c.store.inside.values))

pub returns-then-rings-clause-any_moment : goal.returns-then-rings-clause-any_moment
returns-then-rings-clause-any_moment g c = rw (c.fallen.ensures, ← c.store.view_is) (idle_moments g.D.Disk.seen g.D.Disk.may_leave g.D.Disk.moment g.D.Disk.left_since g.met.D.Disk.only_now c.store.inside.disk c.store.inside.end (values_of c.store.inside.values) (values_of c.store.inside.synced) c.store.inside.changed.items c.store.invariant)

pub returns-then-rings-clause-watched : goal.returns-then-rings-clause-watched
returns-then-rings-clause-watched g c = rw (c.fallen.ensures, ← c.store.view_is) (struck c.store.inside.alarm.faults _ c.store.inside.alarm.due.items _ c.rings.result c.if-rings.true c.rings.ensures.rings c.rings.ensures.due c.rings.ensures.faults)

pub returns-then-rings-clause-cause : goal.returns-then-rings-clause-cause
returns-then-rings-clause-cause g c = rw (c.fallen.ensures, ← c.store.view_is) (inl (sym c.rings.ensures.rings ∙ c.if-rings.true))

pub returns-then-is_empty-clause-done : goal.returns-then-is_empty-clause-done
returns-then-is_empty-clause-done g c =
    let none = nil_from_length c.store.inside.changed.items (omega (arith, c.store.inside.changed.ok.0, none_from _ c.if-is_empty.ensures)) in
    rw (← c.store.view_is) (ap (λ v. v ∷ []) (store_same g.D.Disk.seen g.D.Disk.may_leave c.store.inside.disk c.store.inside.end (values_of c.store.inside.values) (values_of c.store.inside.synced) c.store.inside.changed.items c.store.invariant none))

pub returns-then-is_empty-clause-any_moment : goal.returns-then-is_empty-clause-any_moment
returns-then-is_empty-clause-any_moment g c = rw (← c.store.view_is) (idle_moments g.D.Disk.seen g.D.Disk.may_leave g.D.Disk.moment g.D.Disk.left_since g.met.D.Disk.only_now c.store.inside.disk c.store.inside.end (values_of c.store.inside.values) (values_of c.store.inside.synced) c.store.inside.changed.items c.store.invariant)

pub returns-then-is_empty-clause-written : goal.returns-then-is_empty-clause-written
returns-then-is_empty-clause-written g c =
    let none = nil_from_length c.store.inside.changed.items (omega (arith, c.store.inside.changed.ok.0, none_from _ c.if-is_empty.ensures)) in
    rw (← c.store.view_is) (adds_none g.D.Disk.seen g.D.Disk.may_leave c.store.inside.disk c.store.inside.end (values_of c.store.inside.values) (values_of c.store.inside.synced) c.store.inside.changed.items c.store.invariant none)

pub returns-then-is_empty-clause-watched : goal.returns-then-is_empty-clause-watched
returns-then-is_empty-clause-watched g c = rw (← c.store.view_is) (unstruck c.store.inside.alarm.faults _ c.store.inside.alarm.due.items _ c.rings.result c.if-rings.false c.rings.ensures.rings c.rings.ensures.due c.rings.ensures.faults)

pub returns-in-Err-clause-done : goal.returns-in-Err-clause-done
returns-in-Err-clause-done g c = rw (c.fallen-in-Err.ensures, ← c.store.view_is) (leaves_failed (values_of c.store.inside.synced) (values_of c.store.inside.values))

pub returns-in-Err-clause-any_moment : goal.returns-in-Err-clause-any_moment
returns-in-Err-clause-any_moment g c = rw (c.fallen-in-Err.ensures, ← c.store.view_is) (idle_moments g.D.Disk.seen g.D.Disk.may_leave g.D.Disk.moment g.D.Disk.left_since g.met.D.Disk.only_now c.store.inside.disk c.store.inside.end (values_of c.store.inside.values) (values_of c.store.inside.synced) c.store.inside.changed.items c.store.invariant)

pub returns-in-Err-clause-watched : goal.returns-in-Err-clause-watched
returns-in-Err-clause-watched g c = rw (c.fallen-in-Err.ensures, ← c.store.view_is) (unstruck c.store.inside.alarm.faults _ c.store.inside.alarm.due.items _ c.rings.result c.if-rings.false c.rings.ensures.rings c.rings.ensures.due c.rings.ensures.faults)

pub append-requires-clause-batch : goal.append-requires-clause-batch
append-requires-clause-batch g c = rw c.deref-2.ensures.value c.in-Ok.ensures.good

pub invariant_of-store-in-Ok-append : goal.invariant_of-store-in-Ok-append
invariant_of-store-in-Ok-append g c =
    store_synced g.D.Disk.seen g.D.Disk.may_leave c.store.inside.disk c.append.new.disk c.store.inside.end c.in-Ok-append.end (values_of c.store.inside.values) (values_of c.store.inside.synced) (values_of c.in-Ok.batch.1) c.store.inside.changed.items c.deref-2.result.now c.store.invariant
    (c.deref-2.ensures.value ∙ c.in-Ok.ensures.are ∙ ap (map (record_for (values_of c.store.inside.values))) c.deref.ensures.value)
    c.in-Ok.ensures.same
    (c.in-Ok-append.ensures.done c.store.invariant.records c.store.invariant.settled)
    c.clear.new.self.items
    c.clear.ensures.items

pub returns-in-Ok-append-clause-done : goal.returns-in-Ok-append-clause-done
returns-in-Ok-append-clause-done g c = rw (← c.store.view_is) (ap (λ v. v ∷ []) c.in-Ok.ensures.same)

pub returns-in-Ok-append-clause-any_moment : goal.returns-in-Ok-append-clause-any_moment
returns-in-Ok-append-clause-any_moment g c = rw (← c.store.view_is) (sync_moments g.D.Disk.seen g.D.Disk.may_leave g.D.Disk.moment g.D.Disk.left_since c.store.inside.disk c.append.new.disk c.store.inside.end (values_of c.store.inside.values) (values_of c.store.inside.synced) c.store.inside.changed.items c.deref-2.result.now c.store.invariant (c.deref-2.ensures.value ∙ c.in-Ok.ensures.are ∙ ap (map (record_for (values_of c.store.inside.values))) c.deref.ensures.value) (c.append.ensures.any_moment c.store.invariant.records c.store.invariant.settled))

pub returns-in-Ok-append-clause-written : goal.returns-in-Ok-append-clause-written
returns-in-Ok-append-clause-written g c = rw (← c.store.view_is) (adds_batch g.D.Disk.seen g.D.Disk.may_leave c.store.inside.disk c.append.new.disk c.store.inside.end c.in-Ok-append.end (values_of c.store.inside.values) (values_of c.store.inside.synced) c.store.inside.changed.items c.deref-2.result.now c.store.invariant (c.deref-2.ensures.value ∙ c.in-Ok.ensures.are ∙ ap (map (record_for (values_of c.store.inside.values))) c.deref.ensures.value) (c.in-Ok-append.ensures.done c.store.invariant.records c.store.invariant.settled))

pub returns-in-Ok-append-clause-watched : goal.returns-in-Ok-append-clause-watched
returns-in-Ok-append-clause-watched g c = rw (← c.store.view_is) (unstruck c.store.inside.alarm.faults _ c.store.inside.alarm.due.items _ c.rings.result c.if-rings.false c.rings.ensures.rings c.rings.ensures.due c.rings.ensures.faults)

pub of-wreck-requires : goal.of-wreck-requires
of-wreck-requires g c = sync_left g.D.Disk.seen g.D.Disk.may_leave g.D.Disk.moment g.D.Disk.left_since g.met.D.Disk.counts_now c.store.inside.disk c.append.new.disk c.store.inside.end (values_of c.store.inside.values) (values_of c.store.inside.synced) c.store.inside.changed.items c.deref-2.result.now c.store.invariant (c.deref-2.ensures.value ∙ c.in-Ok.ensures.are ∙ ap (map (record_for (values_of c.store.inside.values))) c.deref.ensures.value) (c.append.ensures.any_moment c.store.invariant.records c.store.invariant.settled)

pub returns-in-Err-append-clause-done : goal.returns-in-Err-append-clause-done
returns-in-Err-append-clause-done g c = rw (c.lost_by.ensures.kept, c.of-wreck.ensures, ← c.store.view_is) (leaves_failed (values_of c.store.inside.synced) (values_of c.store.inside.values))

pub returns-in-Err-append-clause-any_moment : goal.returns-in-Err-append-clause-any_moment
returns-in-Err-append-clause-any_moment g c = rw (c.lost_by.ensures.kept, c.of-wreck.ensures, ← c.store.view_is) (sync_moments g.D.Disk.seen g.D.Disk.may_leave g.D.Disk.moment g.D.Disk.left_since c.store.inside.disk c.append.new.disk c.store.inside.end (values_of c.store.inside.values) (values_of c.store.inside.synced) c.store.inside.changed.items c.deref-2.result.now c.store.invariant (c.deref-2.ensures.value ∙ c.in-Ok.ensures.are ∙ ap (map (record_for (values_of c.store.inside.values))) c.deref.ensures.value) (c.append.ensures.any_moment c.store.invariant.records c.store.invariant.settled))

pub returns-in-Err-append-clause-watched : goal.returns-in-Err-append-clause-watched
returns-in-Err-append-clause-watched g c = rw (← c.store.view_is) (lost_calm (λ w. w.faults) (λ w. w.due) c.store.inside.alarm.faults _ c.store.inside.alarm.due.items _ c.rings.result c.if-rings.false c.rings.ensures.rings c.rings.ensures.due c.rings.ensures.faults c.lost_by.result (lost_calmly {S = Watch} (λ s. s) (λ w. w.faults) (λ w. w.due) _ _ c.lost_by.result (rw c.of-wreck.ensures at c.lost_by.ensures.counts) (ap (λ w. w.due) (c.lost_by.ensures.kept) ∙ ap (λ w. w.due) c.of-wreck.ensures)))

pub returns-in-Err-append-clause-cause : goal.returns-in-Err-append-clause-cause
returns-in-Err-append-clause-cause g c = rw (← c.store.view_is) (c.lost_by.ensures.cause c.store.inside.alarm.due.items (g.D.Disk.faults c.store.inside.disk) (λ is. rw c.of-wreck.ensures (c.in-Err-append.ensures.cause.failed (ap Err is))))

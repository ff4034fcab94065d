use Rattle.std.proofs.Common.{[], ap, arith, sym, ◌++◌, ◌∙◌, ◌∷◌}
use Rattle.mar_store.proofs.Settled.{fails_still}
use Rattle.mar_store.proofs.Stores.{fails_done}
use Rattle.mar_store.specs.Changes.{left_of}
use Rattle.mar_journal_stores.specs.ArchiveStore.{archive_kept}
use Rattle.std.proofs.lemmas.Bool.{true≢false}
use Rattle.std.proofs.lemmas.List.{length-map}
use Rattle.mar_journal.specs.declared.ArchiveRecord.TheVariants.{Put}
use Rattle.mar_journal_stores.proofs.ArchiveSteps.{free_by_length, grown_ranges, keeps_backed, keeps_left, keeps_ranges, left_with_gone, more_by_length, more_by_still, more_left, nothing_lost, put_backed, put_is_writable, put_marked, puts_with_gone, same_by_length, same_by_still, taken_by_length}
use Rattle.mar_journal_stores.proofs.journal_archive.JournalArchive.place.Goals as goal

pub invariant_of-result : goal.invariant_of-result
invariant_of-result g c =
    let same = same_by_still _ _ (record { height = c.args.index; value = c.args.item }) c.in-Err.ensures.still (simp length-map (omega (arith, c.len.ensures, c.len-count.ensures, c.if-len-count.true, c.in-Err.pile.items.ok.0, c.args.self.entries.pile.items.ok.0))) in
    rw c.into_disk.ensures (record {
      may_is = keeps_ranges c.args.self.aside.gone.items c.args.self.entries.pile.items.items c.in-Err.pile.items.items c.args.self.aside.may (ap (λ l. l.may) same) c.args.self.may_is;
      is_left = keeps_left g.T.Item.name g.T.JournalItem.spelled g.T.Item.fits g.D.Disk.may_leave c.args.self.log.disk c.args.self.aside.gone.items c.args.self.entries.pile.items.items c.in-Err.pile.items.items c.args.self.entries.pile.synced c.in-Err.pile.synced (ap (λ l. l.sure) same) (ap (λ l. l.may) same) (nothing_lost g.T.Item.name g.T.JournalItem.spelled g.T.Item.fits g.D.Disk.seen g.D.Disk.may_leave c.args.self.log.disk c.args.self.log.end c.args.self.aside.gone.items c.args.self.entries.pile.items.items c.args.self.entries.pile.synced c.args.self.entries.pile.accepted c.args.self.log.waiting.items c.args.self.log.marks.items c.args.self.entries.pile.once c.args.self.backed);
    })

pub invariant_of-result-in-Err-2 : goal.invariant_of-result-in-Err-2
invariant_of-result-in-Err-2 g c =
    let more = more_by_still _ _ (record { height = c.args.index; value = c.args.item }) c.in-Err.ensures.still (λ e. c.if-len-count.false (let long = simp length-map at e in omega (arith, c.len.ensures, c.len-count.ensures, long, c.in-Err.pile.items.ok.0, c.args.self.entries.pile.items.ok.0))) in
    rw c.into_disk-in-Err-2.ensures (record {
      may_is = grown_ranges c.args.self.aside.gone.items c.args.self.entries.pile.items.items c.in-Err.pile.items.items (record { height = c.args.index; value = c.args.item }) c.args.self.aside.may c.args.grown c.args.self.may_is c.requires.grown (ap (λ l. l.may) more);
      is_left = more_left g.T.Item.name g.T.JournalItem.spelled g.T.Item.fits g.D.Disk.may_leave c.args.self.log.disk c.args.self.aside.gone.items c.args.self.entries.pile.items.items c.in-Err.pile.items.items c.args.self.entries.pile.synced c.in-Err.pile.synced (record { height = c.args.index; value = c.args.item }) (ap (λ l. l.sure) more) (ap (λ l. l.may) more) c.requires.fits (nothing_lost g.T.Item.name g.T.JournalItem.spelled g.T.Item.fits g.D.Disk.seen g.D.Disk.may_leave c.args.self.log.disk c.args.self.log.end c.args.self.aside.gone.items c.args.self.entries.pile.items.items c.args.self.entries.pile.synced c.args.self.entries.pile.accepted c.args.self.log.waiting.items c.args.self.log.marks.items c.args.self.entries.pile.once c.args.self.backed);
    })

pub invariant_of-result-in-Ok : goal.invariant_of-result-in-Ok
invariant_of-result-in-Ok g c =
    let are = same_by_length _ _ _ (record { height = c.args.index; value = c.args.item }) c.in-Ok.ensures.done.held (simp length-map (omega (arith, c.len-count.ensures, c.if-len-count-2.true, c.in-Ok.entries.pile.items.ok.0, c.args.self.entries.pile.items.ok.0))) in
    record {
      may_is = keeps_ranges c.args.self.aside.gone.items c.args.self.entries.pile.items.items c.in-Ok.entries.pile.items.items c.args.self.aside.may are c.args.self.may_is;
      backed = keeps_backed g.T.Item.name g.T.JournalItem.spelled g.T.Item.fits g.D.Disk.may_leave c.args.self.log.disk c.args.self.aside.gone.items c.args.self.entries.pile.items.items c.in-Ok.entries.pile.items.items c.args.self.entries.pile.synced c.in-Ok.entries.pile.synced g.D.Disk.seen c.args.self.log.end c.args.self.entries.pile.accepted c.in-Ok.entries.pile.accepted c.args.self.log.waiting.items c.args.self.log.marks.items c.in-Ok.ensures.done.sure are c.in-Ok.ensures.tickets c.in-Ok.ensures.covers c.args.self.backed;
    }

pub invariant_of-result-in-Ok-add : goal.invariant_of-result-in-Ok-add
invariant_of-result-in-Ok-add g c =
    let good = put_is_writable g.T.Item.name g.T.JournalItem.spelled g.T.Item.fits c.args.index c.args.item c.requires.index c.requires.fits (g.met.T.JournalItem.keyed c.args.index c.args.item c.requires.fits) (omega (arith, g.met.T.JournalItem.sized c.args.index c.args.item c.requires.fits, c.requires.size)) in
    let are = more_by_length _ _ _ (record { height = c.args.index; value = c.args.item }) c.in-Ok.ensures.done.held (λ e. c.if-len-count-2.false (let long = simp length-map at e in omega (arith, c.len-count.ensures, long, c.in-Ok.entries.pile.items.ok.0, c.args.self.entries.pile.items.ok.0))) in
    let free = free_by_length _ _ _ (record { height = c.args.index; value = c.args.item }) c.in-Ok.ensures.done.held (λ e. c.if-len-count-2.false (let long = simp length-map at e in omega (arith, c.len-count.ensures, long, c.in-Ok.entries.pile.items.ok.0, c.args.self.entries.pile.items.ok.0))) in
    rw (c.add.ensures.disk, c.add.ensures.end) (record {
      may_is = grown_ranges c.args.self.aside.gone.items c.args.self.entries.pile.items.items c.in-Ok.entries.pile.items.items (record { height = c.args.index; value = c.args.item }) c.args.self.aside.may c.args.grown c.args.self.may_is c.requires.grown are;
      backed = put_backed g.T.Item.name g.T.JournalItem.spelled g.T.Item.fits g.D.Disk.may_leave c.args.self.log.disk c.args.self.aside.gone.items c.args.self.entries.pile.items.items c.in-Ok.entries.pile.items.items c.args.self.entries.pile.synced c.in-Ok.entries.pile.synced g.D.Disk.seen c.args.self.log.end c.args.self.entries.pile.accepted c.in-Ok.entries.pile.accepted c.args.self.log.waiting.items c.args.self.log.marks.items c.args.index c.args.item c.add.new.self.waiting.items c.add.new.self.marks.items c.mark_of-mark.result c.args.self.entries.pile.once c.in-Ok.ensures.done.sure are c.in-Ok.ensures.done.held good
          (c.in-Ok-add.ensures.waiting ∙ ap (λ v. c.args.self.log.waiting.items ++ Put c.args.index v ∷ []) c.requires.copy)
          c.in-Ok-add.ensures.marks c.in-Ok.ensures.tickets c.in-Ok.ensures.covers free c.in-Ok.entries.pile.counted (rw c.deref.ensures.value at c.mark_of-mark.ensures)
          c.args.self.backed;
    })

pub invariant_of-result-in-Err-add : goal.invariant_of-result-in-Err-add
invariant_of-result-in-Err-add g c =
    let are = more_by_length _ _ _ (record { height = c.args.index; value = c.args.item }) c.in-Ok.ensures.done.held (λ e. c.if-len-count-2.false (let long = simp length-map at e in omega (arith, c.len-count.ensures, long, c.in-Ok.entries.pile.items.ok.0, c.args.self.entries.pile.items.ok.0))) in
    rw (c.into_pile.ensures, c.into_disk-in-Err-add.ensures, c.add.ensures.disk) (record {
      may_is = grown_ranges c.args.self.aside.gone.items c.args.self.entries.pile.items.items c.in-Ok.entries.pile.items.items (record { height = c.args.index; value = c.args.item }) c.args.self.aside.may c.args.grown c.args.self.may_is c.requires.grown are;
      is_left = more_left g.T.Item.name g.T.JournalItem.spelled g.T.Item.fits g.D.Disk.may_leave c.args.self.log.disk c.args.self.aside.gone.items c.args.self.entries.pile.items.items c.in-Ok.entries.pile.items.items c.args.self.entries.pile.synced c.in-Ok.entries.pile.synced (record { height = c.args.index; value = c.args.item }) c.in-Ok.ensures.done.sure are c.requires.fits (nothing_lost g.T.Item.name g.T.JournalItem.spelled g.T.Item.fits g.D.Disk.seen g.D.Disk.may_leave c.args.self.log.disk c.args.self.log.end c.args.self.aside.gone.items c.args.self.entries.pile.items.items c.args.self.entries.pile.synced c.args.self.entries.pile.accepted c.args.self.log.waiting.items c.args.self.log.marks.items c.args.self.entries.pile.once c.args.self.backed);
    })

pub returns-in-Err-clause-done : goal.returns-in-Err-clause-done
returns-in-Err-clause-done g c = left_with_gone c.args.self.aside.gone.items c.args.self.entries.pile.items.items c.in-Err.pile.items.items c.args.self.entries.pile.synced c.in-Err.pile.synced (record { height = c.args.index; value = c.args.item }) c.in-Err.ensures.done

pub returns-in-Err-2-clause-done : goal.returns-in-Err-2-clause-done
returns-in-Err-2-clause-done g c = left_with_gone c.args.self.aside.gone.items c.args.self.entries.pile.items.items c.in-Err.pile.items.items c.args.self.entries.pile.synced c.in-Err.pile.synced (record { height = c.args.index; value = c.args.item }) c.in-Err.ensures.done

pub returns-in-Ok-clause-done : goal.returns-in-Ok-clause-done
returns-in-Ok-clause-done g c = puts_with_gone c.args.self.aside.gone.items c.args.self.entries.pile.items.items c.in-Ok.entries.pile.items.items c.args.self.entries.pile.synced c.in-Ok.entries.pile.synced (record { height = c.args.index; value = c.args.item }) _ c.in-Ok.ensures.done

pub returns-in-Ok-clause-marked : goal.returns-in-Ok-clause-marked
returns-in-Ok-clause-marked g c = λ free. absurd (true≢false (sym (taken_by_length _ _ _ (record { height = c.args.index; value = c.args.item }) c.in-Ok.ensures.done.held (simp length-map (omega (arith, c.len-count.ensures, c.if-len-count-2.true, c.in-Ok.entries.pile.items.ok.0, c.args.self.entries.pile.items.ok.0)))) ∙ free))

pub returns-in-Ok-add-clause-done : goal.returns-in-Ok-add-clause-done
returns-in-Ok-add-clause-done g c = puts_with_gone c.args.self.aside.gone.items c.args.self.entries.pile.items.items c.in-Ok.entries.pile.items.items c.args.self.entries.pile.synced c.in-Ok.entries.pile.synced (record { height = c.args.index; value = c.args.item }) _ c.in-Ok.ensures.done

pub returns-in-Ok-add-clause-ignored : goal.returns-in-Ok-add-clause-ignored
returns-in-Ok-add-clause-ignored g c = λ taken. absurd (true≢false (sym taken ∙ free_by_length _ _ _ (record { height = c.args.index; value = c.args.item }) c.in-Ok.ensures.done.held (λ e. c.if-len-count-2.false (let long = simp length-map at e in omega (arith, c.len-count.ensures, long, c.in-Ok.entries.pile.items.ok.0, c.args.self.entries.pile.items.ok.0)))))

pub returns-in-Ok-add-clause-marked : goal.returns-in-Ok-add-clause-marked
returns-in-Ok-add-clause-marked g c =
    let are = more_by_length _ _ _ (record { height = c.args.index; value = c.args.item }) c.in-Ok.ensures.done.held (λ e. c.if-len-count-2.false (let long = simp length-map at e in omega (arith, c.len-count.ensures, long, c.in-Ok.entries.pile.items.ok.0, c.args.self.entries.pile.items.ok.0))) in
    λ free. put_marked g.T.Item.name c.args.self.entries.pile.items.items c.in-Ok.entries.pile.items.items c.args.index c.args.item c.args.self.entries.pile.accepted c.in-Ok.entries.pile.accepted c.mark_of-mark.result c.args.self.log.waiting.items c.add.new.self.waiting.items c.args.self.log.marks.items c.add.new.self.marks.items c.args.self.entries.pile.once free are c.in-Ok.ensures.covers c.in-Ok.entries.pile.counted (rw c.deref.ensures.value at c.mark_of-mark.ensures)
    (c.in-Ok-add.ensures.waiting ∙ ap (λ v. c.args.self.log.waiting.items ++ Put c.args.index v ∷ []) c.requires.copy) c.in-Ok-add.ensures.marks

pub returns-clause-done : goal.returns-clause-done
returns-clause-done g c = rw c.into_pile.ensures (fails_done _ _ (record { height = c.args.index; value = c.args.item }) _ (puts_with_gone c.args.self.aside.gone.items c.args.self.entries.pile.items.items c.in-Ok.entries.pile.items.items c.args.self.entries.pile.synced c.in-Ok.entries.pile.synced (record { height = c.args.index; value = c.args.item }) _ c.in-Ok.ensures.done))

pub returns-in-Err-clause-unchanged : goal.returns-in-Err-clause-unchanged
returns-in-Err-clause-unchanged g c = λ taken. absurd (c.in-Err.ensures.ignored taken)

pub returns-in-Err-2-clause-unchanged : goal.returns-in-Err-2-clause-unchanged
returns-in-Err-2-clause-unchanged g c = λ taken. absurd (c.in-Err.ensures.ignored taken)

pub returns-in-Ok-clause-unchanged : goal.returns-in-Ok-clause-unchanged
returns-in-Ok-clause-unchanged g c = λ taken. ap (λ p. archive_kept c.args.self.aside.gone.items p.items.items p.synced) (c.in-Ok.ensures.ignored taken)

pub returns-in-Ok-add-clause-unchanged : goal.returns-in-Ok-add-clause-unchanged
returns-in-Ok-add-clause-unchanged g c = λ taken. ap (λ p. archive_kept c.args.self.aside.gone.items p.items.items p.synced) (c.in-Ok.ensures.ignored taken)

pub returns-clause-unchanged : goal.returns-clause-unchanged
returns-clause-unchanged g c = λ taken. rw c.into_pile.ensures (fails_still _ _ (ap (λ p. left_of (archive_kept c.args.self.aside.gone.items p.items.items p.synced)) (c.in-Ok.ensures.ignored taken)))

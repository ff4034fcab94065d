use Rattle.std.proofs.Common.{ap, arith, inl, inr, length, map, refl, subst, sym, ◌∙◌, ◌≡◌, ⊎_elim}
use Rattle.mar_store.specs.Entries.{seen}
use Rattle.mar_store.proofs.Settled.{fails_still}
use Rattle.mar_journal_stores.specs.ArchiveStore.{AreLeftRanges, LeavesAside, LetsGo}
use Rattle.mar_journal_stores.proofs.ArchiveSteps.{covered_backed, finishes_with_gone, keeps_left, keeps_ranges, nothing_lost, ranges_let_go, still_with_gone}
use Rattle.mar_journal_stores.proofs.journal_archive.JournalArchive.finish_entries.Goals as goal

pub invariant_of-result : goal.invariant_of-result
invariant_of-result g c =
    let same = c.in-Err.ensures.still in
    rw c.into_disk.ensures (record {
      may_is = keeps_ranges c.args.self.aside.gone.items c.args.self.entries.pile.items.items c.in-Err.pile.items.items c.args.self.aside.may (ap (λ l. l.may) same) c.args.self.may_is;
      is_left = keeps_left g.T.Item.name g.T.JournalItem.spelled g.T.Item.fits g.D.Disk.may_leave c.args.self.log.disk c.args.self.aside.gone.items c.args.self.entries.pile.items.items c.in-Err.pile.items.items c.args.self.entries.pile.synced c.in-Err.pile.synced (ap (λ l. l.sure) same) (ap (λ l. l.may) same)
          (nothing_lost g.T.Item.name g.T.JournalItem.spelled g.T.Item.fits g.D.Disk.seen g.D.Disk.may_leave c.args.self.log.disk c.args.self.log.end c.args.self.aside.gone.items c.args.self.entries.pile.items.items c.args.self.entries.pile.synced c.args.self.entries.pile.accepted c.args.self.log.waiting.items c.args.self.log.marks.items c.args.self.entries.pile.once c.args.self.backed);
    })

pub invariant_of-result-in-Ok : goal.invariant_of-result-in-Ok
invariant_of-result-in-Ok g c =
    let are = ap (map seen) c.in-Ok.ensures.items in
    record {
      may_is = ⊎_elim
          (λ same. subst (λ a. AreLeftRanges a.may a.gone.items c.in-Ok.entries.pile.items.items) (sym same) (keeps_ranges c.args.self.aside.gone.items c.args.self.entries.pile.items.items c.in-Ok.entries.pile.items.items c.args.self.aside.may are c.args.self.may_is))
          (λ less. subst (λ m. AreLeftRanges m c.let_go.new.self.gone.items c.in-Ok.entries.pile.items.items) (sym less.1)
          (ranges_let_go c.args.number c.args.self.aside.gone.items c.let_go.new.self.gone.items c.args.self.entries.pile.items.items c.in-Ok.entries.pile.items.items _ c.args.may refl less.0 c.requires.may are))
          c.let_go.ensures.whole;
      backed = covered_backed g.T.Item.name g.T.JournalItem.spelled g.T.Item.fits g.D.Disk.may_leave c.args.self.log.disk c.args.self.aside.gone.items c.args.self.entries.pile.items.items c.in-Ok.entries.pile.items.items c.args.self.entries.pile.synced c.in-Ok.entries.pile.synced g.D.Disk.seen c.args.self.log.end c.args.self.entries.pile.accepted c.in-Ok.entries.pile.accepted c.args.self.log.waiting.items c.args.self.log.marks.items
          c.args.number c.let_go.new.self.gone.items c.in-Ok.ensures.items c.in-Ok.ensures.tickets (⊎_elim (λ same. inl (ap (λ a. a.gone.items) same)) (λ less. inr less.0) c.let_go.ensures.whole) c.requires.later c.in-Ok.ensures.done c.args.self.backed;
    }

pub returns-in-Ok-clause-done : goal.returns-in-Ok-clause-done
returns-in-Ok-clause-done g c = finishes_with_gone c.args.number c.args.self.aside.gone.items c.let_go.new.self.gone.items c.args.self.entries.pile.items.items c.in-Ok.entries.pile.items.items c.args.self.entries.pile.synced c.in-Ok.entries.pile.synced _ c.in-Ok.ensures.items
    c.args.self.entries.pile.within (omega (arith, c.in-Ok.entries.pile.within, ap length c.in-Ok.ensures.items)) (⊎_elim (λ same. inl (ap (λ a. a.gone.items) same)) (λ less. inr less.0) c.let_go.ensures.whole)
    (λ same. c.let_go.ensures.gone.stays (c.sure_count-sure.ensures ∙ same ∙ sym c.sure_count.ensures)) c.in-Ok.ensures.done

pub returns-in-Ok-clause-let_go : goal.returns-in-Ok-clause-let_go
returns-in-Ok-clause-let_go g c = rw (c.sure_count-sure.ensures, c.sure_count.ensures) at c.let_go.ensures.gone

pub returns-in-Err-clause-done : goal.returns-in-Err-clause-done
returns-in-Err-clause-done g c = fails_still _ _ (still_with_gone c.args.self.aside.gone.items c.args.self.entries.pile.items.items c.in-Err.pile.items.items c.args.self.entries.pile.synced c.in-Err.pile.synced c.in-Err.ensures.still)

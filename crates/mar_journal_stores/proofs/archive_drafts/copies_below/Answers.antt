use Rattle.std.proofs.Common.{ap, nat_le, not, refl, subst, sym, ◌∙◌, ◌≡◌}
use Rattle.std.proofs.lemmas.Bool.{le-leb, lt-leb}
use Rattle.std.specs.List.{AllByRecursion}
use Rattle.mar_store.specs.Entries.{seen}
use Rattle.mar_store.proofs.Lookups.{AllByRecursion-push}
use Rattle.mar_journal_stores.proofs.Copies.{one_kept, one_passed}
use Rattle.mar_journal_stores.proofs.archive_drafts.copies_below.Goals.{else-entry-min, then-entry-min+in_ok-try_clone+in_ok-push}
use Rattle.mar_journal_stores.proofs.archive_drafts.copies_below.Goals as goal

pub loop-entry-preserved : goal.loop-entry-preserved
loop-entry-preserved g c = elim c.if-entry-min.branch [
  | then-entry-min+in_ok-try_clone+in_ok-push w ↦ record {
    copies = one_kept seen (λ e. not (nat_le c.args.min e.index)) c.args.items.now c.loop-entry.entry-index c.entry-item.result c.loop-entry-test.true (sym c.entry-item.is) c.loop-entry.below.items c.if-entry-min.below.items c.loop-entry.invariant.copies
        _ (ap not (lt-leb c.args.min c.entry-item.result.index w.if-entry-min.true)) (ap (λ v. v.items) w.below-is ∙ w.in_ok-push.ensures.items) (ap (λ v. record { height = c.entry-item.result.index; value = v }) w.in_ok-try_clone.ensures);
    numbered = subst (AllByRecursion (λ e. e.number ≡ c.args.mark)) (sym (ap (λ v. v.items) w.below-is ∙ w.in_ok-push.ensures.items)) (AllByRecursion-push (λ e. e.number ≡ c.args.mark) c.loop-entry.below.items _ c.loop-entry.invariant.numbered refl);
  }
  | else-entry-min w ↦ record {
    copies = one_passed seen (λ e. not (nat_le c.args.min e.index)) c.args.items.now c.loop-entry.entry-index c.entry-item.result c.loop-entry-test.true (sym c.entry-item.is) c.loop-entry.below.items c.if-entry-min.below.items c.loop-entry.invariant.copies
        (ap not (le-leb c.args.min c.entry-item.result.index w.if-entry-min.false)) (ap (λ v. v.items) w.below-is);
    numbered = subst (AllByRecursion (λ e. e.number ≡ c.args.mark)) (sym (ap (λ v. v.items) w.below-is)) c.loop-entry.invariant.numbered;
  }
]

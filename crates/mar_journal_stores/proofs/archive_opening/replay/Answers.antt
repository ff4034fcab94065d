use Rattle.std.proofs.Common.{[], ap, subst, sym, ◌∙◌, ◌∷◌, ◌≡◌}
use Rattle.std.specs.List.{AllByRecursion}
use Rattle.mar_journal.specs.ArchiveRecords.{IsArchived, kept_by}
use Rattle.mar_journal_stores.proofs.Replays.{kept_more}
use Rattle.mar_journal_stores.proofs.archive_opening.replay.Goals as goal

pub apply-requires : goal.apply-requires
apply-requires g c =
    let step : c.loop-change.change-iterator.rest.items ≡ c.in-Some.change ∷ c.next.new.self.rest.items = c.in-Some.ensures.steps.0 in
    (subst (AllByRecursion (IsArchived g.T.Item.fits g.T.JournalItem.spelled)) step c.loop-change.invariant.good).0

pub loop-change-preserved : goal.loop-change-preserved
loop-change-preserved g c =
    let step : c.loop-change.change-iterator.rest.items ≡ c.in-Some.change ∷ c.next.new.self.rest.items = c.in-Some.ensures.steps.0 in
    record {
      kept = c.in_ok-entries.ensures ∙ ap (λ l. kept_by g.T.Item.name l c.in-Some.change) c.loop-change.invariant.kept ∙ sym (kept_more g.T.Item.name [] c.loop-change.yielded (c.in-Some.change ∷ []));
      good = (subst (AllByRecursion (IsArchived g.T.Item.fits g.T.JournalItem.spelled)) step c.loop-change.invariant.good).1;
    }

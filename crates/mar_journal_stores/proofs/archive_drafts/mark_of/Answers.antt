use Rattle.std.proofs.Common.{[], ap, arith, length, length-append, ◌-◌, ◌∙◌, ◌∷◌}
use Rattle.mar_store.specs.Entries.{next_number}
use Rattle.mar_journal_stores.proofs.Marks.{at_end}
use Rattle.mar_journal_stores.proofs.archive_drafts.mark_of.Goals as goal

pub returns-then-count-eq0 : goal.returns-then-count-eq0
returns-then-count-eq0 g c = λ front e is. absurd (omega (arith, c.if-count-eq0.true, ap length is, length-append front (e ∷ [])))

pub returns : goal.returns
returns g c = λ front e is. c.saturating_add.ensures ∙ ap (λ f. next_number f.number) (at_end front e c.index-items-count.result c.args.items.now (length c.args.items.now - 1) is (omega arith))

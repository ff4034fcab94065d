use Rattle.std.proofs.Common.{[], ap, arith, inl, sym, ◌∙◌}
use Rattle.mar_store.proofs.Stores.{covers_pruned}
use Rattle.std.proofs.lemmas.Result.{IfOk-weaker}
use Rattle.mar_journal_stores.specs.ArchiveStore.{ranges_or}
use Rattle.mar_journal_stores.proofs.ArchiveSteps.{fails_left}
use Rattle.mar_journal_stores.proofs.Results.{any_err, any_gone_well, match_from}
use Rattle.mar_journal_stores.proofs.Watching.{heeds_calm, struck, unstruck}
use Rattle.mar_journal_stores.proofs.archive_calls.JournalArchiveArchive.prune.Goals as goal

pub returns-then-rings-clause-done : goal.returns-then-rings-clause-done
returns-then-rings-clause-done g c = fails_left c.args.self.aside.gone.items c.args.self.entries.pile.items.items _ _ c.args.self.entries.pile.synced _ [] (ap (λ a. a.gone.items) c.left.ensures.aside) (ap (λ p. p.items.items) c.left.ensures.pile) (ap (λ p. p.synced) c.left.ensures.pile)

pub returns-then-rings-clause-watched : goal.returns-then-rings-clause-watched
returns-then-rings-clause-watched g c = rw c.left.ensures.alarm (struck c.args.self.alarm.faults _ c.args.self.alarm.due.items _ c.rings.result c.if-rings.true c.rings.ensures.rings c.rings.ensures.due c.rings.ensures.faults)

pub returns-then-rings-clause-cause : goal.returns-then-rings-clause-cause
returns-then-rings-clause-cause g c = inl (sym c.rings.ensures.rings ∙ c.if-rings.true)

pub returns-in-Err-clause-done : goal.returns-in-Err-clause-done
returns-in-Err-clause-done g c = fails_left c.args.self.aside.gone.items c.args.self.entries.pile.items.items _ _ c.args.self.entries.pile.synced _ [] (ap (λ a. a.gone.items) c.left-in-Err.ensures.aside) (ap (λ p. p.items.items) c.left-in-Err.ensures.pile) (ap (λ p. p.synced) c.left-in-Err.ensures.pile)

pub returns-in-Err-copies_below-clause-done : goal.returns-in-Err-copies_below-clause-done
returns-in-Err-copies_below-clause-done g c = fails_left c.args.self.aside.gone.items c.args.self.entries.pile.items.items _ _ c.args.self.entries.pile.synced _ [] (ap (λ a. a.gone.items) c.left-in-Err-copies_below.ensures.aside) (ap (λ p. p.items.items) c.left-in-Err-copies_below.ensures.pile) (ap (λ p. p.synced) c.left-in-Err-copies_below.ensures.pile)

pub returns-in-Err-clause-watched : goal.returns-in-Err-clause-watched
returns-in-Err-clause-watched g c = rw c.left-in-Err.ensures.alarm (unstruck c.args.self.alarm.faults _ c.args.self.alarm.due.items _ c.rings.result c.if-rings.false c.rings.ensures.rings c.rings.ensures.due c.rings.ensures.faults)

pub returns-in-Err-copies_below-clause-watched : goal.returns-in-Err-copies_below-clause-watched
returns-in-Err-copies_below-clause-watched g c = rw c.left-in-Err-copies_below.ensures.alarm (unstruck c.args.self.alarm.faults _ c.args.self.alarm.due.items _ c.rings.result c.if-rings.false c.rings.ensures.rings c.rings.ensures.due c.rings.ensures.faults)

pub returns-in-Ok-copies_below-clause-watched : goal.returns-in-Ok-copies_below-clause-watched
returns-in-Ok-copies_below-clause-watched g c = heeds_calm (λ s. s.alarm.faults) (λ s. s.alarm.due.items) (λ w. w.alarm.faults) (λ w. w.alarm.due.items) c.args.self.alarm.faults _ c.args.self.alarm.due.items _ c.rings.result c.if-rings.false c.rings.ensures.rings c.rings.ensures.due c.rings.ensures.faults c.cut.result c.cut.ensures.watched

pub returns-in-Ok-copies_below-clause-cause : goal.returns-in-Ok-copies_below-clause-cause
returns-in-Ok-copies_below-clause-cause g c = c.cut.ensures.cause c.args.self.alarm.due.items _

pub returns-in-Ok-copies_below-clause-done : goal.returns-in-Ok-copies_below-clause-done
returns-in-Ok-copies_below-clause-done g c = c.cut.ensures.done

pub returns-in-Ok-copies_below-clause-covers : goal.returns-in-Ok-copies_below-clause-covers
returns-in-Ok-copies_below-clause-covers g c = IfOk-weaker c.cut.result _ _ (λ s is. covers_pruned c.args.min c.args.self.entries.pile.accepted c.args.self.entries.pile.items.items _ c.args.self.entries.pile.once is) c.cut.ensures.cut

pub returns-in-Ok-copies_below-clause-tickets : goal.returns-in-Ok-copies_below-clause-tickets
returns-in-Ok-copies_below-clause-tickets g c = IfOk-weaker c.cut.result _ _ (λ s is. omega (arith, is)) c.cut.ensures.tickets

pub cut-requires-clause-more : goal.cut-requires-clause-more
cut-requires-clause-more g c = rw c.deref.ensures.value at c.in-Ok-copies_below.ensures.copies

pub cut-requires-clause-mark : goal.cut-requires-clause-mark
cut-requires-clause-mark g c = omega (arith, c.saturating_add-mark.ensures, c.number.ensures, c.ticket.ensures.exact)

pub cut-requires-clause-may : goal.cut-requires-clause-may
cut-requires-clause-may g c = c.in-Ok.ensures ∙ c.ranges_left.ensures ∙ ap (λ r. ranges_or r c.args.self.aside.may) c.held.ensures ∙ c.args.self.may_is

pub returns-in-Ok-copies_below-clause-still : goal.returns-in-Ok-copies_below-clause-still
returns-in-Ok-copies_below-clause-still g c = any_err c.cut.result _ (λ l. tt)

pub returns-in-Ok-copies_below-clause-marked : goal.returns-in-Ok-copies_below-clause-marked
returns-in-Ok-copies_below-clause-marked g c = c.cut.ensures.marked

pub returns-in-Ok-copies_below-clause-disk : goal.returns-in-Ok-copies_below-clause-disk
returns-in-Ok-copies_below-clause-disk g c = c.cut.ensures.disk

pub returns-in-Err-clause-cause : goal.returns-in-Err-clause-cause
returns-in-Err-clause-cause g c = tt

pub returns-in-Err-copies_below-clause-cause : goal.returns-in-Err-copies_below-clause-cause
returns-in-Err-copies_below-clause-cause g c = tt

pub returns-in-Ok-copies_below-clause-exact : goal.returns-in-Ok-copies_below-clause-exact
returns-in-Ok-copies_below-clause-exact g c = any_gone_well c.cut.result _ (λ s. tt)

pub returns-in-Ok-copies_below-clause-counted : goal.returns-in-Ok-copies_below-clause-counted
returns-in-Ok-copies_below-clause-counted g c = match_from c.cut.result _ _ _ _ (λ s is. omega (arith, is)) (λ l is. omega (arith, is)) c.cut.ensures.tickets c.cut.ensures.counted

pub returns-in-Ok-copies_below-clause-aside : goal.returns-in-Ok-copies_below-clause-aside
returns-in-Ok-copies_below-clause-aside g c = c.cut.ensures.aside

pub cut-requires-clause-numbered : goal.cut-requires-clause-numbered
cut-requires-clause-numbered g c = c.in-Ok-copies_below.ensures.numbered

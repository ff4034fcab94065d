use Rattle.std.proofs.Common.{[], ap, inl, sym, ◌∙◌, ◌∷◌}
use Rattle.mar_journal_stores.proofs.ArchiveSteps.{fails_left}
use Rattle.mar_journal_stores.proofs.Results.{any_err}
use Rattle.mar_journal_stores.proofs.Watching.{heeds_calm, struck, unstruck}
use Rattle.mar_journal_stores.proofs.archive_calls.JournalArchiveArchive.put.Goals as goal

pub returns-then-rings-clause-done : goal.returns-then-rings-clause-done
returns-then-rings-clause-done g c = fails_left c.args.self.aside.gone.items c.args.self.entries.pile.items.items _ _ c.args.self.entries.pile.synced _ (record { height = c.args.index; value = c.args.item } ∷ []) (ap (λ a. a.gone.items) c.left.ensures.aside) (ap (λ p. p.items.items) c.left.ensures.pile) (ap (λ p. p.synced) c.left.ensures.pile)

pub returns-then-rings-clause-watched : goal.returns-then-rings-clause-watched
returns-then-rings-clause-watched g c = rw c.left.ensures.alarm (struck c.args.self.alarm.faults _ c.args.self.alarm.due.items _ c.rings.result c.if-rings.true c.rings.ensures.rings c.rings.ensures.due c.rings.ensures.faults)

pub returns-then-rings-clause-cause : goal.returns-then-rings-clause-cause
returns-then-rings-clause-cause g c = inl (sym c.rings.ensures.rings ∙ c.if-rings.true)

pub returns-in-Err-clause-done : goal.returns-in-Err-clause-done
returns-in-Err-clause-done g c = fails_left c.args.self.aside.gone.items c.args.self.entries.pile.items.items _ _ c.args.self.entries.pile.synced _ (record { height = c.args.index; value = c.args.item } ∷ []) (ap (λ a. a.gone.items) c.left-in-Err.ensures.aside) (ap (λ p. p.items.items) c.left-in-Err.ensures.pile) (ap (λ p. p.synced) c.left-in-Err.ensures.pile)

pub returns-in-Err-clause-watched : goal.returns-in-Err-clause-watched
returns-in-Err-clause-watched g c = rw c.left-in-Err.ensures.alarm (unstruck c.args.self.alarm.faults _ c.args.self.alarm.due.items _ c.rings.result c.if-rings.false c.rings.ensures.rings c.rings.ensures.due c.rings.ensures.faults)

pub returns-in-Ok-clause-watched : goal.returns-in-Ok-clause-watched
returns-in-Ok-clause-watched g c = heeds_calm (λ s. s.alarm.faults) (λ s. s.alarm.due.items) (λ w. w.alarm.faults) (λ w. w.alarm.due.items) c.args.self.alarm.faults _ c.args.self.alarm.due.items _ c.rings.result c.if-rings.false c.rings.ensures.rings c.rings.ensures.due c.rings.ensures.faults c.place.result c.place.ensures.watched

pub returns-in-Ok-clause-cause : goal.returns-in-Ok-clause-cause
returns-in-Ok-clause-cause g c = c.place.ensures.cause c.args.self.alarm.due.items _

pub returns-in-Ok-clause-done : goal.returns-in-Ok-clause-done
returns-in-Ok-clause-done g c = c.place.ensures.done

pub returns-in-Ok-clause-marked : goal.returns-in-Ok-clause-marked
returns-in-Ok-clause-marked g c = c.place.ensures.marked

pub returns-in-Ok-clause-still : goal.returns-in-Ok-clause-still
returns-in-Ok-clause-still g c = any_err c.place.result _ (λ l. tt)

pub returns-in-Ok-clause-ignored : goal.returns-in-Ok-clause-ignored
returns-in-Ok-clause-ignored g c = c.place.ensures.ignored

pub returns-in-Ok-clause-tickets : goal.returns-in-Ok-clause-tickets
returns-in-Ok-clause-tickets g c = c.place.ensures.tickets

pub returns-in-Ok-clause-covers : goal.returns-in-Ok-clause-covers
returns-in-Ok-clause-covers g c = c.place.ensures.covers

pub returns-in-Ok-clause-disk : goal.returns-in-Ok-clause-disk
returns-in-Ok-clause-disk g c = c.place.ensures.disk

pub returns-then-rings-clause-unchanged : goal.returns-then-rings-clause-unchanged
returns-then-rings-clause-unchanged g c = λ taken. fails_left c.args.self.aside.gone.items c.args.self.entries.pile.items.items _ _ c.args.self.entries.pile.synced _ [] (ap (λ a. a.gone.items) c.left.ensures.aside) (ap (λ p. p.items.items) c.left.ensures.pile) (ap (λ p. p.synced) c.left.ensures.pile)

pub returns-in-Err-clause-unchanged : goal.returns-in-Err-clause-unchanged
returns-in-Err-clause-unchanged g c = λ taken. fails_left c.args.self.aside.gone.items c.args.self.entries.pile.items.items _ _ c.args.self.entries.pile.synced _ [] (ap (λ a. a.gone.items) c.left-in-Err.ensures.aside) (ap (λ p. p.items.items) c.left-in-Err.ensures.pile) (ap (λ p. p.synced) c.left-in-Err.ensures.pile)

pub returns-in-Ok-clause-unchanged : goal.returns-in-Ok-clause-unchanged
returns-in-Ok-clause-unchanged g c = c.place.ensures.unchanged

pub returns-in-Ok-clause-counted : goal.returns-in-Ok-clause-counted
returns-in-Ok-clause-counted g c = c.place.ensures.counted

pub returns-in-Ok-clause-written : goal.returns-in-Ok-clause-written
returns-in-Ok-clause-written g c = any_err c.place.result _ (λ l. tt)

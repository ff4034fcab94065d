use Rattle.std.proofs.Common.{[], ap, arith, inl, length, sym, ◌∙◌}
use Rattle.std.proofs.lemmas.Result.{IfOk-weaker, MatchResult-weaker}
use Rattle.mar_store.specs.Entries.{covered_by}
use Rattle.mar_journal_stores.proofs.ArchiveSteps.{fails_left, idle_moments, marked, ordered_of}
use Rattle.mar_journal_stores.proofs.Fronts.{none_written}
use Rattle.mar_journal_stores.proofs.Marks.{front_exact}
use Rattle.mar_journal_stores.proofs.Results.{any_err, ok_from}
use Rattle.mar_journal_stores.proofs.Watching.{heeds_calm, lost_calm, struck}
use Rattle.mar_journal_stores.proofs.archive_calls.JournalArchiveArchive.finish.Goals as goal

pub returns-then-rings-clause-done : goal.returns-then-rings-clause-done
returns-then-rings-clause-done g c = fails_left c.args.self.aside.gone.items c.args.self.entries.pile.items.items _ _ c.args.self.entries.pile.synced _ [] (ap (λ a. a.gone.items) c.left.ensures.aside) (ap (λ p. p.items.items) c.left.ensures.pile) (ap (λ p. p.synced) c.left.ensures.pile)

pub returns-then-rings-clause-watched : goal.returns-then-rings-clause-watched
returns-then-rings-clause-watched g c = rw c.left.ensures.alarm (struck c.args.self.alarm.faults _ c.args.self.alarm.due.items _ c.rings.result c.if-rings.true c.rings.ensures.rings c.rings.ensures.due c.rings.ensures.faults)

pub returns-then-rings-clause-cause : goal.returns-then-rings-clause-cause
returns-then-rings-clause-cause g c = inl (sym c.rings.ensures.rings ∙ c.if-rings.true)

pub returns-then-rings-clause-any_moment : goal.returns-then-rings-clause-any_moment
returns-then-rings-clause-any_moment g c = rw c.left.ensures.disk (idle_moments g.T.Item.name g.T.JournalItem.spelled g.T.Item.fits g.D.Disk.seen g.D.Disk.may_leave c.args.self.log.disk c.args.self.log.end c.args.self.aside.gone.items c.args.self.entries.pile.items.items c.args.self.entries.pile.synced c.args.self.entries.pile.accepted c.args.self.log.waiting.items c.args.self.log.marks.items g.D.Disk.moment g.D.Disk.left_since g.met.D.Disk.only_now c.args.self.entries.pile.once c.args.self.backed)

pub flush-requires : goal.flush-requires
flush-requires g c = omega (arith, c.front_of-count.ensures.within, ap length c.deref.ensures.value, marked g.T.Item.name g.T.JournalItem.spelled g.T.Item.fits g.D.Disk.seen g.D.Disk.may_leave c.args.self.log.disk c.args.self.log.end c.args.self.aside.gone.items c.args.self.entries.pile.items.items c.args.self.entries.pile.synced c.args.self.entries.pile.accepted c.args.self.log.waiting.items c.args.self.log.marks.items c.args.self.backed)

pub returns-in-Err-clause-done : goal.returns-in-Err-clause-done
returns-in-Err-clause-done g c = fails_left c.args.self.aside.gone.items c.args.self.entries.pile.items.items _ _ c.args.self.entries.pile.synced _ [] (ap (λ a. a.gone.items) c.in-Err.ensures.left_aside) (ap (λ p. p.items.items) c.in-Err.ensures.left) (ap (λ p. p.synced) c.in-Err.ensures.left)

pub returns-in-Err-clause-watched : goal.returns-in-Err-clause-watched
returns-in-Err-clause-watched g c = lost_calm (λ w. w.alarm.faults) (λ w. w.alarm.due.items) c.args.self.alarm.faults _ c.args.self.alarm.due.items _ c.rings.result c.if-rings.false c.rings.ensures.rings c.rings.ensures.due c.rings.ensures.faults c.in-Err.lost c.in-Err.ensures.watched

pub returns-in-Err-clause-cause : goal.returns-in-Err-clause-cause
returns-in-Err-clause-cause g c = c.in-Err.ensures.cause c.args.self.alarm.due.items

pub returns-in-Err-clause-idle : goal.returns-in-Err-clause-idle
returns-in-Err-clause-idle g c = λ above. c.in-Err.ensures.idle (none_written _ _ _ (rw (c.deref.ensures.value, c.number-number.ensures) at c.front_of-count.ensures) above)

pub make_covered_sure-requires : goal.make_covered_sure-requires
make_covered_sure-requires g c = record { later = rw (c.in-Ok.ensures.marks, ← c.deref.ensures.value) c.front_of-count.ensures.later }

pub returns-in-Ok-clause-done : goal.returns-in-Ok-clause-done
returns-in-Ok-clause-done g c = rw (c.in-Ok.ensures.entries, c.in-Ok.ensures.aside, c.number-number.ensures) at c.make_covered_sure.ensures.done

pub returns-in-Ok-clause-let_go : goal.returns-in-Ok-clause-let_go
returns-in-Ok-clause-let_go g c = rw (c.in-Ok.ensures.entries, c.in-Ok.ensures.aside, c.number-number.ensures) at c.make_covered_sure.ensures.let_go

pub returns-in-Ok-clause-tickets : goal.returns-in-Ok-clause-tickets
returns-in-Ok-clause-tickets g c = ok_from c.make_covered_sure.result _ _ _ (λ s is. omega (arith, is, ap (λ e. e.pile.accepted) c.in-Ok.ensures.entries)) c.make_covered_sure.ensures.tickets

pub returns-in-Ok-clause-counted : goal.returns-in-Ok-clause-counted
returns-in-Ok-clause-counted g c = MatchResult-weaker c.make_covered_sure.result c.make_covered_sure.ensures.tickets (λ s is. omega (arith, is, ap (λ e. e.pile.accepted) c.in-Ok.ensures.entries)) (λ l is. omega (arith, is, ap (λ e. e.pile.accepted) c.in-Ok.ensures.entries))

pub returns-in-Ok-clause-covers : goal.returns-in-Ok-clause-covers
returns-in-Ok-clause-covers g c = IfOk-weaker c.make_covered_sure.result _ _ (λ s is t under last. ap (λ l. covered_by l t) (is ∙ ap (λ e. e.pile.items.items) c.in-Ok.ensures.entries)) c.make_covered_sure.ensures.items

pub returns-in-Ok-clause-watched : goal.returns-in-Ok-clause-watched
returns-in-Ok-clause-watched g c = heeds_calm (λ s. s.alarm.faults) (λ s. s.alarm.due.items) (λ w. w.alarm.faults) (λ w. w.alarm.due.items) c.args.self.alarm.faults _ c.args.self.alarm.due.items _ c.rings.result c.if-rings.false c.rings.ensures.rings c.rings.ensures.due c.rings.ensures.faults c.make_covered_sure.result (rw c.in-Ok.ensures.watched at c.make_covered_sure.ensures.watched)

pub returns-in-Ok-clause-any_moment : goal.returns-in-Ok-clause-any_moment
returns-in-Ok-clause-any_moment g c = MatchResult-weaker c.make_covered_sure.result c.make_covered_sure.ensures.disk (λ s is. rw is c.in-Ok.ensures.any_moment) (λ l is. rw is c.in-Ok.ensures.any_moment)

pub returns-in-Ok-clause-written : goal.returns-in-Ok-clause-written
returns-in-Ok-clause-written g c = IfOk-weaker c.make_covered_sure.result _ _ (λ s is. rw is (
  c.front_of-count.result,
  rw (c.deref.ensures.value, c.number-number.ensures) at c.front_of-count.ensures,
  front_exact c.args.self.entries.pile.accepted _ c.args.self.log.marks.items c.front_of-count.result (ordered_of g.T.Item.name g.T.JournalItem.spelled g.T.Item.fits g.D.Disk.seen g.D.Disk.may_leave c.args.self.log.disk c.args.self.log.end c.args.self.aside.gone.items c.args.self.entries.pile.items.items c.args.self.entries.pile.synced c.args.self.entries.pile.accepted c.args.self.log.waiting.items c.args.self.log.marks.items c.args.self.backed) (rw (c.deref.ensures.value, c.number-number.ensures) at c.front_of-count.ensures),
  c.in-Ok.ensures.waiting,
  c.in-Ok.ensures.marks,
  c.in-Ok.ensures.written,
)) c.make_covered_sure.ensures.log

pub returns-in-Ok-clause-idle : goal.returns-in-Ok-clause-idle
returns-in-Ok-clause-idle g c = λ above.
    let still = c.in-Ok.ensures.idle (none_written _ _ _ (rw (c.deref.ensures.value, c.number-number.ensures) at c.front_of-count.ensures) above) in
    MatchResult-weaker c.make_covered_sure.result c.make_covered_sure.ensures.disk (λ s is. is ∙ still) (λ l is. is ∙ still)

pub returns-in-Ok-clause-cause : goal.returns-in-Ok-clause-cause
returns-in-Ok-clause-cause g c = c.make_covered_sure.ensures.cause c.args.self.alarm.due.items _

pub returns-in-Ok-clause-still : goal.returns-in-Ok-clause-still
returns-in-Ok-clause-still g c = any_err c.make_covered_sure.result _ (λ l. tt)

pub returns-in-Err-clause-any_moment : goal.returns-in-Err-clause-any_moment
returns-in-Err-clause-any_moment g c = c.in-Err.ensures.any_moment

pub returns-then-rings-clause-idle : goal.returns-then-rings-clause-idle
returns-then-rings-clause-idle g c = λ above. c.left.ensures.disk

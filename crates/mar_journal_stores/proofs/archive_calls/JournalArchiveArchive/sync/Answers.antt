use Rattle.std.proofs.Common.{[], ap, arith, inl, length, sym, ◌∙◌}
use Rattle.mar_store.specs.Entries.{covered_by}
use Rattle.std.proofs.lemmas.List.{drop_all, take_all}
use Rattle.std.proofs.lemmas.Result.{IfOk-weaker, MatchResult-weaker}
use Rattle.mar_journal_stores.proofs.ArchiveSteps.{fails_left, idle_moments}
use Rattle.mar_journal_stores.proofs.Results.{any_err, ok_from}
use Rattle.mar_journal_stores.proofs.Watching.{heeds_calm, lost_calm, struck}
use Rattle.mar_journal_stores.proofs.archive_calls.JournalArchiveArchive.sync.Goals as goal

pub returns-then-rings-clause-done : goal.returns-then-rings-clause-done
returns-then-rings-clause-done g c = fails_left c.args.self.aside.gone.items c.args.self.entries.pile.items.items _ _ c.args.self.entries.pile.synced _ [] (ap (λ a. a.gone.items) c.left.ensures.aside) (ap (λ p. p.items.items) c.left.ensures.pile) (ap (λ p. p.synced) c.left.ensures.pile)

pub returns-then-rings-clause-watched : goal.returns-then-rings-clause-watched
returns-then-rings-clause-watched g c = rw c.left.ensures.alarm (struck c.args.self.alarm.faults _ c.args.self.alarm.due.items _ c.rings.result c.if-rings.true c.rings.ensures.rings c.rings.ensures.due c.rings.ensures.faults)

pub returns-then-rings-clause-cause : goal.returns-then-rings-clause-cause
returns-then-rings-clause-cause g c = inl (sym c.rings.ensures.rings ∙ c.if-rings.true)

pub returns-then-rings-clause-any_moment : goal.returns-then-rings-clause-any_moment
returns-then-rings-clause-any_moment g c = rw c.left.ensures.disk (idle_moments g.T.Item.name g.T.JournalItem.spelled g.T.Item.fits g.D.Disk.seen g.D.Disk.may_leave c.args.self.log.disk c.args.self.log.end c.args.self.aside.gone.items c.args.self.entries.pile.items.items c.args.self.entries.pile.synced c.args.self.entries.pile.accepted c.args.self.log.waiting.items c.args.self.log.marks.items g.D.Disk.moment g.D.Disk.left_since g.met.D.Disk.only_now c.args.self.entries.pile.once c.args.self.backed)

pub returns-in-Err-clause-done : goal.returns-in-Err-clause-done
returns-in-Err-clause-done g c = fails_left c.args.self.aside.gone.items c.args.self.entries.pile.items.items _ _ c.args.self.entries.pile.synced _ [] (ap (λ a. a.gone.items) c.in-Err.ensures.left_aside) (ap (λ p. p.items.items) c.in-Err.ensures.left) (ap (λ p. p.synced) c.in-Err.ensures.left)

pub returns-in-Err-clause-watched : goal.returns-in-Err-clause-watched
returns-in-Err-clause-watched g c = lost_calm (λ w. w.alarm.faults) (λ w. w.alarm.due.items) c.args.self.alarm.faults _ c.args.self.alarm.due.items _ c.rings.result c.if-rings.false c.rings.ensures.rings c.rings.ensures.due c.rings.ensures.faults c.in-Err.lost c.in-Err.ensures.watched

pub returns-in-Err-clause-cause : goal.returns-in-Err-clause-cause
returns-in-Err-clause-cause g c = c.in-Err.ensures.cause c.args.self.alarm.due.items

pub returns-in-Err-clause-idle : goal.returns-in-Err-clause-idle
returns-in-Err-clause-idle g c = λ none. c.in-Err.ensures.idle (omega (arith, c.len-count.ensures, ap length none, c.args.self.log.waiting.ok.0))

pub returns-in-Ok-clause-none_aside : goal.returns-in-Ok-clause-none_aside
returns-in-Ok-clause-none_aside g c = c.make_sure.ensures.aside

pub make_sure-requires : goal.make_sure-requires
make_sure-requires g c = record { waiting = c.in-Ok.ensures.waiting ∙ drop_all c.len-count.result c.args.self.log.waiting.items (omega (arith, c.len-count.ensures, c.args.self.log.waiting.ok.0)) }

pub returns-in-Ok-clause-done : goal.returns-in-Ok-clause-done
returns-in-Ok-clause-done g c = rw (c.in-Ok.ensures.entries, c.in-Ok.ensures.aside) at c.make_sure.ensures.done

pub returns-in-Ok-clause-tickets : goal.returns-in-Ok-clause-tickets
returns-in-Ok-clause-tickets g c = ok_from c.make_sure.result _ _ _ (λ s is. omega (arith, is, ap (λ e. e.pile.accepted) c.in-Ok.ensures.entries)) c.make_sure.ensures.tickets

pub returns-in-Ok-clause-counted : goal.returns-in-Ok-clause-counted
returns-in-Ok-clause-counted g c = MatchResult-weaker c.make_sure.result c.make_sure.ensures.tickets (λ s is. omega (arith, is, ap (λ e. e.pile.accepted) c.in-Ok.ensures.entries)) (λ l is. omega (arith, is, ap (λ e. e.pile.accepted) c.in-Ok.ensures.entries))

pub returns-in-Ok-clause-covers : goal.returns-in-Ok-clause-covers
returns-in-Ok-clause-covers g c = IfOk-weaker c.make_sure.result _ _ (λ s is t under last. ap (λ l. covered_by l t) (is ∙ ap (λ e. e.pile.items.items) c.in-Ok.ensures.entries)) c.make_sure.ensures.items

pub returns-in-Ok-clause-watched : goal.returns-in-Ok-clause-watched
returns-in-Ok-clause-watched g c = heeds_calm (λ s. s.alarm.faults) (λ s. s.alarm.due.items) (λ w. w.alarm.faults) (λ w. w.alarm.due.items) c.args.self.alarm.faults _ c.args.self.alarm.due.items _ c.rings.result c.if-rings.false c.rings.ensures.rings c.rings.ensures.due c.rings.ensures.faults c.make_sure.result (rw c.in-Ok.ensures.watched at c.make_sure.ensures.watched)

pub returns-in-Ok-clause-any_moment : goal.returns-in-Ok-clause-any_moment
returns-in-Ok-clause-any_moment g c = MatchResult-weaker c.make_sure.result c.make_sure.ensures.disk (λ s is. rw is c.in-Ok.ensures.any_moment) (λ l is. rw is c.in-Ok.ensures.any_moment)

pub returns-in-Ok-clause-written : goal.returns-in-Ok-clause-written
returns-in-Ok-clause-written g c = IfOk-weaker c.make_sure.result _ _ (λ s is. rw is (rw (take_all c.len-count.result c.args.self.log.waiting.items (omega (arith, c.len-count.ensures, c.args.self.log.waiting.ok.0))) at c.in-Ok.ensures.written)) c.make_sure.ensures.log

pub returns-in-Ok-clause-none_waits : goal.returns-in-Ok-clause-none_waits
returns-in-Ok-clause-none_waits g c = IfOk-weaker c.make_sure.result _ _ (λ s is. ap (λ l. l.waiting.items) is ∙ c.in-Ok.ensures.waiting ∙ drop_all c.len-count.result c.args.self.log.waiting.items (omega (arith, c.len-count.ensures, c.args.self.log.waiting.ok.0))) c.make_sure.ensures.log

pub returns-in-Ok-clause-idle : goal.returns-in-Ok-clause-idle
returns-in-Ok-clause-idle g c = λ none.
    let still = c.in-Ok.ensures.idle (omega (arith, c.len-count.ensures, ap length none, c.args.self.log.waiting.ok.0)) in
    MatchResult-weaker c.make_sure.result c.make_sure.ensures.disk (λ s is. is ∙ still) (λ l is. is ∙ still)

pub returns-in-Ok-clause-cause : goal.returns-in-Ok-clause-cause
returns-in-Ok-clause-cause g c = c.make_sure.ensures.cause c.args.self.alarm.due.items _

pub returns-in-Ok-clause-still : goal.returns-in-Ok-clause-still
returns-in-Ok-clause-still g c = any_err c.make_sure.result _ (λ l. tt)

pub returns-in-Err-clause-any_moment : goal.returns-in-Err-clause-any_moment
returns-in-Err-clause-any_moment g c = c.in-Err.ensures.any_moment

pub returns-then-rings-clause-idle : goal.returns-then-rings-clause-idle
returns-then-rings-clause-idle g c = λ none. c.left.ensures.disk

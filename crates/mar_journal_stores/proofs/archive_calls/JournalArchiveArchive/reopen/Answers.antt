use Rattle.std.proofs.lemmas.Result.{MatchResult-weaker}
use Rattle.std.proofs.Common.{arith, inl, refl, sym, ◌∙◌}
use Rattle.mar_store.proofs.Settled.{fails_still}
use Rattle.mar_journal_stores.proofs.ArchiveSteps.{still_moments}
use Rattle.mar_journal_stores.proofs.Results.{any_err, any_gone_well}
use Rattle.mar_journal_stores.proofs.Watching.{heeds_calm, struck}
use Rattle.mar_journal_stores.proofs.archive_calls.JournalArchiveArchive.reopen.Goals as goal

pub returns-then-rings-clause-any_moment : goal.returns-then-rings-clause-any_moment
returns-then-rings-clause-any_moment g c = still_moments g.T.Item.name g.T.JournalItem.spelled g.T.Item.fits g.D.Disk.seen g.D.Disk.may_leave g.D.Disk.moment g.D.Disk.left_since g.met.D.Disk.counts_now g.met.T.JournalItem.keyed g.met.T.JournalItem.one c.args.wreck.disk c.args.wreck.disk c.args.wreck.disk c.args.wreck.aside.gone.items c.args.wreck.pile.items.items c.args.wreck.pile.synced (λ x now. now) c.args.wreck.is_left g.met.D.Disk.only_now

pub returns-then-rings-clause-cause : goal.returns-then-rings-clause-cause
returns-then-rings-clause-cause g c = inl (sym c.rings.ensures.rings ∙ c.if-rings.true)

pub returns-clause-cause : goal.returns-clause-cause
returns-clause-cause g c = c.find.ensures.cause c.args.wreck.alarm.due.items

pub returns-then-rings-clause-done : goal.returns-then-rings-clause-done
returns-then-rings-clause-done g c = fails_still _ _ refl

pub returns-then-rings-clause-watched : goal.returns-then-rings-clause-watched
returns-then-rings-clause-watched g c = struck c.args.wreck.alarm.faults _ c.args.wreck.alarm.due.items _ c.rings.result c.if-rings.true c.rings.ensures.rings c.rings.ensures.due c.rings.ensures.faults

pub returns-clause-watched : goal.returns-clause-watched
returns-clause-watched g c = heeds_calm (λ s. s.alarm.faults) (λ s. s.alarm.due.items) (λ w. w.alarm.faults) (λ w. w.alarm.due.items) c.args.wreck.alarm.faults _ c.args.wreck.alarm.due.items _ c.rings.result c.if-rings.false c.rings.ensures.rings c.rings.ensures.due c.rings.ensures.faults c.find.result c.find.ensures.watched

pub returns-clause-done : goal.returns-clause-done
returns-clause-done g c = c.find.ensures.done

pub returns-clause-still : goal.returns-clause-still
returns-clause-still g c = any_err c.find.result _ (λ l. tt)

pub returns-clause-lucky : goal.returns-clause-lucky
returns-clause-lucky g c = any_gone_well c.find.result _ (λ s. tt)

pub returns-clause-found : goal.returns-clause-found
returns-clause-found g c = c.find.ensures.found

pub returns-clause-undamaged : goal.returns-clause-undamaged
returns-clause-undamaged g c = c.find.ensures.undamaged

pub returns-clause-any_moment : goal.returns-clause-any_moment
returns-clause-any_moment g c = c.find.ensures.any_moment

pub returns-clause-counted : goal.returns-clause-counted
returns-clause-counted g c = MatchResult-weaker c.find.result c.find.ensures.counted (λ s is. omega (arith, is)) (λ l is. omega (arith, is))

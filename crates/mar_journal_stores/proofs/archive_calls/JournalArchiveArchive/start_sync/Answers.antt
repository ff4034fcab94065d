use Rattle.std.proofs.Common.{[], ap, arith, inl, refl, sym, ◌∙◌, ◌≤◌}
use Rattle.mar_journal_stores.specs.ArchiveStore.{last_mark}
use Rattle.mar_journal_stores.proofs.Asides.{aside_upto}
use Rattle.mar_journal_stores.proofs.ArchiveSteps.{fails_left, ordered_of, upto_of}
use Rattle.mar_journal_stores.proofs.Watching.{struck}
use Rattle.mar_journal_stores.proofs.Marks.{all_upto, covers_all, last_most, last_upto}
use Rattle.mar_journal_stores.proofs.archive_calls.JournalArchiveArchive.start_sync.Goals as goal

pub returns-then-rings-clause-done : goal.returns-then-rings-clause-done
returns-then-rings-clause-done g c = fails_left c.args.self.aside.gone.items c.args.self.entries.pile.items.items _ _ c.args.self.entries.pile.synced _ [] (ap (λ a. a.gone.items) c.left.ensures.aside) (ap (λ p. p.items.items) c.left.ensures.pile) (ap (λ p. p.synced) c.left.ensures.pile)

pub returns-then-rings-clause-watched : goal.returns-then-rings-clause-watched
returns-then-rings-clause-watched g c = rw c.left.ensures.alarm (struck c.args.self.alarm.faults _ c.args.self.alarm.due.items _ c.rings.result c.if-rings.true c.rings.ensures.rings c.rings.ensures.due c.rings.ensures.faults)

pub returns-then-rings-clause-cause : goal.returns-then-rings-clause-cause
returns-then-rings-clause-cause g c = inl (sym c.rings.ensures.rings ∙ c.if-rings.true)

pub returns-clause-made : goal.returns-clause-made
returns-clause-made g c =
    let small : c.newest-number.result ≤ c.args.self.entries.pile.accepted = omega (arith, c.newest-number.ensures, c.number.ensures, c.ticket.ensures.made, ap last_mark c.deref.ensures.value, last_upto c.args.self.entries.pile.accepted c.args.self.log.marks.items (all_upto c.args.self.entries.pile.accepted c.args.self.entries.pile.accepted c.args.self.log.marks.items (omega arith) (ordered_of g.T.Item.name g.T.JournalItem.spelled g.T.Item.fits g.D.Disk.seen g.D.Disk.may_leave c.args.self.log.disk c.args.self.log.end c.args.self.aside.gone.items c.args.self.entries.pile.items.items c.args.self.entries.pile.synced c.args.self.entries.pile.accepted c.args.self.log.waiting.items c.args.self.log.marks.items c.args.self.backed))) in
    rw c.new.ensures small

pub returns-clause-covered : goal.returns-clause-covered
returns-clause-covered g c = rw c.new.ensures (covers_all c.args.self.entries.pile.items.items c.ticket.result.number c.newest-number.result (omega (arith, c.newest-number.ensures, c.number.ensures)) (omega arith) c.ticket.ensures.covered)

pub returns-clause-waiting : goal.returns-clause-waiting
returns-clause-waiting g c = (
  refl,
  refl,
  rw c.new.ensures (last_most c.args.self.entries.pile.accepted c.newest-number.result c.args.self.log.marks.items (ordered_of g.T.Item.name g.T.JournalItem.spelled g.T.Item.fits g.D.Disk.seen g.D.Disk.may_leave c.args.self.log.disk c.args.self.log.end c.args.self.aside.gone.items c.args.self.entries.pile.items.items c.args.self.entries.pile.synced c.args.self.entries.pile.accepted c.args.self.log.waiting.items c.args.self.log.marks.items c.args.self.backed) (omega (arith, c.newest-number.ensures, ap last_mark c.deref.ensures.value))),
)

pub returns-clause-aside : goal.returns-clause-aside
returns-clause-aside g c = (
  refl,
  rw c.new.ensures (aside_upto c.args.self.entries.pile.accepted c.newest-number.result c.args.self.aside.gone.items (omega (arith, c.newest-number.ensures, c.number.ensures, c.ticket.ensures.exact)) (upto_of g.T.Item.name g.T.JournalItem.spelled g.T.Item.fits g.D.Disk.seen g.D.Disk.may_leave c.args.self.log.disk c.args.self.log.end c.args.self.aside.gone.items c.args.self.entries.pile.items.items c.args.self.entries.pile.synced c.args.self.entries.pile.accepted c.args.self.log.waiting.items c.args.self.log.marks.items c.args.self.backed)),
)

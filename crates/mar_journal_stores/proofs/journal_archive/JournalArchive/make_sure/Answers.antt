use Rattle.std.proofs.Common.{[], ap, map, refl, ◌≡◌}
use Rattle.mar_store.specs.Entries.{seen}
use Rattle.mar_store.proofs.Settled.{fails_still}
use Rattle.mar_journal_stores.proofs.ArchiveSteps.{keeps_left, keeps_ranges, nothing_lost, still_with_gone, sure_backed}
use Rattle.mar_journal_stores.proofs.journal_archive.JournalArchive.make_sure.Goals as goal

pub invariant_of-result : goal.invariant_of-result
invariant_of-result g c =
    let are : map seen c.in-Ok.entries.pile.items.items ≡ map seen c.args.self.entries.pile.items.items = ap (map seen) c.in-Ok.ensures.items in
    rw (c.let_all_go.ensures.gone, c.let_all_go.ensures.may) (record {
      may_is = refl;
      backed = sure_backed g.T.Item.name g.T.JournalItem.spelled g.T.Item.fits g.D.Disk.may_leave c.args.self.log.disk c.args.self.aside.gone.items c.args.self.entries.pile.items.items c.in-Ok.entries.pile.items.items c.args.self.entries.pile.synced c.in-Ok.entries.pile.synced g.D.Disk.seen c.args.self.log.end c.args.self.entries.pile.accepted c.in-Ok.entries.pile.accepted c.args.self.log.waiting.items c.args.self.log.marks.items [] c.requires.waiting are c.in-Ok.entries.pile.fits tt c.args.self.backed;
    })

pub invariant_of-result-in-Err : goal.invariant_of-result-in-Err
invariant_of-result-in-Err g c =
    let same = c.in-Err.ensures.still in
    rw c.into_disk.ensures (record {
      may_is = keeps_ranges c.args.self.aside.gone.items c.args.self.entries.pile.items.items c.in-Err.pile.items.items c.args.self.aside.may (ap (λ l. l.may) same) c.args.self.may_is;
      is_left = keeps_left g.T.Item.name g.T.JournalItem.spelled g.T.Item.fits g.D.Disk.may_leave c.args.self.log.disk c.args.self.aside.gone.items c.args.self.entries.pile.items.items c.in-Err.pile.items.items c.args.self.entries.pile.synced c.in-Err.pile.synced (ap (λ l. l.sure) same) (ap (λ l. l.may) same) (nothing_lost g.T.Item.name g.T.JournalItem.spelled g.T.Item.fits g.D.Disk.seen g.D.Disk.may_leave c.args.self.log.disk c.args.self.log.end c.args.self.aside.gone.items c.args.self.entries.pile.items.items c.args.self.entries.pile.synced c.args.self.entries.pile.accepted c.args.self.log.waiting.items c.args.self.log.marks.items c.args.self.entries.pile.once c.args.self.backed);
    })

pub returns-in-Err-clause-done : goal.returns-in-Err-clause-done
returns-in-Err-clause-done g c = fails_still _ _ (still_with_gone c.args.self.aside.gone.items c.args.self.entries.pile.items.items c.in-Err.pile.items.items c.args.self.entries.pile.synced c.in-Err.pile.synced c.in-Err.ensures.still)

use Rattle.std.proofs.Common.{ap, arith, refl, sym, take, ◌∙◌, ◌≡◌}
use Rattle.std.proofs.lemmas.List.{take_at}
use Rattle.mar_store.specs.Entries.{next_number}
use Rattle.mar_store.proofs.Settled.{fails_still}
use Rattle.mar_journal_stores.specs.ArchiveStore.{SetsAside}
use Rattle.mar_journal_stores.proofs.ArchiveSteps.{nothing_lost, prune_backed, prune_marked, prune_ranges, prunes_with_gone}
use Rattle.mar_journal_stores.proofs.journal_archive.JournalArchive.cut.Goals as goal

pub invariant_of-result : goal.invariant_of-result
invariant_of-result g c = rw (c.into_pile.ensures, c.in-Err.ensures.still, c.into_disk.ensures, c.set_aside.ensures.disk) (record {
  may_is = c.args.self.may_is;
  is_left = nothing_lost g.T.Item.name g.T.JournalItem.spelled g.T.Item.fits g.D.Disk.seen g.D.Disk.may_leave c.args.self.log.disk c.args.self.log.end c.args.self.aside.gone.items c.args.self.entries.pile.items.items c.args.self.entries.pile.synced c.args.self.entries.pile.accepted c.args.self.log.waiting.items c.args.self.log.marks.items c.args.self.entries.pile.once c.args.self.backed;
})

pub returns-in-Err-clause-done : goal.returns-in-Err-clause-done
returns-in-Err-clause-done g c = rw (c.into_pile.ensures, c.in-Err.ensures.still) (fails_still _ _ refl)

pub invariant_of-result-in-Ok-prune : goal.invariant_of-result-in-Ok-prune
invariant_of-result-in-Ok-prune g c =
    let aside : SetsAside c.args.min c.args.mark c.args.self.entries.pile.items.items c.args.self.aside.gone.items c.set_aside.new.gone.items = record { more = c.args.more.items; behind = c.in-Ok.ensures.gone; taken = c.requires.more; numbered = c.requires.numbered } in
    let items = c.count.ensures.items ∙ c.in-Ok-prune.ensures.items in
    let synced = c.count.ensures.synced ∙ c.in-Ok-prune.ensures.synced in
    rw (c.set_aside.ensures.disk, c.set_aside.ensures.end) (record {
      may_is = prune_ranges c.args.min c.args.mark c.args.self.aside.gone.items c.set_aside.new.gone.items c.args.self.entries.pile.items.items c.count.result.pile.items.items c.args.self.entries.pile.synced c.count.result.pile.synced c.args.self.entries.pile.once items synced aside c.args.may c.requires.may;
      backed = prune_backed c.args.min c.args.mark c.args.self.aside.gone.items c.set_aside.new.gone.items c.args.self.entries.pile.items.items c.count.result.pile.items.items c.args.self.entries.pile.synced c.count.result.pile.synced c.args.self.entries.pile.once items synced aside g.T.Item.name g.T.JournalItem.spelled g.T.Item.fits g.D.Disk.seen g.D.Disk.may_leave c.args.self.log.disk c.args.self.log.end c.args.self.entries.pile.accepted c.count.result.pile.accepted c.args.self.log.waiting.items c.set_aside.new.log.waiting.items c.args.self.log.marks.items c.set_aside.new.log.marks.items c.requires.min c.in-Ok.ensures.waiting c.in-Ok.ensures.marks
          (c.count.ensures.tickets ∙ ap next_number c.in-Ok-prune.ensures.tickets)
          c.requires.mark (omega arith) c.args.self.backed;
    })

pub returns-in-Ok-prune-clause-done : goal.returns-in-Ok-prune-clause-done
returns-in-Ok-prune-clause-done g c =
    let aside : SetsAside c.args.min c.args.mark c.args.self.entries.pile.items.items c.args.self.aside.gone.items c.set_aside.new.gone.items = record { more = c.args.more.items; behind = c.in-Ok.ensures.gone; taken = c.requires.more; numbered = c.requires.numbered } in
    prunes_with_gone c.args.min c.args.mark c.args.self.aside.gone.items c.set_aside.new.gone.items c.args.self.entries.pile.items.items c.count.result.pile.items.items c.args.self.entries.pile.synced c.count.result.pile.synced c.args.self.entries.pile.once (c.count.ensures.items ∙ c.in-Ok-prune.ensures.items) (c.count.ensures.synced ∙ c.in-Ok-prune.ensures.synced) aside

pub returns-in-Ok-prune-clause-tickets : goal.returns-in-Ok-prune-clause-tickets
returns-in-Ok-prune-clause-tickets g c = c.count.ensures.tickets ∙ ap next_number c.in-Ok-prune.ensures.tickets

pub returns-in-Ok-prune-clause-marked : goal.returns-in-Ok-prune-clause-marked
returns-in-Ok-prune-clause-marked g c =
    prune_marked c.args.min c.args.self.entries.pile.accepted c.count.result.pile.accepted c.args.mark c.args.self.log.waiting.items c.set_aside.new.log.waiting.items c.args.self.log.marks.items c.set_aside.new.log.marks.items c.in-Ok.ensures.waiting c.in-Ok.ensures.marks
    (c.count.ensures.tickets ∙ ap next_number c.in-Ok-prune.ensures.tickets) c.requires.mark

pub returns-in-Ok-prune-clause-aside : goal.returns-in-Ok-prune-clause-aside
returns-in-Ok-prune-clause-aside g c =
    let number = c.count.ensures.tickets ∙ ap next_number c.in-Ok-prune.ensures.tickets ∙ sym c.requires.mark in
    rw number (record { more = c.args.more.items; behind = c.in-Ok.ensures.gone; taken = c.requires.more; numbered = c.requires.numbered })

pub invariant_of-result-in-Err-prune : goal.invariant_of-result-in-Err-prune
invariant_of-result-in-Err-prune g c =
    let gone : c.truncate.new.self.items ≡ c.args.self.aside.gone.items = c.truncate.ensures.items ∙ ap (take c.len-count.result) c.in-Ok.ensures.gone ∙ take_at c.args.self.aside.gone.items c.args.more.items c.len-count.result (omega (arith, c.len-count.ensures, c.args.self.aside.gone.ok.0)) in
    rw (c.in-Err-prune.ensures.err, gone, c.into_disk-in-Err-prune.ensures, c.set_aside.ensures.disk) (record {
      may_is = c.args.self.may_is;
      is_left = nothing_lost g.T.Item.name g.T.JournalItem.spelled g.T.Item.fits g.D.Disk.seen g.D.Disk.may_leave c.args.self.log.disk c.args.self.log.end c.args.self.aside.gone.items c.args.self.entries.pile.items.items c.args.self.entries.pile.synced c.args.self.entries.pile.accepted c.args.self.log.waiting.items c.args.self.log.marks.items c.args.self.entries.pile.once c.args.self.backed;
    })

pub returns-in-Err-prune-clause-done : goal.returns-in-Err-prune-clause-done
returns-in-Err-prune-clause-done g c =
    let gone : c.truncate.new.self.items ≡ c.args.self.aside.gone.items = c.truncate.ensures.items ∙ ap (take c.len-count.result) c.in-Ok.ensures.gone ∙ take_at c.args.self.aside.gone.items c.args.more.items c.len-count.result (omega (arith, c.len-count.ensures, c.args.self.aside.gone.ok.0)) in
    rw (c.in-Err-prune.ensures.err, gone) (fails_still _ _ refl)

use Rattle.std.proofs.Common.{ap, map, subst, ◌∙◌}
use Rattle.std.proofs.lemmas.Result.{IfOk-weaker}
use Rattle.mar_store.specs.Entries.{seen}
use Rattle.mar_journal.specs.ArchiveRecords.{IsArchived}
use Rattle.mar_journal_stores.proofs.ArchiveSteps.{filter_seen}
use Rattle.mar_journal_stores.proofs.Results.{ok_from}
use Rattle.mar_journal_stores.proofs.archive_opening.apply.Goals as goal

pub returns-in-Prune : goal.returns-in-Prune
returns-in-Prune g c = rw c.in-Prune.is (IfOk-weaker c.prune.result _ _ (λ s is. ap (map seen) is ∙ filter_seen c.in-Prune.min c.args.entries.pile.items.items) c.prune.ensures.items)

pub put-requires : goal.put-requires
put-requires g c = record { fits = (subst (IsArchived g.T.Item.fits g.T.JournalItem.spelled) c.in-Put.is c.requires).1 }

pub returns-in-Put : goal.returns-in-Put
returns-in-Put g c = rw c.in-Put.is (ok_from c.put.result _ _ _ (λ s puts. puts.held) c.put.ensures.done)

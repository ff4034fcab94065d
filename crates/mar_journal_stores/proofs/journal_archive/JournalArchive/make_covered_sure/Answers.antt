use Rattle.std.proofs.Common.{[], ap, ◌∙◌}
use Rattle.mar_journal_stores.proofs.ArchiveSteps.{fails_left}
use Rattle.mar_journal_stores.proofs.journal_archive.JournalArchive.make_covered_sure.Goals as goal

pub returns-in-Err-clause-done : goal.returns-in-Err-clause-done
returns-in-Err-clause-done g c = fails_left c.args.self.aside.gone.items c.args.self.entries.pile.items.items _ _ c.args.self.entries.pile.synced _ [] (ap (λ a. a.gone.items) c.left.ensures.aside) (ap (λ p. p.items.items) c.left.ensures.pile) (ap (λ p. p.synced) c.left.ensures.pile)

pub finish_entries-requires-clause-may : goal.finish_entries-requires-clause-may
finish_entries-requires-clause-may g c = rw (c.held.ensures, c.deref.ensures.value) at c.in-Ok.ensures

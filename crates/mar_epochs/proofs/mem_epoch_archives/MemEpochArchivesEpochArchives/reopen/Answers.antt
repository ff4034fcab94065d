use Rattle.std.proofs.Common.{ap, ap₂, sym, ◌∙◌}
use Rattle.std.specs.Prelude.{filter}
use Rattle.mar_epochs.specs.EntryLogs.{drawn_in_all, log_of}
use Rattle.mar_epochs.proofs.EpochArchivesChanges.{finds, found_same}
use Rattle.mar_epochs.proofs.LuckyDraws.{picked}
use Rattle.mar_epochs.proofs.mem_epoch_archives.MemEpochArchivesEpochArchives.reopen.Goals as goal

pub returns-in-Ok-clause-done : goal.returns-in-Ok-clause-done
returns-in-Ok-clause-done g c = finds 0 _ _ (ap (λ l. log_of g.E.AsEntry.plain l.items.items) c.in-Ok.ensures.same ∙ found_same g.E.AsEntry.plain 0 _ c.in-Ok.ensures.sure) c.args.wreck.log.once

pub returns-in-Ok-clause-picked : goal.returns-in-Ok-clause-picked
returns-in-Ok-clause-picked g c = picked _ (log_of g.E.AsEntry.plain c.args.wreck.log.items.items) _ (ap (λ l. log_of g.E.AsEntry.plain l.items.items) c.in-Ok.ensures.same ∙ found_same g.E.AsEntry.plain _ _ c.in-Ok.ensures.sure) c.args.wreck.log.once

pub returns-in-Ok-settled-clause-done : goal.returns-in-Ok-settled-clause-done
returns-in-Ok-settled-clause-done g c = rw (sym c.in-Err.ensures.same) (finds _ _ _ c.in-Ok-settled.ensures.log c.in-Err.wreck.log.once)

pub returns-in-Ok-settled-clause-picked : goal.returns-in-Ok-settled-clause-picked
returns-in-Ok-settled-clause-picked g c =
    let as_was = ap (λ l. log_of g.E.AsEntry.plain l.items.items) c.in-Err.ensures.same in
    picked _ (log_of g.E.AsEntry.plain c.args.wreck.log.items.items) _ (c.in-Ok-settled.ensures.log ∙ ap₂ (λ half fs. filter (λ f. f.is_sure) (drawn_in_all half fs)) c.of.ensures as_was) c.args.wreck.log.once

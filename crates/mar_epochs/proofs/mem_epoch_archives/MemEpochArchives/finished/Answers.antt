use Rattle.std.proofs.Common.{[], ap, cond, refl, subst}
use Rattle.std.proofs.lemmas.Bool.{le-leb, lt-leb}
use Rattle.mar_store.specs.Changes.{Within}
use Rattle.mar_epochs.specs.EntryLogs.{covered_in, log_of, sure_entries}
use Rattle.mar_epochs.specs.declared.change.Change.TheVariants.{Finish}
use Rattle.mar_epochs.proofs.EpochArchivesChanges.{does_nothing, marks}
use Rattle.mar_epochs.proofs.Settling.{settles}
use Rattle.mar_epochs.proofs.mem_epoch_archives.MemEpochArchives.finished.Goals as goal

pub returns-then-number-self-clause-done : goal.returns-then-number-self-clause-done
returns-then-number-self-clause-done g c =
    let fs = log_of g.E.AsEntry.plain c.args.self.log.items.items in
    does_nothing g.E.AsEntry.plain (Finish c.args.section c.args.number) c.args.self.log.accepted fs (λ held. refl) (ap (λ b. cond b (covered_in fs c.args.section c.args.number) []) (lt-leb c.args.number c.args.self.log.accepted c.if-number-self.true)) (λ x. refl)

pub returns-clause-done : goal.returns-clause-done
returns-clause-done g c =
    let fs = log_of g.E.AsEntry.plain c.args.self.log.items.items in
    rw c.marked.ensures.accepted (marks g.E.AsEntry.plain (Finish c.args.section c.args.number) c.args.section c.args.number c.args.self.log.accepted fs _ c.marked.ensures.log (λ held. refl) (ap (λ b. cond b (covered_in fs c.args.section c.args.number) []) (le-leb c.args.number c.args.self.log.accepted c.if-number-self.false)) (λ x. refl))

pub returns-clause-settled : goal.returns-clause-settled
returns-clause-settled g c =
    let fs = log_of g.E.AsEntry.plain c.args.self.log.items.items in
    λ sure. settles c.args.section c.args.number c.args.self.log.accepted c.marked.result.log.accepted fs _ c.args.self.log.once c.marked.ensures.log c.marked.ensures.accepted (subst (λ b. Within (cond b (covered_in fs c.args.section c.args.number) []) (sure_entries fs)) (le-leb c.args.number c.args.self.log.accepted c.if-number-self.false) sure)

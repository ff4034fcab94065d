use Rattle.mar_epochs.proofs.Leaving.{as_told, might_stay, reopen_fails, reopens_as_left}
use Rattle.mar_epochs.proofs.Failing.{fault_rose, no_less}
use Rattle.std.proofs.Common.{ap, sym, ◌∙◌}
use Rattle.mar_epochs.proofs.depot_epochs.DepotEpochsEpochs.reopen.Goals as goal

pub returns-in-Ok-clause-done : goal.returns-in-Ok-clause-done
returns-in-Ok-clause-done g c = reopens_as_left _ _ c.args.wreck.opening c.args.wreck.slots _ _ (as_told g.D.Depot.told g.met.D.EpochArchivesDepot.tells c.in-Ok.ensures.done) c.args.wreck.upto

pub returns-in-Err-clause-done : goal.returns-in-Err-clause-done
returns-in-Err-clause-done g c = rw (c.lost_by.ensures.wreck, c.parts_of-failed.ensures.wreck) (reopen_fails _ _ c.args.wreck.opening c.args.wreck.slots _ _ (as_told g.D.Depot.told g.met.D.EpochArchivesDepot.tells c.in-Err.ensures.done).0)

pub returns-then-opening-clause-done : goal.returns-then-opening-clause-done
returns-then-opening-clause-done g c = might_stay _

pub returns-in-Ok-clause-counts : goal.returns-in-Ok-clause-counts
returns-in-Ok-clause-counts g c = no_less _ _ (ap (λ w. w.faults) (sym c.in-Ok.ensures.watched.1))

pub returns-in-Err-clause-counts : goal.returns-in-Err-clause-counts
returns-in-Err-clause-counts g c = λ fault. rw (c.lost_by.ensures.wreck, c.parts_of-failed.ensures.wreck) (fault_rose g.D.Wreck.DepotRuin.watch (g.D.Wreck.DepotRuin.watch c.args.wreck.depot) c.in-Err.lost c.in-Err.ensures.watched (sym (c.lost_by.ensures.fault ∙ c.parts_of-failed.ensures.fault) ∙ fault))

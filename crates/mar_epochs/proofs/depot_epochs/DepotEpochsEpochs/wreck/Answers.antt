use Rattle.mar_epochs.proofs.Leaving.{as_told, one_way, wreck_left}
use Rattle.std.proofs.Common.{ap₂}
use Rattle.mar_epochs.specs.Failures.{failures_of, first_way}
use Rattle.mar_epochs.proofs.depot_epochs.DepotEpochsEpochs.wreck.Goals as goal

pub returns-clause-left : goal.returns-clause-left
returns-clause-left g c = wreck_left _ _ c.args.self.opening c.args.self.slots _ _ (as_told g.D.Depot.told g.met.D.EpochArchivesDepot.tells c.wreck.ensures.left)

pub returns-clause-one : goal.returns-clause-one
returns-clause-one g c = one_way g.A.EpochArchives.book g.A.Wreck.EpochArchivesRuin.left c.args.self.opening c.args.self.slots _ _ (as_told g.D.Depot.told g.met.D.EpochArchivesDepot.tells c.wreck.ensures.left)

pub returns-clause-failures : goal.returns-clause-failures
returns-clause-failures g c = ap₂ (λ watch ways. failures_of g.A.EpochArchives.faults g.A.Wreck.EpochArchivesRuin.faults watch.faults c.args.self.slots (first_way ways)) c.wreck.ensures.watch (as_told g.D.Depot.told g.met.D.EpochArchivesDepot.tells c.wreck.ensures.left)

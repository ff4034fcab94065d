use Rattle.mar_epochs.specs.EpochStates.{states_of}
use Rattle.mar_epochs.proofs.Leaving.{left_ways, memory_back, opens_back}
use Rattle.mar_epochs.proofs.Picking.{picks_back}
use Rattle.mar_epochs.proofs.Unarmed.{and_left}
use Rattle.mar_epochs.specs.Failures.{failures_of, first_way}
use Rattle.mar_epochs.proofs.Failing.{counts_back}
use Rattle.mar_epochs.proofs.depot_epochs.DepotEpochs.open_ruin.Goals as goal

pub returns-clause-done : goal.returns-clause-done
returns-clause-done g c = opens_back g.A.EpochArchives.book g.A.Wreck.EpochArchivesRuin.left (λ s. states_of g.A.EpochArchives.book g.A.Wreck.EpochArchivesRuin.left s.opening s.slots (g.D.Depot.names s.depot)) (λ w. left_ways g.A.EpochArchives.book g.A.Wreck.EpochArchivesRuin.left w.opening w.slots (g.D.Wreck.DepotRuin.left w.depot)) c.args.epoch _ _ c.reopen-answer.result c.put_back.result c.put_back.ensures.done c.reopen-answer.ensures.done

pub returns-clause-memory : goal.returns-clause-memory
returns-clause-memory g c = λ only. memory_back g.A.EpochArchives.book g.A.Wreck.EpochArchivesRuin.left (λ s. states_of g.A.EpochArchives.book g.A.Wreck.EpochArchivesRuin.left s.opening s.slots (g.D.Depot.names s.depot)) (λ w. left_ways g.A.EpochArchives.book g.A.Wreck.EpochArchivesRuin.left w.opening w.slots (g.D.Wreck.DepotRuin.left w.depot)) c.args.epoch _ c.reopen-answer.result c.put_back.result c.put_back.ensures.done (c.reopen-answer.ensures.unfailing (and_left _ _ only))

pub returns-clause-picked : goal.returns-clause-picked
returns-clause-picked g c = picks_back g.A.EpochArchives.book g.A.Wreck.EpochArchivesRuin.left (λ s. states_of g.A.EpochArchives.book g.A.Wreck.EpochArchivesRuin.left s.opening s.slots (g.D.Depot.names s.depot)) (λ w. left_ways g.A.EpochArchives.book g.A.Wreck.EpochArchivesRuin.left w.opening w.slots (g.D.Wreck.DepotRuin.left w.depot)) (λ s. s.luck) g.D.EpochArchivesDepot.is_certain g.A.EpochArchives.keeps c.args.self.luck c.args.epoch _ (g.A.Wreck.EpochArchivesRuin.left c.args.ruin) c.reopen-answer.result c.put_back.result c.put_back.ensures.done c.reopen-answer.ensures.picked c.put_back.ensures.luck

pub returns-clause-counts : goal.returns-clause-counts
returns-clause-counts g c = counts_back (λ s. failures_of g.A.EpochArchives.faults g.A.Wreck.EpochArchivesRuin.faults (g.D.Depot.watch s.depot).faults s.slots (g.D.Depot.names s.depot)) (λ w. failures_of g.A.EpochArchives.faults g.A.Wreck.EpochArchivesRuin.faults (g.D.Wreck.DepotRuin.watch w.depot).faults w.slots (first_way (g.D.Wreck.DepotRuin.left w.depot))) c.args.epoch g.A.EpochArchives.faults g.A.Wreck.EpochArchivesRuin.faults (g.A.Wreck.EpochArchivesRuin.faults c.args.ruin) (failures_of g.A.EpochArchives.faults g.A.Wreck.EpochArchivesRuin.faults (g.D.Depot.watch c.args.self.depot).faults c.args.self.slots (g.D.Depot.names c.args.self.depot)) c.reopen-answer.result c.put_back.result c.put_back.ensures.counts c.reopen-answer.ensures.counts

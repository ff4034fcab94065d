use Rattle.std.proofs.Common.{is_some, map}
use Rattle.std.specs.Map.Iter.{deref}
use Rattle.mar_model.specs.Sections.{first_found}
use Rattle.mar_epochs.specs.EpochStates.{held_in, states_of}
use Rattle.mar_epochs.proofs.Leaving.{NewestOf}
use Rattle.mar_epochs.proofs.depot_epochs.DepotEpochs.newest_with.Given as goal

abbrev pub invariant-loop-epoch : goal.invariant-loop-epoch
invariant-loop-epoch g l = NewestOf (λ k. is_some (first_found (g.A.Entry.AsEntry.wants l.wanted) (held_in (states_of g.A.EpochArchives.book g.A.Wreck.EpochArchivesRuin.left l.self.opening l.self.slots (g.D.Depot.names l.self.depot) k)))) (map deref l.yielded) l.newest

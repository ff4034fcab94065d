use Rattle.std.proofs.Common.{◌≡◌, ◌++◌, map}
use Rattle.std.specs.Map.Iter.{deref}
use Rattle.mar_epochs.proofs.depot_epochs.DepotEpochsEpochs.list.Given as goal

abbrev pub invariant-loop-epoch : goal.invariant-loop-epoch
invariant-loop-epoch g l = l.listed.items ≡ l.initial.listed.items ++ map deref l.yielded

use Rattle.std.proofs.Common.{map, take, ◌++◌, option_to_list}
use Rattle.mar_gate.specs.Gate.{IsLeastOf}
use Rattle.mar_gate.proofs.gate.DispatchGate.barrier.Given as goal

abbrev pub invariant-loop-batch : goal.invariant-loop-batch
invariant-loop-batch l = IsLeastOf (option_to_list l.self.unsynced ++ map (λ b. b.lowest) (take l.batch-index l.batch-items)) l.barrier

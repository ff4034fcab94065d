use Rattle.std.proofs.Common.{List, length, ℕ, ◌++◌, ◌≡◌}
use Rattle.mar_script.specs.Streams.{Takes}
use Rattle.mar_script.proofs.sink.write_all.Given as goal

abbrev pub invariant-loop-rest : goal.invariant-loop-rest
invariant-loop-rest g l = record {
  wrote : (front : List ℕ) × (l.bytes ≡ front ++ l.rest) × Takes (g.K.Sink.written l.initial.sink) front (g.K.Sink.written l.sink);
  calm : g.K.Sink.faults l.sink ≡ g.K.Sink.faults l.initial.sink;
}

abbrev pub decreases-loop-rest : goal.decreases-loop-rest
decreases-loop-rest g l = length l.rest

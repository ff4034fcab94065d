use Rattle.std.proofs.Common.{length, ◌-◌, ◌≡◌}
use Rattle.mar_script.proofs.Lines.{SoFar}
use Rattle.mar_script.proofs.reader.ScriptReader.next_line.Given as goal

abbrev pub invariant-pieces : goal.invariant-pieces
invariant-pieces g l = record {
  so_far : SoFar (g.S.Source.left l.initial.source) l.initial.self l.self l.searched (g.S.Source.left l.source);
  calm : g.S.Source.faults l.source ≡ g.S.Source.faults l.initial.source;
}

abbrev pub decreases-pieces : goal.decreases-pieces
decreases-pieces g l = 65_538 - length l.self

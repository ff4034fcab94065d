use Rattle.std.proofs.Common.{length, ◌++◌, ◌≡◌}
use Rattle.mar_gen.specs.Output.{pieces, seen}
use Rattle.mar_gen.proofs.output.pieces.Given as goal

abbrev pub invariant-loop-place : goal.invariant-loop-place
invariant-loop-place l = seen l.found.items ++ pieces l.at l.rest ≡ pieces l.at l.text

abbrev pub decreases-loop-place : goal.decreases-loop-place
decreases-loop-place l = length l.rest

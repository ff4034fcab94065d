use Rattle.std.proofs.Common.{drop, ◌≡◌}
use Rattle.mar_gen.specs.Output.{first_behind, seen}
use Rattle.mar_gen.proofs.output.first_behind.Given as goal

abbrev pub invariant-loop-text : goal.invariant-loop-text
invariant-loop-text l = first_behind l.front (seen l.texts) ≡ first_behind l.front (seen (drop l.text-index l.texts))

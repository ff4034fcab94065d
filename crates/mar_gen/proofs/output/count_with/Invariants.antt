use Rattle.std.proofs.Common.{take, ◌≡◌}
use Rattle.std.specs.List.{count_by}
use Rattle.std.specs.Option.{is_some}
use Rattle.mar_gen.specs.Output.{behind, seen}
use Rattle.mar_gen.proofs.output.count_with.Given as goal

abbrev pub invariant-loop-text : goal.invariant-loop-text
invariant-loop-text l = l.count ≡ count_by (λ t. is_some (behind l.front t)) (seen (take l.text-index l.texts))

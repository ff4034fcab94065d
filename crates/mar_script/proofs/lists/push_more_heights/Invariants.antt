use Rattle.std.proofs.Common.{string_bytes, take, ◌++◌, ◌∷◌, ◌≡◌}
use Rattle.std.specs.Fmt.{decimal}
use Rattle.std.specs.List.{flat_map}
use Rattle.mar_script.proofs.lists.push_more_heights.Given as goal

abbrev pub invariant-loop-height : goal.invariant-loop-height
invariant-loop-height l = string_bytes l.text ≡ string_bytes l.initial.text ++ flat_map (λ h. 44 ∷ decimal h) (take l.height-index l.heights)

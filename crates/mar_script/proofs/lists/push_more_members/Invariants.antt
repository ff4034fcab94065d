use Rattle.std.proofs.Common.{string_bytes, take, ◌++◌, ◌∷◌, ◌≡◌}
use Rattle.std.specs.Fmt.{decimal}
use Rattle.std.specs.List.{flat_map}
use Rattle.mar_script.proofs.lists.push_more_members.Given as goal

abbrev pub invariant-loop-member : goal.invariant-loop-member
invariant-loop-member l = string_bytes l.text ≡ string_bytes l.initial.text ++ flat_map (λ h. 44 ∷ decimal h) (take l.member-index l.members)

use Rattle.std.proofs.Common.{string_bytes, take, ◌++◌, ◌∷◌, ◌≡◌}
use Rattle.std.specs.Fmt.{decimal}
use Rattle.std.specs.List.{flat_map}
use Rattle.mar_script.proofs.lists.push_more_numbers.Given as goal

abbrev pub invariant-loop-open : goal.invariant-loop-open
invariant-loop-open l = string_bytes l.text ≡ string_bytes l.initial.text ++ flat_map (λ o. 44 ∷ decimal o.number) (take l.open-index l.tickets)

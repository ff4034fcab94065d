use Rattle.std.proofs.Common.{string_bytes, take, ◌++◌, ◌∷◌, ◌≡◌}
use Rattle.std.specs.Fmt.{decimal}
use Rattle.std.specs.List.{flat_map}
use Rattle.mar_script.proofs.lists.push_more_peers.Given as goal

abbrev pub invariant-loop-peer : goal.invariant-loop-peer
invariant-loop-peer l = string_bytes l.text ≡ string_bytes l.initial.text ++ flat_map (λ p. 44 ∷ decimal p) (take l.peer-index l.peers)

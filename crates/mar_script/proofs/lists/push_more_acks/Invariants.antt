use Rattle.std.proofs.Common.{string_bytes, take, ◌++◌, ◌∷◌, ◌≡◌}
use Rattle.std.specs.List.{flat_map}
use Rattle.mar_parts.specs.Views.{outstanding_of}
use Rattle.mar_script.specs.Text.{outstanding_text}
use Rattle.mar_script.proofs.lists.push_more_acks.Given as goal

abbrev pub invariant-loop-ack : goal.invariant-loop-ack
invariant-loop-ack l = string_bytes l.text ≡ string_bytes l.initial.text ++ flat_map (λ s. 44 ∷ outstanding_text (outstanding_of s)) (take l.ack-index l.acks)

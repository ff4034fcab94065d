-- The peers that are named, and when two are equal.
use Rattle.std.specs.Cmp.Lexicographic.{pointwise}
use Rattle.std.specs.Prelude.{Bool, List, None, Option, false, true}
use Rattle.std.specs.Prelude.{Some as Given}
use Rattle.mar_block.specs.declared.recipients.Recipients.{Recipients}
use Rattle.mar_block.specs.declared.recipients.Recipients.TheVariants.{All, Some}

-- the peers that are named, or none where each peer is meant
abbrev pub named : {P : Type 0} → Recipients P → Option (List P)
named All = None
named (Some peers) = Given peers.items

-- both mean each peer, or both name the same ones in the same order
abbrev pub recipients_eq : {P : Type 0} → (P → P → Bool) → Recipients P → Recipients P → Bool
recipients_eq eq All All = true
recipients_eq eq (Some peers) (Some others) = pointwise eq peers.items others.items
recipients_eq eq _ _ = false

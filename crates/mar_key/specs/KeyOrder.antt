-- The order of keys: a block's, a finalization's, a notarization's, and then by what they hold; and that of annotations.
use Rattle.std.specs.Cmp.Lexicographic.{slice_cmp}
use Rattle.std.specs.Ordering.{nat_cmp, ordering_then}
use Rattle.std.specs.Prelude.{Bool, false, nat_lt, true, ℕ}
use Rattle.std.specs.declared.cmp.Ordering.{Ordering}
use Rattle.std.specs.declared.cmp.Ordering.TheVariants.{Equal, Greater, Less}
use Rattle.mar_types.specs.Round.{Round, round_lt}
use Rattle.mar_key.specs.Keys.{Annotation, Key as PlainKey, block_key, certified_at, finalized_by_height, finalized_by_round, finalized_key, for_notarization, notarized_key, untrusted_at}
use Rattle.mar_key.specs.declared.keys.Key.{Key}
use Rattle.mar_key.specs.declared.keys.Key.TheVariants.{Block, Finalized, Notarized}

abbrev pub is_less : Ordering → Bool
is_less Less = true
is_less Equal = false
is_less Greater = false

-- the first key comes before the second, by the order of commitments
abbrev pub key_lt : {D : Type 0} → (D → D → Ordering) → Key D → Key D → Bool
key_lt cmp (Block c) (Block d) = is_less (cmp c d)
key_lt cmp (Block c) (Finalized h) = true
key_lt cmp (Block c) (Notarized r) = true
key_lt cmp (Finalized h) (Block d) = false
key_lt cmp (Finalized h) (Finalized k) = nat_lt h k
key_lt cmp (Finalized h) (Notarized r) = true
key_lt cmp (Notarized r) (Block d) = false
key_lt cmp (Notarized r) (Finalized h) = false
key_lt cmp (Notarized r) (Notarized s) = round_lt r s

abbrev pub round_cmp : Round → Round → Ordering
round_cmp r s = ordering_then (nat_cmp r.epoch s.epoch) (nat_cmp r.view s.view)

-- the same of keys by the bytes of their commitments, which order those
abbrev pub key_cmp : PlainKey → PlainKey → Ordering
key_cmp (block_key c) (block_key d) = slice_cmp nat_cmp c d
key_cmp (block_key c) (finalized_key h) = Less
key_cmp (block_key c) (notarized_key r) = Less
key_cmp (finalized_key h) (block_key d) = Greater
key_cmp (finalized_key h) (finalized_key k) = nat_cmp h k
key_cmp (finalized_key h) (notarized_key r) = Less
key_cmp (notarized_key r) (block_key d) = Greater
key_cmp (notarized_key r) (finalized_key h) = Greater
key_cmp (notarized_key r) (notarized_key s) = round_cmp r s

-- the place of an annotation's kind among the five
abbrev pub kind_place : Annotation → ℕ
kind_place (for_notarization r) = 0
kind_place (untrusted_at h) = 1
kind_place (certified_at h) = 2
kind_place (finalized_by_height h) = 3
kind_place (finalized_by_round r) = 4

-- annotations by kind, and then by the round or the height
abbrev pub annotation_cmp : Annotation → Annotation → Ordering
annotation_cmp (for_notarization r) (for_notarization s) = round_cmp r s
annotation_cmp (untrusted_at h) (untrusted_at k) = nat_cmp h k
annotation_cmp (certified_at h) (certified_at k) = nat_cmp h k
annotation_cmp (finalized_by_height h) (finalized_by_height k) = nat_cmp h k
annotation_cmp (finalized_by_round r) (finalized_by_round s) = round_cmp r s
annotation_cmp a b = nat_cmp (kind_place a) (kind_place b)

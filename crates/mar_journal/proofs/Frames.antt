-- What a file stands for is one, by the versions there are.
use Rattle.std.proofs.Common.{List, [], ap, length, lit≤, refl, sym, ℕ, ◌++◌, ◌+◌, ◌<◌, ◌∙◌, ◌∷◌, ◌≡◌, ◌^◌}
use Rattle.std.proofs.lemmas.Nat.{from_be_bytes-to_be_bytes_4, from_be_bytes-to_be_bytes_8}
use Rattle.std.specs.Int.{from_be_bytes, w32, w64}
use Rattle.mar_journal.specs.Format.{IsDamaged, Stands, behind_gate, eight, first_version, four, frames, second_version}
use Rattle.mar_journal.specs.Framing.{IsVersion}
use Rattle.mar_journal.proofs.Framings as framings

pub length-four : (n : ℕ) → length (four n) ≡ 4
unfolding four
length-four n = refl

pub four_one : (m n : ℕ) → m < 2 ^ 32 → n < 2 ^ 32 → four m ≡ four n → m ≡ n
unfolding four
four_one m n small less e = sym (from_be_bytes-to_be_bytes_4 m small) ∙ ap (from_be_bytes w32) e ∙ from_be_bytes-to_be_bytes_4 n less

length-eight : (n : ℕ) → length (eight n) ≡ 8
unfolding eight
length-eight n = refl

eight_one : (m n : ℕ) → m < 2 ^ 64 → n < 2 ^ 64 → eight m ≡ eight n → m ≡ n
unfolding eight
eight_one m n small less e = sym (from_be_bytes-to_be_bytes_8 m small) ∙ ap (from_be_bytes w64) e ∙ from_be_bytes-to_be_bytes_8 n less

pub first_is_version : IsVersion first_version
first_is_version = record { begins = refl; placed = refl; room = lit≤ tt; width = 4; wide = length-four; apart = four_one }

pub second_is_version : IsVersion second_version
second_is_version = record { begins = refl; placed = refl; room = lit≤ tt; width = 8; wide = length-eight; apart = eight_one }

-- VERSION 1

module _ {R : Type 0} (spelled : R → List ℕ) where
  pub frames-push : (bs : List (List R)) (b : List R) (rest : List ℕ) → frames spelled (bs ++ b ∷ []) ++ rest ≡ frames spelled bs ++ 1 ∷ (behind_gate spelled b ++ rest)
  frames-push = framings.frames-push first_version spelled

  pub length-frames-push : (bs : List (List R)) (b : List R) → length (frames spelled (bs ++ b ∷ [])) ≡ length (frames spelled bs) + (1 + length (behind_gate spelled b))
  length-frames-push = framings.length-frames-push first_version spelled

module _ {R : Type 0} (spelled : R → List ℕ) (Valid : R → Type 0)
    (one : (r s : R) (a b : List ℕ) → Valid r → Valid s → spelled r ++ a ≡ spelled s ++ b → r ≡ s) (some : (r : R) → 0 < length (spelled r)) where
  pub stands_one : (rs ss : List R) (file : List ℕ) → Stands spelled Valid rs file → Stands spelled Valid ss file → rs ≡ ss
  stands_one = framings.stands_one spelled Valid one some first_version first_is_version

  pub stands_whole : (rs : List R) (at : ℕ) (file : List ℕ) → Stands spelled Valid rs file → IsDamaged spelled Valid at file → ⊥
  stands_whole = framings.stands_whole spelled Valid one some first_version first_is_version

  pub one_damage : (at other : ℕ) (file : List ℕ) → IsDamaged spelled Valid at file → IsDamaged spelled Valid other file → at ≡ other
  one_damage = framings.one_damage spelled Valid one some first_version first_is_version

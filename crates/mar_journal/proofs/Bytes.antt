-- Four bytes as a number, and numbers at the front of bytes.
use Rattle.std.proofs.Common.{Fits, List, [], ap, append_assoc, arith, drop, get_or, length, length-append, length-drop, refl, suc, sym, take, w8, zero, ℕ, ◌++◌, ◌+◌, ◌<◌, ◌∙◌, ◌∷◌, ◌≡◌, ◌≤◌}
use Rattle.std.proofs.lemmas.List.{drop-drop}
use Rattle.std.proofs.lemmas.Nat.{be_bytes_4}
use Rattle.std.specs.Int.{from_be_bytes, w32}
use Rattle.mar_types.specs.Codec.{HasNoFront, Joined}
use Rattle.mar_types.specs.CodecLemmas.{joined_no_second}
use Rattle.mar_types.specs.Varint.{IsVarint, varint}
use Rattle.mar_types.specs.VarintLemmas.{varint_unambiguous}
use Rattle.mar_journal.specs.Format.{four}
use Rattle.mar_journal.specs.Numbers.{NumberStandsFirst, TwoStandFirst}

below_four : (a b c d : ℕ) → a < 256 → b < 256 → c < 256 → d < 256 → (i : ℕ) → get_or (a ∷ b ∷ c ∷ d ∷ []) i 0 < 256
below_four a b c d e f g h zero = e
below_four a b c d e f g h (suc zero) = f
below_four a b c d e f g h (suc (suc zero)) = g
below_four a b c d e f g h (suc (suc (suc zero))) = h
below_four a b c d e f g h (suc (suc (suc (suc i)))) = omega arith

pub take_four : (bytes : List ℕ) (n : ℕ) → 4 ≤ length bytes → ((i : ℕ) → Fits w8 (get_or bytes i 0))
    → n ≡ from_be_bytes w32 (get_or bytes 0 0 ∷ get_or bytes 1 0 ∷ get_or bytes 2 0 ∷ get_or bytes 3 0 ∷ []) → take 4 bytes ≡ four n
unfolding four
take_four [] n long below e = absurd (omega arith)
take_four (a ∷ []) n long below e = absurd (omega arith)
take_four (a ∷ b ∷ []) n long below e = absurd (omega arith)
take_four (a ∷ b ∷ c ∷ []) n long below e = absurd (omega arith)
take_four (a ∷ b ∷ c ∷ d ∷ rest) n long below e = sym (be_bytes_4 (a ∷ b ∷ c ∷ d ∷ []) n refl (below_four a b c d (omega (arith, below 0)) (omega (arith, below 1)) (omega (arith, below 2)) (omega (arith, below 3))) e)

number_is : (n size : ℕ) (bytes : List ℕ) → NumberStandsFirst n size bytes → IsVarint (varint n)
number_is n size bytes f = record { number = n; fits = f.fits; spelled = refl }

-- a number stands first and no second one behind it
pub no_two : (n size : ℕ) (bytes : List ℕ) → NumberStandsFirst n size bytes → HasNoFront IsVarint (drop size bytes) → HasNoFront (Joined IsVarint IsVarint) bytes
no_two n size bytes f none = joined_no_second IsVarint IsVarint bytes (varint n) (drop size bytes) varint_unambiguous (number_is n size bytes f) f.bytes_are none

pub two_first : (m n first second : ℕ) (bytes : List ℕ) → NumberStandsFirst m first bytes → NumberStandsFirst n second (drop first bytes) → TwoStandFirst m n (first + second) bytes
two_first m n first second bytes f s = record {
  fits = f.fits;
  fits_too = s.fits;
  size_is = omega (arith, f.size_is, s.size_is, length-append (varint m) (varint n));
  within = omega (arith, f.within, s.within, length-drop first bytes);
  bytes_are = f.bytes_are ∙ ap (λ (l : List ℕ). varint m ++ l) (s.bytes_are ∙ ap (λ (l : List ℕ). varint n ++ l) (drop-drop second first bytes)) ∙ sym (append_assoc (varint m) (varint n) (drop (first + second) bytes));
}

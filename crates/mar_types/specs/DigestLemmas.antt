-- Bytes of one length, and what they begin.
use Rattle.std.proofs.Common.{List, [], ap, arith, drop, get_or, length, length-append, refl, suc, sym, take, zero, ℕ, ◌++◌, ◌<◌, ◌∙◌, ◌∷◌, ◌≡◌}
use Rattle.std.proofs.Math.Path.{PathP}
use Rattle.std.proofs.lemmas.List.{take-append-drop}
use Rattle.std.proofs.lemmas.Nat.{be_bytes_8}
use Rattle.std.specs.Int.{from_be_bytes, to_be_bytes, w64}
use Rattle.std.specs.List.{AllByRecursion}
use Rattle.mar_types.specs.Codec.{HasNoFront, IsUnambiguous, Takes}
use Rattle.mar_types.specs.Digest.{IsByte, IsBytes, IsBytes-prop}
use mathlib.Core.HLevel.{is_prop→PathP}

all_from_index : (bytes : List ℕ) → ((k : ℕ) → get_or bytes k 0 < 256) → AllByRecursion IsByte bytes
all_from_index [] below = tt
all_from_index (b ∷ bytes) below = (below 0, all_from_index bytes (λ k. below (suc k)))

-- an array of bytes
pub is_bytes : (size : ℕ) (bytes : List ℕ) → length bytes ≡ size → ((k : ℕ) → get_or bytes k 0 < 256) → IsBytes size bytes
is_bytes size bytes long below = (long, all_from_index bytes below)

-- fronts of one length are one
pub same_front : (front other rest left : List ℕ) → length front ≡ length other → front ++ rest ≡ other ++ left → front ≡ other
same_front [] [] rest left long e = refl
same_front [] (y ∷ other) rest left long e = absurd (omega arith)
same_front (x ∷ front) [] rest left long e = absurd (omega arith)
same_front (x ∷ front) (y ∷ other) rest left long e =
    let heads : x ≡ y = cc in
    let tails : front ≡ other = same_front front other rest left (omega arith) (cons_tail x y (front ++ rest) (other ++ left) e) in
    cc
  where
    cons_tail : (x y : ℕ) (xs ys : List ℕ) → x ∷ xs ≡ y ∷ ys → xs ≡ ys
    cons_tail x y xs ys e = cc

pub bytes_unambiguous : (size : ℕ) → IsUnambiguous (IsBytes size)
bytes_unambiguous size front other rest left f o e = same_front front other rest left (f.0 ∙ sym o.0) e

-- fewer bytes begin with none of them
pub short_bytes : (size : ℕ) (bytes : List ℕ) → length bytes < size → HasNoFront (IsBytes size) bytes
short_bytes size bytes short front rest is e = omega (arith, is.0, ap length e, length-append front rest)

-- two proofs that equal bytes are so many are one
pub same_proof : (size : ℕ) (bytes other : List ℕ) (e : bytes ≡ other) (p : IsBytes size bytes) (q : IsBytes size other) → PathP (λ i. IsBytes size (e i)) p q
same_proof size bytes other e p q = is_prop→PathP (λ i. IsBytes size (e i)) (λ i. IsBytes-prop size (e i)) p q

-- a copy of the first bytes, and what is left after them
pub takes_bytes : (size : ℕ) (bytes old new : List ℕ) → IsBytes size bytes → bytes ≡ take size old → new ≡ drop size old → Takes (IsBytes size) bytes old new
takes_bytes size bytes old new is front rest =
    record { in_grammar = is; taken = sym (take-append-drop size old) ∙ ap (λ xs. xs ++ drop size old) (sym front) ∙ ap (λ xs. bytes ++ xs) (sym rest) }

pub below_from_all : (bytes : List ℕ) → AllByRecursion IsByte bytes → (k : ℕ) → get_or bytes k 0 < 256
below_from_all [] all k = omega arith
below_from_all (b ∷ bytes) all zero = all.0
below_from_all (b ∷ bytes) all (suc k) = below_from_all bytes all.1 k

same_taken : (InGrammar : List ℕ → Type 0) (bytes other old new : List ℕ) → other ≡ bytes → Takes InGrammar bytes old new → Takes InGrammar other old new
same_taken InGrammar bytes other old new e t = rw e t

pub takes_be_8 : (n : ℕ) (bytes old new : List ℕ) → n ≡ from_be_bytes w64 bytes → Takes (IsBytes 8) bytes old new → Takes (IsBytes 8) (to_be_bytes w64 n) old new
takes_be_8 n bytes old new e t = same_taken (IsBytes 8) bytes _ old new (be_bytes_8 bytes n t.in_grammar.0 (below_from_all bytes t.in_grammar.1) e) t

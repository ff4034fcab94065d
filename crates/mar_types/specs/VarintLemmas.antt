-- Varints: what each begins with, and what none begins with.
use Rattle.std.proofs.Common.{List, [], ap, arith, inl, inr, length, refl, suc, sym, zero, ℕ, ◌%◌, ◌*◌, ◌++◌, ◌+◌, ◌/◌, ◌<◌, ◌^◌, ◌∙◌, ◌∷◌, ◌≡◌, ◌≤◌}
use Rattle.std.proofs.lemmas.Bool.{cases_lt, le-ltb, lt-ltb}
use Rattle.std.proofs.Math.Nat.{pow-succ'}
use Rattle.mar_types.specs.Codec.{HasNoFront, IsUnambiguous}
use Rattle.mar_types.specs.Varint.{IsBadVarint, IsContinued, IsCutVarint, IsNumber, IsVarint, varint, varint_within}

-- a number below 128 is its own spelling
pub varint_within-small : (k n : ℕ) → n < 128 → varint_within k n ≡ n ∷ []
unfolding varint_within
varint_within-small zero n h = refl
varint_within-small (suc k) n h = rw lt-ltb refl

-- another one begins with its low seven bits and the top bit
pub varint_within-large : (k n : ℕ) → 128 ≤ n → varint_within (suc k) n ≡ (n % 128 + 128) ∷ varint_within k (n / 128)
unfolding varint_within
varint_within-large k n h = rw le-ltb refl

below_part : (n p : ℕ) → n < 128 * p → n / 128 < p
below_part n p h = omega arith

great_part : (n p : ℕ) → n < 2 * (128 * p) → n / 128 < 2 * p
great_part n p h = omega arith

-- more bytes than are needed change nothing
pub varint_within-more : (k n : ℕ) → n < 128 ^ suc k → varint_within (suc k) n ≡ varint_within k n
varint_within-more zero n h = varint_within-small 1 n (rw pow-succ' at h) ∙ sym (varint_within-small 0 n (rw pow-succ' at h))
varint_within-more (suc k) n h = elim (cases_lt n 128) [
  | inl small ↦ varint_within-small (suc (suc k)) n small ∙ sym (varint_within-small (suc k) n small)
  | inr large ↦ varint_within-large (suc k) n large
      ∙ ap (λ rest. (n % 128 + 128) ∷ rest) (varint_within-more k (n / 128) (below_part n _ (rw pow-succ' at h)))
      ∙ sym (varint_within-large k n large)
]

-- a number that fits in one byte is that byte
pub varint-small : (n : ℕ) → n < 128 → varint n ≡ n ∷ []
varint-small n h = varint_within-small 9 n h

-- a greater one is its low seven bits with the top bit, and then the rest of it
pub varint-large : (n : ℕ) → 128 ≤ n → IsNumber n → varint n ≡ (n % 128 + 128) ∷ varint (n / 128)
varint-large n large fits =
    varint_within-large 8 n large
    ∙ ap (λ rest. (n % 128 + 128) ∷ rest) (sym (varint_within-more 8 (n / 128) (omega arith)))

varint_within-last : (n : ℕ) → varint_within 0 n ≡ n ∷ []
unfolding varint_within
varint_within-last n = refl

-- a varint is at most ten bytes
length-varint_within : (k n : ℕ) → length (varint_within k n) ≤ k + 1
length-varint_within zero n = rw (varint_within-last n) (omega arith)
length-varint_within (suc k) n = elim (cases_lt n 128) [
  | inl small ↦ rw (varint_within-small (suc k) n small) (omega arith)
  | inr large ↦ rw (varint_within-large k n large) (omega (arith, length-varint_within k (n / 128)))
]

pub length-varint : (n : ℕ) → length (varint n) ≤ 10
length-varint n = length-varint_within 9 n

head_is : (x y : ℕ) (xs ys : List ℕ) → x ∷ xs ≡ y ∷ ys → x ≡ y
head_is x y xs ys e = cc

tail_is : (x y : ℕ) (xs ys : List ℕ) → x ∷ xs ≡ y ∷ ys → xs ≡ ys
tail_is x y xs ys e = cc

-- bytes that begin with the spellings of two numbers: they are one number
same_front : (k m n : ℕ) (rest left : List ℕ) → varint_within k m ++ rest ≡ varint_within k n ++ left → m ≡ n
same_front zero m n rest left e = head_is _ _ _ _ (rw (varint_within-last m, varint_within-last n) at e)
same_front (suc k) m n rest left e = elim (cases_lt m 128) [
  | inl m_small ↦ elim (cases_lt n 128) [
    | inl n_small ↦ head_is _ _ _ _ (rw (varint_within-small (suc k) m m_small, varint_within-small (suc k) n n_small) at e)
    | inr n_large ↦ let h : m ≡ n % 128 + 128 = head_is _ _ _ _ (rw (varint_within-small (suc k) m m_small, varint_within-large k n n_large) at e) in absurd (omega arith)
  ]
  | inr m_large ↦ elim (cases_lt n 128) [
    | inl n_small ↦ let h : m % 128 + 128 ≡ n = head_is _ _ _ _ (rw (varint_within-large k m m_large, varint_within-small (suc k) n n_small) at e) in absurd (omega arith)
    | inr n_large ↦
        let is = rw (varint_within-large k m m_large, varint_within-large k n n_large) at e in
        let low : m % 128 + 128 ≡ n % 128 + 128 = head_is _ _ _ _ is in
        let high : m / 128 ≡ n / 128 = same_front k (m / 128) (n / 128) rest left (tail_is _ _ _ _ is) in
        omega arith
  ]
]

-- no spelling of a number begins that of another
pub varint_front : (m n : ℕ) (rest left : List ℕ) → varint m ++ rest ≡ varint n ++ left → m ≡ n
varint_front m n rest left e = same_front 9 m n rest left e

pub varint-injective : (m n : ℕ) → varint m ≡ varint n → m ≡ n
varint-injective m n e = varint_front m n [] [] (ap (λ bytes. bytes ++ []) e)

pub varint_unambiguous : IsUnambiguous IsVarint
varint_unambiguous front other rest left f o e =
    let n : f.number ≡ o.number = varint_front f.number o.number rest left (rw (f.spelled, o.spelled) at e) in
    f.spelled ∙ ap varint n ∙ sym o.spelled

-- bytes that all have the top bit begin with no varint
cut_front : (k n : ℕ) (bytes rest : List ℕ) → IsContinued bytes → bytes ≡ varint_within k n ++ rest → n < 128 ^ suc k → ⊥
cut_front zero n [] rest c e h = let is : [] ≡ n ∷ rest = rw (varint_within-last n) at e in cc
cut_front zero n (b ∷ bytes) rest c e h = let is : b ≡ n = head_is _ _ _ _ (rw (varint_within-last n) at e) in let small : n < 128 = rw pow-succ' at h in omega (arith, c.0)
cut_front (suc k) n [] rest c e h = elim (cases_lt n 128) [
  | inl small ↦ let is : [] ≡ n ∷ rest = rw (varint_within-small (suc k) n small) at e in cc
  | inr large ↦ let is : [] ≡ (n % 128 + 128) ∷ (varint_within k (n / 128) ++ rest) = rw (varint_within-large k n large) at e in cc
]
cut_front (suc k) n (b ∷ bytes) rest c e h = elim (cases_lt n 128) [
  | inl small ↦ let is : b ≡ n = head_is _ _ _ _ (rw (varint_within-small (suc k) n small) at e) in omega (arith, c.0)
  | inr large ↦ cut_front k (n / 128) bytes rest c.1 (tail_is _ _ _ _ (rw (varint_within-large k n large) at e)) (below_part n _ (rw pow-succ' at h))
]

-- a byte 00 after others ends no varint
padded_front : (k n : ℕ) (high after rest : List ℕ) → IsContinued high → high ++ 0 ∷ after ≡ varint_within k n ++ rest → (length high ≡ 0 → 0 < n) → n < 128 ^ suc k → ⊥
padded_front zero n [] after rest c e p h = let is : 0 ≡ n = head_is _ _ _ _ (rw (varint_within-last n) at e) in let positive : 0 < n = p refl in omega arith
padded_front zero n (b ∷ high) after rest c e p h = let is : b ≡ n = head_is _ _ _ _ (rw (varint_within-last n) at e) in let small : n < 128 = rw pow-succ' at h in omega (arith, c.0)
padded_front (suc k) n [] after rest c e p h = let positive : 0 < n = p refl in elim (cases_lt n 128) [
  | inl small ↦ let is : 0 ≡ n = head_is _ _ _ _ (rw (varint_within-small (suc k) n small) at e) in omega arith
  | inr large ↦ let is : 0 ≡ n % 128 + 128 = head_is _ _ _ _ (rw (varint_within-large k n large) at e) in omega arith
]
padded_front (suc k) n (b ∷ high) after rest c e p h = elim (cases_lt n 128) [
  | inl small ↦ let is : b ≡ n = head_is _ _ _ _ (rw (varint_within-small (suc k) n small) at e) in omega (arith, c.0)
  | inr large ↦ padded_front k (n / 128) high after rest c.1 (tail_is _ _ _ _ (rw (varint_within-large k n large) at e)) (λ _. omega arith) (below_part n _ (rw pow-succ' at h))
]

-- a last byte above 1 is above what the greatest number has there
great_front : (k n last : ℕ) (high after rest : List ℕ) → IsContinued high → length high ≡ k → 1 < last → high ++ last ∷ after ≡ varint_within k n ++ rest → n < 2 * 128 ^ k → ⊥
great_front zero n last [] after rest c l g e h = let is : last ≡ n = head_is _ _ _ _ (rw (varint_within-last n) at e) in omega arith
great_front zero n last (b ∷ high) after rest c l g e h = omega arith
great_front (suc k) n last [] after rest c l g e h = omega arith
great_front (suc k) n last (b ∷ high) after rest c l g e h = elim (cases_lt n 128) [
  | inl small ↦ let is : b ≡ n = head_is _ _ _ _ (rw (varint_within-small (suc k) n small) at e) in omega (arith, c.0)
  | inr large ↦ great_front k (n / 128) last high after rest c.1 (omega arith) g (tail_is _ _ _ _ (rw (varint_within-large k n large) at e)) (great_part n _ (rw pow-succ' at h))
]

pub no_cut_varint : (bytes : List ℕ) → IsCutVarint bytes → HasNoFront IsVarint bytes
no_cut_varint bytes cut front rest is e =
    cut_front 9 is.number bytes rest cut.continued (rw is.spelled at e) (omega (arith, is.fits))

pub no_bad_varint : (bytes : List ℕ) → IsBadVarint bytes → HasNoFront IsVarint bytes
no_bad_varint bytes bad front rest is e =
    let joined = sym bad.spelled ∙ rw is.spelled at e in
    elim bad.bad [
      | inl zeroed ↦ padded_front 9 is.number bad.high bad.rest rest bad.continued (rw zeroed.0 at joined) (λ none. absurd (omega (arith, zeroed.1))) (omega (arith, is.fits))
      | inr above ↦ great_front 9 is.number bad.last bad.high bad.rest rest bad.continued above.1 above.0 joined (omega (arith, is.fits))
    ]

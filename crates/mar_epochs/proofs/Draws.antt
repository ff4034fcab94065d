-- A loop over logged entries that draws them one by one.
use Rattle.std.proofs.Common.{◌≡◌, ◌≤◌, ◌<◌, ◌+◌, ◌∙◌, ℕ, zero, suc, List, [], ◌∷◌, refl, sym, ap, ap₂, get_or, length, map, set, add-one, arith}
use Rattle.std.proofs.Math.ListN.{get_or-map}
use Rattle.std.proofs.lemmas.List.{length-map, map-set}
use Rattle.mar_epochs.specs.EntryLogs.{Logged, count_next, drawn, with_draw}
use Rattle.mar_model.specs.declared.Section.{Section}

-- the first so many drawn, and the bit of the next
abbrev pub drawn_front : Section → ℕ → ℕ → ℕ → List Logged → List Logged
drawn_front s half zero k fs = fs
drawn_front s half (suc i) k [] = []
drawn_front s half (suc i) k (f ∷ fs) = with_draw s half k f ∷ drawn_front s half i (count_next s k f) fs

abbrev pub bit_at : Section → ℕ → ℕ → List Logged → ℕ
bit_at s zero k fs = k
bit_at s (suc i) k [] = k
bit_at s (suc i) k (f ∷ fs) = bit_at s i (count_next s k f) fs

front_at : (s : Section) (half i k : ℕ) (fs : List Logged) (d : Logged) → get_or (drawn_front s half i k fs) i d ≡ get_or fs i d
front_at s half zero k fs d = refl
front_at s half (suc i) k [] d = refl
front_at s half (suc i) k (f ∷ fs) d = front_at s half i (count_next s k f) fs d

front_next : (s : Section) (half i k : ℕ) (fs : List Logged) (d : Logged) → i < length fs → set (drawn_front s half i k fs) i (with_draw s half (bit_at s i k fs) (get_or fs i d)) ≡ drawn_front s half (suc i) k fs
front_next s half i k [] d h = absurd (omega arith)
front_next s half zero k (f ∷ fs) d h = refl
front_next s half (suc i) k (f ∷ fs) d h = ap (λ ys. with_draw s half k f ∷ ys) (front_next s half i (count_next s k f) fs d (omega arith))

bit_next : (s : Section) (i k : ℕ) (fs : List Logged) (d : Logged) → i < length fs → bit_at s (suc i) k fs ≡ count_next s (bit_at s i k fs) (get_or fs i d)
bit_next s i k [] d h = absurd (omega arith)
bit_next s zero k (f ∷ fs) d h = refl
bit_next s (suc i) k (f ∷ fs) d h = bit_next s i (count_next s k f) fs d (omega arith)

front_all : (s : Section) (half i k : ℕ) (fs : List Logged) → length fs ≤ i → drawn_front s half i k fs ≡ drawn s half k fs
front_all s half zero k [] h = refl
front_all s half zero k (f ∷ fs) h = absurd (omega arith)
front_all s half (suc i) k [] h = refl
front_all s half (suc i) k (f ∷ fs) h = ap (λ ys. with_draw s half k f ∷ ys) (front_all s half i (count_next s k f) fs (omega arith))

-- a loop over `ys`, of which the first `i` are drawn
module _ {A : Type 0} (f : A → Logged) (s : Section) (half i bit : ℕ) (xs ys : List A) (d : A) (so_far : map f ys ≡ drawn_front s half i 0 (map f xs)) (bit_is : bit ≡ bit_at s i 0 (map f xs)) (below : i < length xs) where
  here : f (get_or ys i d) ≡ get_or (map f xs) i (f d)
  here = sym (get_or-map f ys i d) ∙ ap (λ zs. get_or zs i (f d)) so_far ∙ front_at s half i 0 (map f xs) (f d)

  below_map : i < length (map f xs)
  below_map = omega (arith, below, length-map xs f)

  pub draw_written : (new : A) → f new ≡ with_draw s half bit (f (get_or ys i d)) → map f (set ys i new) ≡ drawn_front s half (i + 1) 0 (map f xs)
  draw_written new written =
      map-set f ys i new
      ∙ ap (λ zs. set zs i (f new)) so_far
      ∙ ap (λ x. set (drawn_front s half i 0 (map f xs)) i x) (written ∙ ap₂ (λ b x. with_draw s half b x) bit_is here)
      ∙ front_next s half i 0 (map f xs) (f d) below_map
      ∙ ap (λ k. drawn_front s half k 0 (map f xs)) (sym (add-one i))

  pub bit_written : (next : ℕ) → next ≡ count_next s bit (f (get_or ys i d)) → next ≡ bit_at s (i + 1) 0 (map f xs)
  bit_written next is = is ∙ ap₂ (λ b x. count_next s b x) bit_is here ∙ sym (bit_next s i 0 (map f xs) (f d) below_map) ∙ ap (λ k. bit_at s k 0 (map f xs)) (sym (add-one i))

pub draws_written : {A : Type 0} (f : A → Logged) (s : Section) (half i : ℕ) (xs ys : List A) → map f ys ≡ drawn_front s half i 0 (map f xs) → length xs ≤ i → map f ys ≡ drawn s half 0 (map f xs)
draws_written f s half i xs ys so_far over = so_far ∙ front_all s half i 0 (map f xs) (omega (arith, over, length-map xs f))

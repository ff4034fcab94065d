-- What an application has of one report more.
use Rattle.std.proofs.Common.{Bool, List, None, Option, Some, [], ap, arith, drop, false, length, length-append, map, refl, subst, suc, sym, true, zero, ℕ, ◌++◌, ◌==◌, ◌∙◌, ◌∷◌, ◌≡◌, ◌≤◌}
use Rattle.std.specs.Option.{option_or}
use Rattle.std.specs.Prelude.{if◌then◌else◌, option_map}
use Rattle.std.proofs.lemmas.List.{length-map}
use Rattle.mar_cert.specs.Block.{Block}
use Rattle.mar_types.specs.Round.{Round}
use Rattle.mar_model.specs.Step.{Report, handed_over, new_tip}
use Rattle.mar_actor.specs.declared.Exact.{Exact}
use Rattle.mar_mocks.specs.Applied.{last_block, last_tip}
use Rattle.mar_mocks.specs.AppliedViews.{owed_of}

pub tip_told : (reports : List Report) (round : Round) (height : ℕ) (digest : List ℕ)
    → last_tip (reports ++ new_tip round height digest ∷ []) ≡ Some (record { height = height; digest = digest })
tip_told [] round height digest = refl
tip_told (new_tip r h d ∷ reports) round height digest = rw (tip_told reports round height digest) refl
tip_told (handed_over t b ∷ reports) round height digest = tip_told reports round height digest

pub tip_stays : (reports : List Report) (ticket : ℕ) (b : Block) → last_tip (reports ++ handed_over ticket b ∷ []) ≡ last_tip reports
tip_stays [] ticket b = refl
tip_stays (new_tip r h d ∷ reports) ticket b = rw (tip_stays reports ticket b) refl
tip_stays (handed_over t c ∷ reports) ticket b = tip_stays reports ticket b

pub blocks_stay : (height : ℕ) (reports : List Report) (round : Round) (h : ℕ) (digest : List ℕ)
    → last_block height (reports ++ new_tip round h digest ∷ []) ≡ last_block height reports
blocks_stay height [] round h digest = refl
blocks_stay height (new_tip r k d ∷ reports) round h digest = blocks_stay height reports round h digest
blocks_stay height (handed_over t b ∷ reports) round h digest = rw (blocks_stay height reports round h digest) refl

block_told : (height : ℕ) (reports : List Report) (ticket : ℕ) (b : Block)
    → last_block height (reports ++ handed_over ticket b ∷ []) ≡ (if b.height == height then Some b else last_block height reports)
block_told height [] ticket b = refl
block_told height (new_tip r h d ∷ reports) ticket b = block_told height reports ticket b
block_told height (handed_over t c ∷ reports) ticket b = rw (block_told height reports ticket b) (by_test (b.height == height))
  where
    by_test : (is : Bool) → option_or (if is then Some b else last_block height reports) (if c.height == height then Some c else None)
        ≡ (if is then Some b else option_or (last_block height reports) (if c.height == height then Some c else None))
    by_test true = refl
    by_test false = refl

-- a block that was put at its height, and no other changed, is the last one told there
pub blocks_told : {V : Type 0} (plain : V → Block) (old new : ℕ → Option V) (reports : List Report) (ticket : ℕ) (b : Block)
    → option_map plain (new b.height) ≡ Some b → ((h : ℕ) → (b.height == h) ≡ false → new h ≡ old h)
    → ((h : ℕ) → option_map plain (old h) ≡ last_block h reports)
    → (h : ℕ) → option_map plain (new h) ≡ last_block h (reports ++ handed_over ticket b ∷ [])
blocks_told plain old new reports ticket b at others before h = by_test (b.height == h) refl
  where
    by_test : (is : Bool) → (b.height == h) ≡ is → option_map plain (new h) ≡ last_block h (reports ++ handed_over ticket b ∷ [])
    by_test true is = let same : b.height ≡ h = grind (arith, is) in
        subst (λ k. option_map plain (new k) ≡ Some b) same at ∙ sym (block_told h reports ticket b ∙ rw is refl)
    by_test false is = rw (others h is) (before h ∙ sym (block_told h reports ticket b ∙ rw is refl))

-- the heights from a place on
pub heights_behind : (n : ℕ) (owed : List (ℕ × Exact)) → map (λ o. o.0) (drop n owed) ≡ map (λ o. o.height) (drop n (map owed_of owed))
heights_behind zero [] = refl
heights_behind zero (o ∷ owed) = ap (λ heights. o.0 ∷ heights) (heights_behind zero owed)
heights_behind (suc n) [] = refl
heights_behind (suc n) (o ∷ owed) = heights_behind n owed

-- as many as are owed are given at most, before and after more are owed
pub given_within : {A B : Type 0} (f : A → B) (xs ys : List A) (more : List B) (at_once : Bool) (given count result : ℕ)
    → map f ys ≡ map f xs ++ more → given ≤ length xs → count ≡ length ys → result ≡ (if at_once then count else given) → result ≤ length ys
given_within f xs ys more at_once given count result are within counted is = by_test at_once is
  where
    longer : length xs ≤ length ys
    longer = omega (arith, ap length are, length-map xs f, length-map ys f, length-append (map f xs) more)

    by_test : (b : Bool) → result ≡ (if b then count else given) → result ≤ length ys
    by_test true is = omega (arith, is, counted)
    by_test false is = omega (arith, is, within, longer)

-- Whether a filter keeps anything, and what it keeps of one more.
use Rattle.std.proofs.Common.{Bool, List, [], arith, cond, false, get_or, length, refl, take, true, ℕ, ◌++◌, ◌+◌, ◌<◌, ◌||◌, ◌∷◌, ◌≡◌}
use Rattle.std.proofs.lemmas.Bool.Decides.{nat_tests}
use Rattle.std.proofs.lemmas.List.Elements.{filter_more}
use Rattle.std.specs.List.{list_any}
use Rattle.std.specs.Prelude.{filter, nat_lt}

pub any_kept : {X : Type 0} (p : X → Bool) (xs : List X) → list_any p xs ≡ nat_lt 0 (length (filter p xs))
any_kept p [] = refl
any_kept p (x ∷ xs) =
    elim (p x) as (λ b. (b || list_any p xs) ≡ nat_lt 0 (length (cond b (x ∷ filter p xs) (filter p xs)))) [
      | true ↦ grind (arith, nat_tests)
      | false ↦ any_kept p xs
    ]

-- a step of a loop that keeps what passes the test
pub kept_next : {X : Type 0} (p : X → Bool) (xs : List X) (i : ℕ) (d : X) (old new : List X) (b : Bool) → i < length xs → d ≡ get_or xs i d → b ≡ p d → old ≡ filter p (take i xs) → new ≡ old ++ cond b (d ∷ []) [] → new ≡ filter p (take (i + 1) xs)
kept_next p xs i d old new b below here test so_far next = rw (filter_more p xs i d below, ← here, ← test, ← so_far) next

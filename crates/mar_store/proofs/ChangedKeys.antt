-- How many keys a metadata store has changed, one key more.
use Rattle.std.proofs.Common.{◌≤◌, ◌+◌, ℕ, List, [], ◌∷◌, ◌++◌, true, false, cond, arith, length}
use Rattle.std.specs.Prelude.{not, ◌==◌}
use Rattle.std.specs.List.{list_any}
use Rattle.std.proofs.lemmas.List.{length-append}
use Rattle.mar_store.specs.Values.{others_of, with_key}

pub fewer_others : (key : ℕ) (keys : List ℕ) → length (others_of key keys) ≤ length keys
fewer_others key [] = omega arith
fewer_others key (k ∷ ks) =
    let less = fewer_others key ks in
    elim (not (k == key)) as (λ b. length (cond b (k ∷ others_of key ks) (others_of key ks)) ≤ length (k ∷ ks)) [ true ↦ omega (arith, less) | false ↦ omega (arith, less) ]

pub one_key_more : (key : ℕ) (keys : List ℕ) → length (with_key key keys) ≤ length keys + 1
one_key_more key keys =
    let more = length-append keys (key ∷ []) in
    elim (list_any (λ k. k == key) keys) as (λ b. length (cond b keys (keys ++ key ∷ [])) ≤ length keys + 1) [ true ↦ omega arith | false ↦ omega (arith, more) ]

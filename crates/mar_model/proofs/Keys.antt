-- The three keys of a stream: where some of them were changed there is room for one more.
use Rattle.std.proofs.Common.{◌≡◌, ◌≤◌, ◌<◌, ◌+◌, ◌||◌, ℕ, List, [], ◌∷◌, ◌++◌, Bool, true, false, cond, refl, arith, length}
use Rattle.std.specs.Prelude.{◌==◌}
use Rattle.std.specs.List.{list_any}
use Rattle.std.proofs.lemmas.Bool.{eq-eqb}
use Rattle.std.proofs.lemmas.List.{length-append}
use Rattle.std.proofs.lemmas.List.Folds.{list_any-append}
use Rattle.mar_store.specs.Values.{others_of, with_key}
use Rattle.mar_store.proofs.ChangedKeys.{fewer_others}
use Rattle.mar_model.specs.Metadata.{AreKeys, count_of_key}

at_most_one : (key : ℕ) (keys : List ℕ) → count_of_key key keys ≤ 1
at_most_one key keys = elim (list_any (λ k. k == key) keys) as (λ b. cond b 1 0 ≤ 1) [ true ↦ omega arith | false ↦ omega arith ]

pub room_for : (key : ℕ) (keys : List ℕ) → AreKeys keys → length (others_of key keys) < 2048
room_for key keys are = omega (arith, fewer_others key keys, are, at_most_one 0xFF keys, at_most_one 0xFE keys, at_most_one 0xFD keys)

grown : (key other : ℕ) (keys : List ℕ) → count_of_key key keys ≤ count_of_key key (keys ++ other ∷ [])
grown key other keys = rw (list_any-append (λ k. k == key) keys (other ∷ [])) (by (list_any (λ k. k == key) keys) (other == key || false))
  where
    by : (a b : Bool) → cond a 1 0 ≤ cond (a || b) 1 0
    by true b = omega arith
    by false true = omega arith
    by false false = omega arith

-- a key that was not among them is one more
added : (key : ℕ) (keys : List ℕ) → list_any (λ k. k == key) keys ≡ false → count_of_key key (keys ++ key ∷ []) ≡ count_of_key key keys + 1
added key keys none = rw (list_any-append (λ k. k == key) keys (key ∷ []), none, eq-eqb key key refl) refl

keys_with : (key : ℕ) (keys : List ℕ) (b : Bool) → list_any (λ k. k == key) keys ≡ b → (list_any (λ k. k == key) keys ≡ false → AreKeys (keys ++ key ∷ [])) → AreKeys keys → AreKeys (cond b keys (keys ++ key ∷ []))
keys_with key keys true is more are = are
keys_with key keys false is more are = more is

long : (key : ℕ) (keys : List ℕ) → length (keys ++ key ∷ []) ≡ length keys + 1
long key keys = length-append keys (key ∷ [])

pub epoch_changed : (keys : List ℕ) → AreKeys keys → AreKeys (with_key 0xFE keys)
epoch_changed keys are = keys_with 0xFE keys _ refl (λ none. omega (arith, are, long 0xFE keys, added 0xFE keys none, grown 0xFF 0xFE keys, grown 0xFD 0xFE keys)) are

-- What stands beside entries, one entry more.
use Rattle.std.proofs.Common.{◌≡◌, ◌∙◌, ◌<◌, ◌+◌, ℕ, List, [], ◌∷◌, ◌++◌, Bool, true, false, Option, Some, None, cond, sym, ap, map, take, length, get_or, arith, append-nil}
use Rattle.std.specs.Prelude.{if◌then◌else◌}
use Rattle.std.proofs.lemmas.List.{map_push, length-append}
use Rattle.mar_store.specs.Changes.{heights}
use Rattle.mar_types.specs.Places.{first_place, or_place}
use Rattle.mar_store.specs.Ranges.{Range, ranges, with_height}
use Rattle.mar_store.specs.RangeLemmas.{ranges_push}
use Rattle.mar_store.specs.Entries.{seen}
use Rattle.mar_store.specs.declared.entry.Entry.{Entry}
use Rattle.mar_store.specs.Choices.{chosen}
use Rattle.mar_store.proofs.Chosen.{chosen_step}
use Rattle.mar_types.specs.PlacesLemmas.{first_place_push}

ranges_one : {T : Type 0} (xs : List (Entry T)) (e : Entry T) (b : Bool) (old new : List Range) → old ≡ ranges (heights (map seen xs)) → new ≡ cond b (with_height e.index old) old → new ≡ ranges (heights (map seen (xs ++ cond b (e ∷ []) [])))
ranges_one xs e true old new was is = is ∙ (ap (with_height e.index) was ∙ (sym (ranges_push (heights (map seen xs)) e.index) ∙ ap ranges (sym (ap heights (map_push seen xs e) ∙ map_push (λ x. x.height) (map seen xs) (seen e)))))
ranges_one xs e false old new was is = is ∙ (was ∙ ap (λ ys. ranges (heights (map seen ys))) (sym (append-nil xs)))

count_one : {X : Type 0} (xs : List X) (x : X) (b : Bool) (old new : ℕ) → old ≡ length xs → new ≡ old + cond b 1 0 → new ≡ length (xs ++ cond b (x ∷ []) [])
count_one xs x true old new was is = rw length-append (is ∙ ap (λ n. n + 1) was)
count_one xs x false old new was is = rw (append-nil xs) (let more : new ≡ old = omega (arith, is) in more ∙ was)

place_one : {X : Type 0} (p : X → Bool) (xs : List X) (x : X) (b test : Bool) (place : ℕ) (old new : Option ℕ) → old ≡ first_place p xs → place ≡ length xs → test ≡ p x
    → new ≡ cond b (or_place old (if test then Some place else None)) old → new ≡ first_place p (xs ++ cond b (x ∷ []) [])
place_one p xs x true test place old new was at tests is = rw (first_place_push p xs x, ← was, ← at, ← tests) is
place_one p xs x false test place old new was at tests is = is ∙ (was ∙ ap (first_place p) (sym (append-nil xs)))

pub ranges_step : {T : Type 0} (p : ℕ → Entry T → Bool) (xs : List (Entry T)) (i : ℕ) (d e : Entry T) (b : Bool) (old new : List Range) → i < length xs → e ≡ get_or xs i d → b ≡ p i e → old ≡ ranges (heights (map seen (chosen p 0 (take i xs))))
    → new ≡ cond b (with_height e.index old) old → new ≡ ranges (heights (map seen (chosen p 0 (take (i + 1) xs))))
ranges_step p xs i d e b old new lt at tells was is = rw (chosen_step p xs i d e lt at, ← tells) (ranges_one (chosen p 0 (take i xs)) e b old new was is)

pub count_step : {T : Type 0} (p : ℕ → Entry T → Bool) (xs : List (Entry T)) (i : ℕ) (d e : Entry T) (b : Bool) (old new : ℕ) → i < length xs → e ≡ get_or xs i d → b ≡ p i e → old ≡ length (chosen p 0 (take i xs)) → new ≡ old + cond b 1 0
    → new ≡ length (chosen p 0 (take (i + 1) xs))
count_step p xs i d e b old new lt at tells was is = rw (chosen_step p xs i d e lt at, ← tells) (count_one (chosen p 0 (take i xs)) e b old new was is)

pub place_step : {T : Type 0} (p : ℕ → Entry T → Bool) (q : Entry T → Bool) (xs : List (Entry T)) (i : ℕ) (d e : Entry T) (b test : Bool) (place : ℕ) (old new : Option ℕ) → i < length xs → e ≡ get_or xs i d → b ≡ p i e → old ≡ first_place q (chosen p 0 (take i xs))
    → place ≡ length (chosen p 0 (take i xs)) → test ≡ q e → new ≡ cond b (or_place old (if test then Some place else None)) old → new ≡ first_place q (chosen p 0 (take (i + 1) xs))
place_step p q xs i d e b test place old new lt at tells was here tests is = rw (chosen_step p xs i d e lt at, ← tells) (place_one q (chosen p 0 (take i xs)) e b test place old new was here tests is)

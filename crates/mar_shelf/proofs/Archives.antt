-- What the calls of a store over an archive rest on.
use Rattle.std.proofs.Common.{◌≡◌, ℕ, List, [], ◌∷◌, true, false, cond, Option, Some, refl, ap, ◌∙◌, sym, is_some, Result, Ok, Err, IfOk, ◌||◌}
use Rattle.std.specs.Prelude.{MatchResult, bytes_eq, option_map}
use Rattle.std.specs.List.{list_any}
use Rattle.std.specs.Result.{result_map_both}
use Rattle.std.proofs.lemmas.List.Elements.{Contains-append_left}
use Rattle.mar_store.specs.Changes.{Fails, Left, Puts, left_of}
use Rattle.mar_store.specs.Kept.{At, Kept, has_height}
use Rattle.mar_store.specs.Lost.{wreck_of}
use Rattle.mar_store.specs.Named.{is_taken, value_named}
use Rattle.mar_store.specs.declared.Lost.{Lost}
use Rattle.mar_cert.specs.Block.{Block}
use Rattle.mar_cert.specs.Finalization.{Finalization}
use Rattle.mar_model.specs.Stored.{at_own_height, is_certified, is_held}

-- what a put of a copy of a block puts
pub puts_block : {S W : Type 0} (stored : S → Kept (At Block)) (left : W → Left (At Block)) (old : Kept (At Block)) (b item : Block) (h : ℕ) (r : Result S (Lost W)) → item ≡ b → h ≡ b.height
    → MatchResult r (λ s. Puts (is_taken (λ x. x.digest) old.held (record { height = h; value = item })) old (record { height = h; value = item }) (stored s)) (λ l. Fails (left_of old) (record { height = h; value = item } ∷ []) (left (wreck_of l)))
    → MatchResult r (λ s. Puts (is_held old.held b) old (at_own_height b) (stored s)) (λ l. Fails (left_of old) (at_own_height b ∷ []) (left (wreck_of l)))
puts_block stored left old b item h r is at puts = rw (is, at) at puts

named_any : (inner : List ℕ → List ℕ) (d : List ℕ) (xs : List (At Finalization)) → is_some (value_named (λ f. inner f.payload) xs d) ≡ list_any (λ x. bytes_eq (inner x.value.payload) d) xs
named_any inner d [] = refl
named_any inner d (x ∷ xs) =
    elim (bytes_eq (inner x.value.payload) d) as (λ b. is_some (cond b (Some x.value) (value_named (λ f. inner f.payload) xs d)) ≡ (b || list_any (λ y. bytes_eq (inner y.value.payload) d) xs))
    [ true ↦ refl | false ↦ named_any inner d xs ]

taken_certified : (inner : List ℕ → List ℕ) (xs : List (At Finalization)) (h : ℕ) (f : Finalization) (d : List ℕ) → d ≡ inner f.payload → is_taken (λ g. inner g.payload) xs (record { height = h; value = f }) ≡ is_certified inner xs h d
taken_certified inner xs h f d is = ap (λ b. has_height xs h || b) (named_any inner (inner f.payload) xs ∙ ap (λ e. list_any (λ x. bytes_eq (inner x.value.payload) e) xs) (sym is))

-- what a put of a copy of a finalization puts
pub puts_finalization : {S W : Type 0} (inner : List ℕ → List ℕ) (stored : S → Kept (At Finalization)) (left : W → Left (At Finalization)) (old : Kept (At Finalization)) (f item : Finalization) (h : ℕ) (d : List ℕ) (r : Result S (Lost W)) → item ≡ f → d ≡ inner f.payload
    → MatchResult r (λ s. Puts (is_taken (λ g. inner g.payload) old.held (record { height = h; value = item })) old (record { height = h; value = item }) (stored s)) (λ l. Fails (left_of old) (record { height = h; value = item } ∷ []) (left (wreck_of l)))
    → MatchResult r (λ s. Puts (is_certified inner old.held h d) old (record { height = h; value = f }) (stored s)) (λ l. Fails (left_of old) (record { height = h; value = f } ∷ []) (left (wreck_of l)))
puts_finalization inner stored left old f item h d r is under puts = rw (← taken_certified inner old.held h f d under) (rw is at puts)

-- what was found, seen as plain data
pub found_in : {B P E : Type 0} (plain : B → P) (result : Result (Option B) E) (found : Result (Option P) E) (value : Option P) → result_map_both (option_map plain) (λ e. e) result ≡ found → IfOk found (λ o. o ≡ value) → IfOk result (λ o. option_map plain o ≡ value)
found_in plain (Ok o) found value is has = rw (← is) at has
found_in plain (Err e) found value is has = tt

-- a store that is left as it was
pub fails_unchanged : {P : Type 0} (old left : Left (At P)) (more : List (At P)) → left ≡ old → Fails old more left
fails_unchanged old left more is = rw is (record { sure = refl; may_kept = λ x there. there; may = λ x there. Contains-append_left old.may more x there })

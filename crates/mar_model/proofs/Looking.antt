-- What a look-up finds passes its test, so it is of the kind that is looked for.
use Rattle.std.proofs.Common.{◌≡◌, ◌∙◌, ◌||◌, ◌&&◌, ◌==◌, ℕ, List, [], ◌∷◌, Bool, true, false, Option, Some, None, is_some, cond, refl, sym, ap}
use Rattle.std.specs.Prelude.{option_and_then, option_map}
use Rattle.std.specs.List.{list_any}
use Rattle.mar_types.specs.Round.{Round}
use Rattle.mar_cert.specs.Block.{Block}
use Rattle.mar_cert.specs.Finalization.{Finalization, Notarization}
use Rattle.mar_model.specs.AllEntries.{is_sooner, sooner_of, soonest}
use Rattle.mar_model.specs.Cached.{Cached, cached_block, certified_entry, epoch_of, finalization_entry, notarization_entry, notarized_entry, verified_entry}
use Rattle.mar_model.specs.Entries.{block_in, cached_of, finalization_in, is_for, is_notarization_at, is_verified_at, notarization_in}
use Rattle.mar_model.specs.declared.entry.Entry.{Entry}
use Rattle.mar_model.specs.declared.entry.Entry.TheVariants.{Certified, Finalization as OfFinalization, Notarization as OfNotarization, Notarized, Verified}

same_found : (p : Cached → Bool) (x y : Cached) → Some x ≡ Some y → p y ≡ true → p x ≡ true
same_found p x y is passes = ap (λ o. is_passing o) is ∙ passes
  where
    is_passing : Option Cached → Bool
    is_passing None = false
    is_passing (Some z) = p z

pub passes_found : (p : Cached → Bool) (xs : List Cached) (x : Cached) → Some x ≡ soonest p xs → p x ≡ true
passes_found p [] x is = absurd cc
passes_found p (y ∷ ys) x is = by (p y) refl (soonest p ys) (passes_found p ys) is
  where
    first : (c : Bool) (z : Cached) → p y ≡ true → p z ≡ true → Some x ≡ cond c (Some z) (Some y) → p x ≡ true
    first true z py pz e = same_found p x z e pz
    first false z py pz e = same_found p x y e py

    by : (b : Bool) → p y ≡ b → (o : Option Cached) → ((z : Cached) → Some z ≡ o → p z ≡ true) → Some x ≡ cond b (sooner_of y o) o → p x ≡ true
    by true py None rest e = same_found p x y e py
    by true py (Some z) rest e = first (is_sooner z y) z py (rest z refl) e
    by false py o rest e = rest x e

pub some_found : (p : Cached → Bool) (xs : List Cached) → is_some (soonest p xs) ≡ list_any p xs
some_found p [] = refl
some_found p (y ∷ ys) = by (p y) (some_found p ys)
  where
    one : (c : Bool) (z : Cached) → is_some (cond c (Some z) (Some y)) ≡ true
    one true z = refl
    one false z = refl

    first : (o : Option Cached) → is_some (sooner_of y o) ≡ true
    first None = refl
    first (Some z) = one (is_sooner z y) z

    by : (b : Bool) → is_some (soonest p ys) ≡ list_any p ys → is_some (cond b (sooner_of y (soonest p ys)) (soonest p ys)) ≡ (b || list_any p ys)
    by true rest = first (soonest p ys)
    by false rest = rest

-- tests that agree find the same
soonest_alike : (p q : Cached → Bool) (xs : List Cached) → ((x : Cached) → p x ≡ q x) → soonest p xs ≡ soonest q xs
soonest_alike p q [] same = refl
soonest_alike p q (x ∷ xs) same = ap (λ o. cond (p x) (sooner_of x o) o) (soonest_alike p q xs same) ∙ ap (λ c. cond c (sooner_of x (soonest q xs)) (soonest q xs)) (same x)

pub and_false : (a : Bool) → (a && false) ≡ false
and_false true = refl
and_false false = refl

and_again : (a b c : Bool) → (a && ((a && b) && c)) ≡ ((a && b) && c)
and_again true b c = refl
and_again false b c = refl

and_twice : (a b : Bool) → (a && (a && b)) ≡ (a && b)
and_twice true b = refl
and_twice false b = refl

-- a test of a round asks for its epoch too
at_notarization : (r : Round) (x : Cached) → (epoch_of x == r.epoch && is_notarization_at r x) ≡ is_notarization_at r x
at_notarization r (notarization_entry n) = and_twice (n.round.epoch == r.epoch) (n.round.view == r.view)
at_notarization r (finalization_entry f) = and_false (f.round.epoch == r.epoch)
at_notarization r (verified_entry s b) = and_false (s.epoch == r.epoch)
at_notarization r (notarized_entry s b) = and_false (s.epoch == r.epoch)
at_notarization r (certified_entry e b) = and_false (e == r.epoch)

at_verified : (r : Round) (passes : Cached → Bool) (x : Cached) → (epoch_of x == r.epoch && (is_verified_at r x && passes x)) ≡ (is_verified_at r x && passes x)
at_verified r passes (verified_entry s b) = and_again (s.epoch == r.epoch) (s.view == r.view) (passes (verified_entry s b))
at_verified r passes (notarization_entry n) = and_false (n.round.epoch == r.epoch)
at_verified r passes (finalization_entry f) = and_false (f.round.epoch == r.epoch)
at_verified r passes (notarized_entry s b) = and_false (s.epoch == r.epoch)
at_verified r passes (certified_entry e b) = and_false (e == r.epoch)

at_verified_alone : (r : Round) (x : Cached) → (epoch_of x == r.epoch && is_verified_at r x) ≡ is_verified_at r x
at_verified_alone r (verified_entry s b) = and_twice (s.epoch == r.epoch) (s.view == r.view)
at_verified_alone r (notarization_entry n) = and_false (n.round.epoch == r.epoch)
at_verified_alone r (finalization_entry f) = and_false (f.round.epoch == r.epoch)
at_verified_alone r (notarized_entry s b) = and_false (s.epoch == r.epoch)
at_verified_alone r (certified_entry e b) = and_false (e == r.epoch)

-- what was found in a round's epoch by a test of that round
in_round : (p : Cached → Bool) (r : Round) (e : ℕ) (xs : List Cached) → e ≡ r.epoch → ((x : Cached) → (epoch_of x == r.epoch && p x) ≡ p x) → soonest (λ y. epoch_of y == e && p y) xs ≡ soonest p xs
in_round p r e xs at same = ap (λ k. soonest (λ y. epoch_of y == k && p y) xs) at ∙ soonest_alike (λ y. epoch_of y == r.epoch && p y) p xs same

module _ {B N F : Type 0} (block : B → Block) (notarization : N → Notarization) (finalization : F → Finalization) (held : List Cached) where
  abbrev plain : Entry B N F → Cached
  plain = cached_of block notarization finalization

  pub has_found : (r : Round) (passes : Cached → Bool) (e : ℕ) (o : Option (Entry B N F)) (found : Bool) → e ≡ r.epoch → found ≡ is_some o → option_map plain o ≡ soonest (λ y. epoch_of y == e && (is_verified_at r y && passes y)) held → found ≡ list_any (λ x. is_verified_at r x && passes x) held
  has_found r passes e o found at tells is = tells ∙ mapped o ∙ ap is_some (is ∙ in_round (λ x. is_verified_at r x && passes x) r e held at (at_verified r passes)) ∙ some_found (λ x. is_verified_at r x && passes x) held
    where
      mapped : (o : Option (Entry B N F)) → is_some o ≡ is_some (option_map plain o)
      mapped None = refl
      mapped (Some e) = refl

  block_of : (e : Entry B N F) → option_map block (block_in e) ≡ option_and_then cached_block (Some (plain e))
  block_of (OfFinalization f) = refl
  block_of _ = refl

  -- what was found is this entry, in which that is
  pub block_found : (p : Cached → Bool) (found : Option (Entry B N F)) (x : Entry B N F) (o : Option B) → found ≡ Some x → o ≡ block_in x → option_map plain found ≡ soonest p held → option_map block o ≡ option_and_then cached_block (soonest p held)
  block_found p found x o was gives is = ap (option_map block) gives ∙ block_of x ∙ ap (option_and_then cached_block) (sym (ap (option_map plain) was) ∙ is)

  pub verified_found : (r : Round) (e : ℕ) (found : Option (Entry B N F)) (x : Entry B N F) (o : Option B) → e ≡ r.epoch → found ≡ Some x → o ≡ block_in x → option_map plain found ≡ soonest (λ y. epoch_of y == e && is_verified_at r y) held → option_map block o ≡ option_and_then cached_block (soonest (is_verified_at r) held)
  verified_found r e found x o at was gives is = block_found (is_verified_at r) found x o was gives (is ∙ in_round (is_verified_at r) r e held at (at_verified_alone r))

  notarization_of : (r : Round) (x : Entry B N F) → is_notarization_at r (plain x) ≡ true → option_map (λ n. notarization_entry (notarization n)) (notarization_in x) ≡ Some (plain x)
  notarization_of r (OfFinalization f) passes = absurd cc
  notarization_of r (Verified s b) passes = absurd cc
  notarization_of r (Notarized s b) passes = absurd cc
  notarization_of r (Certified k b) passes = absurd cc
  notarization_of r (OfNotarization n) passes = refl

  pub notarization_found : (r : Round) (e : ℕ) (found : Option (Entry B N F)) (x : Entry B N F) (o : Option N) → e ≡ r.epoch → found ≡ Some x → o ≡ notarization_in x → option_map plain found ≡ soonest (λ y. epoch_of y == e && is_notarization_at r y) held → option_map (λ n. notarization_entry (notarization n)) o ≡ soonest (is_notarization_at r) held
  notarization_found r e found x o at was gives is =
      let there : Some (plain x) ≡ soonest (is_notarization_at r) held = sym (ap (option_map plain) was) ∙ is ∙ in_round (is_notarization_at r) r e held at (at_notarization r) in
      ap (option_map (λ n. notarization_entry (notarization n))) gives ∙ notarization_of r x (passes_found (is_notarization_at r) held (plain x) there) ∙ there

  finalization_of : (inner : List ℕ → List ℕ) (d : List ℕ) (x : Entry B N F) → is_for inner d (plain x) ≡ true → option_map (λ f. finalization_entry (finalization f)) (finalization_in x) ≡ Some (plain x)
  finalization_of inner d (OfFinalization f) passes = refl
  finalization_of inner d _ passes = absurd cc

  pub finalization_found : (inner : List ℕ → List ℕ) (d : List ℕ) (found : Option (Entry B N F)) (x : Entry B N F) (o : Option F) → found ≡ Some x → o ≡ finalization_in x → option_map plain found ≡ soonest (is_for inner d) held → option_map (λ f. finalization_entry (finalization f)) o ≡ soonest (is_for inner d) held
  finalization_found inner d found x o was gives is =
      let there : Some (plain x) ≡ soonest (is_for inner d) held = sym (ap (option_map plain) was) ∙ is in
      ap (option_map (λ f. finalization_entry (finalization f))) gives ∙ finalization_of inner d x (passes_found (is_for inner d) held (plain x) there) ∙ there

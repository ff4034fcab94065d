-- Claims that are added to the groups of a batch.
use Rattle.std.proofs.Common.{List, None, subst, Option, Some, [], ap, arith, length, map, refl, suc, sym, zero, ℕ, ◌++◌, ◌<◌, ◌∙◌, ◌∷◌, ◌≡◌, set, Bool}
use Rattle.std.specs.List.{AllByRecursion, slice_get}
use Rattle.std.specs.Prelude.{Err, IfOk, IsSome, Ok, OnOk, Result, if◌then◌else◌, is_ok, slice_index_or}
use Rattle.std.proofs.lemmas.List.{length-map, map-append}
use Rattle.std.proofs.lemmas.Bool.{false≢true}
use Rattle.std.proofs.lemmas.Option.{slice_get_read}
use Rattle.mar_judge.specs.Groups.{AreGroups, AreOfEpoch, HasScope, IsGroup, IsOfEpoch, IsOpen, KeepsClaims, claim_at, claims_of}
use Rattle.mar_judge.specs.Rules.{Claim}
use Rattle.mar_judge.specs.declared.group.Group.{Group}

-- ONE PLACE OF A LIST

pub get_within : {T : Type 0} (xs : List T) (i : ℕ) (x : T) → slice_get xs i ≡ Some x → i < length xs
get_within [] i x e = absurd (none x e)
  where
    none : {T : Type 0} (x : T) → None ≡ Some x → ⊥
    none x e = cc
get_within (y ∷ xs) zero x e = omega arith
get_within (y ∷ xs) (suc i) x e = let within = get_within xs i x e in omega (arith, within)

pub get_pushed : {T : Type 0} (xs : List T) (x : T) → slice_get (xs ++ x ∷ []) (length xs) ≡ Some x
get_pushed [] x = refl
get_pushed (y ∷ xs) x = get_pushed xs x

pub get_before : {T : Type 0} (xs ys : List T) (i : ℕ) (x : T) → slice_get xs i ≡ Some x → slice_get (xs ++ ys) i ≡ Some x
get_before [] ys i x e = absurd (none x e)
  where
    none : {T : Type 0} (x : T) → None ≡ Some x → ⊥
    none x e = cc
get_before (y ∷ xs) ys zero x e = e
get_before (y ∷ xs) ys (suc i) x e = get_before xs ys i x e

pub get_all : {T : Type 0} (P : T → Type 0) (xs : List T) (i : ℕ) (x : T) → AllByRecursion P xs → slice_get xs i ≡ Some x → P x
get_all P [] i x all e = absurd (none x e)
  where
    none : {T : Type 0} (x : T) → None ≡ Some x → ⊥
    none x e = cc
get_all P (y ∷ xs) zero x all e = subst P (some y x e) all.0
  where
    some : {T : Type 0} (y x : T) → Some y ≡ Some x → y ≡ x
    some y x e = cc
get_all P (y ∷ xs) (suc i) x all e = get_all P xs i x all.1 e

pub all_pushed : {T : Type 0} (P : T → Type 0) (xs : List T) (x : T) → AllByRecursion P xs → P x → AllByRecursion P (xs ++ x ∷ [])
all_pushed P [] x all is = (is, tt)
all_pushed P (y ∷ xs) x all is = (all.0, all_pushed P xs x all.1 is)

all_set : {T : Type 0} (P : T → Type 0) (xs : List T) (i : ℕ) (x : T) → AllByRecursion P xs → P x → AllByRecursion P (set xs i x)
all_set P [] i x all is = tt
all_set P (y ∷ xs) zero x all is = (is, all.1)
all_set P (y ∷ xs) (suc i) x all is = (all.0, all_set P xs i x all.1 is)

-- GROUPS

module _ {S C : Type 0} (claimed : C → Claim) where
  -- a group without a claim more
  pub kept_pushed : (groups : List (Group S C)) (x : Group S C) → KeepsClaims (claims_of claimed groups) (claims_of claimed (groups ++ x ∷ []))
  kept_pushed [] x g p c e = absurd (none c e)
    where
      none : (c : Claim) → None ≡ Some c → ⊥
      none c e = cc
  kept_pushed (y ∷ groups) x zero p c e = e
  kept_pushed (y ∷ groups) x (suc g) p c e = kept_pushed groups x g p c e

  -- a claim more in one group
  kept_set : (groups : List (Group S C)) (i : ℕ) (x y : Group S C) (more : List Claim) → slice_get groups i ≡ Some x
      → map claimed y.claims.items ≡ map claimed x.claims.items ++ more → KeepsClaims (claims_of claimed groups) (claims_of claimed (set groups i y))
  kept_set [] i x y more there is g p c e = e
  kept_set (z ∷ groups) zero x y more there is zero p c e =
      subst (λ cs. slice_get cs p ≡ Some c) (sym is) (get_before (map claimed x.claims.items) more p c (subst (λ (k : Group S C). slice_get (map claimed k.claims.items) p ≡ Some c)
      (some z x there) e))
    where
      some : (z x : Group S C) → Some z ≡ Some x → z ≡ x
      some z x e = cc
  kept_set (z ∷ groups) zero x y more there is (suc g) p c e = e
  kept_set (z ∷ groups) (suc i) x y more there is zero p c e = e
  kept_set (z ∷ groups) (suc i) x y more there is (suc g) p c e = kept_set groups i x y more there is g p c e

  placed_set : (groups : List (Group S C)) (i : ℕ) (x y : Group S C) (p : ℕ) (c : Claim) → slice_get groups i ≡ Some x
      → slice_get (map claimed y.claims.items) p ≡ Some c → claim_at (claims_of claimed (set groups i y)) i p ≡ Some c
  placed_set [] i x y p c there is = absurd (none x there)
    where
      none : (x : Group S C) → None ≡ Some x → ⊥
      none x e = cc
  placed_set (z ∷ groups) zero x y p c there is = is
  placed_set (z ∷ groups) (suc i) x y p c there is = placed_set groups i x y p c there is

-- A claim is added to a group that is open.
module _ {S C : Type 0} (claimed : C → Claim) (groups : List (Group S C)) (i epoch : ℕ) (open_ : IsOpen groups i epoch) (x y : Group S C) (claim : C)
    (read : x ≡ slice_index_or groups i x) (epoch_is : y.epoch ≡ x.epoch) (scope_is : y.scope ≡ x.scope) (of : (claimed claim).certificate.round.epoch ≡ epoch) where
  x_there : slice_get groups i ≡ Some x
  x_there = slice_get_read groups _ i x refl (get_within groups i open_.group open_.there) read

  x_is : open_.group ≡ x
  x_is = same _ _ (sym open_.there ∙ x_there)
    where
      same : (a b : Group S C) → Some a ≡ Some b → a ≡ b
      same a b e = cc

  more_claims : y.claims.items ≡ x.claims.items ++ claim ∷ [] → map claimed y.claims.items ≡ map claimed x.claims.items ++ claimed claim ∷ []
  more_claims e = ap (map claimed) e ∙ map-append claimed x.claims.items (claim ∷ [])

  still_scoped : (judges : ℕ → S → Type 0) (scoped : ℕ → Bool) (o : Option S) (e : ℕ) (old new : List Claim) → IsSome o → HasScope judges scoped e old o → HasScope judges scoped e new o
  still_scoped judges scoped None e old new there has = absurd (false≢true there)
  still_scoped judges scoped (Some s) e old new there has = has

  pub added_groups : (judges : ℕ → S → Type 0) (scoped : ℕ → Bool) → AreGroups claimed judges scoped groups → y.claims.items ≡ x.claims.items ++ claim ∷ []
      → AreGroups claimed judges scoped (set groups i y)
  added_groups judges scoped are e =
      let is = get_all (IsGroup claimed judges scoped) groups i x are x_there in
      let here : x.epoch ≡ epoch = ap (λ (k : Group S C). k.epoch) (sym x_is) ∙ open_.epoch_is in
      all_set (IsGroup claimed judges scoped) groups i y are (record {
        scope = subst (λ n. HasScope judges scoped n (map claimed y.claims.items) y.scope) (sym epoch_is)
            (subst (λ o. HasScope judges scoped x.epoch (map claimed y.claims.items) o) (sym scope_is)
            (still_scoped judges scoped x.scope x.epoch (map claimed x.claims.items) (map claimed y.claims.items) (subst (λ (k : Group S C). IsSome k.scope) x_is open_.scope) is.scope));
        epochs = subst (λ cs. AreOfEpoch y.epoch cs) (sym (more_claims e))
            (subst (λ n. AreOfEpoch n (map claimed x.claims.items ++ claimed claim ∷ [])) (sym epoch_is)
            (all_pushed (λ c. c.certificate.round.epoch ≡ x.epoch) (map claimed x.claims.items) (claimed claim) is.epochs (of ∙ sym here)));
      })

  pub added_kept : y.claims.items ≡ x.claims.items ++ claim ∷ [] → KeepsClaims (claims_of claimed groups) (claims_of claimed (set groups i y))
  added_kept e = kept_set claimed groups i x y (claimed claim ∷ []) x_there (more_claims e)

  pub added_placed : (place : ℕ) → place ≡ length x.claims.items → y.claims.items ≡ x.claims.items ++ claim ∷ []
      → claim_at (claims_of claimed (set groups i y)) i place ≡ Some (claimed claim)
  added_placed place is e =
      placed_set claimed groups i x y place (claimed claim) x_there
      (subst (λ n. slice_get (map claimed y.claims.items) n ≡ Some (claimed claim)) (sym is)
      (subst (λ cs. slice_get cs (length x.claims.items) ≡ Some (claimed claim)) (sym (more_claims e))
      (subst (λ n. slice_get (map claimed x.claims.items ++ claimed claim ∷ []) n ≡ Some (claimed claim)) (length-map x.claims.items claimed)
      (get_pushed (map claimed x.claims.items) (claimed claim)))))

-- CALLS THAT MAY FAIL

pub ok_then : {T E A B : Type 0} (r : Result T E) → (A → B) → OnOk r A → OnOk r B
ok_then (Ok x) f a = f a
ok_then (Err e) f a = tt

pub ok_with : {T E A : Type 0} {P Q : T → Type 0} (r : Result T E) → ((x : T) → A → P x → Q x) → OnOk r A → IfOk r P → IfOk r Q
ok_with (Ok x) f a p = f x a p
ok_with (Err e) f a p = tt

-- a group that was pushed is the epoch's
pub entered : {S C : Type 0} (groups : List (Group S C)) (x : Group S C) (now : List (Group S C)) (place epoch : ℕ) → now ≡ groups ++ x ∷ [] → place ≡ length groups → x.epoch ≡ epoch
    → IsOfEpoch now place epoch
entered groups x now place epoch pushed is of = record {
  group = x;
  there = subst (λ n. slice_get now n ≡ Some x) (sym is) (subst (λ xs. slice_get xs (length groups) ≡ Some x) (sym pushed) (get_pushed groups x));
  epoch_is = of;
}

pub no_items : {T : Type 0} (xs : List T) → length xs ≡ 0 → xs ≡ []
no_items [] none = refl
no_items (x ∷ xs) none = absurd (omega (arith, none))

pub appended : {A E T : Type 0} (r : Result A E) (a : A) (xs ys now : List T) → r ≡ Ok a → now ≡ (if is_ok r then xs ++ ys else xs) → now ≡ xs ++ ys
appended r a xs ys now is made = made ∙ ap (λ o. if is_ok o then xs ++ ys else xs) is

pub ok_as : {T E : Type 0} {P Q : T → Type 0} (r : Result T E) → ((x : T) → P x → Q x) → IfOk r P → IfOk r Q
ok_as (Ok x) f p = f x p
ok_as (Err e) f p = tt

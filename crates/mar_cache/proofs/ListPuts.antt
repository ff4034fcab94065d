-- A put in one epoch, seen over all epochs.
use Rattle.std.proofs.Common.{◌≡◌, ◌≢◌, ◌⊎◌, inl, inr, ◌≤◌, ◌<◌, ◌==◌, ◌&&◌, ◌||◌, nat_le, ℕ, zero, suc, List, [], ◌∷◌, ◌++◌, Bool, true, false, Contains, cond, refl, ap, sym, subst, arith, ◌∙◌, filter}
use Rattle.std.specs.List.{filter_map, list_any}
use Rattle.std.proofs.lemmas.Bool.{cases_eq, eq-eqb, leb-false, leb-true, ne_eqb}
use Rattle.std.proofs.lemmas.List.{append-nil}
use Rattle.std.proofs.lemmas.List.Elements.{Contains-append_cases, Contains-append_left, Contains-append_right, filter-append, filter_map-append}
use Rattle.std.proofs.lemmas.List.Folds.{list_any-append}
use Rattle.mar_types.specs.Round.{Round}
use Rattle.mar_cert.specs.Block.{Block}
use Rattle.mar_model.specs.Cached.{Cached, epoch_of, same_place, with_entry}
use Rattle.mar_model.specs.Cache.{first_of, first_verified, verified_in}
use Rattle.mar_cache.specs.AsOne.{up_to}
use Rattle.mar_model.specs.AllEntries.{is_in_place, with_own_entry}
use Rattle.mar_cache.specs.Nested.{in_up_to, of_up_to}
use Rattle.mar_model.proofs.EntryLists.{contains_here, contains_more, none_verified, one_of, passes_alike}
use Rattle.mar_cache.proofs.EpochLists.{filter_map_up_to, filter_up_to, only_in, up_to_none, up_to_same}

pub and_false_left : (a b : Bool) → a ≡ false → (a && b) ≡ false
and_false_left false b is = refl
and_false_left true b is = absurd cc

or_false : (a b : Bool) → a ≡ false → (a || b) ≡ b
or_false false b is = refl
or_false true b is = absurd cc

or_false_right' : (a b : Bool) → b ≡ false → (a || b) ≡ a
or_false_right' false b is = is
or_false_right' true b is = refl

-- a test that none of these passes
pub none_passes : {T : Type 0} (test : T → Bool) (xs : List T) → ((y : T) → Contains xs y → test y ≡ false) → list_any test xs ≡ false
none_passes test [] none = refl
none_passes test (x ∷ xs) none = or_false (test x) (list_any test xs) (none x (contains_here x xs)) ∙ none_passes test xs (λ y has. none y (contains_more x xs y has))

-- each entry stands in its own epoch
pub own_verified : (lists : ℕ → List Cached) (h : ℕ) (r : Round) → ((k : ℕ) (y : Cached) → Contains (lists k) y → epoch_of y ≡ k) → r.epoch ≤ h → filter_map (verified_in r) (up_to lists h) ≡ filter_map (verified_in r) (lists r.epoch)
own_verified lists h r own within = filter_map_up_to (verified_in r) lists h ∙ only_in (λ k. filter_map (verified_in r) (lists k)) r.epoch h within (λ k other. none_verified r (lists k) (λ y has same. other (sym (own k y has) ∙ same)))

pub unreached_verified : (lists : ℕ → List Cached) (h : ℕ) (r : Round) → ((k : ℕ) (y : Cached) → Contains (lists k) y → epoch_of y ≡ k) → h < r.epoch → filter_map (verified_in r) (up_to lists h) ≡ []
unreached_verified lists h r own beyond = filter_map_up_to (verified_in r) lists h ∙ up_to_none (λ k. filter_map (verified_in r) (lists k)) h (λ k within. none_verified r (lists k) (λ y has same. omega (arith, within, beyond, own k y has, same)))

pub within_or : (a b : ℕ) → (a ≤ b) ⊎ (b < a)
within_or a b = by (nat_le a b) refl
  where
    by : (c : Bool) → nat_le a b ≡ c → (a ≤ b) ⊎ (b < a)
    by true is = inl (leb-true a b is)
    by false is = inr (leb-false a b is)

-- WITH ONE MORE

abbrev with_if : (b : Bool) (xs : List Cached) (x : Cached) → List Cached
with_if b xs x = cond b xs (xs ++ x ∷ [])

if_left : (b : Bool) (xs : List Cached) (x y : Cached) → Contains xs y → Contains (with_if b xs x) y
if_left true xs x y has = has
if_left false xs x y has = Contains-append_left xs (x ∷ []) y has

if_cases : (b : Bool) (xs ys : List Cached) (x y : Cached) → Contains (with_if b xs x) y → (Contains xs y → Contains ys y) → Contains (with_if b ys x) y
if_cases true xs ys x y has more = more has
if_cases false xs ys x y has more = elim (Contains-append_cases xs (x ∷ []) y has) [ inl before ↦ Contains-append_left ys (x ∷ []) y (more before) | inr new ↦ Contains-append_right ys (x ∷ []) y new ]

if_verified : (b : Bool) (r : Round) (xs : List Cached) (x : Cached) → filter_map (verified_in r) (with_if b xs x) ≡ cond b (filter_map (verified_in r) xs) (filter_map (verified_in r) xs ++ filter_map (verified_in r) (x ∷ []))
if_verified true r xs x = refl
if_verified false r xs x = filter_map-append (verified_in r) xs (x ∷ [])

cond_same : {T : Type 0} (b : Bool) (x : T) → cond b x x ≡ x
cond_same true x = refl
cond_same false x = refl

module _ (old new : ℕ → List Cached) (e h : ℕ) (x : Cached) (own : (k : ℕ) (y : Cached) → Contains (old k) y → epoch_of y ≡ k) (epoch : epoch_of x ≡ e) (inside : e ≤ h) (here : new e ≡ with_entry (old e) x) (others : (k : ℕ) → k ≢ e → new k ≡ old k) where
  in_place_here : (y : Cached) → Contains (old e) y → is_in_place x y ≡ same_place x y
  in_place_here y has = ap (λ b. b && same_place x y) (eq-eqb (epoch_of y) (epoch_of x) (own e y has ∙ sym epoch))

  in_place_elsewhere : (k : ℕ) → k ≢ e → (y : Cached) → Contains (old k) y → is_in_place x y ≡ false
  in_place_elsewhere k other y has = and_false_left (epoch_of y == epoch_of x) (same_place x y) (ne_eqb (epoch_of y) (epoch_of x) (λ same. other (sym (own k y has) ∙ same ∙ epoch)))

  -- whether one stands in its place, in its epoch and in all
  pub placed : list_any (is_in_place x) (up_to old h) ≡ list_any (same_place x) (old e)
  placed = up_to_here h inside
    where
      up_to_before : (j : ℕ) → j < e → list_any (is_in_place x) (up_to old j) ≡ false
      up_to_before j less = none_passes (is_in_place x) (up_to old j) (λ y has. let (k, within, found) = of_up_to old j y has in in_place_elsewhere k (λ is. omega (arith, is, within, less)) y found)

      up_to_here : (j : ℕ) → e ≤ j → list_any (is_in_place x) (up_to old j) ≡ list_any (same_place x) (old e)
      up_to_here zero within = let first : zero ≡ e = omega (arith, within) in passes_alike (is_in_place x) (same_place x) (old zero) (λ y has. in_place_here y (subst (λ k. Contains (old k) y) first has)) ∙ ap (λ k. list_any (same_place x) (old k)) first
      up_to_here (suc j) within = list_any-append (is_in_place x) (up_to old j) (old (suc j)) ∙ elim (cases_eq e (suc j)) [
        | inl same ↦ ap (λ b. b || list_any (is_in_place x) (old (suc j))) (up_to_before j (omega (arith, same))) ∙ passes_alike (is_in_place x) (same_place x) (old (suc j)) (λ y has. in_place_here y (subst (λ k. Contains (old k) y) (sym same) has)) ∙ ap (λ k. list_any (same_place x) (old k)) (sym same)
        | inr other ↦ or_false_right' (list_any (is_in_place x) (up_to old j)) (list_any (is_in_place x) (old (suc j))) (none_passes (is_in_place x) (old (suc j)) (λ y has. in_place_elsewhere (suc j) (λ is. other (sym is)) y has)) ∙ up_to_here j (omega (arith, within, other))
      ]

  with_is : with_own_entry (up_to old h) x ≡ with_if (list_any (same_place x) (old e)) (up_to old h) x
  with_is = ap (λ b. with_if b (up_to old h) x) placed

  split : (b : Bool) (xs : List Cached) (y : Cached) → Contains (with_if b xs x) y → Contains xs y ⊎ ((b ≡ false) × Contains (x ∷ []) y)
  split true xs y has = inl has
  split false xs y has = elim (Contains-append_cases xs (x ∷ []) y has) [ inl before ↦ inl before | inr new' ↦ inr (refl, new') ]

  last : (b : Bool) (xs : List Cached) (y : Cached) → b ≡ false → Contains (x ∷ []) y → Contains (with_if b xs x) y
  last true xs y is has = absurd cc
  last false xs y is has = Contains-append_right xs (x ∷ []) y has

  stays : (k : ℕ) (y : Cached) → Contains (old k) y → Contains (new k) y
  stays k y has = elim (cases_eq k e) [
    | inl same ↦ subst (λ j. Contains (new j) y) (sym same) (subst (λ zs. Contains zs y) (sym here) (if_left (list_any (same_place x) (old e)) (old e) x y (subst (λ j. Contains (old j) y) same has)))
    | inr other ↦ subst (λ zs. Contains zs y) (sym (others k other)) has
  ]

  pub puts_held : (y : Cached) → Contains (with_own_entry (up_to old h) x) y → Contains (up_to new h) y
  puts_held y has = elim (split (list_any (same_place x) (old e)) (up_to old h) y (subst (λ zs. Contains zs y) with_is has)) [
    | inl before ↦ let (k, within, found) = of_up_to old h y before in in_up_to new h k y within (stays k y found)
    | inr put ↦ in_up_to new h e y inside (subst (λ zs. Contains zs y) (sym here) (last (list_any (same_place x) (old e)) (old e) y put.0 put.1))
  ]

  pub puts_only : (y : Cached) → Contains (up_to new h) y → Contains (with_own_entry (up_to old h) x) y
  puts_only y has = let (k, within, found) = of_up_to new h y has in subst (λ zs. Contains zs y) (sym with_is) (elim (cases_eq k e) [
    | inl same ↦ elim (split (list_any (same_place x) (old e)) (old e) y (subst (λ zs. Contains zs y) (ap new same ∙ here) found)) [
      | inl before ↦ if_left (list_any (same_place x) (old e)) (up_to old h) x y (in_up_to old h e y inside before)
      | inr put ↦ last (list_any (same_place x) (old e)) (up_to old h) y put.0 put.1
    ]
    | inr other ↦ if_left (list_any (same_place x) (old e)) (up_to old h) x y (in_up_to old h k y within (subst (λ zs. Contains zs y) (others k other) found))
  ])

  -- the others are held in the order in which they were
  pub puts_others : (passes : Cached → Bool) → passes x ≡ false → filter passes (up_to new h) ≡ filter passes (up_to old h)
  puts_others passes none = filter_up_to passes new h ∙ up_to_same (λ k. filter passes (new k)) (λ k. filter passes (old k)) h (λ k within. each k) ∙ sym (filter_up_to passes old h)
    where
      dropped : (b : Bool) (xs : List Cached) → filter passes (with_if b xs x) ≡ filter passes xs
      dropped true xs = refl
      dropped false xs = filter-append passes xs (x ∷ []) ∙ ap (λ (b : Bool). filter passes xs ++ cond b (x ∷ []) []) none ∙ append-nil (filter passes xs)

      each : (k : ℕ) → filter passes (new k) ≡ filter passes (old k)
      each k = elim (cases_eq k e) [
        | inl same ↦ ap (λ j. filter passes (new j)) same ∙ ap (filter passes) here ∙ dropped (list_any (same_place x) (old e)) (old e) ∙ ap (λ j. filter passes (old j)) (sym same)
        | inr other ↦ ap (filter passes) (others k other)
      ]

  pub own_new : (k : ℕ) (y : Cached) → Contains (new k) y → epoch_of y ≡ k
  own_new k y has = elim (cases_eq k e) [
    | inl same ↦ elim (split (list_any (same_place x) (old e)) (old e) y (subst (λ zs. Contains zs y) (ap new same ∙ here) has)) [
      | inl before ↦ own e y before ∙ sym same
      | inr put ↦ ap epoch_of (one_of x y put.1) ∙ epoch ∙ sym same
    ]
    | inr other ↦ own k y (subst (λ zs. Contains zs y) (others k other) has)
  ]

  pub puts_firsts : (r : Round) → first_verified (up_to new h) r ≡ first_verified (with_own_entry (up_to old h) x) r
  puts_firsts r = ap first_of (elim (within_or r.epoch h) [ inl within ↦ reached within | inr beyond ↦ unreached beyond ])
    where
      any : Bool
      any = list_any (same_place x) (old e)

      all_with : filter_map (verified_in r) (with_own_entry (up_to old h) x) ≡ cond any (filter_map (verified_in r) (up_to old h)) (filter_map (verified_in r) (up_to old h) ++ filter_map (verified_in r) (x ∷ []))
      all_with = ap (filter_map (verified_in r)) with_is ∙ if_verified (list_any (same_place x) (old e)) r (up_to old h) x

      not_there : e ≢ r.epoch → filter_map (verified_in r) (x ∷ []) ≡ []
      not_there other = none_verified r (x ∷ []) (λ y has same. other (sym epoch ∙ sym (ap epoch_of (one_of x y has)) ∙ same))

      unchanged : (xs : List Block) → e ≢ r.epoch → filter_map (verified_in r) (up_to old h) ≡ xs → cond any (filter_map (verified_in r) (up_to old h)) (filter_map (verified_in r) (up_to old h) ++ filter_map (verified_in r) (x ∷ [])) ≡ xs
      unchanged xs other is = ap (λ ys. cond any (filter_map (verified_in r) (up_to old h)) (filter_map (verified_in r) (up_to old h) ++ ys)) (not_there other) ∙ ap (λ ys. cond any (filter_map (verified_in r) (up_to old h)) ys) (append-nil (filter_map (verified_in r) (up_to old h))) ∙ cond_same any (filter_map (verified_in r) (up_to old h)) ∙ is

      reached : r.epoch ≤ h → filter_map (verified_in r) (up_to new h) ≡ filter_map (verified_in r) (with_own_entry (up_to old h) x)
      reached within = own_verified new h r own_new within ∙ elim (cases_eq r.epoch e) [
        | inl same ↦ ap (λ k. filter_map (verified_in r) (new k)) same ∙ ap (filter_map (verified_in r)) here ∙ if_verified (list_any (same_place x) (old e)) r (old e) x ∙ ap (λ ys. cond any ys (ys ++ filter_map (verified_in r) (x ∷ []))) (ap (λ k. filter_map (verified_in r) (old k)) (sym same) ∙ sym (own_verified old h r own within)) ∙ sym all_with
        | inr other ↦ ap (filter_map (verified_in r)) (others r.epoch other) ∙ sym (unchanged (filter_map (verified_in r) (old r.epoch)) (λ is. other (sym is)) (own_verified old h r own within)) ∙ sym all_with
      ]

      unreached : h < r.epoch → filter_map (verified_in r) (up_to new h) ≡ filter_map (verified_in r) (with_own_entry (up_to old h) x)
      unreached beyond = unreached_verified new h r own_new beyond ∙ sym (unchanged [] (λ is. omega (arith, is, beyond, inside)) (unreached_verified old h r own beyond)) ∙ sym all_with

-- Where a search finds an entry: one entry more, and what stands there.
use Rattle.std.proofs.Common.{◌≡◌, ◌∙◌, ◌+◌, ◌||◌, ◌&&◌, ◌==◌, ℕ, zero, suc, List, [], ◌∷◌, ◌++◌, Bool, true, false, Option, Some, None, is_some, cond, refl, sym, ap, ap₂, drop, length, nat_lt, arith}
use Rattle.std.specs.Prelude.{slice_get, ⊤}
use Rattle.std.proofs.lemmas.Bool.Decides.{nat_tests}
use Rattle.std.specs.List.{list_any}
use Rattle.mar_model.specs.Cached.{Cached}
use Rattle.mar_model.specs.Sections.{earlier_of, first_found, index_of, rank, section_of, stands_before}
use Rattle.mar_epochs.specs.Spots.{at_spot, found_from, sooner, spot_at, spot_before, spot_found}
use Rattle.mar_epochs.specs.declared.index.Spot.{Spot}

-- ONE MORE ENTRY

found_push : (passes : Cached → Bool) (n : ℕ) (o : Option Spot) (xs : List Cached) (x : Cached) → found_from passes n o (xs ++ x ∷ []) ≡ cond (passes x) (sooner (found_from passes n o xs) (spot_at (n + length xs) x)) (found_from passes n o xs)
found_push passes n o [] x = let same : n + 0 ≡ n = omega arith in rw same refl
found_push passes n o (y ∷ ys) x = let next : n + suc (length ys) ≡ suc n + length ys = omega arith in rw next (found_push passes (suc n) (cond (passes y) (sooner o (spot_at n y)) o) ys x)

pub spot_push : (passes : Cached → Bool) (xs ys : List Cached) (x : Cached) (place : ℕ) (old new : Option Spot) → old ≡ spot_found passes xs → place ≡ length xs → ys ≡ xs ++ x ∷ []
    → new ≡ cond (passes x) (sooner old (spot_at place x)) old → new ≡ spot_found passes ys
spot_push passes xs ys x place old new was at are is =
    let counted : 0 + length xs ≡ place = omega (arith, at) in
    is ∙ ap (λ o. cond (passes x) (sooner o (spot_at place x)) o) was ∙ ap (λ n. cond (passes x) (sooner (spot_found passes xs) (spot_at n x)) (spot_found passes xs)) (sym counted) ∙ sym (found_push passes 0 None xs x) ∙ ap (spot_found passes) (sym are)

-- WHETHER THERE IS ONE

some_sooner : (o : Option Spot) (s : Spot) → is_some (sooner o s) ≡ true
some_sooner None s = refl
some_sooner (Some t) s = by (spot_before s t)
  where
    by : (b : Bool) → is_some (cond b (Some s) (Some t)) ≡ true
    by true = refl
    by false = refl

some_from : (passes : Cached → Bool) (n : ℕ) (o : Option Spot) (xs : List Cached) → is_some (found_from passes n o xs) ≡ (is_some o || list_any passes xs)
some_from passes n o [] = by (is_some o)
  where
    by : (b : Bool) → b ≡ (b || false)
    by true = refl
    by false = refl
some_from passes n o (x ∷ xs) = by (passes x) (some_from passes (suc n) (sooner o (spot_at n x)) xs) (some_from passes (suc n) o xs)
  where
    all : (b : Bool) → true ≡ (b || true)
    all true = refl
    all false = refl

    by : (b : Bool) → is_some (found_from passes (suc n) (sooner o (spot_at n x)) xs) ≡ (is_some (sooner o (spot_at n x)) || list_any passes xs) → is_some (found_from passes (suc n) o xs) ≡ (is_some o || list_any passes xs)
        → is_some (found_from passes (suc n) (cond b (sooner o (spot_at n x)) o) xs) ≡ (is_some o || (b || list_any passes xs))
    by true set other = set ∙ ap (λ c. c || list_any passes xs) (some_sooner o (spot_at n x)) ∙ all (is_some o)
    by false set other = other

any_agree : (p q : Cached → Bool) → ((x : Cached) → p x ≡ q x) → (xs : List Cached) → list_any p xs ≡ list_any q xs
any_agree p q same [] = refl
any_agree p q same (x ∷ xs) = ap₂ (λ a b. a || b) (same x) (any_agree p q same xs)

-- whether an entry passes, told by its spot under a key that the same entries have
pub held_at : (p q : Cached → Bool) → ((x : Cached) → p x ≡ q x) → (xs : List Cached) (o : Option Spot) (r : Bool) → o ≡ spot_found p xs → r ≡ is_some o → r ≡ list_any q xs
held_at p q same xs o r is tells = tells ∙ ap is_some is ∙ some_from p 0 None xs ∙ any_agree p q same xs

-- THE ORDER OF A SEARCH

abbrev less : ℕ → ℕ → ℕ → ℕ → Bool
less a i b j = nat_lt a b || (a == b && nat_lt i j)

less_both : (a i b j c k : ℕ) → less a i b j ≡ true → less b j c k ≡ true → less a i c k ≡ true
less_both a i b j c k p q = grind (arith, nat_tests, p, q)

less_neither : (a i b j c k : ℕ) → less a i b j ≡ false → less b j c k ≡ false → less a i c k ≡ false
less_neither a i b j c k p q = grind (arith, nat_tests, p, q)

-- of an entry and what is found among others, what is found
abbrev merged : Option Cached → Option Cached → Option Cached
merged None o = o
merged (Some y) o = earlier_of y o

abbrev soonest : Option Cached → Cached → Option Cached
soonest None x = Some x
soonest (Some y) x = cond (stands_before x y) (Some x) (Some y)

-- the first of three, whichever two are compared first
merged_next : (a : Option Cached) (x : Cached) (o : Option Cached) → merged (soonest a x) o ≡ merged a (earlier_of x o)
merged_next None x None = refl
merged_next None x (Some z) = refl
merged_next (Some y) x None = by (stands_before x y)
  where
    by : (b : Bool) → merged (cond b (Some x) (Some y)) None ≡ cond b (Some x) (Some y)
    by true = refl
    by false = refl
merged_next (Some y) x (Some z) = by (stands_before x y) refl (stands_before z x) refl
  where
    by : (b : Bool) → stands_before x y ≡ b → (c : Bool) → stands_before z x ≡ c → merged (cond b (Some x) (Some y)) (Some z) ≡ merged (Some y) (cond c (Some z) (Some x))
    by true xy true zx = rw (zx, less_both (rank (section_of z)) (index_of z) (rank (section_of x)) (index_of x) (rank (section_of y)) (index_of y) zx xy) refl
    by true xy false zx = rw (zx, xy) refl
    by false xy true zx = refl
    by false xy false zx = rw (xy, less_neither (rank (section_of z)) (index_of z) (rank (section_of x)) (index_of x) (rank (section_of y)) (index_of y) zx xy) refl

-- what is found by going on from what was found before
abbrev gone_on : (Cached → Bool) → Option Cached → List Cached → Option Cached
gone_on passes a [] = a
gone_on passes a (x ∷ xs) = gone_on passes (cond (passes x) (soonest a x) a) xs

gone_on_is : (passes : Cached → Bool) (a : Option Cached) (xs : List Cached) → gone_on passes a xs ≡ merged a (first_found passes xs)
gone_on_is passes None [] = refl
gone_on_is passes (Some y) [] = refl
gone_on_is passes a (x ∷ xs) = by (passes x) (gone_on_is passes (soonest a x) xs) (gone_on_is passes a xs)
  where
    by : (b : Bool) → gone_on passes (soonest a x) xs ≡ merged (soonest a x) (first_found passes xs) → gone_on passes a xs ≡ merged a (first_found passes xs)
        → gone_on passes (cond b (soonest a x) a) xs ≡ merged a (cond b (earlier_of x (first_found passes xs)) (first_found passes xs))
    by true set other = set ∙ merged_next a x (first_found passes xs)
    by false set other = other

-- WHAT STANDS THERE

-- the spot is that of the entry
abbrev Tells : List Cached → Option Spot → Option Cached → Type 0
Tells all None None = ⊤
Tells all None (Some x) = ⊥
Tells all (Some s) None = ⊥
Tells all (Some s) (Some x) = (slice_get all s.place ≡ Some x) × (s.rank ≡ rank (section_of x)) × (s.index ≡ index_of x)

tells_next : (all : List Cached) (o : Option Spot) (a : Option Cached) (n : ℕ) (x : Cached) → slice_get all n ≡ Some x → Tells all o a → Tells all (sooner o (spot_at n x)) (soonest a x)
tells_next all None None n x is t = (is, refl, refl)
tells_next all None (Some y) n x is t = absurd t
tells_next all (Some s) None n x is t = absurd t
tells_next all (Some s) (Some y) n x is t = rw same (by (stands_before x y))
  where
    same : spot_before (spot_at n x) s ≡ stands_before x y
    same = ap₂ (λ r i. less (rank (section_of x)) (index_of x) r i) t.1 t.2

    by : (b : Bool) → Tells all (cond b (Some (spot_at n x)) (Some s)) (cond b (Some x) (Some y))
    by true = (is, refl, refl)
    by false = t

dropped : (n : ℕ) (all : List Cached) (x : Cached) (xs : List Cached) → drop n all ≡ x ∷ xs → (slice_get all n ≡ Some x) × (drop (suc n) all ≡ xs)
dropped zero [] x xs is = absurd cc
dropped (suc n) [] x xs is = absurd cc
dropped zero (y ∷ ys) x xs is = (ap (λ zs. slice_get zs 0) is, ap (drop 1) is)
dropped (suc n) (y ∷ ys) x xs is = dropped n ys x xs is

tells_all : (passes : Cached → Bool) (all : List Cached) (n : ℕ) (o : Option Spot) (a : Option Cached) (xs : List Cached) → drop n all ≡ xs → Tells all o a → Tells all (found_from passes n o xs) (gone_on passes a xs)
tells_all passes all n o a [] is t = t
tells_all passes all n o a (x ∷ xs) is t =
    let next = dropped n all x xs is in
    by (passes x) (tells_all passes all (suc n) (sooner o (spot_at n x)) (soonest a x) xs next.1 (tells_next all o a n x next.0 t)) (tells_all passes all (suc n) o a xs next.1 t)
  where
    by : (b : Bool) → Tells all (found_from passes (suc n) (sooner o (spot_at n x)) xs) (gone_on passes (soonest a x) xs) → Tells all (found_from passes (suc n) o xs) (gone_on passes a xs)
        → Tells all (found_from passes (suc n) (cond b (sooner o (spot_at n x)) o) xs) (gone_on passes (cond b (soonest a x) a) xs)
    by true set other = set
    by false set other = other

told : (all : List Cached) (o : Option Spot) (a : Option Cached) → Tells all o a → at_spot all o ≡ a
told all None None t = refl
told all None (Some x) t = absurd t
told all (Some s) None t = absurd t
told all (Some s) (Some x) t = t.0

first_agree : (p q : Cached → Bool) → ((x : Cached) → p x ≡ q x) → (xs : List Cached) → first_found p xs ≡ first_found q xs
first_agree p q same [] = refl
first_agree p q same (x ∷ xs) = ap₂ (λ b o. cond b (earlier_of x o) o) (same x) (first_agree p q same xs)

-- what is found, told by its spot under a key that the same entries have
pub found_at : (p q : Cached → Bool) → ((x : Cached) → p x ≡ q x) → (xs : List Cached) (o : Option Spot) → o ≡ spot_found p xs → at_spot xs o ≡ first_found q xs
found_at p q same xs o is = ap (at_spot xs) is ∙ told xs (spot_found p xs) (gone_on p None xs) (tells_all p xs 0 None None xs refl tt) ∙ gone_on_is p None xs ∙ first_agree p q same xs

-- SEVERAL KEYS OF ONE ENTRY

module _ (s : Spot) where
  sooner_once : (o : Option Spot) → sooner (sooner o s) s ≡ sooner o s
  sooner_once None = same (spot_before s s)
    where
      same : (b : Bool) → cond b (Some s) (Some s) ≡ Some s
      same true = refl
      same false = refl
  sooner_once (Some t) = by (spot_before s t) refl
    where
      same : (b : Bool) → cond b (Some s) (Some s) ≡ Some s
      same true = refl
      same false = refl

      by : (b : Bool) → spot_before s t ≡ b → sooner (cond b (Some s) (Some t)) s ≡ cond b (Some s) (Some t)
      by true is = same (spot_before s s)
      by false is = rw is refl

  -- noted under the key where that is one of the entry's
  abbrev Noted : Bool → Option Spot → Option Spot → Type 0
  Noted b old new = new ≡ cond b (sooner old s) old

  noted_both : (a b : Bool) (x y z : Option Spot) → Noted a x y → Noted b y z → Noted (a || b) x z
  noted_both true true x y z p q = q ∙ ap (λ o. sooner o s) p ∙ sooner_once x
  noted_both true false x y z p q = q ∙ p
  noted_both false b x y z p q = q ∙ ap (λ o. cond b (sooner o s) o) p

  pub noted_all : (a b c d : Bool) (v w x y z : Option Spot) → Noted a v w → Noted b w x → Noted c x y → Noted d y z → Noted (a || (b || (c || d))) v z
  noted_all a b c d v w x y z p q r t = noted_both a (b || (c || d)) v w z p (noted_both b (c || d) w x z q (noted_both c d x y z r t))

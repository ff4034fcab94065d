-- Lists of cached entries: which are found, and which stay.
use Rattle.std.proofs.Common.{◌≡◌, ◌≢◌, ◌⊎◌, inl, inr, ◌==◌, ◌&&◌, ◌||◌, zero, suc, List, [], ◌∷◌, Bool, true, false, Contains, Option, Some, None, cond, refl, ap, ap₂, sym, arith, filter, ◌∙◌}
use Rattle.std.specs.List.{cons_option, filter_map, list_any}
use Rattle.std.proofs.lemmas.Bool.{and_parts, eqb-true, ne_eqb}
use Rattle.mar_types.specs.Round.{Round, round_eq}
use Rattle.mar_cert.specs.Block.{Block}
use Rattle.mar_model.specs.AllEntries.{FirstsStay}
use Rattle.mar_model.specs.Cache.{first_of, verified_in}
use Rattle.mar_model.specs.Cached.{Cached, epoch_of, verified_entry}

and_false_left : (a b : Bool) → a ≡ false → (a && b) ≡ false
and_false_left false b is = refl
and_false_left true b is = absurd cc

pub contains_more : {T : Type 0} (x : T) (xs : List T) (y : T) → Contains xs y → Contains (x ∷ xs) y
contains_more x xs y (k, lt, is) = (suc k, omega arith, is)

pub contains_here : {T : Type 0} (x : T) (xs : List T) → Contains (x ∷ xs) x
contains_here x xs = (zero, omega arith, refl)

pub contains_none : {A : Type 0} {P : Type 0} (y : A) → Contains [] y → P
contains_none y (k, lt, is) = absurd (omega arith)

pub one_of : {X : Type 0} (x y : X) → Contains (x ∷ []) y → y ≡ x
one_of x y (zero, lt, is) = sym is
one_of x y (suc k, lt, is) = absurd (omega (arith, lt))

pub first_or_more : {X : Type 0} (x : X) (xs : List X) (y : X) → Contains (x ∷ xs) y → (y ≡ x) ⊎ Contains xs y
first_or_more x xs y (zero, lt, is) = inl (sym is)
first_or_more x xs y (suc k, lt, is) = inr (k, omega (arith, lt), is)

-- tests that agree on these
pub passes_alike : {T : Type 0} (p q : T → Bool) (xs : List T) → ((y : T) → Contains xs y → p y ≡ q y) → list_any p xs ≡ list_any q xs
passes_alike p q [] alike = refl
passes_alike p q (x ∷ xs) alike = ap₂ (λ a b. a || b) (alike x (contains_here x xs)) (passes_alike p q xs (λ y has. alike y (contains_more x xs y has)))

pub filter_passed : {T : Type 0} (test : T → Bool) (xs : List T) (x : T) → Contains xs x → test x ≡ true → Contains (filter test xs) x
filter_passed test [] x has passes = has
filter_passed {T} test (y ∷ ys) x has passes = by (test y) refl has (λ has'. filter_passed test ys x has' passes)
  where
    by : (b : Bool) → test y ≡ b → Contains (y ∷ ys) x → (Contains ys x → Contains (filter test ys) x) → Contains (cond b (y ∷ filter test ys) (filter test ys)) x
    by true is (zero, lt, e) rest = (zero, omega arith, e)
    by true is (suc k, lt, e) rest = let (j, under, same) = rest (k, omega (arith, lt), e) in (suc j, omega (arith, under), same)
    by false is (zero, lt, e) rest = absurd (let no_pass : false ≡ true = sym is ∙ ap test e ∙ passes in cc)
    by false is (suc k, lt, e) rest = rest (k, omega (arith, lt), e)

pub filtered : {T : Type 0} (test : T → Bool) (xs : List T) (y : T) → Contains (filter test xs) y → Contains xs y × (test y ≡ true)
filtered test [] y has = (has, contains_none y has)
filtered {T} test (x ∷ xs) y has = by (test x) refl has (filtered test xs y)
  where
    by : (c : Bool) → test x ≡ c → Contains (cond c (x ∷ filter test xs) (filter test xs)) y → (Contains (filter test xs) y → Contains xs y × (test y ≡ true)) → Contains (x ∷ xs) y × (test y ≡ true)
    by true is (zero, lt, at) rest = ((zero, omega arith, at), ap test (sym at) ∙ is)
    by true is (suc k, lt, at) rest = let (found, passes) = rest (k, omega (arith, lt), at) in let (j, under, same) = found in ((suc j, omega (arith, under), same), passes)
    by false is has' rest = let (found, passes) = rest has' in let (j, under, same) = found in ((suc j, omega (arith, under), same), passes)

pub rounds_same : (s t : Round) → round_eq s t ≡ true → s ≡ t
rounds_same s t same = let parts = and_parts (s.epoch == t.epoch) (s.view == t.view) same in ap₂ {C = Round} (λ e v. record { epoch = e; view = v }) (eqb-true s.epoch t.epoch parts.0) (eqb-true s.view t.view parts.1)

-- no block was verified at a round of another epoch
verified_elsewhere : (r : Round) (x : Cached) → epoch_of x ≢ r.epoch → verified_in r x ≡ None
verified_elsewhere r (verified_entry s b) other = ap (λ c. cond c (Some b) None) (and_false_left (r.epoch == s.epoch) (r.view == s.view) (ne_eqb r.epoch s.epoch (λ same. other (sym same))))
verified_elsewhere r _ other = refl

pub none_verified : (r : Round) (xs : List Cached) → ((y : Cached) → Contains xs y → epoch_of y ≢ r.epoch) → filter_map (verified_in r) xs ≡ []
none_verified r [] other = refl
none_verified r (x ∷ xs) other = ap (λ o. cons_option o (filter_map (verified_in r) xs)) (verified_elsewhere r x (other x (contains_here x xs))) ∙ none_verified r xs (λ y has. other y (contains_more x xs y has))

-- THE FIRST THAT WAS VERIFIED

-- a test that passes all that was verified at a round, or none
first_filtered : (r : Round) (test : Cached → Bool) (c : Bool) → ((b : Block) (s : Round) → round_eq r s ≡ true → test (verified_entry s b) ≡ c) → (xs : List Cached) → filter_map (verified_in r) (filter test xs) ≡ cond c (filter_map (verified_in r) xs) []
first_filtered r test true all [] = refl
first_filtered r test false all [] = refl
first_filtered r test c all (x ∷ xs) = by (test x) refl (verified_in r x) refl (first_filtered r test c all xs)
  where
    at : (s : Round) (b : Block) (d : Bool) → round_eq r s ≡ d → cond d (Some b) None ≢ None → test (verified_entry s b) ≡ c
    at s b true is some = all b s is
    at s b false is some = absurd (some refl)

    found : (y : Cached) → verified_in r y ≢ None → test y ≡ c
    found (verified_entry s b) some = at s b (round_eq r s) refl some
    found _ some = absurd (some refl)

    some_is : (b : Block) → verified_in r x ≡ Some b → test x ≡ c
    some_is b some = found x (λ none. let clash : ◌≡◌ {A = Option Block} (Some b) None = sym some ∙ none in cc)

    by : (b : Bool) → test x ≡ b → (o : Option Block) → verified_in r x ≡ o → filter_map (verified_in r) (filter test xs) ≡ cond c (filter_map (verified_in r) xs) [] → filter_map (verified_in r) (cond b (x ∷ filter test xs) (filter test xs)) ≡ cond c (cons_option (verified_in r x) (filter_map (verified_in r) xs)) []
    by true is None none rest = rw none rest
    by false is None none rest = rw none rest
    by true is (Some b) some rest = let kept : c ≡ true = sym (some_is b some) ∙ is in ap (cons_option (verified_in r x)) (rest ∙ ap (λ d. cond d (filter_map (verified_in r) xs) []) kept) ∙ sym (ap (λ d. cond d (cons_option (verified_in r x) (filter_map (verified_in r) xs)) []) kept)
    by false is (Some b) some rest = let gone : c ≡ false = sym (some_is b some) ∙ is in rest ∙ ap (λ d. cond d (filter_map (verified_in r) xs) []) gone ∙ sym (ap (λ d. cond d (cons_option (verified_in r x) (filter_map (verified_in r) xs)) []) gone)

passed : (test : Cached → Bool) (xs : List Cached) (y : Cached) → Contains (filter test xs) y → test y ≡ true
passed test [] y (k, lt, is) = absurd (omega (arith, lt))
passed test (x ∷ xs) y has = by (test x) refl has (passed test xs y)
  where
    by : (b : Bool) → test x ≡ b → Contains (cond b (x ∷ filter test xs) (filter test xs)) y → (Contains (filter test xs) y → test y ≡ true) → test y ≡ true
    by true is (zero, lt, same) rest = ap test (sym same) ∙ is
    by true is (suc k, lt, same) rest = rest (k, omega (arith, lt), same)
    by false is has' rest = rest has'

-- the first block of a round is still the first, where it is still held
pub firsts_stay : (test : Cached → Bool) (view : Round → Bool) → ((b : Block) (s : Round) → test (verified_entry s b) ≡ view s) → (xs : List Cached) → FirstsStay xs (filter test xs)
firsts_stay test view by_round xs r b first has = ap first_of (first_filtered r test (view r) (λ c s same. by_round c s ∙ ap view (sym (rounds_same r s same))) xs ∙ ap (λ d. cond d (filter_map (verified_in r) xs) []) (sym (by_round b r) ∙ passed test xs (verified_entry r b) has)) ∙ first

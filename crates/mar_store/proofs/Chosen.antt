-- Entries of which some stay: what is still true of them.
use Rattle.std.proofs.Common.{◌≡◌, ◌∙◌, ◌≤◌, ◌<◌, ◌+◌, ℕ, zero, suc, List, [], ◌∷◌, ◌++◌, Bool, true, false, Option, Some, None, is_some, IsNone, cond, refl, sym, ap, map, take, drop, length, get_or, arith, append-nil, set}
use Rattle.std.specs.Prelude.{bytes_eq, filter, ◌==◌}
use Rattle.std.specs.List.{AllByRecursion, swap}
use Rattle.std.proofs.lemmas.List.{take_more, take_more_set, take_all, take-set, length-take-le, drop-set-lt, take-map}
use Rattle.std.proofs.lemmas.List.Edits.{swap_is, length-swap}
use Rattle.mar_store.specs.Kept.{EachHeightOnce, value_at}
use Rattle.mar_store.specs.Changes.{heights}
use Rattle.mar_store.specs.Ranges.{Range, ranges}
use Rattle.mar_store.specs.Named.{EachNameOnce, value_named}
use Rattle.mar_store.specs.Entries.{AreFitting, Ascend, seen}
use Rattle.mar_store.specs.Choices.{chosen}
use Rattle.std.proofs.lemmas.Bool.{eqb-true, eqb-false}
use Rattle.mar_store.specs.Nested.{same_or}
use Rattle.mar_store.specs.declared.entry.Entry.{Entry}

-- A FACT OF ALL OF THEM

skip_or : {V : Type 0} (b : Bool) (x y z o : V) → (y ≡ o → z ≡ o) → (b ≡ true → x ≡ o → z ≡ o) → cond b x y ≡ o → z ≡ o
skip_or true x y z o later here is = here refl is
skip_or false x y z o later here is = later is

chosen_none : {T : Type 0} (p : ℕ → Entry T → Bool) (k : ℕ) (es : List (Entry T)) (h : ℕ) → value_at (map seen es) h ≡ None → value_at (map seen (chosen p k es)) h ≡ None
chosen_none p k [] h none = refl
chosen_none {T} p k (e ∷ es) h none =
    elim (p k e) as (λ b. value_at (map seen (cond b (e ∷ chosen p (suc k) es) (chosen p (suc k) es))) h ≡ None) [
      | true ↦ same_or (e.index == h) (Some e.item) (value_at (map seen es) h) (value_at (map seen (chosen p (suc k) es)) h) None (chosen_none p (suc k) es h) none
      | false ↦ skip_or (e.index == h) (Some e.item) (value_at (map seen es) h) (value_at (map seen (chosen p (suc k) es)) h) None (chosen_none p (suc k) es h) (λ at is. clash is) none
    ]
  where
    clash : {o : Option T} → ◌≡◌ {A = Option T} (Some e.item) None → o ≡ None
    clash is = absurd cc

none_of : {V : Type 0} (o : Option V) → IsNone o → o ≡ None
none_of None is = refl
none_of (Some v) is = cc

pub chosen_once : {T : Type 0} (p : ℕ → Entry T → Bool) (k : ℕ) (es : List (Entry T)) → EachHeightOnce (map seen es) → EachHeightOnce (map seen (chosen p k es))
chosen_once p k [] once = tt
chosen_once p k (e ∷ es) once =
    elim (p k e) as (λ b. EachHeightOnce (map seen (cond b (e ∷ chosen p (suc k) es) (chosen p (suc k) es)))) [
      | true ↦ (ap is_some (chosen_none p (suc k) es e.index (none_of (value_at (map seen es) e.index) once.0)), chosen_once p (suc k) es once.1)
      | false ↦ chosen_once p (suc k) es once.1
    ]

unnamed_or : {V : Type 0} (b : Bool) (x : V) (y z : Option V) → (is_some y ≡ false → is_some z ≡ false) → is_some (cond b (Some x) y) ≡ false → is_some (cond b (Some x) z) ≡ false
unnamed_or true x y z goes is = is
unnamed_or false x y z goes is = goes is

unnamed_skip : {V : Type 0} (b : Bool) (x : V) (y z : Option V) → (is_some y ≡ false → is_some z ≡ false) → is_some (cond b (Some x) y) ≡ false → is_some z ≡ false
unnamed_skip true x y z goes is = absurd cc
unnamed_skip false x y z goes is = goes is

chosen_unnamed : {T : Type 0} (name : T → List ℕ) (p : ℕ → Entry T → Bool) (k : ℕ) (es : List (Entry T)) (d : List ℕ) → IsNone (value_named name (map seen es) d) → IsNone (value_named name (map seen (chosen p k es)) d)
chosen_unnamed name p k [] d none = refl
chosen_unnamed name p k (e ∷ es) d none =
    elim (p k e) as (λ b. IsNone (value_named name (map seen (cond b (e ∷ chosen p (suc k) es) (chosen p (suc k) es))) d)) [
      | true ↦ unnamed_or (bytes_eq (name e.item) d) e.item (value_named name (map seen es) d) (value_named name (map seen (chosen p (suc k) es)) d) (chosen_unnamed name p (suc k) es d) none
      | false ↦ unnamed_skip (bytes_eq (name e.item) d) e.item (value_named name (map seen es) d) (value_named name (map seen (chosen p (suc k) es)) d) (chosen_unnamed name p (suc k) es d) none
    ]

pub chosen_named : {T : Type 0} (name : T → List ℕ) (p : ℕ → Entry T → Bool) (k : ℕ) (es : List (Entry T)) → EachNameOnce name (map seen es) → EachNameOnce name (map seen (chosen p k es))
chosen_named name p k [] once = tt
chosen_named name p k (e ∷ es) once =
    elim (p k e) as (λ b. EachNameOnce name (map seen (cond b (e ∷ chosen p (suc k) es) (chosen p (suc k) es)))) [
      | true ↦ (chosen_unnamed name p (suc k) es (name e.item) once.0, chosen_named name p (suc k) es once.1)
      | false ↦ chosen_named name p (suc k) es once.1
    ]

pub chosen_all : {T : Type 0} (P : Entry T → Type 0) (p : ℕ → Entry T → Bool) (k : ℕ) (es : List (Entry T)) → AllByRecursion P es → AllByRecursion P (chosen p k es)
chosen_all P p k [] all = tt
chosen_all P p k (e ∷ es) all =
    elim (p k e) as (λ b. AllByRecursion P (cond b (e ∷ chosen p (suc k) es) (chosen p (suc k) es))) [ true ↦ (all.0, chosen_all P p (suc k) es all.1) | false ↦ chosen_all P p (suc k) es all.1 ]

pub chosen_fits : {T : Type 0} (fits : ℕ → T → Bool) (p : ℕ → Entry T → Bool) (k : ℕ) (es : List (Entry T)) → AreFitting fits (map seen es) → AreFitting fits (map seen (chosen p k es))
chosen_fits fits p k [] all = tt
chosen_fits fits p k (e ∷ es) all =
    elim (p k e) as (λ b. AreFitting fits (map seen (cond b (e ∷ chosen p (suc k) es) (chosen p (suc k) es)))) [ true ↦ (all.0, chosen_fits fits p (suc k) es all.1) | false ↦ chosen_fits fits p (suc k) es all.1 ]

pub chosen_ascend : {T : Type 0} (p : ℕ → Entry T → Bool) (k : ℕ) (es : List (Entry T)) → Ascend es → Ascend (chosen p k es)
chosen_ascend p k [] up = tt
chosen_ascend p k (e ∷ es) up =
    elim (p k e) as (λ b. Ascend (cond b (e ∷ chosen p (suc k) es) (chosen p (suc k) es))) [ true ↦ (chosen_all _ p (suc k) es up.0, chosen_ascend p (suc k) es up.1) | false ↦ chosen_ascend p (suc k) es up.1 ]

-- BY A TEST OF THE ENTRY ALONE

pub chosen_filter : {T : Type 0} (p : Entry T → Bool) (k : ℕ) (es : List (Entry T)) → chosen (λ i e. p e) k es ≡ filter p es
chosen_filter p k [] = refl
chosen_filter p k (e ∷ es) =
    elim (p e) as (λ b. cond b (e ∷ chosen (λ i f. p f) (suc k) es) (chosen (λ i f. p f) (suc k) es) ≡ cond b (e ∷ filter p es) (filter p es)) [ true ↦ ap (λ fs. e ∷ fs) (chosen_filter p (suc k) es) | false ↦ chosen_filter p (suc k) es ]

pub filter_once : {T : Type 0} (p : Entry T → Bool) (es : List (Entry T)) → EachHeightOnce (map seen es) → EachHeightOnce (map seen (filter p es))
filter_once p es once = rw (← chosen_filter p 0 es) (chosen_once (λ i e. p e) 0 es once)

-- the front of what is kept is what is kept of the front
pub front_filter : {X : Type 0} (p : X → Bool) (n : ℕ) (xs : List X) → take (length (filter p (take n xs))) (filter p xs) ≡ filter p (take n xs)
front_filter p zero xs = refl
front_filter p (suc n) [] = refl
front_filter p (suc n) (x ∷ xs) =
    elim (p x) as (λ b. take (length (cond b (x ∷ filter p (take n xs)) (filter p (take n xs)))) (cond b (x ∷ filter p xs) (filter p xs)) ≡ cond b (x ∷ filter p (take n xs)) (filter p (take n xs))) [
      | true ↦ ap (λ ys. x ∷ ys) (front_filter p n xs)
      | false ↦ front_filter p n xs
    ]

length_front_filter : {X : Type 0} (p : X → Bool) (n : ℕ) (xs : List X) → length (filter p (take n xs)) ≤ length (filter p xs)
length_front_filter p zero xs = omega arith
length_front_filter p (suc n) [] = omega arith
length_front_filter p (suc n) (x ∷ xs) =
    let less = length_front_filter p n xs in
    elim (p x) as (λ b. length (cond b (x ∷ filter p (take n xs)) (filter p (take n xs))) ≤ length (cond b (x ∷ filter p xs) (filter p xs))) [ true ↦ omega (arith, less) | false ↦ less ]

-- what a cut drafts: the ranges and the count of what stays of the front
pub cut_within : {T : Type 0} (p : Entry T → Bool) (n m : ℕ) (es : List (Entry T)) → m ≡ length (chosen (λ i e. p e) 0 (take n es)) → m ≤ length (chosen (λ i e. p e) 0 es)
cut_within p n m es is = rw (is, chosen_filter p 0 (take n es), chosen_filter p 0 es) (length_front_filter p n es)

pub cut_sure : {T : Type 0} (p : Entry T → Bool) (n m : ℕ) (es : List (Entry T)) (sure : List Range) → m ≡ length (chosen (λ i e. p e) 0 (take n es)) → sure ≡ ranges (heights (map seen (chosen (λ i e. p e) 0 (take n es))))
    → sure ≡ ranges (heights (take m (map seen (chosen (λ i e. p e) 0 es))))
cut_sure p n m es sure count is =
    is ∙ ap (λ xs. ranges (heights xs)) (sym (take-map seen m (chosen (λ i e. p e) 0 es) ∙ ap (map seen) (ap (λ k. take k (chosen (λ i e. p e) 0 es)) count ∙ front)))
  where
    front : take (length (chosen (λ i e. p e) 0 (take n es))) (chosen (λ i e. p e) 0 es) ≡ chosen (λ i e. p e) 0 (take n es)
    front = rw (chosen_filter p 0 (take n es), chosen_filter p 0 es) (front_filter p n es)

-- ONE MORE ENTRY IS TESTED

chosen_push : {T : Type 0} (p : ℕ → Entry T → Bool) (k : ℕ) (es : List (Entry T)) (e : Entry T) → chosen p k (es ++ e ∷ []) ≡ chosen p k es ++ cond (p (k + length es) e) (e ∷ []) []
chosen_push p k [] e = rw (add_none k) (one (p k e))
  where
    add_none : (n : ℕ) → n + 0 ≡ n
    add_none n = omega arith

    one : (b : Bool) → cond b (e ∷ []) [] ≡ cond b (e ∷ []) []
    one b = refl
chosen_push p k (f ∷ fs) e =
    let next : k + suc (length fs) ≡ suc k + length fs = omega arith in
    rw next (elim (p k f) as (λ b. cond b (f ∷ chosen p (suc k) (fs ++ e ∷ [])) (chosen p (suc k) (fs ++ e ∷ [])) ≡ cond b (f ∷ chosen p (suc k) fs) (chosen p (suc k) fs) ++ cond (p (suc k + length fs) e) (e ∷ []) []) [
      | true ↦ ap (λ gs. f ∷ gs) (chosen_push p (suc k) fs e)
      | false ↦ chosen_push p (suc k) fs e
    ])

pub chosen_step : {T : Type 0} (p : ℕ → Entry T → Bool) (es : List (Entry T)) (i : ℕ) (d e : Entry T) → i < length es → e ≡ get_or es i d → chosen p 0 (take (i + 1) es) ≡ chosen p 0 (take i es) ++ cond (p i e) (e ∷ []) []
chosen_step p es i d e lt is =
    let long : 0 + length (take i es) ≡ i = rw (length-take-le i es (omega arith)) (omega arith) in
    rw (take_more es i d lt, ← is, chosen_push p 0 (take i es) e, long) refl

-- TAKEN OUT IN PLACE

get_dropped : {X : Type 0} (n : ℕ) (xs ys : List X) (d : X) → n < length xs → length xs ≡ length ys → drop n xs ≡ drop n ys → get_or xs n d ≡ get_or ys n d
get_dropped n [] ys d lt long are = absurd (omega arith)
get_dropped n (x ∷ xs) [] d lt long are = absurd (omega (arith, long))
get_dropped zero (x ∷ xs) (y ∷ ys) d lt long are = ap (λ zs. get_or zs 0 d) are
get_dropped (suc n) (x ∷ xs) (y ∷ ys) d lt long are = get_dropped n xs ys d (omega arith) (omega (arith, long)) are

next_drop : {X : Type 0} (n : ℕ) (xs ys : List X) → drop n xs ≡ drop n ys → drop (n + 1) xs ≡ drop (n + 1) ys
next_drop n xs ys are = let next : n + 1 ≡ suc n = omega arith in rw (next, more n xs, more n ys) (ap (drop 1) are)
  where
    more : {X : Type 0} (k : ℕ) (zs : List X) → drop (suc k) zs ≡ drop 1 (drop k zs)
    more zero zs = refl
    more (suc k) [] = refl
    more (suc k) (z ∷ zs) = more k zs

take_late : {X : Type 0} (n i : ℕ) (xs : List X) (y : X) → n ≤ i → take n (set xs i y) ≡ take n xs
take_late zero i xs y le = refl
take_late (suc n) i [] y le = refl
take_late (suc n) zero (x ∷ xs) y le = absurd (omega (arith, le))
take_late (suc n) (suc i) (x ∷ xs) y le = ap (λ zs. x ∷ zs) (take_late n i xs y (omega (arith, le)))

length_set : {X : Type 0} (i : ℕ) (xs : List X) (y : X) → length (set xs i y) ≡ length xs
length_set i [] y = refl
length_set zero (x ∷ xs) y = refl
length_set (suc i) (x ∷ xs) y = ap suc (length_set i xs y)

swap_front : {X : Type 0} (k i : ℕ) (xs : List X) (x d : X) → k ≤ i → i < length xs → x ≡ get_or xs i d → take (k + 1) (swap xs k i) ≡ take k xs ++ x ∷ []
swap_front k i xs x d le lt is = rw (← swap_is xs k i d (omega (arith, le, lt)) lt, ← is) (by (k == i) refl)
  where
    by : (b : Bool) → (k == i) ≡ b → take (k + 1) (set (set xs k x) i (get_or xs k d)) ≡ take k xs ++ x ∷ []
    by true same =
        let at : k ≡ i = eqb-true k i same in
        let y : get_or xs k d ≡ x = ap (λ n. get_or xs n d) at ∙ sym is in
        rw (y, ← at) (take_more_set (set xs k x) k x (rw (length_set k xs x) (omega (arith, le, lt))) ∙ ap (λ zs. zs ++ x ∷ []) (take-set xs k x))
    by false other = take_late (k + 1) i (set xs k x) (get_or xs k d) (omega (arith, le, eqb-false k i other)) ∙ take_more_set xs k x (omega (arith, le, lt))

swap_rest : {X : Type 0} (k i : ℕ) (xs : List X) (d : X) → k ≤ i → i < length xs → drop (i + 1) (swap xs k i) ≡ drop (i + 1) xs
swap_rest k i xs d le lt =
    rw (← swap_is xs k i d (omega (arith, le, lt)) lt) (drop-set-lt (i + 1) (set xs k (get_or xs i d)) i (get_or xs k d) (omega arith) ∙ drop-set-lt (i + 1) xs k (get_or xs i d) (omega (arith, le)))

-- Of the entries before a place those that stay stand in front, and from the place on all stand as they did.
pub record TakesOut {T : Type 0} (p : ℕ → Entry T → Bool) (old now : List (Entry T)) (kept place : ℕ) : Type 0 where
  pub long : length now ≡ length old
  pub front : take kept now ≡ chosen p 0 (take place old)
  pub rest : drop place now ≡ drop place old

pub takes_none : {T : Type 0} (p : ℕ → Entry T → Bool) (old : List (Entry T)) → TakesOut p old old 0 0
takes_none p old = record { long = refl; front = refl; rest = refl }

pub one_stays : {T : Type 0} (p : ℕ → Entry T → Bool) (old now new : List (Entry T)) (kept more place : ℕ) (e d : Entry T) → kept ≤ place → place < length now → e ≡ get_or now place d → p place e ≡ true → new ≡ swap now kept place → more ≡ kept + 1
    → TakesOut p old now kept place → TakesOut p old new more (place + 1)
one_stays p old now new kept more place e d le lt at stays is one so = record {
  long = ap length is ∙ (length-swap now kept place ∙ so.long);
  front = rw (one, is, swap_front kept place now e d le lt at, chosen_step p old place d e (omega (arith, lt, so.long)) (at ∙ get_dropped place now old d lt so.long so.rest), stays, so.front) refl;
  rest = rw (is, swap_rest kept place now d le lt) (next_drop place now old so.rest);
}

pub one_goes : {T : Type 0} (p : ℕ → Entry T → Bool) (old now new : List (Entry T)) (kept same place : ℕ) (e d : Entry T) → place < length now → e ≡ get_or now place d → p place e ≡ false → new ≡ now → same ≡ kept → TakesOut p old now kept place → TakesOut p old new same (place + 1)
one_goes p old now new kept same place e d lt at goes is none so = record {
  long = ap length is ∙ so.long;
  front = rw (none, is, chosen_step p old place d e (omega (arith, lt, so.long)) (at ∙ get_dropped place now old d lt so.long so.rest), goes, append-nil) so.front;
  rest = rw is (next_drop place now old so.rest);
}

pub took_out : {T : Type 0} (p : ℕ → Entry T → Bool) (old now new : List (Entry T)) (kept place : ℕ) → length now ≤ place → new ≡ take kept now → TakesOut p old now kept place → new ≡ chosen p 0 old
took_out p old now new kept place all is so = is ∙ (so.front ∙ ap (chosen p 0) (take_all place old (omega (arith, all, so.long))))

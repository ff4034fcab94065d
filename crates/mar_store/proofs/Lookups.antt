-- Looking up a height in a list of entries: what appending does, and what stands of each element.
use Rattle.std.proofs.Common.{◌≡◌, ◌⊎◌, inl, inr, ◌==◌, ◌||◌, ◌≢◌, ℕ, zero, suc, List, [], ◌∷◌, ◌++◌, Bool, true, false, Option, Some, None, is_some, IsTrue, IsFalse, IsNone, Contains, if◌then◌else◌, refl, sym, ◌∙◌, ap, ap₂, subst, arith, eq-eqb, eqb-true}
use Rattle.std.proofs.lemmas.Bool.{eqb-false}
use Rattle.std.specs.List.{AllByRecursion}
use Rattle.std.specs.Option.{option_or}
use Rattle.mar_store.specs.Kept.{At, EachHeightOnce, has_height, value_at}

-- ALL

pub AllByRecursion-append : {X : Type 0} (P : X → Type 0) (xs ys : List X) → AllByRecursion P xs → AllByRecursion P ys → AllByRecursion P (xs ++ ys)
AllByRecursion-append P [] ys p q = q
AllByRecursion-append P (x ∷ xs) ys p q = (p.0, AllByRecursion-append P xs ys p.1 q)

pub AllByRecursion-append_right : {X : Type 0} (P : X → Type 0) (xs ys : List X) → AllByRecursion P (xs ++ ys) → AllByRecursion P ys
AllByRecursion-append_right P [] ys p = p
AllByRecursion-append_right P (x ∷ xs) ys p = AllByRecursion-append_right P xs ys p.1

pub AllByRecursion-push : {X : Type 0} (P : X → Type 0) (xs : List X) (x : X) → AllByRecursion P xs → P x → AllByRecursion P (xs ++ x ∷ [])
AllByRecursion-push P xs x p q = AllByRecursion-append P xs (x ∷ []) p (q, tt)

pub AllByRecursion-weaker : {X : Type 0} (P Q : X → Type 0) → ((x : X) → P x → Q x) → (xs : List X) → AllByRecursion P xs → AllByRecursion Q xs
AllByRecursion-weaker P Q more [] p = tt
AllByRecursion-weaker P Q more (x ∷ xs) p = (more x p.0, AllByRecursion-weaker P Q more xs p.1)

pub AllByRecursion-contains : {X : Type 0} (P : X → Type 0) (xs : List X) (x : X) → AllByRecursion P xs → Contains xs x → P x
AllByRecursion-contains P [] x p (k, lt, e) = absurd (omega arith)
AllByRecursion-contains P (y ∷ ys) x p (zero, lt, e) = subst P e p.0
AllByRecursion-contains P (y ∷ ys) x p (suc k, lt, e) = AllByRecursion-contains P ys x p.1 (k, omega arith, e)

pub AllByRecursion-from_contains : {X : Type 0} (P : X → Type 0) (xs : List X) → ((x : X) → Contains xs x → P x) → AllByRecursion P xs
AllByRecursion-from_contains P [] p = tt
AllByRecursion-from_contains P (x ∷ xs) p = (p x (zero, omega arith, refl), AllByRecursion-from_contains P xs (λ y has. p y (suc has.0, omega arith, has.2)))

-- what holds of each element of a list holds of each of a list within it
pub AllByRecursion-within : {X : Type 0} (P : X → Type 0) (xs ys : List X) → ((x : X) → Contains xs x → Contains ys x) → AllByRecursion P ys → AllByRecursion P xs
AllByRecursion-within P xs ys within p = AllByRecursion-from_contains P xs (λ x has. AllByRecursion-contains P ys x p (within x has))

-- VALUES

-- by the test of the first height
by_test : {T : Type 0} (P : Option T → Type 0) (b : Bool) (a c : Option T) → (b ≡ true → P a) → (b ≡ false → P c) → P (if b then a else c)
by_test P true a c p q = p refl
by_test P false a c p q = q refl

found_more : {X : Type 0} (b : Bool) (x v : X) (a c : Option X) → (a ≡ Some v → c ≡ Some v) → (if b then Some x else a) ≡ Some v → (if b then Some x else c) ≡ Some v
found_more true x v a c more e = e
found_more false x v a c more e = more e

pub value_at-append_found : {T : Type 0} (xs ys : List (At T)) (h : ℕ) (v : T) → value_at xs h ≡ Some v → value_at (xs ++ ys) h ≡ Some v
value_at-append_found [] ys h v e = cc
value_at-append_found (x ∷ xs) ys h v e = found_more (x.height == h) x.value v _ _ (value_at-append_found xs ys h v) e

first_or : {X : Type 0} (b : Bool) (x : X) (a c d : Option X) → d ≡ option_or a c → (if b then Some x else d) ≡ option_or (if b then Some x else a) c
first_or true x a c d e = refl
first_or false x a c d e = e

pub value_at-append : {T : Type 0} (xs ys : List (At T)) (h : ℕ) → value_at (xs ++ ys) h ≡ option_or (value_at xs h) (value_at ys h)
value_at-append [] ys h = refl
value_at-append (x ∷ xs) ys h = first_or (x.height == h) x.value _ _ _ (value_at-append xs ys h)

pub value_at-one : {T : Type 0} (h : ℕ) (v : T) → value_at (record { height = h; value = v } ∷ []) h ≡ Some v
value_at-one h v = ap (λ (b : Bool). if b then Some v else None) (eq-eqb h h refl)

pub value_at-one_other : {T : Type 0} (h k : ℕ) (v : T) → h ≢ k → value_at (record { height = h; value = v } ∷ []) k ≡ None
value_at-one_other h k v apart = by_test (λ o. o ≡ None) (h == k) (Some v) None (λ same. absurd (apart (eqb-true h k same))) (λ other. refl)

pub value_at-push_other : {T : Type 0} (xs : List (At T)) (h k : ℕ) (v : T) → h ≢ k → value_at (xs ++ record { height = h; value = v } ∷ []) k ≡ value_at xs k
value_at-push_other xs h k v apart = value_at-append xs _ k ∙ ap (λ o. option_or (value_at xs k) o) (value_at-one_other h k v apart) ∙ or_none (value_at xs k)
  where
    or_none : {T : Type 0} (o : Option T) → option_or o None ≡ o
    or_none None = refl
    or_none (Some w) = refl

-- HEIGHTS

pub has_height-from_value : {T : Type 0} (xs : List (At T)) (h : ℕ) (v : T) → value_at xs h ≡ Some v → IsTrue (has_height xs h)
has_height-from_value xs h v e = ap is_some e

pub value-from_has_height : {T : Type 0} (xs : List (At T)) (h : ℕ) → IsTrue (has_height xs h) → (v : T) × (value_at xs h ≡ Some v)
value-from_has_height {T = T} xs h has = of (value_at xs h) has
  where
    of : (o : Option T) → is_some o ≡ true → (v : T) × (o ≡ Some v)
    of None e = absurd cc
    of (Some v) e = (v, refl)

pub missing-from_has_height : {T : Type 0} (xs : List (At T)) (h : ℕ) → IsFalse (has_height xs h) → value_at xs h ≡ None
missing-from_has_height {T = T} xs h lacks = of (value_at xs h) lacks
  where
    of : (o : Option T) → is_some o ≡ false → o ≡ None
    of None e = refl
    of (Some v) e = absurd cc

pub has_height-append : {T : Type 0} (xs ys : List (At T)) (h : ℕ) → has_height (xs ++ ys) h ≡ (has_height xs h || has_height ys h)
has_height-append {T = T} xs ys h = ap is_some (value_at-append xs ys h) ∙ either (value_at xs h) (value_at ys h)
  where
    either : (a c : Option T) → is_some (option_or a c) ≡ (is_some a || is_some c)
    either None c = refl
    either (Some v) c = refl

pub has_height-one : {T : Type 0} (h : ℕ) (v : T) → IsTrue (has_height (record { height = h; value = v } ∷ []) h)
has_height-one h v = ap is_some (value_at-one h v)

pub has_height-push_same : {T : Type 0} (xs : List (At T)) (h : ℕ) (v : T) → IsTrue (has_height (xs ++ record { height = h; value = v } ∷ []) h)
has_height-push_same xs h v = has_height-append xs _ h ∙ ap (λ b. has_height xs h || b) (has_height-one h v) ∙ or_true (has_height xs h)
  where
    or_true : (b : Bool) → (b || true) ≡ true
    or_true true = refl
    or_true false = refl

-- what has a height after a push had it before, or it is the new one
pub has_height-push_cases : {T : Type 0} (xs : List (At T)) (h k : ℕ) (v : T) → IsTrue (has_height (xs ++ record { height = h; value = v } ∷ []) k) → IsTrue (has_height xs k) ⊎ (h ≡ k)
has_height-push_cases xs h k v has = by (h == k) refl
  where
    by : (b : Bool) → (h == k) ≡ b → IsTrue (has_height xs k) ⊎ (h ≡ k)
    by true same = inr (eqb-true h k same)
    by false other = inl (sym (ap is_some (value_at-push_other xs h k v (eqb-false h k other))) ∙ has)

-- ENTRIES

-- an entry that is contained gives its height
pub has_height-from_contains : {T : Type 0} (xs : List (At T)) (x : At T) → Contains xs x → IsTrue (has_height xs x.height)
has_height-from_contains [] x (k, lt, e) = absurd (omega arith)
has_height-from_contains (y ∷ ys) x (zero, lt, e) = by_test (λ o. IsTrue (is_some o)) (y.height == x.height) (Some y.value) (value_at ys x.height) (λ same. refl) (λ other. absurd (eqb-false y.height x.height other (ap (λ z. z.height) e)))
has_height-from_contains (y ∷ ys) x (suc k, lt, e) = by_test (λ o. IsTrue (is_some o)) (y.height == x.height) (Some y.value) (value_at ys x.height) (λ same. refl) (λ other. has_height-from_contains ys x (k, omega arith, e))

abbrev entry_of : {T : Type 0} → ℕ → T → At T
entry_of h v = record { height = h; value = v }

-- a value that is read stands there as an entry
pub Contains-from_value : {T : Type 0} (xs : List (At T)) (h : ℕ) (v : T) → value_at xs h ≡ Some v → Contains xs (record { height = h; value = v })
Contains-from_value [] h v e = absurd cc
Contains-from_value {T = T} (x ∷ xs) h v e = by (x.height == h) refl e (Contains-from_value xs h v)
  where
    by : (b : Bool) → (x.height == h) ≡ b → (if b then Some x.value else value_at xs h) ≡ Some v → (value_at xs h ≡ Some v → Contains xs (record { height = h; value = v })) → Contains (x ∷ xs) (record { height = h; value = v })
    by true same found others = (zero, omega arith, entry (eqb-true x.height h same) (inside found))
      where
        inside : ◌≡◌ {A = Option T} (Some x.value) (Some v) → x.value ≡ v
        inside p = cc

        entry : x.height ≡ h → x.value ≡ v → x ≡ record { height = h; value = v }
        entry p q = ap₂ entry_of p q
    by false other found others = let has = others found in (suc has.0, omega arith, has.2)

pub AllByRecursion-value_at : {T : Type 0} (P : At T → Type 0) (xs : List (At T)) (h : ℕ) (v : T) → AllByRecursion P xs → value_at xs h ≡ Some v → P (record { height = h; value = v })
AllByRecursion-value_at P xs h v all e = AllByRecursion-contains P xs _ all (Contains-from_value xs h v e)

-- where no height stands twice, each entry is the one that is read
pub value_at-from_contains : {T : Type 0} (xs : List (At T)) (x : At T) → EachHeightOnce xs → Contains xs x → value_at xs x.height ≡ Some x.value
value_at-from_contains [] x once (k, lt, e) = absurd (omega arith)
value_at-from_contains (y ∷ ys) x once (zero, lt, e) = subst (λ z. value_at (y ∷ ys) z.height ≡ Some z.value) e (ap (λ (b : Bool). if b then Some y.value else value_at ys y.height) (eq-eqb y.height y.height refl))
value_at-from_contains {T = T} (y ∷ ys) x once (suc k, lt, e) = by_test (λ o. o ≡ Some x.value) (y.height == x.height) (Some y.value) (value_at ys x.height) (λ same. absurd (twice (eqb-true _ _ same))) (λ other. value_at-from_contains ys x once.1 (k, omega arith, e))
  where
    twice : y.height ≡ x.height → ⊥
    twice same = clash (value_at ys y.height) once.0 (ap (λ h. is_some (value_at ys h)) same ∙ has_height-from_contains ys x (k, omega arith, e))
      where
        clash : (o : Option T) → IsNone o → is_some o ≡ true → ⊥
        clash None none some = cc
        clash (Some v) none some = cc

pub EachHeightOnce-push : {T : Type 0} (xs : List (At T)) (h : ℕ) (v : T) → EachHeightOnce xs → value_at xs h ≡ None → EachHeightOnce (xs ++ record { height = h; value = v } ∷ [])
EachHeightOnce-push [] h v once none = (refl, tt)
EachHeightOnce-push {T = T} (x ∷ xs) h v once none = (still (x.height == h) refl none, EachHeightOnce-push xs h v once.1 (others (x.height == h) none))
  where
    others : (b : Bool) → (if b then Some x.value else value_at xs h) ≡ None → value_at xs h ≡ None
    others true e = absurd cc
    others false e = e

    lacks : (o : Option T) → IsNone o → o ≡ None
    lacks None e = refl
    lacks (Some w) e = absurd cc

    still : (b : Bool) → (x.height == h) ≡ b → (if b then Some x.value else value_at xs h) ≡ None → IsNone (value_at (xs ++ record { height = h; value = v } ∷ []) x.height)
    still true same e = absurd cc
    still false other e = ap is_some (value_at-push_other xs h x.height v (λ same. eqb-false x.height h other (sym same)) ∙ lacks (value_at xs x.height) once.0)

-- a list within another has no other height, and no other value where no height stands twice there
pub has_height-within : {T : Type 0} (xs ys : List (At T)) → ((x : At T) → Contains xs x → Contains ys x) → (h : ℕ) → IsTrue (has_height xs h) → IsTrue (has_height ys h)
has_height-within xs ys within h has = let at = value-from_has_height xs h has in has_height-from_contains ys _ (within _ (Contains-from_value xs h at.0 at.1))

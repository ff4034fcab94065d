-- The open keys, as the recorder edits them.
use Rattle.std.proofs.Common.{Bool, List, [], add-one, ap, append-nil, arith, cond, drop, false, filter, get_or, length, map, not, refl, set, suc, sym, take, true, zero, ℕ, ◌+◌, ◌++◌, ◌<◌, ◌∙◌, ◌∷◌, ◌≡◌}
use Rattle.std.proofs.Math.ListN.{get_or-map}
use Rattle.std.proofs.Math.Seq.{take-append_seam}
use Rattle.std.proofs.lemmas.List.{length-map, map-append, map-set}
use Rattle.std.specs.List.{list_any}
use Rattle.mar_key.specs.Asked.{Asked, annotations_of, has_none, is_idle, with_annotation, with_fetch, with_retain, without_denied, without_empty}
use Rattle.mar_key.specs.Fronts.{filter-map, list_any-map}
use Rattle.mar_key.specs.Keys.{Annotation, Key, Retain, annotation_eq, key_eq}

-- an annotation that is there, and one that is not
module _ {A : Type 0} (f : A → Annotation) (a : Annotation) (items view : List A) (found : Bool) (is : found ≡ list_any (λ x. annotation_eq a (f x)) view) (same : view ≡ items) where
  test_is : list_any (annotation_eq a) (map f items) ≡ found
  test_is = list_any-map (annotation_eq a) f items ∙ ap (list_any (λ x. annotation_eq a (f x))) (sym same) ∙ sym is

  pub annotation_kept : found ≡ true → map f items ≡ with_annotation a (map f items)
  annotation_kept passed = let test = test_is ∙ passed in rw test refl

  pub annotation_added : found ≡ false → (new : List A) (x : A) → new ≡ items ++ x ∷ [] → a ≡ f x → map f new ≡ with_annotation a (map f items)
  annotation_added failed new x pushed here = let test = test_is ∙ failed in rw (test, pushed, map-append, here) refl

-- A search for a key, which has come to the place i.
module _ (key : Key) (a : Annotation) (d : Asked) where
  key_past : (xs : List Asked) (i : ℕ) → i < length xs → key_eq key (get_or xs i d).key ≡ false → take i xs ++ with_fetch key a (drop i xs) ≡ take (suc i) xs ++ with_fetch key a (drop (suc i) xs)
  key_past [] i below other = absurd (omega arith)
  key_past (x ∷ xs) zero below other = rw other refl
  key_past (x ∷ xs) (suc i) below other = ap (λ ys. x ∷ ys) (key_past xs i (omega arith) other)

  key_here : (xs : List Asked) (i : ℕ) → i < length xs → key_eq key (get_or xs i d).key ≡ true → take i xs ++ with_fetch key a (drop i xs) ≡ set xs i (record (get_or xs i d) { annotations = with_annotation a (get_or xs i d).annotations })
  key_here [] i below this = absurd (omega arith)
  key_here (x ∷ xs) zero below this = rw this refl
  key_here (x ∷ xs) (suc i) below this = ap (λ ys. x ∷ ys) (key_here xs i (omega arith) this)

kept_unless_empty : (key : Key) (annotations : List Annotation) (xs ys : List Asked) → xs ≡ ys → without_empty (record { key = key; annotations = annotations }) xs ≡ cond (not (has_none annotations)) (record { key = key; annotations = annotations } ∷ ys) ys
kept_unless_empty key [] xs ys same = same
kept_unless_empty key (a ∷ annotations) xs ys same = ap (λ zs. record { key = key; annotations = a ∷ annotations } ∷ zs) same

pub with_retain-filter : (keep : Retain) (xs : List Asked) → with_retain keep xs ≡ filter (λ x. not (is_idle x)) (map (without_denied keep) xs)
with_retain-filter keep [] = refl
with_retain-filter keep (x ∷ xs) = kept_unless_empty x.key (without_denied keep x).annotations _ _ (with_retain-filter keep xs)

pub set_same : {A : Type 0} (xs : List A) (i : ℕ) (d : A) → set xs i (get_or xs i d) ≡ xs
set_same [] i d = refl
set_same (x ∷ xs) zero d = refl
set_same (x ∷ xs) (suc i) d = ap (λ ys. x ∷ ys) (set_same xs i d)

-- an entry was written that shows what the one before it did
pub entry_same : {A B : Type 0} (f : A → B) (xs ys : List A) (i : ℕ) (new d : A) → ys ≡ xs → f new ≡ f (get_or ys i d) → map f (set ys i new) ≡ map f xs
entry_same f xs ys i new d same shows =
    map-set f ys i new
    ∙ ap (set (map f ys) i) (shows ∙ sym (get_or-map f ys i d))
    ∙ set_same (map f ys) i (f d)
    ∙ ap (map f) same

-- a slice of the whole list was written over
whole_written : {A : Type 0} (n : ℕ) (ws rest : List A) → length ws ≡ n → take n (ws ++ rest) ≡ ws
whole_written n ws rest long = ap (λ k. take k (ws ++ rest)) (sym long) ∙ take-append_seam ws rest

-- a slice of the whole list was written over with entries that show what those before them did
pub slice_written : {A B : Type 0} (f : A → B) (n : ℕ) (old view ws rest : List A) → length ws ≡ n → map f ws ≡ map f view → view ≡ old → map f (take n (ws ++ rest)) ≡ map f old
slice_written f n old view ws rest long shows same = ap (map f) (whole_written n ws rest long) ∙ shows ∙ ap (map f) same

-- the keys without what is denied, where those that are asked for nobody then went
pub keys_retained : {A : Type 0} (f : A → Asked) (keep : Retain) (old view ws rest new : List A) (n : ℕ) → map f ws ≡ map (without_denied keep) (map f view) → view ≡ old → length ws ≡ n → new ≡ filter (λ x. not (is_idle (f x))) (take n (ws ++ rest)) → map f new ≡ with_retain keep (map f old)
keys_retained f keep old view ws rest new n denied same long kept =
    ap (map f) kept
    ∙ sym (filter-map (λ x. not (is_idle x)) f (take n (ws ++ rest)))
    ∙ ap (λ ys. filter (λ x. not (is_idle x)) (map f ys)) (whole_written n ws rest long)
    ∙ ap (filter (λ x. not (is_idle x))) (denied ∙ ap (λ ys. map (without_denied keep) (map f ys)) same)
    ∙ sym (with_retain-filter keep (map f old))

abbrev pub asked_for : Key → List Annotation → Asked
asked_for key annotations = record { key = key; annotations = annotations }

-- the key with one more annotation, unless it has it
abbrev pub with_one : Annotation → Asked → Asked
with_one a x = record x { annotations = with_annotation a x.annotations }

-- The same search in a list that is seen through f, and that no step has changed.
module _ (key : Key) (a : Annotation) {A : Type 0} (f : A → Asked) (xs ys : List A) (i : ℕ) (d : A) (same : ys ≡ xs) (passed : with_fetch key a (map f xs) ≡ take i (map f xs) ++ with_fetch key a (drop i (map f xs))) (below : i < length xs) where
  at_place : f (get_or ys i d) ≡ get_or (map f xs) i (f d)
  at_place = ap (λ zs. f (get_or zs i d)) same ∙ sym (get_or-map f xs i d)

  within_place : i < length (map f xs)
  within_place = omega (arith, length-map xs f)

  pub key_found : key_eq key (f (get_or ys i d)).key ≡ true → (new : A) → f new ≡ with_one a (f (get_or ys i d)) → map f (set ys i new) ++ [] ≡ with_fetch key a (map f xs)
  key_found this new written =
      append-nil (map f (set ys i new))
      ∙ map-set f ys i new
      ∙ ap (λ x. set (map f ys) i x) (written ∙ ap (with_one a) at_place)
      ∙ ap (λ zs. set (map f zs) i (with_one a (get_or (map f xs) i (f d)))) same
      ∙ sym (passed ∙ key_here key a (f d) (map f xs) i within_place (ap (λ x. key_eq key x.key) (sym at_place) ∙ this))

  pub key_other : key_eq key (f (get_or ys i d)).key ≡ false → with_fetch key a (map f xs) ≡ take (i + 1) (map f xs) ++ with_fetch key a (drop (i + 1) (map f xs))
  key_other other =
      passed
      ∙ key_past key a (f d) (map f xs) i within_place (ap (λ x. key_eq key x.key) (sym at_place) ∙ other)
      ∙ ap (λ k. take k (map f xs) ++ with_fetch key a (drop k (map f xs))) (sym (add-one i))

-- A search for a key's annotations, which has come to the place i.
module _ (key : Key) {A : Type 0} (f : A → Asked) (xs : List A) (i : ℕ) (d : A) where
  annotations_past : (zs : List Asked) (k : ℕ) (e : Asked) → k < length zs → key_eq key (get_or zs k e).key ≡ false → annotations_of (drop k zs) key ≡ annotations_of (drop (suc k) zs) key
  annotations_past [] k e below other = absurd (omega arith)
  annotations_past (z ∷ zs) zero e below other = rw other refl
  annotations_past (z ∷ zs) (suc k) e below other = annotations_past zs k e (omega arith) other

  annotations_here : (zs : List Asked) (k : ℕ) (e : Asked) → k < length zs → key_eq key (get_or zs k e).key ≡ true → annotations_of (drop k zs) key ≡ (get_or zs k e).annotations
  annotations_here [] k e below this = absurd (omega arith)
  annotations_here (z ∷ zs) zero e below this = rw this refl
  annotations_here (z ∷ zs) (suc k) e below this = annotations_here zs k e (omega arith) this

  place_is : d ≡ get_or xs i d → get_or (map f xs) i (f d) ≡ f d
  place_is here = get_or-map f xs i d ∙ ap f (sym here)

  pub annotations_other : d ≡ get_or xs i d → annotations_of (map f xs) key ≡ annotations_of (drop i (map f xs)) key → i < length xs → key_eq key (f d).key ≡ false → annotations_of (map f xs) key ≡ annotations_of (drop (i + 1) (map f xs)) key
  annotations_other here passed below other =
      passed
      ∙ annotations_past (map f xs) i (f d) (omega (arith, length-map xs f)) (ap (λ x. key_eq key x.key) (place_is here) ∙ other)
      ∙ ap (λ k. annotations_of (drop k (map f xs)) key) (sym (add-one i))

  pub annotations_found : d ≡ get_or xs i d → annotations_of (map f xs) key ≡ annotations_of (drop i (map f xs)) key → i < length xs → key_eq key (f d).key ≡ true → (f d).annotations ≡ annotations_of (map f xs) key
  annotations_found here passed below this =
      sym (passed
      ∙ annotations_here (map f xs) i (f d) (omega (arith, length-map xs f)) (ap (λ x. key_eq key x.key) (place_is here) ∙ this)
      ∙ ap (λ x. x.annotations) (place_is here))

-- Of the open keys none stands twice, each is asked for somebody, and for nobody twice.
use Rattle.std.proofs.Common.{Bool, List, [], cond, false, filter, fold, if◌then◌else◌, map, not, refl, subst, sym, true, ◌++◌, ◌||◌, ◌∙◌, ◌∷◌, ◌≡◌}
use Rattle.std.specs.List.{AllByRecursion, list_any}
use Rattle.mar_key.specs.Asked.{AreDistinct, Asked, IsAsked, IsOpenList, Judged, Outcome, after_ask, after_outcome, annotations_of, asked_after, has_none, judged_complete, judged_ignored, judged_invalid, with_annotation, with_fetch, with_retain, without_denied, without_empty}
use Rattle.mar_key.specs.Fronts.{list_any-map}
use Rattle.mar_key.specs.Keys.{Annotation, Call, Key, Retain, annotation_eq, fetch, is_denied, key_eq, retain}
use Rattle.mar_key.proofs.OpenKeys.{asked_for, with_retain-filter}

or_left : (a b : Bool) → (a || b) ≡ false → a ≡ false
or_left true b e = e
or_left false b e = refl

or_right : (a b : Bool) → (a || b) ≡ false → b ≡ false
or_right true b e = absurd cc
or_right false b e = e

or_none : (a b : Bool) → a ≡ false → b ≡ false → (a || b) ≡ false
or_none true b p q = p
or_none false b p q = q

-- LISTS

module _ {T : Type 0} (p q : T → Bool) where
  none_more : (xs : List T) (a : T) → list_any p xs ≡ false → p a ≡ false → list_any p (xs ++ a ∷ []) ≡ false
  none_more [] a none new = or_none (p a) false new refl
  none_more (x ∷ xs) a none new = or_none (p x) _ (or_left (p x) _ none) (none_more xs a (or_right (p x) _ none) new)

  none_filtered : (xs : List T) → list_any p xs ≡ false → list_any p (filter q xs) ≡ false
  none_filtered [] none = refl
  none_filtered (x ∷ xs) none = by (q x) (none_filtered xs (or_right (p x) _ none))
    where
      by : (b : Bool) → list_any p (filter q xs) ≡ false → list_any p (cond b (x ∷ filter q xs) (filter q xs)) ≡ false
      by true rest = or_none (p x) _ (or_left (p x) _ none) rest
      by false rest = rest

module _ {T : Type 0} (same : T → T → Bool) where
  distinct_more : (xs : List T) (a : T) → AreDistinct same xs → list_any (same a) xs ≡ false → AreDistinct same (xs ++ a ∷ [])
  distinct_more [] a distinct new = (refl, tt)
  distinct_more (x ∷ xs) a distinct new = (none_more (λ y. same y x) (same a) xs a distinct.0 (or_left (same a x) _ new), distinct_more xs a distinct.1 (or_right (same a x) _ new))

  distinct_filtered : (q : T → Bool) (xs : List T) → AreDistinct same xs → AreDistinct same (filter q xs)
  distinct_filtered q [] distinct = tt
  distinct_filtered q (x ∷ xs) distinct = by (q x) (distinct_filtered q xs distinct.1)
    where
      by : (b : Bool) → AreDistinct same (filter q xs) → AreDistinct same (cond b (x ∷ filter q xs) (filter q xs))
      by true rest = (none_filtered (λ y. same y x) q xs distinct.0, rest)
      by false rest = rest

all_filtered : {T : Type 0} (P : T → Type 0) (q : T → Bool) (xs : List T) → AllByRecursion P xs → AllByRecursion P (filter q xs)
all_filtered P q [] all = tt
all_filtered P q (x ∷ xs) all = by (q x) (all_filtered P q xs all.1)
  where
    by : (b : Bool) → AllByRecursion P (filter q xs) → AllByRecursion P (cond b (x ∷ filter q xs) (filter q xs))
    by true rest = (all.0, rest)
    by false rest = rest

-- ONE ASK

annotation_distinct : (a : Annotation) (xs : List Annotation) → AreDistinct annotation_eq xs → AreDistinct annotation_eq (with_annotation a xs)
annotation_distinct a xs distinct = by (list_any (annotation_eq a) xs) refl
  where
    by : (b : Bool) → list_any (annotation_eq a) xs ≡ b → AreDistinct annotation_eq (if b then xs else xs ++ a ∷ [])
    by true found = distinct
    by false new = distinct_more annotation_eq xs a distinct new

-- a list that has one more, or what it had, has some
some_more : (a : Annotation) (xs : List Annotation) → has_none (xs ++ a ∷ []) ≡ false
some_more a [] = refl
some_more a (x ∷ xs) = refl

annotation_some : (a : Annotation) (xs : List Annotation) → has_none xs ≡ false → has_none (with_annotation a xs) ≡ false
annotation_some a xs some = by (list_any (annotation_eq a) xs)
  where
    by : (b : Bool) → has_none (if b then xs else xs ++ a ∷ []) ≡ false
    by true = some
    by false = some_more a xs

module _ (key : Key) (a : Annotation) where
  none_fetched : (k : Key) (xs : List Asked) → list_any (λ y. key_eq y.key k) xs ≡ false → key_eq key k ≡ false → list_any (λ y. key_eq y.key k) (with_fetch key a xs) ≡ false
  none_fetched k [] none new = or_none (key_eq key k) false new refl
  none_fetched k (x ∷ xs) none new = by (key_eq key x.key) (none_fetched k xs (or_right (key_eq x.key k) _ none) new)
    where
      by : (b : Bool) → list_any (λ y. key_eq y.key k) (with_fetch key a xs) ≡ false → list_any (λ y. key_eq y.key k) (if b then record x { annotations = with_annotation a x.annotations } ∷ xs else x ∷ with_fetch key a xs) ≡ false
      by true rest = none
      by false rest = or_none (key_eq x.key k) _ (or_left (key_eq x.key k) _ none) rest

  keys_fetched : (xs : List Asked) → AreDistinct (λ x y. key_eq x.key y.key) xs → AreDistinct (λ x y. key_eq x.key y.key) (with_fetch key a xs)
  keys_fetched [] distinct = (refl, tt)
  keys_fetched (x ∷ xs) distinct = by (key_eq key x.key) refl (keys_fetched xs distinct.1)
    where
      by : (b : Bool) → key_eq key x.key ≡ b → AreDistinct (λ x y. key_eq x.key y.key) (with_fetch key a xs) → AreDistinct (λ x y. key_eq x.key y.key) (if b then record x { annotations = with_annotation a x.annotations } ∷ xs else x ∷ with_fetch key a xs)
      by true this rest = distinct
      by false other rest = (none_fetched x.key xs distinct.0 other, rest)

  asked_fetched : (xs : List Asked) → AllByRecursion IsAsked xs → AllByRecursion IsAsked (with_fetch key a xs)
  asked_fetched [] all = ((refl, (refl, tt)), tt)
  asked_fetched (x ∷ xs) all = by (key_eq key x.key) (asked_fetched xs all.1)
    where
      by : (b : Bool) → AllByRecursion IsAsked (with_fetch key a xs) → AllByRecursion IsAsked (if b then record x { annotations = with_annotation a x.annotations } ∷ xs else x ∷ with_fetch key a xs)
      by true rest = ((annotation_some a x.annotations all.0.0, annotation_distinct a x.annotations all.0.1), all.1)
      by false rest = (all.0, rest)

-- RETAINS AND OUTCOMES

keys_denied : (keep : Retain) (xs : List Asked) → AreDistinct (λ x y. key_eq x.key y.key) xs → AreDistinct (λ x y. key_eq x.key y.key) (map (without_denied keep) xs)
keys_denied keep [] distinct = tt
keys_denied keep (x ∷ xs) distinct = (list_any-map (λ y. key_eq y.key x.key) (without_denied keep) xs ∙ distinct.0, keys_denied keep xs distinct.1)

asked_unless_empty : (key : Key) (annotations : List Annotation) (xs : List Asked) → AreDistinct annotation_eq annotations → AllByRecursion IsAsked xs → AllByRecursion IsAsked (without_empty (asked_for key annotations) xs)
asked_unless_empty key [] xs distinct all = all
asked_unless_empty key (a ∷ annotations) xs distinct all = ((refl, distinct), all)

asked_retained : (keep : Retain) (xs : List Asked) → AllByRecursion IsAsked xs → AllByRecursion IsAsked (with_retain keep xs)
asked_retained keep [] all = tt
asked_retained keep (x ∷ xs) all = asked_unless_empty x.key (without_denied keep x).annotations (with_retain keep xs) (distinct_filtered annotation_eq (λ a. not (is_denied keep a)) x.annotations all.0.1) (asked_retained keep xs all.1)

ask_keeps : (xs : List Asked) (call : Call) → IsOpenList xs → IsOpenList (after_ask xs call)
ask_keeps xs (fetch key a targets) list = record { keys = keys_fetched key a xs list.keys; asked = asked_fetched key a xs list.asked }
ask_keeps xs (retain keep) list = record {
  keys = subst (AreDistinct (λ x y. key_eq x.key y.key)) (sym (with_retain-filter keep xs)) (distinct_filtered (λ x y. key_eq x.key y.key) _ (map (without_denied keep) xs) (keys_denied keep xs list.keys));
  asked = asked_retained keep xs list.asked;
}

without_keeps : (key : Key) (xs : List Asked) → IsOpenList xs → IsOpenList (filter (λ x. not (key_eq key x.key)) xs)
without_keeps key xs list = record {
  keys = distinct_filtered (λ x y. key_eq x.key y.key) (λ x. not (key_eq key x.key)) xs list.keys;
  asked = all_filtered IsAsked (λ x. not (key_eq key x.key)) xs list.asked;
}

outcome_keeps : (xs : List Asked) (judged : Judged) → IsOpenList xs → IsOpenList (after_outcome xs judged)
outcome_keeps xs judged list = by judged.ticket judged.key judged.outcome
  where
    by : (t : _) (key : Key) (outcome : Outcome) → IsOpenList (after_outcome xs (record { ticket = t; key = key; outcome = outcome }))
    by t key judged_complete = without_keeps key xs list
    by t key judged_ignored = without_keeps key xs list
    by t key judged_invalid = list

-- ANY OF THEM

kept_by_all : {T : Type 0} (step : List Asked → T → List Asked) → ((xs : List Asked) (t : T) → IsOpenList xs → IsOpenList (step xs t)) → (ts : List T) (xs : List Asked) → IsOpenList xs → IsOpenList (fold step xs ts)
kept_by_all step keeps [] xs list = list
kept_by_all step keeps (t ∷ ts) xs list = kept_by_all step keeps ts (step xs t) (keeps xs t list)

pub open_list_kept : (xs : List Asked) (outcomes : List Judged) (asks : List Call) → IsOpenList xs → IsOpenList (asked_after xs outcomes asks)
open_list_kept xs outcomes asks list = kept_by_all after_ask ask_keeps asks (fold after_outcome xs outcomes) (kept_by_all after_outcome outcome_keeps outcomes xs list)

pub none_open : IsOpenList []
none_open = record { keys = tt; asked = tt }

-- a key is open exactly where it has annotations
open_where_all : (key : Key) (xs : List Asked) → AllByRecursion IsAsked xs → has_none (annotations_of xs key) ≡ not (list_any (λ x. key_eq key x.key) xs)
open_where_all key [] all = refl
open_where_all key (x ∷ xs) all = by (key_eq key x.key) (open_where_all key xs all.1)
  where
    by : (b : Bool) → has_none (annotations_of xs key) ≡ not (list_any (λ y. key_eq key y.key) xs) → has_none (if b then x.annotations else annotations_of xs key) ≡ not (b || list_any (λ y. key_eq key y.key) xs)
    by true rest = all.0.0
    by false rest = rest

pub open_where_asked : (xs : List Asked) (key : Key) → IsOpenList xs → has_none (annotations_of xs key) ≡ not (list_any (λ x. key_eq key x.key) xs)
open_where_asked xs key list = open_where_all key xs list.asked

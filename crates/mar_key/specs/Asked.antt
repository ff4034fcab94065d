-- The recorder: the open list of keys and their annotations.
use Rattle.std.specs.List.{AllByRecursion, list_any}
use Rattle.std.specs.Prelude.{Bool, IsFalse, List, [], false, filter, fold, if◌then◌else◌, not, take, true, ℕ, ◌++◌, ◌∷◌, ◌≡◌}
use Rattle.mar_key.specs.Keys.{Annotation, Call, Key, Retain, annotation_eq, fetch, is_denied, key_eq, retain}

-- an open key with its annotations, in the order in which they came
pub record Asked : Type 0 where
  pub key : Key
  pub annotations : List Annotation

pub data Outcome : Type 0 where
  judged_complete : Outcome
  judged_invalid : Outcome
  judged_ignored : Outcome

-- the judgement of one delivery
pub record Judged : Type 0 where
  pub ticket : ℕ
  pub key : Key
  pub outcome : Outcome

abbrev pub with_annotation : Annotation → List Annotation → List Annotation
with_annotation a xs = if list_any (annotation_eq a) xs then xs else xs ++ a ∷ []

-- a key that is asked for one annotation
abbrev pub newly_asked : Key → Annotation → Asked
newly_asked key a = record { key = key; annotations = a ∷ [] }

abbrev pub with_fetch : Key → Annotation → List Asked → List Asked
with_fetch key a [] = newly_asked key a ∷ []
with_fetch key a (x ∷ xs) = if key_eq key x.key then record x { annotations = with_annotation a x.annotations } ∷ xs else x ∷ with_fetch key a xs

abbrev pub has_none : List Annotation → Bool
has_none [] = true
has_none (a ∷ others) = false

-- the key is asked for nobody
abbrev pub is_idle : Asked → Bool
is_idle x = has_none x.annotations

abbrev pub without_empty : Asked → List Asked → List Asked
without_empty x xs = drop_empty x.annotations
  where
    drop_empty : List Annotation → List Asked
    drop_empty [] = xs
    drop_empty (a ∷ others) = x ∷ xs

-- the key without the annotations that are denied
abbrev pub without_denied : Retain → Asked → Asked
without_denied keep x = record x { annotations = filter (λ a. not (is_denied keep a)) x.annotations }

abbrev pub with_retain : Retain → List Asked → List Asked
with_retain keep [] = []
with_retain keep (x ∷ xs) = without_empty (without_denied keep x) (with_retain keep xs)

abbrev pub after_ask : List Asked → Call → List Asked
after_ask asked (fetch key annotation targets) = with_fetch key annotation asked
after_ask asked (retain keep) = with_retain keep asked

-- Complete and Ignored close the key, Invalid leaves it
abbrev pub after_outcome : List Asked → Judged → List Asked
after_outcome asked judged = closing judged.outcome
  where
    without : List Asked
    without = filter (λ x. not (key_eq judged.key x.key)) asked

    closing : Outcome → List Asked
    closing judged_complete = without
    closing judged_ignored = without
    closing judged_invalid = asked

-- of one script line first its outcomes, then its fetches and retains in order
abbrev pub asked_after : List Asked → List Judged → List Call → List Asked
asked_after asked outcomes asks = fold after_ask (fold after_outcome asked outcomes) asks

-- the judgements, and of what was asked the first part
abbrev pub IsAskedInPart : List Asked → List Judged → List Call → List Asked → Type 0
IsAskedInPart asked outcomes asks new = (taken : ℕ) × (new ≡ asked_after asked outcomes (take taken asks))

-- the open annotations of a key
abbrev pub annotations_of : List Asked → Key → List Annotation
annotations_of [] key = []
annotations_of (x ∷ xs) key = if key_eq key x.key then x.annotations else annotations_of xs key

-- no later one is the same as an earlier one
abbrev pub AreDistinct : {T : Type 0} → (T → T → Bool) → List T → Type 0
AreDistinct same [] = Unit {0}
AreDistinct same (x ∷ xs) = IsFalse (list_any (λ y. same y x) xs) × AreDistinct same xs

-- the key is asked for somebody, and for nobody twice
abbrev pub IsAsked : Asked → Type 0
IsAsked x = IsFalse (is_idle x) × AreDistinct annotation_eq x.annotations

-- open keys, of which none stands twice
pub record IsOpenList (xs : List Asked) : Type 0 where
  pub keys : AreDistinct (λ x y. key_eq x.key y.key) xs
  pub asked : AllByRecursion IsAsked xs

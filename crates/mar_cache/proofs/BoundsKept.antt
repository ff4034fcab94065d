-- What the metadata of a cache may be left with.
use Rattle.std.proofs.Common.{◌≡◌, ◌∙◌, ℕ, zero, suc, List, [], ◌∷◌, ◌++◌, Some, Result, Ok, Err, IfOk, MatchResult, Contains, inl, inr, refl, ap, ap₂, subst, sym, unwrap_or, map, arith}
use Rattle.std.proofs.lemmas.List.{map-append}
use Rattle.std.proofs.lemmas.List.Elements.{Contains-append_cases, Contains-append_left, Contains-append_right}
use Rattle.mar_store.specs.Lost.{wreck_of}
use Rattle.mar_store.specs.declared.Lost.{Lost}
use Rattle.mar_store.specs.Changes.{Within}
use Rattle.mar_store.specs.Values.{LeavesValues, SetsValue, Values}
use Rattle.mar_cache.specs.Bounds.{Bounds, LeavesBounds, bounds_of}
use Rattle.mar_epochs.proofs.Filtering.{contains_more, contains_none}

pub contains_map : {A B : Type 0} (f : A → B) (xs : List A) (x : A) → Contains xs x → Contains (map f xs) (f x)
contains_map f [] x has = contains_none x has
contains_map f (y ∷ ys) x (zero, lt, is) = (zero, omega arith, ap f is)
contains_map f (y ∷ ys) x (suc k, lt, is) = contains_more (f y) (map f ys) (f x) (contains_map f ys x (k, omega arith, is))

source_of : {A B : Type 0} (f : A → B) (xs : List A) (y : B) → Contains (map f xs) y → (x : A) × Contains xs x × (f x ≡ y)
source_of f [] y has = contains_none y has
source_of f (x ∷ xs) y (zero, lt, is) = (x, (zero, omega arith, refl), is)
source_of f (x ∷ xs) y (suc k, lt, is) = let rest = source_of f xs y (k, omega arith, is) in (rest.0, contains_more x xs rest.0 rest.1, rest.2)

pub within_map : {A B : Type 0} (f : A → B) (xs ys : List A) → Within xs ys → Within (map f xs) (map f ys)
within_map f xs ys within y has = let source = source_of f xs y has in subst (λ z. Contains (map f ys) z) source.2 (contains_map f ys source.0 (within source.0 source.1))

-- more may be left than what was written
pub leaves_bounds : (old more left : List Values) (b : Bounds) → LeavesValues old more left → Within (map bounds_of more) (b ∷ []) → LeavesBounds (map bounds_of old) (b ∷ []) (map bounds_of left)
leaves_bounds old more left b leaves wider = record {
  kept = within_map bounds_of old left leaves.kept;
  within = λ y has. widen y (subst (λ ys. Contains ys y) (map-append bounds_of old more) (within_map bounds_of left (old ++ more) leaves.within y has));
}
  where
    widen : (y : Bounds) → Contains (map bounds_of old ++ map bounds_of more) y → Contains (map bounds_of old ++ b ∷ []) y
    widen y has = elim (Contains-append_cases (map bounds_of old) (map bounds_of more) y has) [ inl before ↦ Contains-append_left (map bounds_of old) (b ∷ []) y before | inr new ↦ Contains-append_right (map bounds_of old) (b ∷ []) y (wider y new) ]

pub none_wider : (b : Bounds) → Within (map bounds_of []) (b ∷ [])
none_wider b y has = contains_none y has

-- both were put
pub bounds_put : (old mid now : Values) (l h : ℕ) → SetsValue old 0 (Some l) mid → SetsValue mid 1 (Some h) now → bounds_of now ≡ record { lowest = l; highest = h }
bounds_put old mid now l h first second = ap₂ (λ a b. record { lowest = unwrap_or a 0; highest = unwrap_or b 0 }) (second 0 ∙ first 0) (second 1)

-- and then made durable
pub bounds_synced : {S W : Type 0} (current : S → Values) (left : S → List Values) (ruin : W → List Values) (before : List Values) (values : Values) (b : Bounds) (r : Result S (Lost W)) → bounds_of values ≡ b
    → MatchResult r (λ s. left s ≡ values ∷ []) (λ l. LeavesValues before (values ∷ []) (ruin (wreck_of l))) → IfOk r (λ s. current s ≡ values)
    → MatchResult r (λ s. (bounds_of (current s) ≡ b) × (left s ≡ current s ∷ [])) (λ l. LeavesBounds (map bounds_of before) (b ∷ []) (map bounds_of (ruin (wreck_of l))))
bounds_synced current left ruin before values b (Ok s) is done same = (ap bounds_of same ∙ is, done ∙ ap (λ v. v ∷ []) (sym same))
bounds_synced current left ruin before values b (Err l) is done same = leaves_bounds before (values ∷ []) (ruin (wreck_of l)) b done (λ y has. subst (λ c. Contains (c ∷ []) y) is has)

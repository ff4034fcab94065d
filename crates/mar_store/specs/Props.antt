-- Facts that have one proof, so that a struct can carry them.
use Rattle.std.specs.Prelude.{Bool, List, [], ℕ, ◌∷◌}
use Rattle.std.specs.Coded.{Coded-set, coded_bool, ×_prop, Unit-prop}
use Rattle.std.specs.List.{AllByRecursion-prop}
use Rattle.mar_store.specs.Kept.{At, EachHeightOnce}
use Rattle.mar_store.specs.Named.{EachNameOnce}
use Rattle.mar_store.specs.Entries.{AreCounted, AreFitting, AreUpto, Ascend}
use Rattle.mar_store.specs.declared.entry.Entry.{Entry}

pub EachHeightOnce-prop : {T : Type 0} (xs : List (At T)) → IsProp (EachHeightOnce xs)
EachHeightOnce-prop [] = Unit-prop
EachHeightOnce-prop (x ∷ xs) = ×_prop (Coded-set coded_bool _ _) (EachHeightOnce-prop xs)

pub EachNameOnce-prop : {T : Type 0} (name : T → List ℕ) (xs : List (At T)) → IsProp (EachNameOnce name xs)
EachNameOnce-prop name [] = Unit-prop
EachNameOnce-prop name (x ∷ xs) = ×_prop (Coded-set coded_bool _ _) (EachNameOnce-prop name xs)

pub AreFitting-prop : {T : Type 0} (fits : ℕ → T → Bool) (xs : List (At T)) → IsProp (AreFitting fits xs)
AreFitting-prop fits xs = AllByRecursion-prop _ (λ x. Coded-set coded_bool _ _) xs

pub AreUpto-prop : {T : Type 0} (n : ℕ) (items : List (Entry T)) → IsProp (AreUpto n items)
AreUpto-prop n items = AllByRecursion-prop _ (λ e. Coded-set coded_bool _ _) items

pub AreCounted-prop : {T : Type 0} (n : ℕ) (items : List (Entry T)) → IsProp (AreCounted n items)
AreCounted-prop n items = AllByRecursion-prop _ (λ e. Coded-set coded_bool _ _) items

pub Ascend-prop : {T : Type 0} (items : List (Entry T)) → IsProp (Ascend items)
Ascend-prop [] = Unit-prop
Ascend-prop (e ∷ es) = ×_prop (AllByRecursion-prop _ (λ f. Coded-set coded_bool _ _) es) (Ascend-prop es)

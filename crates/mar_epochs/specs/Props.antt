-- Facts that have one proof, so that a struct can carry them.
use Rattle.std.specs.Prelude.{List, [], ℕ, ◌∷◌}
use Rattle.std.specs.Coded.{Coded-set, coded_bool, ×_prop, Unit-prop}
use Rattle.std.specs.List.{AllByRecursion-prop}
use Rattle.mar_model.specs.Cached.{Cached, EachPlaceOnce}
use Rattle.mar_epochs.specs.EntryLogs.{AreNumbered, Logged}

pub EachPlaceOnce-prop : (xs : List Cached) → IsProp (EachPlaceOnce xs)
EachPlaceOnce-prop [] = Unit-prop
EachPlaceOnce-prop (x ∷ xs) = ×_prop (Coded-set coded_bool _ _) (EachPlaceOnce-prop xs)

pub AreNumbered-prop : (n : ℕ) (fs : List Logged) → IsProp (AreNumbered n fs)
AreNumbered-prop n fs = AllByRecursion-prop _ (λ f. Coded-set coded_bool _ _) fs

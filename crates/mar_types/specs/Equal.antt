-- What it means that an equality tells values apart by all that they hold.
use Rattle.std.specs.Bool.{Decides}
use Rattle.std.specs.Prelude.{Bool, ◌≡◌}

-- two are equal for the test exactly where they are the same
abbrev pub TellsApart : {T : Type 0} → (T → T → Bool) → Type 0
TellsApart test = (x y : _) → Decides (test x y) (x ≡ y)

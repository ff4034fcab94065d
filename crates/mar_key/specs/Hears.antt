-- What someone was handed, in order.
use Rattle.std.specs.Prelude.{IfSome, List, Option, Some, ◌++◌, ◌≡◌}

-- where it tells what it was handed, that is these more now
abbrev pub Hears : {T : Type 0} → Option (List T) → List T → Option (List T) → Type 0
Hears old more new = IfSome old (λ told. new ≡ Some (told ++ more))

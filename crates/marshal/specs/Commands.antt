-- The words that the program knows.
use Rattle.std.specs.Prelude.{List, [], codes, ℕ, ◌∷◌, ◌≡◌, ◌⊎◌}
use Rattle.mar_replay.specs.Commands.{IsKnown}

-- the words of a command line that the program has
abbrev pub IsCommand : List (List ℕ) → Type 0
IsCommand words = IsKnown words ⊎ (words ≡ codes "--help" ∷ []) ⊎ (words ≡ codes "--version" ∷ [])

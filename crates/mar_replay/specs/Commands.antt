-- What the words of the command line ask for.
use Rattle.std.specs.Prelude.{List, [], codes, decimal, ℕ, ◌∷◌, ◌≡◌, ◌≤◌}
use Rattle.mar_types.specs.Varint.{IsNumber}
use Rattle.mar_replay.specs.declared.command.Command.{Command}
use Rattle.mar_replay.specs.declared.command.Command.TheVariants as command

-- `replay`
abbrev pub AsksReplay : List (List ℕ) → Type 0
AsksReplay words = words ≡ codes "replay" ∷ []

-- `gen SEED N`, N from 1 to 10,000
pub record AsksGen (words : List (List ℕ)) (seed n : ℕ) : Type 0 where
  pub words_are : words ≡ codes "gen" ∷ decimal seed ∷ decimal n ∷ []
  pub seed_fits : IsNumber seed
  pub least : 1 ≤ n
  pub most : n ≤ 10_000

abbrev pub IsAsked : List (List ℕ) → Command → Type 0
IsAsked words command.Replay = AsksReplay words
IsAsked words (command.Generate seed n) = AsksGen words seed n

-- the words that `run` knows
abbrev pub IsKnown : List (List ℕ) → Type 0
IsKnown words = (asked : Command) × IsAsked words asked

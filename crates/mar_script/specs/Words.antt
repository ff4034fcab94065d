-- The words of the command line and of a script's line, and what a reader of words answers.
use Rattle.std.specs.Borrow.{Bor}
use Rattle.std.specs.List.{slice_split}
use Rattle.std.specs.Prelude.{Err, List, Ok, Result, [], codes, map, ℕ, ⊤, ◌==◌, ◌≡◌, ◌∷◌, ◌⊎◌}
use Rattle.mar_script.specs.Script.{Settings}
use Rattle.mar_script.specs.declared.words.ParseError.{ParseError}
use Rattle.mar_script.specs.declared.words.ParseError.TheVariants.{Grammar, Memory}

-- the words of a command line that the program has
abbrev pub IsCommand : List (List ℕ) → Type 0
IsCommand words = (words ≡ codes "replay" ∷ []) ⊎ (words ≡ codes "--help" ∷ []) ⊎ (words ≡ codes "--version" ∷ [])

-- cut at each space
abbrev pub words_in : List ℕ → List (List ℕ)
words_in line = slice_split (λ b. b == 32) line

-- and at each comma
abbrev pub parts_in : List ℕ → List (List ℕ)
parts_in word = slice_split (λ b. b == 44) word

abbrev pub words_of : List (Bor (List ℕ)) → List (List ℕ)
words_of words = map (λ word. word.now) words

-- want of memory alone may withhold the answer
abbrev pub IsWithheld : ParseError → Type 0
IsWithheld Grammar = ⊥
IsWithheld Memory = ⊤

abbrev pub Yields : {T : Type 0} → (T → Type 0) → Result T ParseError → Type 0
Yields P (Ok x) = P x
Yields P (Err e) = IsWithheld e

-- the numbers of a config line, in its order
abbrev pub numbers_of : Settings → List ℕ
numbers_of s = s.members ∷ s.epoch_length ∷ s.window ∷ s.max_repair ∷ s.retention ∷ s.capacity ∷ s.first_epoch ∷ s.last_epoch ∷ []

-- What a writer leaves in a buffer, and what a reader takes from one.
use Rattle.std.specs.Prelude.{List, MatchResult, Result, ℕ, ◌++◌, ◌+◌, ◌<◌, ◌≡◌, ◌≤◌}

-- a part of the spelling was appended, from its front on
pub record AppendsFront (bytes old new : List ℕ) : Type 0 where
  pub front : List ℕ
  pub missing : List ℕ
  pub spelled : bytes ≡ front ++ missing
  pub appended : new ≡ old ++ front

-- a write takes at most so much of the room that was given, and fails only where it was less
abbrev pub UsesRoom : {T E : Type 0} → Result T E → ℕ → ℕ → ℕ → Type 0
UsesRoom result old new size = MatchResult result (λ _. old ≤ new + size) (λ _. old < size)

-- a reader took this front, which is in the grammar, and left the rest untouched
pub record Takes (InGrammar : List ℕ → Type 0) (front old new : List ℕ) : Type 0 where
  pub in_grammar : InGrammar front
  pub taken : old ≡ front ++ new

-- no front of these bytes is in the grammar
abbrev pub HasNoFront : (List ℕ → Type 0) → List ℕ → Type 0
HasNoFront InGrammar bytes = (front rest : List ℕ) → InGrammar front → bytes ≡ front ++ rest → ⊥

-- no spelling begins another
abbrev pub IsUnambiguous : (List ℕ → Type 0) → Type 0
IsUnambiguous InGrammar = (front other rest left : List ℕ) → InGrammar front → InGrammar other → front ++ rest ≡ other ++ left → front ≡ other

-- one grammar's spelling, and right after it another's
pub record Joined (First Second : List ℕ → Type 0) (bytes : List ℕ) : Type 0 where
  pub first : List ℕ
  pub second : List ℕ
  pub first_is : First first
  pub second_is : Second second
  pub spelled : bytes ≡ first ++ second

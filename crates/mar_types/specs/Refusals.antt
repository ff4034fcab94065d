-- Which error a reader answers, by the bytes that it is given.
use Rattle.std.specs.Prelude.{List, length, ℕ, ◌++◌, ◌<◌, ◌≡◌, ◌⊎◌}
use Rattle.mar_types.specs.Varint.{IsBadVarint, IsCutVarint}
use Rattle.mar_types.specs.declared.error.Error.{Error}
use Rattle.mar_types.specs.declared.error.Error.TheVariants.{EndOfBuffer, ExtraData, InvalidVarint}

-- fewer bytes are left than a value takes
abbrev pub RefusesShort : ℕ → List ℕ → Error → Type 0
RefusesShort size bytes e = (e ≡ EndOfBuffer) × (length bytes < size)

-- no varint stands at the front
abbrev pub RefusesVarint : List ℕ → Error → Type 0
RefusesVarint bytes e = ((e ≡ EndOfBuffer) × IsCutVarint bytes) ⊎ ((e ≡ InvalidVarint) × IsBadVarint bytes)

-- A first part stands at the front, and the bytes after it are refused as a second part.
pub record RefusesSecond (First : List ℕ → Type 0) (refuses : List ℕ → Error → Type 0) (bytes : List ℕ) (e : Error) : Type 0 where
  pub first : List ℕ
  pub after : List ℕ
  pub first_is : First first
  pub spelled : bytes ≡ first ++ after
  pub refused : refuses after e

-- the first part is refused, or it stands at the front and the second is refused behind it
abbrev pub RefusesJoined : (List ℕ → Type 0) → (List ℕ → Error → Type 0) → (List ℕ → Error → Type 0) → List ℕ → Error → Type 0
RefusesJoined First refuses_first refuses_second bytes e = refuses_first bytes e ⊎ RefusesSecond First refuses_second bytes e

-- a value stands at the front, and bytes are left after it
pub record IsOverlong (InGrammar : List ℕ → Type 0) (bytes : List ℕ) : Type 0 where
  pub front : List ℕ
  pub extra : List ℕ
  pub in_grammar : InGrammar front
  pub spelled : bytes ≡ front ++ extra
  pub more : 0 < length extra

-- no value is the whole of these bytes
abbrev pub RefusesWhole : (List ℕ → Type 0) → (List ℕ → Error → Type 0) → List ℕ → Error → Type 0
RefusesWhole InGrammar refuses bytes e = refuses bytes e ⊎ ((e ≡ ExtraData) × IsOverlong InGrammar bytes)

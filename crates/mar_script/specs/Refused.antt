-- Why the next line of a script is refused.
use Rattle.std.specs.Prelude.{Contains, List, [], codes, length, take, ℕ, ◌++◌, ◌+◌, ◌<◌, ◌∷◌, ◌≡◌, ◌≤◌, ◌⊎◌}
use Rattle.mar_script.specs.declared.status.Why.{Why}
use Rattle.mar_script.specs.declared.status.Why.TheVariants as why

-- the most lines of a script
abbrev pub max_lines : ℕ
max_lines = 1_000_000

-- the most bytes of a line, without its end
abbrev pub max_line : ℕ
max_line = 65_536

-- no line ends in these bytes
abbrev pub IsUnended : List ℕ → Type 0
IsUnended bytes = Contains bytes 10 → ⊥

-- a line of these ends in the bytes, within its limit
pub record BeginsWith (P : List ℕ → Type 0) (bytes : List ℕ) : Type 0 where
  pub line : List ℕ
  pub behind : List ℕ
  pub split : bytes ≡ line ++ 10 ∷ behind
  pub unended : IsUnended line
  pub short : length line ≤ max_line
  pub is : P line

-- the line is this word, or goes on with a space
abbrev pub HasFirstWord : List ℕ → List ℕ → Type 0
HasFirstWord word line = (line ≡ word) ⊎ ((rest : List ℕ) × (line ≡ word ++ 32 ∷ rest))

-- Why line k can't be done: `rest` was taken of it and what follows, `left` is still to be taken, `IsSpelled` what the
-- line may be. Where there are several reasons, the first of these is told.
abbrev pub IsRefused : ℕ → (List ℕ → Type 0) → List ℕ → List ℕ → Why → Type 0
IsRefused k IsSpelled rest left why.TooMany = (k ≡ max_lines + 1) × (0 < length rest)
IsRefused k IsSpelled rest left why.TooLong = (k ≤ max_lines) × (max_line < length rest) × IsUnended (take (max_line + 1) rest)
IsRefused k IsSpelled rest left why.Unended = (k ≤ max_lines) × (0 < length rest) × (length rest ≤ max_line) × IsUnended rest × (left ≡ [])
IsRefused k IsSpelled rest left why.NoConfig = (k ≡ 1) × (((rest ≡ []) × (left ≡ [])) ⊎ BeginsWith (λ line. HasFirstWord (codes "config") line → ⊥) rest)
IsRefused k IsSpelled rest left why.Grammar = (k ≤ max_lines) × BeginsWith (λ line. (k ≡ 1 → HasFirstWord (codes "config") line) × (IsSpelled (line ++ 10 ∷ []) → ⊥)) rest

-- Numbers as bytes: seven bits a byte, low bits first.
use Rattle.std.specs.Prelude.{List, None, Option, Some, [], if◌then◌else◌, length, nat_le, nat_lt, suc, zero, ℕ, ◌%◌, ◌&&◌, ◌*◌, ◌++◌, ◌+◌, ◌-◌, ◌/◌, ◌<◌, ◌==◌, ◌^◌, ◌||◌, ◌∷◌, ◌≡◌, ◌≤◌, ◌⊎◌}
use Rattle.std.specs.List.{AllByRecursion}

abbrev pub IsNumber : ℕ → Type 0
IsNumber n = n < 2 ^ 64

-- seven bits a byte, low bits first, the top bit set on every byte but the last
unfoldable pub varint_within : ℕ → ℕ → List ℕ
varint_within zero n = n ∷ []
varint_within (suc k) n = if nat_lt n 128 then n ∷ [] else (n % 128 + 128) ∷ varint_within k (n / 128)

-- at most ten bytes
abbrev pub varint : ℕ → List ℕ
varint n = varint_within 9 n

-- the number at the front and the bytes after it; at most so many bytes, the next one worth `weight`
unfoldable pub read_varint_within : ℕ → ℕ → ℕ → List ℕ → Option (ℕ × List ℕ)
read_varint_within zero weight sum bytes = None
read_varint_within (suc k) weight sum [] = None
read_varint_within (suc k) weight sum (b ∷ rest) =
    if nat_le 128 b then read_varint_within k (weight * 128) (sum + (b - 128) * weight) rest
    else if (b == 0 && nat_lt 1 weight) || nat_le (2 ^ 64) (sum + b * weight) then None
    else Some (sum + b * weight, rest)

abbrev pub read_varint : List ℕ → Option (ℕ × List ℕ)
read_varint bytes = read_varint_within 10 1 0 bytes

-- these bytes spell a number
pub record IsVarint (bytes : List ℕ) : Type 0 where
  pub number : ℕ
  pub fits : IsNumber number
  pub spelled : bytes ≡ varint number

-- each of these bytes has the top bit
abbrev pub IsContinued : List ℕ → Type 0
IsContinued bytes = AllByRecursion (λ b. 128 ≤ b) bytes

-- the bytes end inside a varint
pub record IsCutVarint (bytes : List ℕ) : Type 0 where
  pub continued : IsContinued bytes
  pub short : length bytes < 10

-- the byte after so many with the top bit is 0, or stands tenth and is above 1
abbrev pub IsBadByte : ℕ → ℕ → Type 0
IsBadByte place b = ((b ≡ 0) × (0 < place) × (place < 10)) ⊎ ((1 < b) × (place ≡ 9))

-- a varint that is longer than needed, or above the greatest number
pub record IsBadVarint (bytes : List ℕ) : Type 0 where
  pub high : List ℕ
  pub last : ℕ
  pub rest : List ℕ
  pub spelled : bytes ≡ high ++ last ∷ rest
  pub continued : IsContinued high
  pub bad : IsBadByte (length high) last

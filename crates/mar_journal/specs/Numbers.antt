-- Numbers at the front of bytes.
use Rattle.std.specs.Prelude.{List, length, drop, ℕ, ◌++◌, ◌≡◌, ◌≤◌}
use Rattle.mar_types.specs.Varint.{IsNumber, varint}

-- this number stands first, and takes so many bytes
pub record NumberStandsFirst (number size : ℕ) (bytes : List ℕ) : Type 0 where
  pub fits : IsNumber number
  pub size_is : length (varint number) ≡ size
  pub within : size ≤ length bytes
  pub bytes_are : bytes ≡ varint number ++ drop size bytes

-- these two numbers stand first, and take so many bytes
pub record TwoStandFirst (first second size : ℕ) (bytes : List ℕ) : Type 0 where
  pub fits : IsNumber first
  pub fits_too : IsNumber second
  pub size_is : length (varint first ++ varint second) ≡ size
  pub within : size ≤ length bytes
  pub bytes_are : bytes ≡ varint first ++ varint second ++ drop size bytes

-- Two spellings that are read one after the other, where one isn't there.
use Rattle.std.proofs.Common.{List, inl, inr, ℕ, ◌≡◌, ◌⊎◌}
use Rattle.mar_types.specs.CodecLemmas.{joined_no_first, joined_no_second}
use Rattle.mar_types.specs.Codec.{HasNoFront, IsUnambiguous, Joined, Takes}
use Rattle.mar_types.specs.declared.Error.{Error}
use Rattle.mar_types.specs.declared.Error.TheVariants.{Memory}

pub first_err : (First Second : List ℕ → Type 0) (bytes : List ℕ) (e : Error) → (e ≡ Memory) ⊎ HasNoFront First bytes → (e ≡ Memory) ⊎ HasNoFront (Joined First Second) bytes
first_err First Second bytes e (inl memory) = inl memory
first_err First Second bytes e (inr none) = inr (joined_no_first First Second bytes none)

pub second_err : (First Second : List ℕ → Type 0) (first old middle : List ℕ) (e : Error) → IsUnambiguous First → Takes First first old middle
    → (e ≡ Memory) ⊎ HasNoFront Second middle → (e ≡ Memory) ⊎ HasNoFront (Joined First Second) old
second_err First Second first old middle e one taken (inl memory) = inl memory
second_err First Second first old middle e one taken (inr none) = inr (joined_no_second First Second old first middle one taken.in_grammar taken.taken none)

-- The signers of a mock certificate in the order of their members, and the bytes that spell none.
use Rattle.std.specs.List.{flat_map}
use Rattle.std.specs.Prelude.{List, [], length, ℕ, ◌++◌, ◌+◌, ◌<◌, ◌∷◌, ◌≡◌, ◌≤◌, ◌⊎◌}
use Rattle.mar_cert.specs.MockScheme.{IsCertificate, Signer, signer_bytes}
use Rattle.mar_types.specs.Digest.{IsDigest}
use Rattle.mar_types.specs.Refusals.{RefusesShort, RefusesVarint}
use Rattle.mar_types.specs.Varint.{IsNumber, varint}
use Rattle.mar_types.specs.declared.Error.{Error}
use Rattle.mar_types.specs.declared.Error.TheVariants.{Invalid}
use Rattle.mar_types.specs.declared.Kind.TheVariants.{Certificate}
use Rattle.mar_types.specs.declared.Reason.TheVariants.{Signers}

-- members ascend from this number on and are below n, each with a tag
abbrev pub AreSigners : ℕ → ℕ → List Signer → Type 0
AreSigners n low [] = Unit {0}
AreSigners n low (s ∷ signers) = (low ≤ s.member) × (s.member < n) × IsDigest s.tag × AreSigners n (s.member + 1) signers

-- the least member that may stand behind these signers
abbrev pub next_member : ℕ → List Signer → ℕ
next_member low [] = low
next_member low (s ∷ signers) = next_member (s.member + 1) signers

abbrev pub certificate_bytes : List Signer → List ℕ
certificate_bytes signers = varint (length signers) ++ flat_map signer_bytes signers

-- these bytes spell a certificate of n members
pub record IsMockCertificate (n : ℕ) (bytes : List ℕ) : Type 0 where
  pub signers : List Signer
  pub certificate_is : IsCertificate n signers bytes

abbrev pub IsSignersError : Error → Type 0
IsSignersError e = e ≡ Invalid Certificate Signers

-- a member stands at the front that is none of n from this one on, or one that is, and its tag is cut off
pub record RefusesMember (n low : ℕ) (bytes : List ℕ) (e : Error) : Type 0 where
  pub member : ℕ
  pub fits : IsNumber member
  pub after : List ℕ
  pub spelled : bytes ≡ varint member ++ after
  pub refused : (IsSignersError e × ((member < low) ⊎ (n ≤ member))) ⊎ ((low ≤ member) × (member < n) × RefusesShort 32 after e)

-- no signer stands at the front
abbrev pub RefusesSigner : ℕ → ℕ → List ℕ → Error → Type 0
RefusesSigner n low bytes e = RefusesVarint bytes e ⊎ RefusesMember n low bytes e

-- behind these signers, which aren't all, stands no signer
pub record RefusesSigners (n count : ℕ) (bytes : List ℕ) (e : Error) : Type 0 where
  pub done : List Signer
  pub after : List ℕ
  pub are_signers : AreSigners n 0 done
  pub fewer : length done < count
  pub spelled : bytes ≡ flat_map signer_bytes done ++ after
  pub refused : RefusesSigner n (next_member 0 done) after e

-- a count stands at the front that is above n, or one that isn't, and fewer signers
pub record RefusesCount (n : ℕ) (bytes : List ℕ) (e : Error) : Type 0 where
  pub count : ℕ
  pub fits : IsNumber count
  pub after : List ℕ
  pub spelled : bytes ≡ varint count ++ after
  pub refused : (IsSignersError e × (n < count)) ⊎ ((count ≤ n) × RefusesSigners n count after e)

-- a count of at most n stands at the front
pub record CountsWithin (n : ℕ) (bytes : List ℕ) : Type 0 where
  pub count : ℕ
  pub after : List ℕ
  pub spelled : bytes ≡ varint count ++ after
  pub few : count ≤ n

-- no certificate of n members stands at the front, and the first byte that shows it is refused so
abbrev pub RefusesCertificate : ℕ → List ℕ → Error → Type 0
RefusesCertificate n bytes e = RefusesVarint bytes e ⊎ RefusesCount n bytes e

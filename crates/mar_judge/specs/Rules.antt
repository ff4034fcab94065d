-- What a judge of peers' bytes goes by.
use Rattle.std.specs.Prelude.{Bool, List, drop, length, ℕ, ◌++◌, ◌≡◌, ◌≤◌, ◌⊎◌}
use Rattle.mar_types.specs.Epochs.{Epochs}
use Rattle.mar_cert.specs.Block.{Block}
use Rattle.mar_cert.specs.Finalization.{Finalization, Notarization, Subject, finalization_bytes, finalize, notarize}
use Rattle.mar_model.specs.Config.{Config}
use Rattle.mar_model.specs.Judge.{Reading}

-- the codecs, the epocher by its bounds, the digest in a commitment, and the provider by three tests
pub record Rules : Type 1 where
  pub reading : Reading
  pub epochs : Epochs
  pub inner : List ℕ → List ℕ
  pub scoped : ℕ → Bool
  pub verifies : Finalization → Bool
  pub verifies_notarization : Notarization → Bool

-- a node's settings with these in them
abbrev pub settled : Rules → Config → Config
settled rules config =
    record config { epochs = rules.epochs; inner = rules.inner; scoped = rules.scoped; verifies = rules.verifies; verifies_notarization = rules.verifies_notarization }

-- a certificate, and what it is to be about
pub record Claim : Type 0 where
  pub subject : Subject
  pub certificate : Finalization

abbrev pub verdict_about : Rules → Subject → Finalization → Bool
verdict_about rules finalize f = rules.verifies f
verdict_about rules notarize f = rules.verifies_notarization f

-- whether it verifies
abbrev pub verdict_on : Rules → Claim → Bool
verdict_on rules c = verdict_about rules c.subject c.certificate

-- A certificate was read from the front of the bytes, so many of them, and no other stands there.
pub record IsReadFrom (reading : Reading) (bytes : List ℕ) (f : Finalization) (size : ℕ) : Type 0 where
  pub is : reading.is_finalization f
  pub fits : size ≤ length bytes
  pub spelled : bytes ≡ finalization_bytes f ++ drop size bytes
  pub only : (g : Finalization) (more : List ℕ) → reading.is_finalization g → bytes ≡ finalization_bytes g ++ more → (g ≡ f) × (more ≡ drop size bytes)

-- none stands there
abbrev pub HasNoCertificate : Reading → List ℕ → Type 0
HasNoCertificate reading bytes = (f : Finalization) (more : List ℕ) → reading.is_finalization f → bytes ≡ finalization_bytes f ++ more → ⊥

-- The bytes are a block of this commitment, and no other block.
pub record IsBlockOf (rules : Rules) (bytes commitment : List ℕ) (b : Block) : Type 0 where
  pub is : rules.reading.is_block b
  pub spelled : bytes ≡ b.encoded
  pub commitment_is : b.commitment ≡ commitment
  pub digest_is : b.digest ≡ rules.inner commitment
  pub only : (c : Block) → rules.reading.is_block c → bytes ≡ c.encoded → c.height ≡ b.height

-- the bytes are no block of this commitment, nor of the digest in it
abbrev pub IsNoBlockOf : Rules → List ℕ → List ℕ → Type 0
IsNoBlockOf rules bytes commitment = (b : Block) → rules.reading.is_block b → bytes ≡ b.encoded → (b.commitment ≡ commitment) ⊎ (b.digest ≡ rules.inner commitment) → ⊥

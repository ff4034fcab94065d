-- Blocks whose commitment is their digest: what commits to them, and what is not the block of a commitment.
use Rattle.std.specs.Prelude.{List, ℕ, ◌≡◌, ◌≢◌}
use Rattle.mar_cert.specs.Block.{Block}
use Rattle.mar_block.specs.EmptyBlock.{standard_block}

-- the commitment is the block's digest
abbrev pub HasDigest : {B : Type 0} → (B → List ℕ) → B → List ℕ → Type 0
HasDigest digest b commitment = digest b ≡ commitment

-- the block that an application block makes, whatever the commitment
abbrev pub made_standard : {B : Type 0} → (B → List ℕ) → (B → ℕ) → (B → List ℕ) → (B → List ℕ) → B → List ℕ → Block
made_standard digest height parent encoded b commitment = standard_block digest height parent encoded b

-- these bytes are the spelling of a block of another digest
pub record HasOtherDigest {B : Type 0} (InGrammar : List ℕ → Type 0) (encoded digest : B → List ℕ) (bytes commitment : List ℕ) : Type 0 where
  pub block : B
  pub in_grammar : InGrammar bytes
  pub spelled : encoded block ≡ bytes
  pub other : digest block ≢ commitment

-- The commitment that a block is expected to have, and the bytes that are a block of it.
use Rattle.std.specs.Prelude.{List, ℕ, ◌≡◌}
use Rattle.mar_cert.specs.Block.{Block}
use Rattle.mar_block.specs.declared.expected.ExpectedCommitment.{ExpectedCommitment}
use Rattle.mar_block.specs.declared.expected.ExpectedCommitment.TheVariants.{Trusted, Untrusted}

-- the commitment, whether or not something vouches for it
abbrev pub commitment_of : {C : Type 0} → ExpectedCommitment C → C
commitment_of (Trusted c) = c
commitment_of (Untrusted c) = c

-- the bytes are the spelling of an application block that has this commitment, and under it makes this block
pub record Decodes {A : Type 0} (InGrammar : List ℕ → Type 0) (encoded : A → List ℕ) (Commits : A → List ℕ → Type 0) (made : A → List ℕ → Block) (bytes commitment : List ℕ) (block : Block) : Type 0 where
  pub application : A
  pub in_grammar : InGrammar bytes
  pub spelled : encoded application ≡ bytes
  pub commits : Commits application commitment
  pub made_is : block ≡ made application commitment

-- a block is what the application block makes under a commitment that is its own
pub record IsMadeOf {A : Type 0} (Commits : A → List ℕ → Type 0) (made : A → List ℕ → Block) (application : A) (block : Block) : Type 0 where
  pub commits : Commits application block.commitment
  pub same : block ≡ made application block.commitment

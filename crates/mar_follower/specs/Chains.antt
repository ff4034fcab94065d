-- What an accepted archive is of a lawful chain.
use Rattle.std.specs.List.{AllByRecursion}
use Rattle.std.specs.Prelude.{Contains, IsTrue, List, Option, Some, [], ℕ, ⊤, ◌∷◌, ◌≡◌}
use Rattle.mar_cert.specs.Block.{Block}
use Rattle.mar_model.specs.Chain.{Chain, IsBlockAt, IsLawful}
use Rattle.mar_model.specs.Node.{IsFinalized}
use Rattle.mar_follower.specs.Segments.{Committee, IsBelow, Segment, segment_blocks}

-- Equal digests mean equal blocks: of these, among which are the chain's and the archive's. A commitment is the digest.
pub record AreKnown (chain : Chain) (segments : List Segment) (known : List Block) : Type 0 where
  pub of_chain : (h : ℕ) (c : Block) → IsBlockAt chain h c → Contains known c
  pub of_archive : AllByRecursion (λ s. AllByRecursion (Contains known) (segment_blocks s)) segments
  pub named : (b : Block) → Contains known b → b.commitment ≡ b.digest
  pub one : (a b : Block) → Contains known a → Contains known b → a.digest ≡ b.digest → a ≡ b

-- Accepted archives are the chain's, of every lawful chain that has their verified finalizations.
abbrev pub AreTheChains : Committee → List Segment → Type 0
AreTheChains committee segments =
    (chain : Chain) (known : List Block) → IsLawful committee.epochs chain → AreKnown chain segments known
    → AllByRecursion (λ s. IsTrue (committee.verifies s.finalization) → IsFinalized chain s.finalization.round s.finalization.payload) segments
    → AllByRecursion (λ s. AllByRecursion (λ b. IsBlockAt chain b.height b) (segment_blocks s)) segments

-- Each block stands below the one before, the first one below this height: so no height stands twice.
abbrev pub AreFalling : Option ℕ → List Block → Type 0
AreFalling above [] = ⊤
AreFalling above (b ∷ blocks) = IsBelow above b.height × AreFalling (Some b.height) blocks

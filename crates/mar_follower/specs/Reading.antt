-- What is read of an archive's bytes.
use Rattle.std.specs.List.{AllByRecursion, flat_map}
use Rattle.std.specs.Prelude.{List, length, ℕ, ◌++◌, ◌≡◌}
use Rattle.mar_cert.specs.Block.{Block, IsBlock}
use Rattle.mar_follower.specs.Segments.{IsSegment, Segment, segment_bytes}

-- the bytes of blocks
abbrev pub blocks_bytes : List Block → List ℕ
blocks_bytes blocks = flat_map (λ b. b.encoded) blocks

-- So many blocks were taken from the front.
pub record TakesBlocks (count : ℕ) (blocks : List Block) (old new : List ℕ) : Type 0 where
  pub are : AllByRecursion IsBlock blocks
  pub counted : length blocks ≡ count
  pub taken : old ≡ blocks_bytes blocks ++ new

-- so many don't stand at the front
abbrev pub HasNoBlocks : ℕ → List ℕ → Type 0
HasNoBlocks count bytes = (blocks : List Block) (rest : List ℕ) → AllByRecursion IsBlock blocks → length blocks ≡ count → bytes ≡ blocks_bytes blocks ++ rest → ⊥

-- A segment was taken from the front.
pub record TakesSegment (n : ℕ) (s : Segment) (old new : List ℕ) : Type 0 where
  pub is : IsSegment n s
  pub taken : old ≡ segment_bytes s ++ new

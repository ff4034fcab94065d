-- An archive of finalized blocks as a list of segments, and which one is refused first.
use Rattle.std.specs.List.{AllByRecursion, flat_map}
use Rattle.std.specs.Prelude.{Bool, IsTrue, List, None, Option, Some, [], length, ℕ, ⊤, ◌++◌, ◌+◌, ◌<◌, ◌∷◌, ◌≡◌, ◌⊎◌}
use Rattle.mar_types.specs.Epochs.{Epochs, containing}
use Rattle.mar_types.specs.Varint.{IsNumber, varint}
use Rattle.mar_cert.specs.Block.{Block, IsBlock}
use Rattle.mar_cert.specs.Finalization.{Finalization, finalization_bytes}
use Rattle.mar_cert.specs.MockScheme.{IsFinalization}
use Rattle.mar_follower.specs.declared.why.Why.{Why}
use Rattle.mar_follower.specs.declared.why.Why.TheVariants.{Certificate, Epoch, Grammar, Long, Order, Parent, Payload}

-- What a follower goes by: the committee's size, the epochs, the provider by two tests.
pub record Committee : Type 0 where
  pub members : ℕ
  pub epochs : Epochs
  pub scoped : ℕ → Bool
  pub verifies : Finalization → Bool

-- a finalization and the blocks from the finalized one downwards
pub record Segment : Type 0 where
  pub finalization : Finalization
  pub top : Block
  pub others : List Block

abbrev pub segment_blocks : Segment → List Block
segment_blocks s = s.top ∷ s.others

abbrev pub segment_bytes : Segment → List ℕ
segment_bytes s = finalization_bytes s.finalization ++ varint (length (segment_blocks s)) ++ flat_map (λ b. b.encoded) (segment_blocks s)

abbrev pub archive_bytes : List Segment → List ℕ
archive_bytes segments = flat_map segment_bytes segments

-- the values of a segment are within their types
pub record IsSegment (n : ℕ) (s : Segment) : Type 0 where
  pub finalization : IsFinalization n s.finalization
  pub count : IsNumber (length (segment_blocks s))
  pub blocks : AllByRecursion IsBlock (segment_blocks s)

-- the last height of a list that begins with this block
abbrev pub lowest_from : Block → List Block → ℕ
lowest_from b [] = b.height
lowest_from b (c ∷ blocks) = lowest_from c blocks

abbrev pub lowest_of : Segment → ℕ
lowest_of s = lowest_from s.top s.others

-- CONDITIONS, in the order in which they are told

-- the second block is the parent of the first
abbrev pub IsParent : Block → Block → Type 0
IsParent b parent = (b.parent ≡ parent.digest) × (b.height ≡ parent.height + 1)

-- each next block is the parent of the one before
abbrev pub AreParents : Block → List Block → Type 0
AreParents b [] = ⊤
AreParents b (c ∷ blocks) = IsParent b c × AreParents c blocks

abbrev pub IsOfEpoch : Committee → Segment → Type 0
IsOfEpoch committee s = IsTrue (committee.scoped s.finalization.round.epoch) × (containing committee.epochs s.top.height ≡ Some s.finalization.round.epoch)

abbrev pub IsCertified : Committee → Segment → Type 0
IsCertified committee s = IsTrue (committee.verifies s.finalization)

-- the payload is the top block's digest
abbrev pub IsNamed : Segment → Type 0
IsNamed s = s.finalization.payload ≡ s.top.digest

-- below the lowest height of the segment before
abbrev pub IsBelow : Option ℕ → ℕ → Type 0
IsBelow None top = ⊤
IsBelow (Some low) top = top < low

-- A segment passes behind one whose lowest height is this.
pub record Passes (committee : Committee) (above : Option ℕ) (s : Segment) : Type 0 where
  pub grammar : IsSegment committee.members s
  pub epoch : IsOfEpoch committee s
  pub certificate : IsCertified committee s
  pub payload : IsNamed s
  pub parents : AreParents s.top s.others
  pub order : IsBelow above s.top.height

abbrev pub PassInTurn : Committee → Option ℕ → List Segment → Type 0
PassInTurn committee above [] = ⊤
PassInTurn committee above (s ∷ segments) = Passes committee above s × PassInTurn committee (Some (lowest_of s)) segments

-- SEGMENTS: the bytes are an archive
pub record IsArchive (committee : Committee) (bytes : List ℕ) (segments : List Segment) : Type 0 where
  pub spelled : bytes ≡ archive_bytes segments
  pub passed : PassInTurn committee None segments

-- REFUSALS

-- block i is the first that isn't the parent of the one before, where b is block k
abbrev pub FailsAt : ℕ → Block → List Block → ℕ → Type 0
FailsAt k b [] i = ⊥
FailsAt k b (c ∷ blocks) i = ((i ≡ k + 1) × (IsParent b c → ⊥)) ⊎ (IsParent b c × FailsAt (k + 1) c blocks i)

-- no segment stands at the front of the bytes
abbrev pub HasNoSegment : ℕ → List ℕ → Type 0
HasNoSegment n bytes = (s : Segment) (rest : List ℕ) → IsSegment n s → bytes ≡ segment_bytes s ++ rest → ⊥

-- a segment in the grammar is refused for this, and for nothing that is told before it
abbrev pub HasFlaw : Committee → Option ℕ → Segment → Why → Type 0
HasFlaw committee above s Grammar = ⊥
HasFlaw committee above s Epoch = IsOfEpoch committee s → ⊥
HasFlaw committee above s Certificate = IsOfEpoch committee s × (IsCertified committee s → ⊥)
HasFlaw committee above s Payload = IsOfEpoch committee s × IsCertified committee s × (IsNamed s → ⊥)
HasFlaw committee above s (Parent i) = IsOfEpoch committee s × IsCertified committee s × IsNamed s × FailsAt 0 s.top s.others i
HasFlaw committee above s Order = IsOfEpoch committee s × IsCertified committee s × IsNamed s × AreParents s.top s.others × (IsBelow above s.top.height → ⊥)
HasFlaw committee above s Long = ⊥

-- the next segment is refused so; where the bytes have ended there is none
abbrev pub IsRefusedNext : Committee → Option ℕ → List ℕ → Why → Type 0
IsRefusedNext committee above bytes Grammar = (0 < length bytes) × HasNoSegment committee.members bytes
IsRefusedNext committee above bytes why = (s : Segment) × (rest : List ℕ) × IsSegment committee.members s × (bytes ≡ segment_bytes s ++ rest) × HasFlaw committee above s why

-- the lowest height of the last of these segments
abbrev pub lowest_before : Option ℕ → List Segment → Option ℕ
lowest_before above [] = above
lowest_before above (s ∷ segments) = lowest_before (Some (lowest_of s)) segments

-- These segments pass, and the one behind them is refused so.
pub record IsRefusedBehind (committee : Committee) (bytes : List ℕ) (segments : List Segment) (why : Why) : Type 0 where
  pub rest : List ℕ
  pub spelled : bytes ≡ archive_bytes segments ++ rest
  pub passed : PassInTurn committee None segments
  pub refused : IsRefusedNext committee (lowest_before None segments) rest why

-- how many blocks an archive has
abbrev pub count_blocks : List Segment → ℕ
count_blocks [] = 0
count_blocks (s ∷ segments) = length (segment_blocks s) + count_blocks segments

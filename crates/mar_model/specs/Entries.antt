-- What a cache keeps of blocks and certificates of a kind, and what is looked for among it.
use Rattle.std.specs.Prelude.{Bool, List, None, Option, Some, bytes_eq, false, ℕ, ◌&&◌}
use Rattle.mar_types.specs.Round.{Round, round_eq}
use Rattle.mar_cert.specs.Block.{Block}
use Rattle.mar_cert.specs.Finalization.{Finalization, Notarization}
use Rattle.mar_model.specs.Cached.{Cached, cached_block, certified_entry, finalization_entry, notarization_entry, notarized_entry, verified_entry}
use Rattle.mar_model.specs.declared.entry.Entry.{Entry}
use Rattle.mar_model.specs.declared.entry.Entry.TheVariants.{Certified, Finalization as OfFinalization, Notarization as OfNotarization, Notarized, Verified}
use Rattle.mar_model.specs.declared.entry.BlockName.{BlockName}
use Rattle.mar_model.specs.declared.entry.BlockName.TheVariants.{Commitment, Digest}
use Rattle.mar_model.specs.declared.entry.Sought.{Sought}
use Rattle.mar_model.specs.declared.entry.Sought.TheVariants.{BlockOf, CommittedTo, FinalizationFor, NotarizationAt, VerifiedAt, VerifiedBlock}

abbrev pub cached_of : {B N F : Type 0} → (B → Block) → (N → Notarization) → (F → Finalization) → Entry B N F → Cached
cached_of block notarization finalization (OfFinalization f) = finalization_entry (finalization f)
cached_of block notarization finalization (Verified r b) = verified_entry r (block b)
cached_of block notarization finalization (Notarized r b) = notarized_entry r (block b)
cached_of block notarization finalization (Certified e b) = certified_entry e (block b)
cached_of block notarization finalization (OfNotarization n) = notarization_entry (notarization n)

-- the block has that digest, and that commitment
abbrev pub has_digest : List ℕ → Option Block → Bool
has_digest d None = false
has_digest d (Some b) = bytes_eq b.digest d

abbrev pub has_commitment : List ℕ → Option Block → Bool
has_commitment c None = false
has_commitment c (Some b) = bytes_eq b.commitment c

abbrev pub is_verified_at : Round → Cached → Bool
is_verified_at r (verified_entry s b) = round_eq s r
is_verified_at r _ = false

abbrev pub is_notarization_at : Round → Cached → Bool
is_notarization_at r (notarization_entry n) = round_eq n.round r
is_notarization_at r _ = false

-- a finalization of the block of that digest
abbrev pub is_for : (List ℕ → List ℕ) → List ℕ → Cached → Bool
is_for inner d (finalization_entry f) = bytes_eq (inner f.payload) d
is_for inner d _ = false

abbrev pub is_sought : {D C : Type 0} → (D → List ℕ) → (C → List ℕ) → (List ℕ → List ℕ) → Sought D C → Cached → Bool
is_sought digest commitment inner (VerifiedAt r) x = is_verified_at r x
is_sought digest commitment inner (VerifiedBlock r d) x = is_verified_at r x && has_digest (digest d) (cached_block x)
is_sought digest commitment inner (NotarizationAt r) x = is_notarization_at r x
is_sought digest commitment inner (FinalizationFor d) x = is_for inner (digest d) x
is_sought digest commitment inner (BlockOf d) x = has_digest (digest d) (cached_block x)
is_sought digest commitment inner (CommittedTo c) x = has_commitment (commitment c) (cached_block x)

-- what is looked for where that is a block of this name
abbrev pub sought_block : {D C : Type 0} → BlockName D C → Sought D C
sought_block (Digest d) = BlockOf d
sought_block (Commitment c) = CommittedTo c

-- what an entry has
abbrev pub block_in : {B N F : Type 0} → Entry B N F → Option B
block_in (OfFinalization f) = None
block_in (Verified r b) = Some b
block_in (Notarized r b) = Some b
block_in (Certified e b) = Some b
block_in (OfNotarization n) = None

abbrev pub notarization_in : {B N F : Type 0} → Entry B N F → Option N
notarization_in (OfNotarization n) = Some n
notarization_in _ = None

abbrev pub finalization_in : {B N F : Type 0} → Entry B N F → Option F
finalization_in (OfFinalization f) = Some f
finalization_in _ = None

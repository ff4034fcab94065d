-- What the entries over blocks of a kind are found by.
use Rattle.std.specs.Prelude.{Bool, List, bytes_eq, false, ℕ, ◌&&◌, ◌==◌}
use Rattle.mar_types.specs.Round.{Round, round_eq}
use Rattle.mar_model.specs.Cached.{Cached, cached_block, certified_entry, finalization_entry, notarized_entry}
use Rattle.mar_model.specs.Entries.{has_commitment, has_digest, is_for, is_notarization_at, is_verified_at}
use Rattle.mar_model.specs.declared.Sought.{Sought}
use Rattle.mar_model.specs.declared.Sought.TheVariants as Looked
use Rattle.mar_epochs.specs.declared.entry_key.EntryKey.{EntryKey}
use Rattle.mar_epochs.specs.declared.entry_key.EntryKey.TheVariants.{BlockOf, CertifiedBlock, CommittedTo, FinalizationAt, FinalizationFor, NotarizationAt, NotarizedAt, VerifiedAt, VerifiedBlock}

abbrev pub is_notarized_at : Round → Cached → Bool
is_notarized_at r (notarized_entry s b) = round_eq s r
is_notarized_at r _ = false

abbrev pub is_certified_at : ℕ → Cached → Bool
is_certified_at h (certified_entry e b) = b.height == h
is_certified_at h _ = false

abbrev pub is_finalization_at : Round → Cached → Bool
is_finalization_at r (finalization_entry f) = round_eq f.round r
is_finalization_at r _ = false

-- the entry has that key
abbrev pub has_key : {D C : Type 0} → (D → List ℕ) → (C → List ℕ) → (List ℕ → List ℕ) → EntryKey D C → Cached → Bool
has_key digest commitment inner (VerifiedAt r) x = is_verified_at r x
has_key digest commitment inner (VerifiedBlock r d) x = is_verified_at r x && has_digest (digest d) (cached_block x)
has_key digest commitment inner (NotarizedAt r) x = is_notarized_at r x
has_key digest commitment inner (CertifiedBlock h d) x = is_certified_at h x && has_digest (digest d) (cached_block x)
has_key digest commitment inner (NotarizationAt r) x = is_notarization_at r x
has_key digest commitment inner (FinalizationAt r) x = is_finalization_at r x
has_key digest commitment inner (FinalizationFor d) x = is_for inner (digest d) x
has_key digest commitment inner (BlockOf d) x = has_digest (digest d) (cached_block x)
has_key digest commitment inner (CommittedTo c) x = has_commitment (commitment c) (cached_block x)

-- both are one key, where equal bytes are one name
abbrev pub same_key : {D C : Type 0} → (D → List ℕ) → (C → List ℕ) → EntryKey D C → EntryKey D C → Bool
same_key digest commitment (VerifiedAt r) (VerifiedAt s) = round_eq r s
same_key digest commitment (VerifiedBlock r d) (VerifiedBlock s e) = round_eq r s && bytes_eq (digest d) (digest e)
same_key digest commitment (NotarizedAt r) (NotarizedAt s) = round_eq r s
same_key digest commitment (CertifiedBlock g d) (CertifiedBlock h e) = g == h && bytes_eq (digest d) (digest e)
same_key digest commitment (NotarizationAt r) (NotarizationAt s) = round_eq r s
same_key digest commitment (FinalizationAt r) (FinalizationAt s) = round_eq r s
same_key digest commitment (FinalizationFor d) (FinalizationFor e) = bytes_eq (digest d) (digest e)
same_key digest commitment (BlockOf d) (BlockOf e) = bytes_eq (digest d) (digest e)
same_key digest commitment (CommittedTo c) (CommittedTo e) = bytes_eq (commitment c) (commitment e)
same_key digest commitment _ _ = false

-- the key of what is looked for
abbrev pub key_of : {D C : Type 0} → Sought D C → EntryKey D C
key_of (Looked.VerifiedAt r) = VerifiedAt r
key_of (Looked.VerifiedBlock r d) = VerifiedBlock r d
key_of (Looked.NotarizationAt r) = NotarizationAt r
key_of (Looked.FinalizationFor d) = FinalizationFor d
key_of (Looked.BlockOf d) = BlockOf d
key_of (Looked.CommittedTo c) = CommittedTo c

-- What a subscriber waits for, by the bytes of its name.
use Rattle.std.specs.Prelude.{Bool, List, None, Option, Some, bytes_eq, false, if◌then◌else◌, ℕ}
use Rattle.std.specs.declared.cmp.Ordering.{Ordering}
use Rattle.std.specs.declared.cmp.Ordering.TheVariants.{Greater, Less}
use Rattle.mar_parts.specs.Waits.{Wait, Waits, joined, wait_for}
use Rattle.mar_parts.specs.declared.subscriptions.Key.{Key}
use Rattle.mar_parts.specs.declared.subscriptions.Key.TheVariants.{Commitment, Digest}

-- the key is of this digest, or of this commitment
abbrev pub is_digest_key : {C D : Type 0} → (D → List ℕ) → Key C D → List ℕ → Bool
is_digest_key bytes (Digest d) name = bytes_eq (bytes d) name
is_digest_key bytes (Commitment c) name = false

abbrev pub is_commitment_key : {C D : Type 0} → (C → List ℕ) → Key C D → List ℕ → Bool
is_commitment_key bytes (Digest d) name = false
is_commitment_key bytes (Commitment c) name = bytes_eq (bytes c) name

-- the wait under a key
abbrev pub wait_under : {C D : Type 0} → (C → List ℕ) → (D → List ℕ) → Waits → Key C D → Option Wait
wait_under commitment digest w (Digest d) = wait_for w.digests (digest d)
wait_under commitment digest w (Commitment c) = wait_for w.commitments (commitment c)

-- the name in a key
abbrev pub name_in : {C D : Type 0} → (C → List ℕ) → (D → List ℕ) → Key C D → List ℕ
name_in commitment digest (Digest d) = digest d
name_in commitment digest (Commitment c) = commitment c

-- what a buffer promises of a name: to tell of it, where it can tell
abbrev pub promised : Bool → List ℕ → Option (List ℕ)
promised notifies name = if notifies then Some name else None

-- the wait under a key, once a ticket has joined it; the first one waits under the buffer's promise of that key's name
abbrev pub wait_with : {C D : Type 0} → (C → List ℕ) → (D → List ℕ) → Waits → Key C D → ℕ → Bool → Wait
wait_with commitment digest w key ticket notifies = joined ticket (promised notifies (name_in commitment digest key)) (wait_under commitment digest w key)

-- digests come before commitments, each in its own order
abbrev pub key_cmp : {C D : Type 0} → (C → C → Ordering) → (D → D → Ordering) → Key C D → Key C D → Ordering
key_cmp commitment digest (Digest d) (Digest e) = digest d e
key_cmp commitment digest (Digest d) (Commitment c) = Less
key_cmp commitment digest (Commitment c) (Digest d) = Greater
key_cmp commitment digest (Commitment b) (Commitment c) = commitment b c

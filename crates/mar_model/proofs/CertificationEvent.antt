-- What is known as certified after an event.
use Rattle.std.proofs.Common.{◌≡◌, ℕ, List, ◌++◌, Bool, true, false, nat_lt, filter, IsTrue, refl, ◌∙◌, ap}
use Rattle.mar_cert.specs.Block.{Block}
use Rattle.mar_model.specs.Event.{Event, message_told, Effect, effect_of, is_query, life_started, ack_marked, sync_finished, peer_answered, gave_block}
use Rattle.mar_model.specs.Messages.{report_certification, report_finalization, report_notarization, verified, proposed, prepared, certify, get_info, get_block, get_finalization, get_processed, get_anchor, get_verified, hint_finalized, set_floor, prune_below, hint_notarized, forward, close_ticket, subscribe_digest, subscribe_commitment}
use Rattle.mar_model.specs.Config.{Config}
use Rattle.mar_model.specs.Chain.{Chain}
use Rattle.mar_model.specs.Held.{Seen}
use Rattle.mar_model.specs.Answers.{new_commitments, own_and_parent, is_known}
use Rattle.mar_model.specs.Promise.{Waiting, node_of, AreOne, known_blocks, IsKnownSince}
use Rattle.mar_model.specs.Node.{Node, AreBlocksOf, CertifiedCommitment}
use Rattle.mar_model.specs.Queries.{commitments_found, Learns}
use Rattle.mar_model.proofs.FoundBlocks.{found-is}

-- an event whose block's parent becomes known where the block itself is
abbrev pub teaches_parents : Event → Bool
teaches_parents (message_told t (subscribe_digest d fallback)) = true
teaches_parents (message_told t (subscribe_commitment c fallback)) = true
teaches_parents (peer_answered (gave_block b annotations)) = true
teaches_parents _ = false

module _ {P E : Type 0} (config : Config) (chain : Chain) (a : Seen P E) (buffer : List Block) (waiting : Waiting) where
  abbrev n : Node
  n = node_of a buffer waiting

  -- what is found is what the event makes known
  commitments-are : AreOne config.inner (known_blocks chain n) → AreBlocksOf chain a.held.blocks.held → (e : Event) (fx : Effect) → teaches_parents e ≡ false → commitments_found config.inner a.held buffer e ≡ new_commitments n e fx
  commitments-are one blocks (message_told t (report_certification f)) fx is = ap own_and_parent (found-is config.inner chain a buffer waiting f.payload one blocks)
  commitments-are one blocks (message_told t (report_finalization f)) fx is = refl
  commitments-are one blocks (message_told t (report_notarization f)) fx is = refl
  commitments-are one blocks (message_told t (verified r b)) fx is = refl
  commitments-are one blocks (message_told t (proposed r peers b)) fx is = refl
  commitments-are one blocks (message_told t (prepared r peers b)) fx is = refl
  commitments-are one blocks (message_told t (certify r b)) fx is = refl
  commitments-are one blocks (message_told t (get_info id)) fx is = refl
  commitments-are one blocks (message_told t (get_block id)) fx is = refl
  commitments-are one blocks (message_told t (get_finalization h)) fx is = refl
  commitments-are one blocks (message_told t get_processed) fx is = refl
  commitments-are one blocks (message_told t get_anchor) fx is = refl
  commitments-are one blocks (message_told t (get_verified r)) fx is = refl
  commitments-are one blocks (message_told t (hint_finalized h peers)) fx is = refl
  commitments-are one blocks (message_told t (set_floor f)) fx is = refl
  commitments-are one blocks (message_told t (prune_below h)) fx is = refl
  commitments-are one blocks (message_told t (hint_notarized r d)) fx is = refl
  commitments-are one blocks (message_told t (forward r d peers)) fx is = refl
  commitments-are one blocks (message_told t (close_ticket k)) fx is = refl
  commitments-are one blocks (message_told t (subscribe_digest d fallback)) fx is = absurd cc
  commitments-are one blocks (message_told t (subscribe_commitment c fallback)) fx is = absurd cc
  commitments-are one blocks (life_started f) fx is = refl
  commitments-are one blocks (ack_marked t m) fx is = refl
  commitments-are one blocks (sync_finished t) fx is = refl
  commitments-are one blocks (peer_answered (gave_block b annotations)) fx is = absurd cc
  commitments-are one blocks _ fx is = refl

  -- where it was learned as an actor does, it is what is known after the event
  pub known-since : AreOne config.inner (known_blocks chain n) → AreBlocksOf chain a.held.blocks.held → (e : Event) (tip : ℕ) (certified : List CertifiedCommitment) → teaches_parents e ≡ false → Learns waiting.certified (commitments_found config.inner a.held buffer e) tip certified → (IsTrue (is_query e) → certified ≡ waiting.certified) → IsKnownSince config n e tip certified
  known-since one blocks e tip certified is learns query = record {
    known = λ h c. learns h c ∙ ap (λ xs. is_known (filter (λ x. nat_lt tip x.height) (waiting.certified ++ xs)) h c) (commitments-are one blocks e (effect_of config n e) is);
    query = query;
  }

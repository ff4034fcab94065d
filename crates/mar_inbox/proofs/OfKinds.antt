-- What is known of a message by its kind.
use Rattle.std.proofs.Common.{List, None, ap, if◌then◌else◌, refl, true, ℕ, ◌++◌, ◌∙◌, ◌∷◌, [], ◌≡◌}
use Rattle.mar_model.specs.Messages.{Message, Queued, certify, close_ticket, forward, get_anchor, get_block, get_finalization, get_info, get_processed, get_verified, hint_finalized, hint_notarized, latest, of_digest, of_height, prepared, proposed, prune_below, report_certification, report_finalization, report_notarization, set_floor, subscribe_commitment, subscribe_digest, verified}
use Rattle.mar_types.specs.Round.{Round}
use Rattle.mar_cert.specs.Finalization.{Finalization}
use Rattle.mar_inbox.specs.declared.letter.Kind.TheVariants.{Floor, Hint, Prune}
use Rattle.mar_inbox.specs.Kinds.{IsUnasked, closing_in, hint_in, is_other, kind_of, read_in}
use Rattle.mar_inbox.specs.Policy.{Backlog, closing_of, hint_of, joined_by, read_of, stale_by, told}

pub read_known : (m : Message) → read_of m ≡ read_in (kind_of m)
read_known (report_finalization f) = refl
read_known (report_notarization n) = refl
read_known (report_certification n) = refl
read_known (verified r b) = refl
read_known (proposed r peers b) = refl
read_known (prepared r peers b) = refl
read_known (certify r b) = refl
read_known (get_info (of_height h)) = refl
read_known (get_info (of_digest d)) = refl
read_known (get_info latest) = refl
read_known (get_block (of_height h)) = refl
read_known (get_block (of_digest d)) = refl
read_known (get_block latest) = refl
read_known (get_finalization h) = refl
read_known get_processed = refl
read_known get_anchor = refl
read_known (get_verified r) = refl
read_known (hint_finalized h peers) = refl
read_known (set_floor f) = refl
read_known (prune_below h) = refl
read_known (hint_notarized r peers) = refl
read_known (subscribe_digest d fallback) = refl
read_known (subscribe_commitment c fallback) = refl
read_known (forward r d peers) = refl
read_known (close_ticket k) = refl

pub hint_known : (m : Message) → hint_of m ≡ hint_in (kind_of m)
hint_known (report_finalization f) = refl
hint_known (report_notarization n) = refl
hint_known (report_certification n) = refl
hint_known (verified r b) = refl
hint_known (proposed r peers b) = refl
hint_known (prepared r peers b) = refl
hint_known (certify r b) = refl
hint_known (get_info (of_height h)) = refl
hint_known (get_info (of_digest d)) = refl
hint_known (get_info latest) = refl
hint_known (get_block (of_height h)) = refl
hint_known (get_block (of_digest d)) = refl
hint_known (get_block latest) = refl
hint_known (get_finalization h) = refl
hint_known get_processed = refl
hint_known get_anchor = refl
hint_known (get_verified r) = refl
hint_known (hint_finalized h peers) = refl
hint_known (set_floor f) = refl
hint_known (prune_below h) = refl
hint_known (hint_notarized r peers) = refl
hint_known (subscribe_digest d fallback) = refl
hint_known (subscribe_commitment c fallback) = refl
hint_known (forward r d peers) = refl
hint_known (close_ticket k) = refl

pub closing_known : (m : Message) → closing_of m ≡ closing_in (kind_of m)
closing_known (report_finalization f) = refl
closing_known (report_notarization n) = refl
closing_known (report_certification n) = refl
closing_known (verified r b) = refl
closing_known (proposed r peers b) = refl
closing_known (prepared r peers b) = refl
closing_known (certify r b) = refl
closing_known (get_info (of_height h)) = refl
closing_known (get_info (of_digest d)) = refl
closing_known (get_info latest) = refl
closing_known (get_block (of_height h)) = refl
closing_known (get_block (of_digest d)) = refl
closing_known (get_block latest) = refl
closing_known (get_finalization h) = refl
closing_known get_processed = refl
closing_known get_anchor = refl
closing_known (get_verified r) = refl
closing_known (hint_finalized h peers) = refl
closing_known (set_floor f) = refl
closing_known (prune_below h) = refl
closing_known (hint_notarized r peers) = refl
closing_known (subscribe_digest d fallback) = refl
closing_known (subscribe_commitment c fallback) = refl
closing_known (forward r d peers) = refl
closing_known (close_ticket k) = refl

-- a hint of a height names peers
pub hint_kind : (m : Message) (j : ℕ) → kind_of m ≡ Hint j → (peers : List ℕ) × (m ≡ hint_finalized j peers)
hint_kind (report_finalization f) j is = absurd cc
hint_kind (report_notarization n) j is = absurd cc
hint_kind (report_certification n) j is = absurd cc
hint_kind (verified r b) j is = absurd cc
hint_kind (proposed r peers b) j is = absurd cc
hint_kind (prepared r peers b) j is = absurd cc
hint_kind (certify r b) j is = absurd cc
hint_kind (get_info (of_height h)) j is = absurd cc
hint_kind (get_info (of_digest d)) j is = absurd cc
hint_kind (get_info latest) j is = absurd cc
hint_kind (get_block (of_height h)) j is = absurd cc
hint_kind (get_block (of_digest d)) j is = absurd cc
hint_kind (get_block latest) j is = absurd cc
hint_kind (get_finalization h) j is = absurd cc
hint_kind get_processed j is = absurd cc
hint_kind get_anchor j is = absurd cc
hint_kind (get_verified r) j is = absurd cc
hint_kind (hint_finalized h peers) j is = let same : h ≡ j = cc in (peers, ap (λ k. hint_finalized k peers) same)
hint_kind (set_floor f) j is = absurd cc
hint_kind (prune_below h) j is = absurd cc
hint_kind (hint_notarized r peers) j is = absurd cc
hint_kind (subscribe_digest d fallback) j is = absurd cc
hint_kind (subscribe_commitment c fallback) j is = absurd cc
hint_kind (forward r d peers) j is = absurd cc
hint_kind (close_ticket k) j is = absurd cc

-- a floor is that of its round
pub floor_kind : (m : Message) (q : Queued) (s : Round) → kind_of m ≡ Floor s → IsUnasked m q → (f : Finalization) × (m ≡ set_floor f) × (q ≡ told (set_floor f)) × (f.round ≡ s)
floor_kind (report_finalization f) q s is unasked = absurd cc
floor_kind (report_notarization n) q s is unasked = absurd cc
floor_kind (report_certification n) q s is unasked = absurd cc
floor_kind (verified r b) q s is unasked = absurd cc
floor_kind (proposed r peers b) q s is unasked = absurd cc
floor_kind (prepared r peers b) q s is unasked = absurd cc
floor_kind (certify r b) q s is unasked = absurd cc
floor_kind (get_info (of_height h)) q s is unasked = absurd cc
floor_kind (get_info (of_digest d)) q s is unasked = absurd cc
floor_kind (get_info latest) q s is unasked = absurd cc
floor_kind (get_block (of_height h)) q s is unasked = absurd cc
floor_kind (get_block (of_digest d)) q s is unasked = absurd cc
floor_kind (get_block latest) q s is unasked = absurd cc
floor_kind (get_finalization h) q s is unasked = absurd cc
floor_kind get_processed q s is unasked = absurd cc
floor_kind get_anchor q s is unasked = absurd cc
floor_kind (get_verified r) q s is unasked = absurd cc
floor_kind (hint_finalized h peers) q s is unasked = absurd cc
floor_kind (set_floor f) q s is unasked = let same : f.round ≡ s = cc in (f, refl, unasked, same)
floor_kind (prune_below h) q s is unasked = absurd cc
floor_kind (hint_notarized r peers) q s is unasked = absurd cc
floor_kind (subscribe_digest d fallback) q s is unasked = absurd cc
floor_kind (subscribe_commitment c fallback) q s is unasked = absurd cc
floor_kind (forward r d peers) q s is unasked = absurd cc
floor_kind (close_ticket k) q s is unasked = absurd cc

-- a prune is that of its height
pub prune_kind : (m : Message) (q : Queued) (k : ℕ) → kind_of m ≡ Prune k → IsUnasked m q → (m ≡ prune_below k) × (q ≡ told (prune_below k))
prune_kind (report_finalization f) q k is unasked = absurd cc
prune_kind (report_notarization n) q k is unasked = absurd cc
prune_kind (report_certification n) q k is unasked = absurd cc
prune_kind (verified r b) q k is unasked = absurd cc
prune_kind (proposed r peers b) q k is unasked = absurd cc
prune_kind (prepared r peers b) q k is unasked = absurd cc
prune_kind (certify r b) q k is unasked = absurd cc
prune_kind (get_info (of_height h)) q k is unasked = absurd cc
prune_kind (get_info (of_digest d)) q k is unasked = absurd cc
prune_kind (get_info latest) q k is unasked = absurd cc
prune_kind (get_block (of_height h)) q k is unasked = absurd cc
prune_kind (get_block (of_digest d)) q k is unasked = absurd cc
prune_kind (get_block latest) q k is unasked = absurd cc
prune_kind (get_finalization h) q k is unasked = absurd cc
prune_kind get_processed q k is unasked = absurd cc
prune_kind get_anchor q k is unasked = absurd cc
prune_kind (get_verified r) q k is unasked = absurd cc
prune_kind (hint_finalized h peers) q k is unasked = absurd cc
prune_kind (set_floor f) q k is unasked = absurd cc
prune_kind (prune_below h) q k is unasked = let same : h ≡ k = cc in (ap prune_below same, unasked ∙ ap (λ j. told (prune_below j)) same)
prune_kind (hint_notarized r peers) q k is unasked = absurd cc
prune_kind (subscribe_digest d fallback) q k is unasked = absurd cc
prune_kind (subscribe_commitment c fallback) q k is unasked = absurd cc
prune_kind (forward r d peers) q k is unasked = absurd cc
prune_kind (close_ticket t) q k is unasked = absurd cc

-- any other waits as it is, unless the prune that waits drops it
pub other_joins : (b : Backlog) (q : Queued) (m : Message) → is_other (kind_of m) ≡ true → joined_by b q m ≡ (if stale_by b.prune m then b else record b { others = b.others ++ q ∷ [] })
other_joins b q (report_finalization f) is = refl
other_joins b q (report_notarization n) is = refl
other_joins b q (report_certification n) is = refl
other_joins b q (verified r x) is = refl
other_joins b q (proposed r peers x) is = refl
other_joins b q (prepared r peers x) is = refl
other_joins b q (certify r x) is = refl
other_joins b q (get_info (of_height h)) is = refl
other_joins b q (get_info (of_digest d)) is = refl
other_joins b q (get_info latest) is = refl
other_joins b q (get_block (of_height h)) is = refl
other_joins b q (get_block (of_digest d)) is = refl
other_joins b q (get_block latest) is = refl
other_joins b q (get_finalization h) is = refl
other_joins b q get_processed is = refl
other_joins b q get_anchor is = refl
other_joins b q (get_verified r) is = refl
other_joins b q (hint_finalized h peers) is = absurd cc
other_joins b q (set_floor f) is = absurd cc
other_joins b q (prune_below h) is = absurd cc
other_joins b q (hint_notarized r peers) is = refl
other_joins b q (subscribe_digest d fallback) is = refl
other_joins b q (subscribe_commitment c fallback) is = refl
other_joins b q (forward r d peers) is = refl
other_joins b q (close_ticket k) is = refl

-- and is no hint
pub other_hints : (m : Message) → is_other (kind_of m) ≡ true → hint_of m ≡ None
other_hints (report_finalization f) is = refl
other_hints (report_notarization n) is = refl
other_hints (report_certification n) is = refl
other_hints (verified r b) is = refl
other_hints (proposed r peers b) is = refl
other_hints (prepared r peers b) is = refl
other_hints (certify r b) is = refl
other_hints (get_info (of_height h)) is = refl
other_hints (get_info (of_digest d)) is = refl
other_hints (get_info latest) is = refl
other_hints (get_block (of_height h)) is = refl
other_hints (get_block (of_digest d)) is = refl
other_hints (get_block latest) is = refl
other_hints (get_finalization h) is = refl
other_hints get_processed is = refl
other_hints get_anchor is = refl
other_hints (get_verified r) is = refl
other_hints (hint_finalized h peers) is = absurd cc
other_hints (set_floor f) is = absurd cc
other_hints (prune_below h) is = absurd cc
other_hints (hint_notarized r peers) is = refl
other_hints (subscribe_digest d fallback) is = refl
other_hints (subscribe_commitment c fallback) is = refl
other_hints (forward r d peers) is = refl
other_hints (close_ticket k) is = refl

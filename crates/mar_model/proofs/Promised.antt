-- What an event promises comes of its plan: every event that an actor takes.
use Rattle.std.proofs.Common.{◌≡◌, ◌∷◌, ◌⊎◌, inl, inr, [], List, Option, None, Some, Result, Ok, Err, Bool, true, false, ap, ℕ, refl, sym, ◌∙◌, subst, option_map}
use Rattle.std.specs.Prelude.{⊤}
use Rattle.mar_types.specs.Epochs.{Epochs, IsPartition}
use Rattle.mar_cert.specs.Block.{Block}
use Rattle.mar_cert.specs.Finalization.{Finalization}
use Rattle.mar_model.specs.Acks.{Mark}
use Rattle.mar_store.specs.Kept.{value_at}
use Rattle.mar_model.specs.Acts.{AreLawful}
use Rattle.mar_model.specs.Event.{Event, ack_marked, block_buffered, buffer_ended, life_started, message_told, peer_answered, serve_ended, sync_finished}
use Rattle.mar_model.specs.Held.{Ending, Seen}
use Rattle.mar_model.specs.Messages.{Message, report_finalization, certify, get_anchor, get_block, get_finalization, get_info, get_processed, get_verified, hint_finalized, prepared, proposed, report_certification, report_notarization, verified}
use Rattle.mar_model.specs.OpenSyncs.{is_cache_sync}
use Rattle.mar_model.specs.Moves.{found_at_hand}
use Rattle.mar_model.specs.Plans.{Found, RunsPlan, found_by, plan_of, finish_plan}
use Rattle.mar_model.specs.Promise.{Heard, KeepsPromise, KeepsStart, KeepsStep}
use Rattle.mar_model.specs.Scene.{Scene, Standing, scene, window_of}
use Rattle.mar_model.specs.Answers.{anchor, bytes_of, finalization_value, info, or_none, processed_value}
use Rattle.mar_model.specs.Queries.{block_found, cached_at}
use Rattle.mar_model.proofs.PromisedAck.{ack_cut, ack_promise}
use Rattle.mar_model.proofs.PromisedFinalization.{final_done, final_undone, sync_done, sync_undone}
use Rattle.mar_model.proofs.Planned.{found_block}
use Rattle.mar_model.proofs.PromisedStart.{start_cut, start_promise}
use Rattle.mar_model.proofs.SyncPromise.{at, KeepsPlan}
use Rattle.mar_model.proofs.PromisedKeeping.{cache_finished, kept_verified, kept_proposed, kept_certified}
use Rattle.mar_model.proofs.PromisedNotarization.{notarized}
use Rattle.mar_model.proofs.PromisedQueries.{certification, hinted, sent, queried}

-- A message that reports no finalization, as callers tell it: reports, prepared blocks and hints take no ticket, what is answered
-- takes one.
abbrev pub IsOtherMessage : Option ℕ → Message → Type 0
IsOtherMessage None (report_notarization f) = ⊤
IsOtherMessage None (report_certification f) = ⊤
IsOtherMessage None (prepared r peers b) = ⊤
IsOtherMessage None (hint_finalized h peers) = ⊤
IsOtherMessage (Some t) (get_info id) = ⊤
IsOtherMessage (Some t) (get_block id) = ⊤
IsOtherMessage (Some t) (get_finalization h) = ⊤
IsOtherMessage (Some t) get_processed = ⊤
IsOtherMessage (Some t) get_anchor = ⊤
IsOtherMessage (Some t) (get_verified r) = ⊤
IsOtherMessage (Some t) (verified r b) = ⊤
IsOtherMessage (Some t) (proposed r peers b) = ⊤
IsOtherMessage (Some t) (certify r b) = ⊤
IsOtherMessage t m = ⊥

-- The events that an actor takes: of those that bring a finalization or ask, it takes each; what peers bring
-- isn't an event of it yet.
abbrev pub IsTakenMessage : Option ℕ → Message → Type 0
IsTakenMessage o m = ((f : Finalization) × (message_told o m ≡ message_told None (report_finalization f))) ⊎ IsOtherMessage o m

abbrev pub IsTaken : Event → Type 0
IsTaken (life_started None) = ⊤
IsTaken (life_started (Some f)) = ⊥
IsTaken (message_told o m) = IsTakenMessage o m
IsTaken (sync_finished t) = ⊤
IsTaken (ack_marked t m) = ⊤
IsTaken _ = ⊥

module _ {P E : Type 0} (epochs : Epochs) (inner : List ℕ → List ℕ) (partition : IsPartition epochs) (buffer : List Block) (old : Seen P E) (standing : Standing) (epochs_are : standing.epochs ≡ epochs) (before after : Heard) (law : AreLawful old.held) where
  abbrev s : Scene
  s = scene old.held (window_of old.life) standing before

  abbrev left : Seen P E → Scene
  left n = scene n.held (window_of n.life) standing after

  -- what is promised of a step tells of its stores and its window alone
  by_plan : (e : Event) → ((found : Found) → (s.held.cache.loaded ≡ true → found ≡ found_by inner buffer s.held e) → KeepsPlan old.life epochs inner buffer s (plan_of inner buffer s e found) e)
      → (result : Result (Seen P E) Ending) → RunsPlan inner buffer e s after result → KeepsStep epochs inner old (e ∷ []) buffer before after result
  by_plan e keeps (Ok n) plan = λ loaded config chain waiting set step.
      let kept = (keeps plan.found plan.finds).ran (left n) plan.ran loaded config chain waiting set step in
      record { made = kept.made; heard = kept.heard; steps = kept.steps }
  by_plan e keeps (Err x) plan = (keeps plan.found plan.finds).broke x after plan.ran

  as_start : (n : Seen P E) → KeepsStart epochs inner (at old.life s) (life_started None ∷ []) buffer before after (Ok (at old.life (left n))) → KeepsStart epochs inner old (life_started None ∷ []) buffer before after (Ok n)
  as_start n keeps fresh config chain waiting set step =
      let kept = keeps fresh config chain waiting set step in
      record { begun = kept.begun; takes = kept.takes; finishes = record { made = kept.finishes.made; heard = kept.finishes.heard; steps = kept.finishes.steps } }

  abbrev Promises : Event → Result (Seen P E) Ending → Type 0
  Promises e result = RunsPlan inner buffer e s after result → KeepsPromise (e ∷ []) epochs inner old buffer before after result

  started : (result : Result (Seen P E) Ending) → Promises (life_started None) result
  started (Ok n) plan = as_start n (start_promise old.life epochs inner partition buffer s law (left n) plan.ran)
  started (Err x) plan = start_cut old.life epochs inner partition buffer s law x after plan.ran

  finalized : (f : Finalization) (result : Result (Seen P E) Ending) → Promises (message_told None (report_finalization f)) result
  finalized f = by_plan (message_told None (report_finalization f)) (λ found finds.
      let finds_block : s.held.cache.loaded ≡ true → found.block ≡ found_at_hand inner buffer s.held.cache.kept.held s.held.blocks.held f.payload =
      λ loaded. ap (λ (x : Found). x.block) (finds loaded) ∙ found_block s.held f.round (found_at_hand inner buffer s.held.cache.kept.held s.held.blocks.held f.payload) in
      record {
        ran = final_done old.life epochs inner partition buffer s law f found.block finds_block;
        broke = final_undone old.life epochs inner partition buffer s law f found.block finds_block;
      })

  -- every other message
  message : (o : Option ℕ) (m : Message) → IsOtherMessage o m → (found : Found) → (s.held.cache.loaded ≡ true → found ≡ found_by inner buffer s.held (message_told o m))
      → KeepsPlan old.life epochs inner buffer s (plan_of inner buffer s (message_told o m) found) (message_told o m)
  message None (report_notarization f) is found finds = notarized old.life epochs inner buffer s law f found finds
  message None (report_certification f) is found finds = certification old.life epochs inner buffer s law f
  message None (prepared r peers b) is found finds = sent old.life epochs inner buffer s law r peers b
  message None (hint_finalized h peers) is found finds = hinted old.life epochs inner buffer s law h peers
  message (Some k) (get_info id) is found finds = queried old.life epochs inner buffer s law k (get_info id) refl
      (or_none (info inner s.held.blocks.held s.held.certs.held id)) refl
  message (Some k) (get_block id) is found finds = queried old.life epochs inner buffer s law k (get_block id) refl
      (bytes_of (block_found inner s.held buffer id)) refl
  message (Some k) (get_finalization h) is found finds = queried old.life epochs inner buffer s law k (get_finalization h) refl
      (finalization_value (value_at s.held.certs.held h)) refl
  message (Some k) get_processed is found finds = queried old.life epochs inner buffer s law k get_processed refl
      (or_none (option_map processed_value s.held.processed)) refl
  message (Some k) get_anchor is found finds = queried old.life epochs inner buffer s law k get_anchor refl (or_none (anchor s.held.blocks.held s.held.processed)) refl
  message (Some k) (get_verified r) is found finds = queried old.life epochs inner buffer s law k (get_verified r) refl
      (bytes_of (cached_at r s.held.cache.kept.held)) refl
  message (Some k) (verified r b) is found finds = kept_verified old.life epochs inner buffer s law k r b
  message (Some k) (proposed r peers b) is found finds = kept_proposed old.life epochs inner buffer s law k r b peers
  message (Some k) (certify r b) is found finds = kept_certified old.life epochs inner buffer s law k r b
  message o m is found finds = absurd is

  told : (o : Option ℕ) (m : Message) → IsTakenMessage o m → (result : Result (Seen P E) Ending) → Promises (message_told o m) result
  told o m (inl (f, is)) result plan = subst (λ e. Promises e result) (sym is) (finalized f result) plan
  told o m (inr is) result plan = by_plan (message_told o m) (message o m is) result plan

  synced : (t : ℕ) → KeepsPlan old.life epochs inner buffer s (finish_plan s.held t) (sync_finished t)
  synced t = by (is_cache_sync s.held.cache.syncs t) refl
    where
      by : (c : Bool) → is_cache_sync s.held.cache.syncs t ≡ c → KeepsPlan old.life epochs inner buffer s (finish_plan s.held t) (sync_finished t)
      by true is = cache_finished old.life epochs inner buffer s law t is
      by false is = record { ran = sync_done old.life epochs inner partition buffer s law t is; broke = sync_undone old.life epochs inner partition buffer s law t is }

  acked : (t : ℕ) (m : Mark) (result : Result (Seen P E) Ending) → Promises (ack_marked t m) result
  acked t m = by_plan (ack_marked t m)
      (λ found finds. record { ran = ack_promise old.life epochs inner partition buffer t m s law epochs_are; broke = ack_cut old.life epochs inner partition buffer t m s law epochs_are })

  pub keeps_promise : (e : Event) → IsTaken e → (result : Result (Seen P E) Ending) → RunsPlan inner buffer e s after result → KeepsPromise (e ∷ []) epochs inner old buffer before after result
  keeps_promise (life_started None) is result plan = started result plan
  keeps_promise (life_started (Some f)) is result plan = absurd is
  keeps_promise (message_told o m) is result plan = told o m is result plan
  keeps_promise (sync_finished t) is result plan = by_plan (sync_finished t) (λ found finds. synced t) result plan
  keeps_promise (ack_marked t m) is result plan = acked t m result plan
  keeps_promise (peer_answered a) is result plan = absurd is
  keeps_promise serve_ended is result plan = absurd is
  keeps_promise (block_buffered b) is result plan = absurd is
  keeps_promise buffer_ended is result plan = absurd is

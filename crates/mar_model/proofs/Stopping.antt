-- A plan that ends by handing over: how that ran, or how it broke, also where a read failed before or behind it.
use Rattle.std.proofs.Common.{◌≡◌, ◌⊎◌, inl, inr, ◌∷◌, [], List, Option, false, Result, Ok, Err, map, ℕ, refl, sym, ◌∙◌, ap, subst}
use Rattle.std.specs.List.{AllByRecursion}
use Rattle.mar_types.specs.Epochs.{Epochs}
use Rattle.mar_cert.specs.Block.{Block}
use Rattle.mar_key.specs.Hears.{Hears}
use Rattle.mar_model.specs.Event.{Event}
use Rattle.mar_model.specs.Faults.{Fault, meta_store, store_fault, ticket_limit, ack_kind, is_by_value}
use Rattle.mar_model.specs.Held.{Ending, Remembered, Seen, nothing_written, seen, Grew, IsArchiveFault}
use Rattle.mar_model.specs.Lives.{is_dropped_ack}
use Rattle.mar_model.specs.Moves.{IsStill, handed_report, AreNextHeld, IsBelowWrites}
use Rattle.mar_model.specs.Promise.{Heard, KeepsStart, KeepsStep, heard_by}
use Rattle.mar_model.specs.Step.{Report, HandedBlock}
use Rattle.mar_model.specs.Acts.{AreLawful}
use Rattle.mar_model.specs.Ran.{Breaks, FailsRead, Hands, Reads, Runs, StopsHands, dispatches}
use Rattle.mar_model.specs.Scene.{Scene, seen_of}
use Rattle.mar_model.proofs.Cutting.{usual_not_by_value, usual_not_dropped, usual_from_archive}
use Rattle.mar_model.proofs.Growing.{Grew-refl, WithinWritten-refl}
use Rattle.mar_model.proofs.Handing.{Hears-nothing, Ran as Dispatched}
use Rattle.mar_model.proofs.Heard.{KeepsStart-beside, KeepsStep-beside}
use Rattle.mar_model.proofs.SyncPromise.{at}
use Rattle.mar_model.proofs.Unread.{breaks_first, runs_first, stopped_before}

-- BESIDE WHAT ELSE WAS HEARD

module _ {P E : Type 0} (epochs : Epochs) (inner : List ℕ → List ℕ) (old : Seen P E) (events : List Event) (buffer : List Block) (result : Result (Seen P E) Ending) (before after : Heard)
    (same : after ≡ record before { reports = after.reports; asks = after.asks }) where
  pub step_beside : KeepsStep epochs inner old events buffer (heard_by before.reports before.asks) (heard_by after.reports after.asks) result
      → KeepsStep epochs inner old events buffer before after result
  step_beside keeps = subst (λ k. KeepsStep epochs inner old events buffer before k result) (sym same)
      (KeepsStep-beside before.reports after.reports before.asks after.asks before.sends before.sends (Hears-nothing before.sends) before.answers epochs inner old events buffer result keeps)

  pub start_beside : KeepsStart epochs inner old events buffer (heard_by before.reports before.asks) (heard_by after.reports after.asks) result
      → KeepsStart epochs inner old events buffer before after result
  start_beside keeps = subst (λ k. KeepsStart epochs inner old events buffer before k result) (sym same)
      (KeepsStart-beside before.reports after.reports before.asks after.asks before.sends before.sends (Hears-nothing before.sends) before.answers epochs inner old events buffer result
      keeps)

-- HANDING OVER

-- How it broke.
pub record StopsAs {P E : Type 0} (a : Seen P E) (told : Option (List Report)) (x : Ending) (told' : Option (List Report)) : Type 0 where
  pub e : Ending
  pub ran : Dispatched a told told' (Err e)
  pub seems : e ≡ x

stopped_plain : {T : Type 0} (fault : Fault) → IsArchiveFault fault ⊎ ((fault ≡ ticket_limit ack_kind) × T)
    → (is_by_value fault ≡ false) × (is_dropped_ack fault ≡ false) × (fault ≡ store_fault meta_store → ⊥)
stopped_plain fault (inl archive) = (usual_not_by_value fault (usual_from_archive fault archive), usual_not_dropped fault (usual_from_archive fault archive), λ is. subst IsArchiveFault is archive)
stopped_plain fault (inr limit) = (ap is_by_value limit.0, ap is_dropped_ack limit.0, λ is. let both : ticket_limit ack_kind ≡ store_fault meta_store = sym limit.0 ∙ is in cc)

module _ {P E : Type 0} (life : Remembered P E) where
  -- a read behind a dispatch changes nothing of it
  pub handed_on : (s t now : Scene) → Hands s t → Reads t now → Dispatched (at life s) s.heard.reports now.heard.reports (Ok (at life now))
  handed_on s t now hands reads = (
    hands.handed,
    subst (λ told. Hears s.heard.reports (map handed_report hands.handed) told) (sym (ap (λ (x : Scene). x.heard.reports) reads.same)) hands.heard,
    record {
      next = hands.ran.next;
      below_barrier = hands.ran.below_barrier;
      room = hands.ran.room;
      same = ap (at life) reads.same ∙ ap (λ x. seen (record x.held { watches = now.held.watches })
          (record life { sizes = x.life.sizes; out = x.life.out; tip = x.life.tip; next_ack = x.life.next_ack })) hands.ran.same;
      grew = reads.joins s.held nothing_written hands.ran.grew (WithinWritten-refl nothing_written);
      still = subst (λ (x : Scene). IsStill (seen_of x)) (sym reads.same) hands.ran.still;
    },
  )

  -- the dispatch at the end of a plan ran
  pub dispatch_ran : (inner : List ℕ → List ℕ) (s t : Scene) → AreLawful s.held → Runs inner s (dispatches ∷ []) t
      → Dispatched (at life s) s.heard.reports t.heard.reports (Ok (at life t)) × (t.heard ≡ record s.heard { reports = t.heard.reports })
  dispatch_ran inner s t law runs =
      let (u, hands, reads) = runs_first inner dispatches [] s t law runs in (
        handed_on s u t hands reads,
        ap (λ (y : Scene). y.heard) reads.same ∙
            (ap (λ (y : Scene). y.heard) hands.same ∙ ap (λ told. record s.heard { reports = told }) (sym (ap (λ (y : Scene). y.heard.reports) reads.same))),
      )

  -- or it broke, or a read before or behind it
  pub dispatch_broke : (inner : List ℕ → List ℕ) (s : Scene) (x : Ending) (heard : Heard) → AreLawful s.held → Breaks inner s (dispatches ∷ []) x heard
      → StopsAs (at life s) s.heard.reports x heard.reports × (heard ≡ record s.heard { reports = heard.reports })
  dispatch_broke inner s x heard law breaks = by (breaks_first inner dispatches [] s x heard law breaks)
    where
      unread : (u : Scene) → FailsRead u x heard → (handed : List HandedBlock) → AreNextHeld (seen_of s) handed → AllByRecursion (λ y. IsBelowWrites (seen_of s) y.block) handed
          → Grew s.held nothing_written u.held → Hears s.heard.reports (map handed_report handed) u.heard.reports → u.heard ≡ record s.heard { reports = u.heard.reports }
          → StopsAs (at life s) s.heard.reports x heard.reports × (heard ≡ record s.heard { reports = heard.reports })
      unread u fails handed next below grew told same = (
        record {
          e = x;
          ran = (
            handed,
            subst (λ (h : Heard). Hears s.heard.reports (map handed_report handed) h.reports) (sym fails.same) told,
            record {
              next = next;
              below_barrier = below;
              lost = fails.loses s.held nothing_written grew (WithinWritten-refl nothing_written);
              no_value = usual_not_by_value x.fault fails.usual;
              undropped = usual_not_dropped x.fault fails.usual;
              unsynced = fails.unsynced;
            },
          );
          seems = refl;
        },
        fails.same ∙ (same ∙ ap (λ (h : Heard). record s.heard { reports = h.reports }) (sym fails.same)),
      )

      by : FailsRead s x heard ⊎ (((mid : Scene) × Reads s mid × StopsHands mid x heard) ⊎ ((u : Scene) × Hands s u × FailsRead u x heard))
          → StopsAs (at life s) s.heard.reports x heard.reports × (heard ≡ record s.heard { reports = heard.reports })
      by (inl fails) = unread s fails [] tt tt (Grew-refl s.held nothing_written law.blocks law.certs) (Hears-nothing s.heard.reports) refl
      by (inr (inr (u, hands, fails))) = unread u fails hands.handed hands.ran.next hands.ran.below_barrier hands.ran.grew hands.heard (ap (λ (y : Scene). y.heard) hands.same)
      by (inr (inl (mid, reads, fails))) =
          let stops = stopped_before inner s mid x heard law reads fails in
          let (no_value, undropped, unsynced) = stopped_plain x.fault stops.stops.kind in (
            record {
              e = x;
              ran = (
                stops.handed,
                stops.told,
                record { next = stops.stops.next; below_barrier = stops.stops.below_barrier; lost = stops.stops.lost; no_value = no_value; undropped = undropped; unsynced = unsynced },
              );
              seems = refl;
            },
            stops.same,
          )

  -- what is promised where it broke by this is promised of it
  pub step_stopped : (epochs : Epochs) (inner : List ℕ → List ℕ) (old a : Seen P E) (events : List Event) (buffer : List Block) (before after : Heard) (told : Option (List Report))
      (x : Ending) (stops : StopsAs a told x after.reports) → KeepsStep epochs inner old events buffer before after (Err stops.e)
      → KeepsStep epochs inner old events buffer before after (Err x)
  step_stopped epochs inner old a events buffer before after told x stops keeps = subst (λ y. KeepsStep epochs inner old events buffer before after (Err y)) stops.seems keeps

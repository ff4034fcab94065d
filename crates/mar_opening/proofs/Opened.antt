-- What an opening promises, by what was made of its stores.
use Rattle.std.proofs.Common.{◌≡◌, ◌⊎◌, ◌∷◌, inl, inr, ℕ, [], None, Some, Result, Ok, Err, IfErr, OnOk, true, refl, ap, ◌∙◌, subst, sym}
use Rattle.mar_types.specs.Epochs.{Epochs}
use Rattle.mar_cert.specs.Block.{Block}
use Rattle.mar_model.specs.Chain.{Chain}
use Rattle.mar_model.specs.Config.{Config}
use Rattle.mar_model.specs.Faults.{Begin, Fault, from_genesis, want_of_memory}
use Rattle.mar_model.specs.Held.{ArePassed, Ending, Grew, Held, IsEndedBy, IsUsual, Loses, Remains, Remembered, ReopensAs, Sizes, Written, ended_on, first_life, nothing_written, picks_of, written_block, seen}
use Rattle.mar_model.specs.Lives.{CutsReopening, Finds, IsOpeningFault}
use Rattle.mar_model.specs.Opening.{BeginsWith, Derives, IsBeginFault, LosesDeriving, derived_pair, next_fault}
use Rattle.mar_model.specs.Promise.{Begins, IsLawfulOpening, node_of, none_waiting}
use Rattle.mar_model.specs.Step.{nothing_made}
use Rattle.mar_model.specs.Stored.{at_own_height}
use Rattle.mar_model.proofs.OpeningEvent.{begin_by_value, begins, cut_begun, cut_deriving, cut_early, deriving_cause, deriving_keeps, finds, next_by_value}
use Rattle.mar_model.proofs.Passing.{ArePassed-then}
use Rattle.mar_model.proofs.Reopenings.{Grew-opened, LosesOpening-then}
use Rattle.mar_model.proofs.StoreLosses.{Loses-nothing}
use Rattle.mar_opening.specs.Opened.{FailsToOpen, OpensAs}

-- WHAT WAS MADE OF THEM

module _ (epochs : Epochs) (old : Remains) (luck : ℕ) (g : Block) where
  -- a fault on stores that were reopened, before they are settled
  pub fails_beginning : (first : Held) → ReopensAs old luck first → (e : Ending) → Loses first (written_block (at_own_height g)) e → IsUsual e.fault ⊎ IsBeginFault g first e.fault → FailsToOpen epochs old luck g e
  fails_beginning first reopens e lost kind = inr (inl (record { first = first; reopens = reopens; lost = lost; kind = kind }))

  -- memory ran out then
  pub fails_unhoused : (first : Held) → ReopensAs old luck first → FailsToOpen epochs old luck g (ended_on want_of_memory first)
  fails_unhoused first reopens = fails_beginning first reopens (ended_on want_of_memory first) (Loses-nothing first (written_block (at_own_height g)) first (Grew-opened old luck first (written_block (at_own_height g)) reopens) want_of_memory tt) (inl tt)

  module _ (first begun : Held) (reopens : ReopensAs old luck first) (begins : BeginsWith g first begun) (grew : Grew first (written_block (at_own_height g)) begun) where
    pub opens_with : (new : Held) → Derives epochs begun new → ArePassed begun.watches new.watches → OpensAs epochs old luck g new
    opens_with new derives passed = record { first = first; begun = begun; reopens = reopens; begins = begins; grew = grew; derives = derives; passed = passed }

    pub fails_deriving : Grew begun nothing_written begun → (fault : Fault) (now : Held) → ((start : Held) (all : Written) → Grew start all begun → Loses start all (ended_on fault now) ⊎ (next_fault begun ≡ None) × Loses start (record all { pairs = derived_pair epochs begun ∷ all.pairs }) (ended_on fault now)) → IsUsual fault ⊎ (next_fault begun ≡ Some fault) → FailsToOpen epochs old luck g (ended_on fault now)
    fails_deriving same fault now loses kind = inr (inr (record {
      first = first;
      begun = begun;
      reopens = reopens;
      begins = begins;
      grew = grew;
      lost = loses first (written_block (at_own_height g)) grew;
      keeps = deriving_keeps epochs begun (ended_on fault now) (loses begun nothing_written same);
      kind = kind;
    }))

    -- what deriving came to
    module _ {T C : Type 0} (fault : C → Fault) (new : Held) where
      pub settled_opens : (result : Result T C) → OnOk result (Derives epochs begun new) → OnOk result (ArePassed begun.watches new.watches) → OnOk result (OpensAs epochs old luck g new)
      settled_opens (Ok x) derives passed = opens_with new derives passed
      settled_opens (Err c) derives passed = tt

      pub settled_fails : Grew begun nothing_written begun → (result : Result T C) → LosesDeriving fault epochs begun new result → IfErr result (λ e. IsUsual (fault e) ⊎ (next_fault begun ≡ Some (fault e))) → IfErr result (λ e. FailsToOpen epochs old luck g (ended_on (fault e) new))
      settled_fails same (Ok x) lost kind = tt
      settled_fails same (Err c) lost kind = fails_deriving same (fault c) new lost kind

-- the genesis that a life begins with is one
pub fails_from : (epochs : Epochs) (old : Remains) (luck : ℕ) (begin : Begin) (g : Block) → begin ≡ from_genesis g → (e : Ending) → FailsToOpen epochs old luck g e → (b : Block) → begin ≡ from_genesis b → FailsToOpen epochs old luck b e
fails_from epochs old luck begin g is e fails b other = subst (λ k. FailsToOpen epochs old luck k e) (same (sym is ∙ other)) fails
  where
    same : from_genesis g ≡ from_genesis b → g ≡ b
    same both = cc

-- WHAT IS PROMISED

module _ (epochs : Epochs) (old : Remains) (luck : ℕ) (begin : Begin) (g : Block) (is : begin ≡ from_genesis g) where
  -- AN END

  pub failed_cause : (e : Ending) → FailsToOpen epochs old luck g e → IsEndedBy old.watches e
  failed_cause e (inl early) = early.lost.cause
  failed_cause e (inr (inl fails)) = (LosesOpening-then old luck fails.first (written_block (at_own_height g)) e refl refl refl refl fails.reopens fails.lost).cause
  failed_cause e (inr (inr fails)) = deriving_cause old luck fails.first _ _ _ e fails.reopens fails.lost

  pub failed_by_value : (e : Ending) → FailsToOpen epochs old luck g e → IsUsual e.fault ⊎ IsOpeningFault old.ended (picks_of old luck) begin e.fault
  failed_by_value e (inl early) = inl early.usual
  failed_by_value e (inr (inl fails)) = begin_by_value old begin luck fails.first fails.reopens g is e.fault fails.kind
  failed_by_value e (inr (inr fails)) = next_by_value old begin luck fails.first fails.reopens g is fails.begun fails.begins e.fault fails.kind

  pub failed_cut : (config : Config) (chain : Chain) → config.epochs ≡ epochs → IsLawfulOpening config chain old.ended begin → (e : Ending) → FailsToOpen epochs old luck g e → CutsReopening config chain old.ended (picks_of old luck) begin nothing_made e.fault e.remains.ended
  failed_cut config chain same asks e (inl early) = cut_early config chain old luck begin e asks early.lost (inl early.usual)
  failed_cut config chain same asks e (inr (inl fails)) = cut_begun config chain old luck begin fails.first fails.reopens g is e asks fails.lost fails.kind
  failed_cut config chain same asks e (inr (inr fails)) = cut_deriving config chain old luck begin fails.first fails.reopens g is fails.begun fails.begins fails.grew epochs same e asks fails.lost fails.keeps fails.kind

  -- A LIFE

  pub opened_passed : (new : Held) → OpensAs epochs old luck g new → ArePassed old.watches new.watches
  opened_passed new opens = ArePassed-then old.watches opens.first.watches new.watches opens.reopens.passed (ArePassed-then opens.first.watches opens.begun.watches new.watches opens.grew.passed opens.passed)

  -- its cache is as it was reopened
  pub opened_cache : (new : Held) (opens : OpensAs epochs old luck g new) → new.cache ≡ opens.first.cache
  opened_cache new opens = ap (λ h. h.cache) opens.derives.same ∙ ap (λ h. h.cache) opens.begins.same

  pub opened_fresh : (new : Held) → OpensAs epochs old luck g new → new.cache.fresh ≡ true
  opened_fresh new opens = ap (λ c. c.fresh) (opened_cache new opens) ∙ opens.reopens.fresh

  pub opened_picked : (new : Held) → OpensAs epochs old luck g new → new.cache.finds ≡ (picks_of old luck).cache
  opened_picked new opens = ap (λ c. c.finds) (opened_cache new opens) ∙ opens.reopens.finds

  module _ {P E : Type 0} (provider : P) (epocher : E) (sizes : Sizes) (new : Held) (life : Remembered P E) (opens : OpensAs epochs old luck g new) (life_is : life ≡ first_life provider epocher sizes) (config : Config) (same : config.epochs ≡ epochs) (capacity : config.capacity ≡ sizes.capacity) where
    derives : Derives config.epochs opens.begun new
    derives = subst (λ es. Derives es opens.begun new) (sym same) opens.derives

    pub opened_begins : (chain : Chain) → IsLawfulOpening config chain old.ended begin → Begins config chain old.ended (picks_of old luck) begin (node_of (seen new life) [] none_waiting)
    opened_begins chain asks = begins config chain old luck begin opens.first opens.reopens g is opens.begun opens.begins opens.grew provider epocher sizes new life asks capacity derives life_is

    pub opened_finds : Finds config old.ended (picks_of old luck) begin (node_of (seen new life) [] none_waiting)
    opened_finds = finds old begin luck opens.first opens.reopens g is opens.begun opens.begins config provider epocher sizes new life opens.grew capacity derives life_is

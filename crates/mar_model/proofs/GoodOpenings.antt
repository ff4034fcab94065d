-- On a lawful chain no opening of good stores ends in a fault that values call for.
use Rattle.std.proofs.Common.{◌≡◌, ◌⊎◌, inl, inr, ⊎_elim, ℕ, ◌+◌, ◌-◌, ◌^◌, ◌<◌, ◌==◌, ◌||◌, Bool, true, false, List, length, Option, Some, None, option_map, if◌then◌else◌, IsTrue, Contains, refl, sym, ◌∙◌, ap, ap₂, subst, arith, eq-eqb, eqb-true}
use Rattle.std.specs.Option.{option_or}
use Rattle.std.proofs.lemmas.Option.{slice_get_within}
use Rattle.mar_cert.specs.Block.{Block}
use Rattle.mar_cert.specs.Finalization.{Finalization}
use Rattle.mar_store.specs.Kept.{At, Reopens, has_height, value_at}
use Rattle.mar_store.proofs.Lookups.{AllByRecursion-contains, AllByRecursion-value_at, has_height-from_value, value-from_has_height}
use Rattle.mar_model.specs.Metadata.{Pair}
use Rattle.mar_model.specs.Chain.{Chain, Finalizes, IsBlockAt}
use Rattle.mar_model.specs.Config.{Config}
use Rattle.mar_model.specs.Faults.{Begin, Fault, anchor_fault, corrupt, from_floor, from_genesis, genesis_fault, genesis_height, genesis_mismatch, height_limit, is_at_limit, last_height, limit_fault, next_after, opening_fault, stored_mismatch, successor_fault, unbacked, with_genesis}
use Rattle.mar_model.specs.Lives.{BackedBy, IsOpeningFault, Picks}
use Rattle.mar_model.specs.Node.{Ended}
use Rattle.mar_model.specs.Promise.{IsLawfulOpening}
use Rattle.mar_model.proofs.FoundBlocks.{same_bytes}
use Rattle.mar_model.proofs.Openings.{AreFinalizationsOf-reopened, value-from_with_genesis, value_at-with_genesis}

module _ (config : Config) (chain : Chain) (e : Ended) (begin : Begin) (asks : IsLawfulOpening config chain e begin) (pair : Pair) (blocks : List (At Block)) (certs : List (At Finalization)) (pair_may : Contains e.meta pair) (blocks_may : Reopens e.blocks_sure e.blocks_may blocks) (certs_may : Reopens e.certs_sure e.certs_may certs) where
  abbrev entered : List (At Block)
  entered = with_genesis begin pair.processed blocks

  found_in_chain : (h : ℕ) (b : Block) → value_at blocks h ≡ Some b → IsBlockAt chain h b
  found_in_chain h b is = AllByRecursion-contains (λ x. IsBlockAt chain x.height x.value) e.blocks_may _ asks.good.may_blocks (blocks_may.within_may h b is)

  entered_in_chain : (h : ℕ) (b : Block) → value_at entered h ≡ Some b → IsBlockAt chain h b
  entered_in_chain h b is = ⊎_elim (found_in_chain h b) (λ zero_is. subst (λ k. IsBlockAt chain k b) (sym zero_is.1) (asks.genesis b zero_is.0)) (value-from_with_genesis begin pair.processed blocks h b is)

  cert_in_chain : (h : ℕ) (f : Finalization) → value_at certs h ≡ Some f → Finalizes chain h f.round f.payload
  cert_in_chain h f is = AllByRecursion-value_at (λ x. Finalizes chain x.height x.value.round x.value.payload) certs h f (AreFinalizationsOf-reopened chain e.certs_sure e.certs_may certs certs_may asks.good.may_certs) is

  -- NO HEIGHT IS THE LAST ONE

  not_last : (h : ℕ) → h < length chain.blocks → h ≡ last_height → ⊥
  not_last h low is = let bound : length chain.blocks < 2 ^ 64 - 1 = asks.lawful.bounded in omega arith

  block_low : (h : ℕ) (b : Block) → IsBlockAt chain h b → h < length chain.blocks
  block_low h b at = slice_get_within chain.blocks h b at

  no_last_block : has_height blocks last_height ≡ false
  no_last_block = by (has_height blocks last_height) refl
    where
      by : (b : Bool) → has_height blocks last_height ≡ b → b ≡ false
      by false is = refl
      by true is = let at = value-from_has_height blocks last_height is in absurd (not_last last_height (block_low last_height at.0 (found_in_chain last_height at.0 at.1)) refl)

  no_last_cert : has_height certs last_height ≡ false
  no_last_cert = by (has_height certs last_height) refl
    where
      by : (b : Bool) → has_height certs last_height ≡ b → b ≡ false
      by false is = refl
      by true is = let at = value-from_has_height certs last_height is in absurd (not_last last_height (asks.lawful.in_list at.0.round last_height (cert_in_chain last_height at.0 at.1).named) refl)

  backed : BackedBy e.blocks_sure pair.processed
  backed = AllByRecursion-contains (λ p. BackedBy e.blocks_sure p.processed) e.meta pair asks.good.backed pair_may

  sure_found : (h : ℕ) → IsTrue (has_height e.blocks_sure h) → (b : Block) × (value_at blocks h ≡ Some b)
  sure_found h has = let at = value-from_has_height e.blocks_sure h has in (at.0, blocks_may.with_sure h at.0 at.1)

  sure_low : (h : ℕ) → IsTrue (has_height e.blocks_sure h) → h < length chain.blocks
  sure_low h has = let at = sure_found h has in block_low h at.0 (found_in_chain h at.0 at.1)

  below_limit : (p : Option ℕ) → BackedBy e.blocks_sure p → is_at_limit p ≡ false
  below_limit None b = refl
  below_limit (Some h) b = by (h == last_height) refl
    where
      low : h < length chain.blocks
      low = ⊎_elim (sure_low h) (λ next. let high : h + 1 < length chain.blocks = sure_low (h + 1) next in omega arith) b

      by : (c : Bool) → (h == last_height) ≡ c → c ≡ false
      by false is = refl
      by true is = absurd (not_last h low (eqb-true h last_height is))

  no_limit : limit_fault blocks certs pair ≡ None
  no_limit = ap₂ (λ a b. if a || b then Some (height_limit last_height) else None) (below_limit pair.processed backed) (ap₂ (λ a b. a || b) no_last_block no_last_cert)

  -- BLOCK 0 IS THE CHAIN'S

  no_mismatch : (g : Block) → IsBlockAt chain 0 g → stored_mismatch g (value_at blocks 0) ≡ None
  no_mismatch g own = by (value_at blocks 0) refl
    where
      inside : (b : Block) → ◌≡◌ {A = Option Block} (Some g) (Some b) → g ≡ b
      inside b p = cc

      by : (o : Option Block) → value_at blocks 0 ≡ o → stored_mismatch g o ≡ None
      by None is = refl
      by (Some b) is = ap (λ c. if c then None else Some (genesis_mismatch g.commitment b.commitment)) (same_bytes g.commitment b.commitment (ap (λ x. x.commitment) (inside b (sym own ∙ found_in_chain 0 b is))))

  no_genesis : (start : Begin) → ((b : Block) → start ≡ from_genesis b → IsBlockAt chain 0 b) → genesis_fault blocks start ≡ None
  no_genesis (from_floor f) own = refl
  no_genesis (from_genesis g) own = ap (λ c. if c then stored_mismatch g (value_at blocks 0) else Some (genesis_height g.height)) (eq-eqb g.height 0 (asks.lawful.heights 0 g (own g refl))) ∙ no_mismatch g (own g refl)

  -- THE PROCESSED HEIGHT IS BACKED

  still_there : (h : ℕ) → IsTrue (has_height e.blocks_sure h) → has_height entered h ≡ true
  still_there h has = let at = sure_found h has in has_height-from_value entered h at.0 (value_at-with_genesis begin pair.processed blocks h at.0 at.1)

  anchored : (p : Option ℕ) → BackedBy e.blocks_sure p → anchor_fault entered p ≡ None
  anchored None b = refl
  anchored (Some h) b = ap (λ c. if c then None else Some (unbacked h)) (either b)
    where
      right : (c d : Bool) → d ≡ true → (c || d) ≡ true
      right true d is = refl
      right false d is = is

      either : IsTrue (has_height e.blocks_sure h) ⊎ IsTrue (has_height e.blocks_sure (h + 1)) → (has_height entered h || has_height entered (h + 1)) ≡ true
      either (inl has) = ap (λ c. c || has_height entered (h + 1)) (still_there h has)
      either (inr next) = right (has_height entered h) (has_height entered (h + 1)) (still_there (h + 1) next)

  -- THE SUCCESSOR IS THE ONE THAT ITS CERTIFICATE NAMES

  named : (h : ℕ) → successor_fault (value_at entered h) (value_at certs h) ≡ None
  named h = by (value_at entered h) refl (value_at certs h) refl
    where
      inside : (xs ys : List ℕ) → ◌≡◌ {A = Option (List ℕ)} (Some xs) (Some ys) → xs ≡ ys
      inside xs ys p = cc

      by : (o : Option Block) → value_at entered h ≡ o → (c : Option Finalization) → value_at certs h ≡ c → successor_fault o c ≡ None
      by None is c certified = refl
      by (Some b) is None certified = refl
      by (Some b) is (Some f) certified =
          let at = entered_in_chain h b is in
          ap (λ c. if c then None else Some (corrupt b.height b.commitment f.payload))
          (same_bytes b.commitment f.payload (inside b.commitment f.payload (sym (ap (λ o. option_map (λ x. x.commitment) o) at) ∙ (cert_in_chain h f certified).payload_is)))

  -- an opening of these lists has no fault of values
  pub opening_fault-none : opening_fault blocks certs pair begin ≡ None
  opening_fault-none = ap₂ (λ a b. option_or a b) no_limit (ap₂ (λ a b. option_or a b) (no_genesis begin asks.genesis) (ap₂ (λ a b. option_or a b) (anchored pair.processed backed) (named (next_after pair.processed))))

-- whatever a reopening finds, no opening ends in a fault that values call for
pub IsOpeningFault-none : (config : Config) (chain : Chain) (e : Ended) (picks : Picks) (begin : Begin) (fault : Fault) → IsLawfulOpening config chain e begin → IsOpeningFault e picks begin fault → ⊥
IsOpeningFault-none config chain e picks begin fault asks found =
    clash (opening_fault found.blocks found.certs found.pair begin) (opening_fault-none config chain e begin asks found.pair found.blocks found.certs found.pair_may found.blocks_may found.certs_may) found.is_due
  where
    clash : (o : Option Fault) → o ≡ None → o ≡ Some fault → ⊥
    clash o p q = cc

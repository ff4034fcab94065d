-- Tips that are reported: they rise, are the chain's, and the newest entry stands above all others.
use Rattle.std.proofs.Common.{◌≡◌, ◌<◌, ◌≤◌, ℕ, max, List, [], ◌∷◌, Bool, true, false, ◌==◌, nat_lt, if◌then◌else◌, Option, Some, None, option_map, slice_get, refl, sym, ◌∙◌, ap, subst, arith, eq-eqb, ◌++◌}
use Rattle.std.specs.List.{AllByRecursion}
use Rattle.std.proofs.lemmas.Bool.Decides.{nat_tests}
use Rattle.std.proofs.lemmas.List.Elements.{Contains-append_left}
use Rattle.std.proofs.lemmas.Option.{same_Some}
use Rattle.mar_types.specs.Round.{Round}
use Rattle.mar_cert.specs.Block.{Block}
use Rattle.mar_cert.specs.Finalization.{Finalization}
use Rattle.mar_store.specs.Kept.{At, value_at}
use Rattle.mar_store.specs.Named.{greatest_of, last_index}
use Rattle.mar_store.proofs.Lookups.{AllByRecursion-value_at, AllByRecursion-weaker}
use Rattle.mar_model.specs.Chain.{Chain, Finalizes, IsBlockAt, IsFinal, digest_at}
use Rattle.mar_model.specs.Moves.{newest_tip, newest_tips, risen_to, tip_after, tip_reports, tips_above}
use Rattle.mar_model.specs.Stored.{entry_at, newest}
use Rattle.mar_model.specs.Node.{AreFinalizationsOf}
use Rattle.mar_model.specs.Promise.{AreOne}
use Rattle.mar_model.specs.Step.{AreTipsOf, Report, TipsFrom, handed_over, new_tip}
use Rattle.mar_model.proofs.FoundBlocks.{Contains-slice_get}
use Rattle.mar_model.proofs.Reaching.{AreTips}

pub above_from : (p h : ℕ) → nat_lt p h ≡ true → p < h
above_from p h above = grind (arith, nat_tests)

pub low_from : (p h : ℕ) → nat_lt p h ≡ false → h ≤ p
low_from p h low = grind (arith, nat_tests)

-- ONE TIP

-- the tip reaches the last one and this height
pub risen_to-high : (tip height : ℕ) → (tip ≤ risen_to tip height) × (height ≤ risen_to tip height)
risen_to-high tip height = by (nat_lt tip height) refl
  where
    by : (c : Bool) → nat_lt tip height ≡ c → (tip ≤ (if c then height else tip)) × (height ≤ (if c then height else tip))
    by true above = (let lt : tip < height = above_from tip height above in omega arith, omega arith)
    by false low = (omega arith, low_from tip height low)

-- a tip that is reported where it is above the last one hands nothing over, rises, and is the chain's
pub tips_above-tips : (tip : ℕ) (round : Round) (height : ℕ) (digest : List ℕ) → AreTips (tips_above tip round height digest)
tips_above-tips tip round height digest = by (nat_lt tip height)
  where
    by : (c : Bool) → AreTips (if c then new_tip round height digest ∷ [] else [])
    by true = tt
    by false = tt

pub tips_above-rise : (tip : ℕ) (round : Round) (height : ℕ) (digest : List ℕ) → TipsFrom tip (tips_above tip round height digest) (risen_to tip height)
tips_above-rise tip round height digest = by (nat_lt tip height) refl
  where
    by : (c : Bool) → nat_lt tip height ≡ c → TipsFrom tip (if c then new_tip round height digest ∷ [] else []) (if c then height else tip)
    by true above = (above_from tip height above, refl)
    by false low = refl

pub tips_above-chain : (chain : Chain) (tip : ℕ) (round : Round) (height : ℕ) (digest : List ℕ) → IsFinal chain round height → digest_at chain height ≡ Some digest → AreTipsOf chain (tips_above tip round height digest)
tips_above-chain chain tip round height digest final at = by (nat_lt tip height)
  where
    by : (c : Bool) → AreTipsOf chain (if c then new_tip round height digest ∷ [] else [])
    by true = (final, at, tt)
    by false = tt

-- of a block
pub tip_after-high : (tip : ℕ) (b : Block) → (tip ≤ tip_after tip b) × (b.height ≤ tip_after tip b)
tip_after-high tip b = risen_to-high tip b.height

pub tip_reports-tips : (tip : ℕ) (f : Finalization) (b : Block) → AreTips (tip_reports tip f b)
tip_reports-tips tip f b = tips_above-tips tip f.round b.height b.digest

pub tip_reports-rise : (tip : ℕ) (f : Finalization) (b : Block) → TipsFrom tip (tip_reports tip f b) (tip_after tip b)
tip_reports-rise tip f b = tips_above-rise tip f.round b.height b.digest

pub tip_reports-chain : (chain : Chain) (tip : ℕ) (f : Finalization) (b : Block) → IsFinal chain f.round b.height → IsBlockAt chain b.height b → AreTipsOf chain (tip_reports tip f b)
tip_reports-chain chain tip f b final at = tips_above-chain chain tip f.round b.height b.digest final (ap (λ o. option_map (λ c. c.digest) o) at)

-- THE NEWEST ENTRY

-- no entry stands above the last index
pub below_last : {T : Type 0} (xs : List (At T)) (h : ℕ) → last_index xs ≡ Some h → AllByRecursion (λ x. x.height ≤ h) xs
below_last [] h is = tt
below_last {T = T} (x ∷ xs) h is = by (last_index xs) refl (same_Some _ _ is) (λ k. below_last xs k)
  where
    by : (o : Option ℕ) → last_index xs ≡ o → greatest_of x.height o ≡ h → ((k : ℕ) → last_index xs ≡ Some k → AllByRecursion (λ y. y.height ≤ k) xs) → (x.height ≤ h) × AllByRecursion (λ y. y.height ≤ h) xs
    by None none at others = (omega arith, nothing xs none)
      where
        nothing : (ys : List (At T)) → last_index ys ≡ None → AllByRecursion (λ y. y.height ≤ h) ys
        nothing [] is = tt
        nothing (y ∷ ys) is = absurd cc
    by (Some k) some at others =
        let top : max x.height k ≡ h = at in
        (omega arith, AllByRecursion-weaker (λ (y : At T). y.height ≤ k) (λ y. y.height ≤ h) (λ y low. omega arith) xs (others k some))

-- an entry stands at the last index
pub at_last : {T : Type 0} (xs : List (At T)) (h : ℕ) → last_index xs ≡ Some h → (v : T) × (value_at xs h ≡ Some v)
at_last [] h is = absurd cc
at_last {T = T} (x ∷ xs) h is = by (last_index xs) refl (same_Some _ _ is) (λ k. at_last xs k)
  where
    first : (b : Bool) → (x.height == h) ≡ b → (b ≡ false → (v : T) × (value_at xs h ≡ Some v)) → (v : T) × ((if b then Some x.value else value_at xs h) ≡ Some v)
    first true same other = (x.value, refl)
    first false same other = other refl

    by : (o : Option ℕ) → last_index xs ≡ o → greatest_of x.height o ≡ h → ((k : ℕ) → last_index xs ≡ Some k → (v : T) × (value_at xs k ≡ Some v)) → (v : T) × (value_at (x ∷ xs) h ≡ Some v)
    by None none at others = first (x.height == h) refl (λ apart. absurd (let same : (x.height == h) ≡ true = eq-eqb x.height h at in let both : true ≡ false = sym same ∙ apart in cc))
    by (Some k) some at others = first (x.height == h) refl (λ apart. subst (λ i. (v : T) × (value_at xs i ≡ Some v)) (let top : max x.height k ≡ h = at in let other : x.height ≡ h → ⊥ = λ same. (let on : (x.height == h) ≡ true = eq-eqb x.height h same in let both : true ≡ false = sym on ∙ apart in cc) in high x.height k h top other) (others k some))
      where
        high : (a b c : ℕ) → max a b ≡ c → (a ≡ c → ⊥) → b ≡ c
        high a b c top other = omega arith

-- the tip that the newest entry makes reaches each entry
pub newest_tip-high : (tip : ℕ) (certs : List (At Finalization)) → AllByRecursion (λ x. x.height ≤ newest_tip tip (newest certs)) certs
newest_tip-high tip certs = by (last_index certs) refl
  where
    nothing : (xs : List (At Finalization)) → last_index xs ≡ None → AllByRecursion (λ x. x.height ≤ newest_tip tip (newest xs)) xs
    nothing [] none = tt
    nothing (x ∷ xs) none = absurd cc

    by : (o : Option ℕ) → last_index certs ≡ o → AllByRecursion (λ x. x.height ≤ newest_tip tip (newest certs)) certs
    by None none = nothing certs none
    by (Some h) some =
        let found = at_last certs h some in
        let is : newest certs ≡ Some (record { height = h; value = found.0 }) = ap (entry_at certs) some ∙ ap (λ o. option_map (λ v. record { height = h; value = v }) o) found.1 in
        subst (λ o. AllByRecursion (λ x. x.height ≤ newest_tip tip o) certs) (sym is)
        (AllByRecursion-weaker (λ (x : At Finalization). x.height ≤ h) (λ x. x.height ≤ risen_to tip h) (λ x low. (let high = (risen_to-high tip h).1 in omega arith)) certs (below_last certs h some))

-- what is told of it
pub newest_tips-tips : (inner : List ℕ → List ℕ) (tip : ℕ) (o : Option (At Finalization)) → AreTips (newest_tips inner tip o)
newest_tips-tips inner tip None = tt
newest_tips-tips inner tip (Some x) = tips_above-tips tip x.value.round x.height (inner x.value.payload)

pub newest_tips-rise : (inner : List ℕ → List ℕ) (tip : ℕ) (o : Option (At Finalization)) → TipsFrom tip (newest_tips inner tip o) (newest_tip tip o)
newest_tips-rise inner tip None = refl
newest_tips-rise inner tip (Some x) = tips_above-rise tip x.value.round x.height (inner x.value.payload)

-- a payload that commits to a chain block names its digest
digest_named : (inner : List ℕ → List ℕ) (chain : Chain) (buffer : List Block) → AreOne inner (chain.blocks ++ buffer) → (x : At Finalization) → Finalizes chain x.height x.value.round x.value.payload → digest_at chain x.height ≡ Some (inner x.value.payload)
digest_named inner chain buffer one x final = by (slice_get chain.blocks x.height) refl final.payload_is
  where
    inside : {a b : List ℕ} → Some a ≡ Some b → a ≡ b
    inside p = cc

    by : (o : Option Block) → slice_get chain.blocks x.height ≡ o → option_map (λ b. b.commitment) o ≡ Some x.value.payload → option_map (λ b. b.digest) o ≡ Some (inner x.value.payload)
    by None at names = absurd cc
    by (Some b) at names = ap Some (sym (one.names b (Contains-append_left chain.blocks buffer b (Contains-slice_get chain.blocks x.height b at))) ∙ ap inner (inside names))

pub newest_tips-chain : (inner : List ℕ → List ℕ) (chain : Chain) (buffer : List Block) → AreOne inner (chain.blocks ++ buffer) → (tip : ℕ) (certs : List (At Finalization)) → AreFinalizationsOf chain certs → AreTipsOf chain (newest_tips inner tip (newest certs))
newest_tips-chain inner chain buffer one tip certs finals = by (last_index certs)
  where
    at : (h : ℕ) (o : Option Finalization) → value_at certs h ≡ o → AreTipsOf chain (newest_tips inner tip (option_map (λ v. record { height = h; value = v }) o))
    at h None none = tt
    at h (Some f) is =
        let final = AllByRecursion-value_at (λ x. Finalizes chain x.height x.value.round x.value.payload) certs h f finals is in
        tips_above-chain chain tip f.round h (inner f.payload) final.named (digest_named inner chain buffer one (record { height = h; value = f }) final)

    by : (o : Option ℕ) → AreTipsOf chain (newest_tips inner tip (entry_at certs o))
    by None = tt
    by (Some h) = at h (value_at certs h) refl

-- ONE ROW OF TIPS BEHIND ANOTHER

pub both_tips : (xs ys : List Report) → AreTips xs → AreTips ys → AreTips (xs ++ ys)
both_tips [] ys first second = second
both_tips (new_tip r h d ∷ xs) ys first second = both_tips xs ys first second
both_tips (handed_over t b ∷ xs) ys first second = absurd first

pub both_rise : (tip mid last : ℕ) (xs ys : List Report) → TipsFrom tip xs mid → TipsFrom mid ys last → TipsFrom tip (xs ++ ys) last
both_rise tip mid last [] ys first second = subst (λ k. TipsFrom k ys last) first second
both_rise tip mid last (new_tip r h d ∷ xs) ys first second = (first.0, both_rise h mid last xs ys first.1 second)
both_rise tip mid last (handed_over t b ∷ xs) ys first second = both_rise tip mid last xs ys first second

pub both_chain : (chain : Chain) (xs ys : List Report) → AreTipsOf chain xs → AreTipsOf chain ys → AreTipsOf chain (xs ++ ys)
both_chain chain [] ys first second = second
both_chain chain (new_tip r h d ∷ xs) ys first second = (first.0, first.1, both_chain chain xs ys first.2 second)
both_chain chain (handed_over t b ∷ xs) ys first second = both_chain chain xs ys first second

-- The cutoff stays safe on a lawful chain: after acknowledgements, a witnessed round, a closed epoch, an applied floor.
use Rattle.std.proofs.Common.{◌≡◌, ◌⊎◌, inl, inr, ℕ, ◌+◌, ◌-◌, ◌<◌, ◌≤◌, List, [], ◌∷◌, ◌++◌, Bool, true, false, if◌then◌else◌, nat_lt, Option, Some, None, option_map, option_to_list, IsTrue, IsFalse, map, refl, sym, ◌∙◌, ap, subst, arith, eq-or-lt_of_le, le_refl, append-nil, nat_le, leb-true}
use Rattle.std.specs.Bool.{⊤}
use Rattle.std.specs.List.{AllByRecursion}
use Rattle.std.proofs.lemmas.Bool.Decides.{nat_tests}
use Rattle.mar_types.specs.Round.{Round, round_lt}
use Rattle.mar_types.specs.Epochs.{IsPartition, closed_epoch}
use Rattle.mar_types.proofs.Partition.{closed_epoch-bounds}
use Rattle.mar_cert.specs.Block.{Block}
use Rattle.mar_cert.specs.Finalization.{Finalization}
use Rattle.mar_model.specs.Messages.{prune_below}
use Rattle.mar_key.specs.Cutoff.{Cutoff, at_epoch, at_round, covers, greatest_of}
use Rattle.mar_key.specs.Processed.{Processed, at_absent, at_block, first_unprocessed, height_in, height_of}
use Rattle.mar_key.proofs.CutoffOrder.{covers-at_epoch, covers-at_round, greatest_of-all}
use Rattle.mar_store.specs.Kept.{At, has_height, value_at}
use Rattle.mar_store.proofs.Lookups.{AllByRecursion-append, AllByRecursion-value_at, AllByRecursion-weaker}
use Rattle.mar_model.specs.Acks.{Outstanding}
use Rattle.mar_model.proofs.OutstandingLemmas.{ConsecutiveFrom-drained, drains_or_floors, heights-acked_to}
use Rattle.mar_model.specs.Chain.{Chain, Finalizes, IsFinal, IsLawful}
use Rattle.mar_model.specs.Config.{Config}
use Rattle.mar_model.specs.Event.{Effect, Event, Met, message_told, serve_ended, acked_to, all_retired, applies_floor, awaits_floor, blocks_from, closed_at, cutoff_after, drained_blocks, effect_of, floor_cutoffs, is_above, met_finalization, met_rounds, no_floor, processed_after, retired}
use Rattle.mar_model.specs.Faults.{next_after}
use Rattle.mar_model.specs.Node.{Awaited, AreFinalizationsOf, ConsecutiveFrom, FloorSafe, Node}

-- WHAT A CUTOFF COVERS

-- the cutoff covers finalized blocks up to this height alone
abbrev pub CoversUpto : Chain → ℕ → Cutoff → Type 0
CoversUpto chain k c = (r : Round) (h : ℕ) → IsFinal chain r h → IsTrue (covers c r) → h ≤ k

pub CoversUpto-more : (chain : Chain) (j k : ℕ) (c : Cutoff) → j ≤ k → CoversUpto chain j c → CoversUpto chain k c
CoversUpto-more chain j k c le upto r h final covered = let low : h ≤ j = upto r h final covered in omega arith

module _ (config : Config) (chain : Chain) (lawful : IsLawful config.epochs chain) where
  -- the round of a block covers the blocks up to it
  pub CoversUpto-at_round : (k : ℕ) (s : Round) → IsFinal chain s k → CoversUpto chain k (at_round s)
  CoversUpto-at_round k s named r h final covered = by (covers-at_round s r covered)
    where
      by : IsTrue (round_lt r s) ⊎ (r ≡ s) → h ≤ k
      by (inl below) = lawful.no_lower r s h k final named below
      by (inr same) = let one : h ≡ k = lawful.one_height s h k (subst (λ t. IsFinal chain t h) same final) named in omega arith

  -- an epoch that is closed at a height covers the blocks up to it
  pub CoversUpto-at_epoch : IsPartition config.epochs → (k e : ℕ) → closed_epoch config.epochs k ≡ Some e → CoversUpto chain k (at_epoch e)
  CoversUpto-at_epoch partition k e closed r h final covered = closed_epoch-bounds config.epochs partition h k e r.epoch closed (lawful.own_epoch r h final) (covers-at_epoch e r covered)

  pub CoversUpto-closed_at : IsPartition config.epochs → (h k : ℕ) → h ≤ k → AllByRecursion (CoversUpto chain k) (closed_at config.epochs h)
  CoversUpto-closed_at partition h k le = by (closed_epoch config.epochs h) refl
    where
      by : (o : Option ℕ) → closed_epoch config.epochs h ≡ o → AllByRecursion (CoversUpto chain k) (option_to_list (option_map at_epoch o))
      by None e = tt
      by (Some e) closed = (CoversUpto-more chain h k (at_epoch e) le (CoversUpto-at_epoch partition h e closed), tt)

  -- where nothing is covered above the processed height, the cutoff is safe
  pub FloorSafe-from_upto : (p : Option Processed) (c : Cutoff) (sure : List (At Block)) → CoversUpto chain (height_of p) c → FloorSafe (option_map height_in p) c sure chain
  FloorSafe-from_upto (Some p) c sure upto = λ r h final covered. inl (upto r h final covered)
  FloorSafe-from_upto None c sure upto = λ r h final. by r h final (covers c r) refl
    where
      by : (r : Round) (h : ℕ) → IsFinal chain r h → (b : Bool) → covers c r ≡ b → IsFalse (covers c r)
      by r h final false e = e
      by r h final true e = absurd (let low : h ≤ 0 = upto r h final e in let high : 1 ≤ h = lawful.above_zero r h final in omega arith)

-- or where the next block is sure
pub FloorSafe-at_next : (chain : Chain) (p : ℕ) (c : Cutoff) (sure : List (At Block)) → CoversUpto chain (p + 1) c → IsTrue (has_height sure (p + 1)) → FloorSafe (Some p) c sure chain
FloorSafe-at_next chain p c sure upto next r h final covered = by (eq-or-lt_of_le low)
  where
    low : h ≤ p + 1
    low = upto r h final covered

    by : (h ≡ p + 1) ⊎ (h < p + 1) → (h ≤ p) ⊎ ((h ≡ p + 1) × IsTrue (has_height sure h))
    by (inl same) = inr (same, subst (λ k. IsTrue (has_height sure k)) (sym same) next)
    by (inr less) = inl (omega arith)

-- a safe cutoff covers nothing above the next height
pub CoversUpto-from_safe : (chain : Chain) (o : Option ℕ) (c : Cutoff) (sure : List (At Block)) → FloorSafe o c sure chain → CoversUpto chain (next_after o) c
CoversUpto-from_safe chain None c sure safe r h final covered = absurd (let off : covers c r ≡ false = safe r h final in cc)
CoversUpto-from_safe chain (Some p) c sure safe r h final covered = by (safe r h final covered)
  where
    by : (h ≤ p) ⊎ ((h ≡ p + 1) × IsTrue (has_height sure h)) → h ≤ p + 1
    by (inl low) = omega arith
    by (inr (same, has)) = omega arith

-- it stays safe where the next height, if it was sure, is sure still
pub FloorSafe-still : (chain : Chain) (o : Option ℕ) (c : Cutoff) (sure sure' : List (At Block)) → (IsTrue (has_height sure (next_after o)) → IsTrue (has_height sure' (next_after o))) → FloorSafe o c sure chain → FloorSafe o c sure' chain
FloorSafe-still chain None c sure sure' still safe = safe
FloorSafe-still chain (Some p) c sure sure' still safe = λ r h final covered. by h (safe r h final covered)
  where
    by : (h : ℕ) → (h ≤ p) ⊎ ((h ≡ p + 1) × IsTrue (has_height sure h)) → (h ≤ p) ⊎ ((h ≡ p + 1) × IsTrue (has_height sure' h))
    by h (inl low) = inl low
    by h (inr (same, has)) = inr (same, subst (λ k. IsTrue (has_height sure' k)) (sym same) (still (subst (λ k. IsTrue (has_height sure k)) same has)))

-- the greatest of safe cutoffs is safe
pub FloorSafe-greatest_of : (chain : Chain) (o : Option ℕ) (c : Cutoff) (cs : List Cutoff) (sure : List (At Block)) → FloorSafe o c sure chain → AllByRecursion (λ d. FloorSafe o d sure chain) cs → FloorSafe o (greatest_of c cs) sure chain
FloorSafe-greatest_of chain o c cs sure safe all = greatest_of-all (λ d. FloorSafe o d sure chain) c cs safe all

pub CoversUpto-greatest_of : (chain : Chain) (k : ℕ) (c : Cutoff) (cs : List Cutoff) → CoversUpto chain k c → AllByRecursion (CoversUpto chain k) cs → CoversUpto chain k (greatest_of c cs)
CoversUpto-greatest_of chain k c cs upto all = greatest_of-all (CoversUpto chain k) c cs upto all

pub next_after-is : (p : Option Processed) → next_after (option_map height_in p) ≡ first_unprocessed p
next_after-is None = refl
next_after-is (Some p) = refl

pub height_of-low : (p : Option Processed) → height_of p ≤ first_unprocessed p
height_of-low None = omega arith
height_of-low (Some p) = omega arith

-- BOUNDS

-- this height and all above it are sure still
abbrev pub KeepsHeightsFrom : {T : Type 0} → ℕ → List (At T) → List (At T) → Type 0
KeepsHeightsFrom bound old new = (h : ℕ) → bound ≤ h → IsTrue (has_height old h) → IsTrue (has_height new h)

-- no event but an applied floor lets a block go from the processed height on
pub blocks_from-low : (n : Node) (e : Event) → blocks_from n e no_floor ≤ height_of n.processed
blocks_from-low n (message_told t (prune_below h)) = by (nat_le h (height_of n.processed)) refl
  where
    by : (b : Bool) → nat_le h (height_of n.processed) ≡ b → (if b then h else 0) ≤ height_of n.processed
    by true le = leb-true h (height_of n.processed) le
    by false gt = omega arith
blocks_from-low n (message_told t m) = omega arith
blocks_from-low n e = omega arith

pub blocks_from-awaits : (n : Node) (e : Event) (a : Awaited) → blocks_from n e (awaits_floor a) ≡ 0
blocks_from-awaits n (message_told t (prune_below h)) a = refl
blocks_from-awaits n (message_told t m) a = refl
blocks_from-awaits n e a = refl

pub blocks_from-applies : (n : Node) (e : Event) (r : Round) (b : Block) → blocks_from n e (applies_floor r b) ≡ (if is_above n b then b.height - 1 else 0)
blocks_from-applies n (message_told t (prune_below h)) r b = refl
blocks_from-applies n (message_told t m) r b = refl
blocks_from-applies n e r b = refl

-- EVENTS

-- what an event's effect on a floor needs: the finalized block, which is sure where it stands above the processed height
abbrev pub HasFloor : Chain → Node → Effect → List (At Block) → Type 0
HasFloor chain n no_floor sure = ⊤
HasFloor chain n (awaits_floor a) sure = ⊤
HasFloor chain n (applies_floor r b) sure = IsFinal chain r b.height × (IsTrue (is_above n b) → IsTrue (has_height sure b.height))

-- the finalization that an event meets is the chain's
abbrev pub MeetsFinal : Chain → Option Met → Type 0
MeetsFinal chain None = ⊤
MeetsFinal chain (Some m) = IsFinal chain m.round m.block.height

module _ (config : Config) (chain : Chain) (lawful : IsLawful config.epochs chain) (partition : IsPartition config.epochs) where
  -- the cutoffs of a drained height: its certificate's round, the epoch that is closed there
  retired_upto : (n : Node) (a : Outstanding) (k : ℕ) → AreFinalizationsOf chain n.certs.held → a.height ≤ k → AllByRecursion (CoversUpto chain k) (retired config.epochs n.certs.held a.height)
  retired_upto n a k certs le = AllByRecursion-append (CoversUpto chain k) _ _ (by (value_at n.certs.held a.height) refl) (CoversUpto-closed_at config chain lawful partition a.height k le)
    where
      by : (o : Option Finalization) → value_at n.certs.held a.height ≡ o → AllByRecursion (CoversUpto chain k) (option_to_list (option_map at_round (option_map (λ f. f.round) o)))
      by None is = tt
      by (Some f) is = (CoversUpto-more chain a.height k (at_round f.round) le (CoversUpto-at_round config chain lawful a.height f.round (AllByRecursion-value_at (λ x. Finalizes chain x.height x.value.round x.value.payload) n.certs.held a.height f certs is).named), tt)

  pub all_retired_upto : (n : Node) (out : List Outstanding) (k : ℕ) → AreFinalizationsOf chain n.certs.held → AllByRecursion (λ a. a.height ≤ k) out → AllByRecursion (CoversUpto chain k) (all_retired config.epochs n.certs.held out)
  all_retired_upto n [] k certs le = tt
  all_retired_upto n (a ∷ out) k certs le = AllByRecursion-append (CoversUpto chain k) _ _ (retired_upto n a k certs le.0) (all_retired_upto n out k certs le.1)

  -- the round that is met, where its block is not above the processed height
  pub met_upto : (n : Node) (m : Option Met) → MeetsFinal chain m → AllByRecursion (CoversUpto chain (height_of n.processed)) (map at_round (met_rounds n m))
  met_upto n None final = tt
  met_upto n (Some m) final = by (is_above n m.block) refl
    where
      low : (p h : ℕ) → nat_lt p h ≡ false → h ≤ p
      low p h e = grind (arith, nat_tests)

      by : (b : Bool) → is_above n m.block ≡ b → AllByRecursion (CoversUpto chain (height_of n.processed)) (map at_round (if b then [] else m.round ∷ []))
      by true e = tt
      by false e = (CoversUpto-more chain m.block.height _ (at_round m.round) (low (height_of n.processed) m.block.height e) (CoversUpto-at_round config chain lawful m.block.height m.round final), tt)

  -- what a step asks of the sure blocks: the next height, if it was sure, is sure still
  abbrev pub StaysSure : Node → List (At Block) → Type 0
  StaysSure n sure = IsTrue (has_height n.blocks.sure (first_unprocessed n.processed)) → IsTrue (has_height sure (first_unprocessed n.processed))

  stays_over : (n : Node) (bound : ℕ) (sure : List (At Block)) → bound ≤ height_of n.processed → KeepsHeightsFrom bound n.blocks.sure sure → StaysSure n sure
  stays_over n bound sure low keeps has = keeps (first_unprocessed n.processed) (let le : height_of n.processed ≤ first_unprocessed n.processed = height_of-low n.processed in omega arith) has

  safe_still : (n : Node) (sure : List (At Block)) → FloorSafe (option_map height_in n.processed) n.cutoff n.blocks.sure chain → StaysSure n sure → FloorSafe (option_map height_in n.processed) n.cutoff sure chain
  safe_still n sure safe stays = FloorSafe-still chain _ n.cutoff n.blocks.sure sure (subst (λ k. IsTrue (has_height n.blocks.sure k) → IsTrue (has_height sure k)) (sym (next_after-is n.processed)) stays) safe

  safe_from_all : (p : Option Processed) (sure : List (At Block)) (cs : List Cutoff) → AllByRecursion (CoversUpto chain (height_of p)) cs → AllByRecursion (λ d. FloorSafe (option_map height_in p) d sure chain) cs
  safe_from_all p sure cs upto = AllByRecursion-weaker _ _ (λ d low. FloorSafe-from_upto config chain lawful p d sure low) cs upto

  -- acknowledgements, and a round that is met
  pub drained_safe : (n : Node) (out : List Outstanding) (met : List Cutoff) (sure : List (At Block)) → AreFinalizationsOf chain n.certs.held → ConsecutiveFrom (first_unprocessed n.processed) out → FloorSafe (option_map height_in n.processed) n.cutoff n.blocks.sure chain → StaysSure n sure → AllByRecursion (CoversUpto chain (height_of n.processed)) met → FloorSafe (option_map height_in (acked_to n.processed out)) (greatest_of n.cutoff (all_retired config.epochs n.certs.held out ++ met)) sure chain
  drained_safe n [] met sure certs line safe stays low = FloorSafe-greatest_of chain _ n.cutoff met sure (safe_still n sure safe stays) (safe_from_all n.processed sure met low)
  drained_safe n (a ∷ out) met sure certs line safe stays low =
      FloorSafe-from_upto config chain lawful after _ sure
      (CoversUpto-greatest_of chain k n.cutoff _
      (CoversUpto-more chain _ k n.cutoff (subst (λ j. j ≤ k) (sym (next_after-is n.processed)) first) (CoversUpto-from_safe chain _ n.cutoff n.blocks.sure safe))
      (AllByRecursion-append (CoversUpto chain k) _ _ (all_retired_upto n (a ∷ out) k certs heights)
      (AllByRecursion-weaker _ _ (λ d upto. CoversUpto-more chain (height_of n.processed) k d (let le : height_of n.processed ≤ first_unprocessed n.processed = height_of-low n.processed in let le' : first_unprocessed n.processed ≤ k = first in omega arith) upto) met low)))
    where
      after : Option Processed
      after = acked_to n.processed (a ∷ out)

      k : ℕ
      k = height_of (acked_to n.processed (a ∷ out))

      heights : AllByRecursion (λ x. x.height ≤ height_of (acked_to n.processed (a ∷ out))) (a ∷ out)
      heights = heights-acked_to n.processed (a ∷ out) line

      first : first_unprocessed n.processed ≤ height_of (acked_to n.processed (a ∷ out))
      first = subst (λ j. j ≤ height_of (acked_to n.processed (a ∷ out))) line.0 heights.0

  -- an applied floor: above the processed height its block is the next one, and is sure
  applied_above : (n : Node) (r : Round) (b : Block) (sure : List (At Block)) → FloorSafe (option_map height_in n.processed) n.cutoff n.blocks.sure chain → IsFinal chain r b.height → height_of n.processed < b.height → IsTrue (has_height sure b.height) → FloorSafe (Some (b.height - 1)) (greatest_of n.cutoff (at_round r ∷ closed_at config.epochs b.height)) sure chain
  applied_above n r b sure safe final above has =
      FloorSafe-at_next chain (b.height - 1) _ sure
      (CoversUpto-more chain b.height _ _ (omega arith)
      (CoversUpto-greatest_of chain b.height n.cutoff (at_round r ∷ closed_at config.epochs b.height)
      (CoversUpto-more chain _ b.height n.cutoff (subst (λ j. j ≤ b.height) (sym (next_after-is n.processed)) (next_low n.processed above)) (CoversUpto-from_safe chain _ n.cutoff n.blocks.sure safe))
      (CoversUpto-at_round config chain lawful b.height r final, CoversUpto-closed_at config chain lawful partition b.height b.height (le_refl _))))
      (subst (λ j. IsTrue (has_height sure j)) back has)
    where
      back : b.height ≡ b.height - 1 + 1
      back = omega arith

      next_low : (p : Option Processed) → height_of p < b.height → first_unprocessed p ≤ b.height
      next_low None lt = omega arith
      next_low (Some p) lt = omega arith

  pub applied_safe : (n : Node) (r : Round) (b : Block) (sure : List (At Block)) → FloorSafe (option_map height_in n.processed) n.cutoff n.blocks.sure chain → (is_above n b ≡ false → StaysSure n sure) → HasFloor chain n (applies_floor r b) sure → FloorSafe (option_map height_in (processed_after n serve_ended (applies_floor r b))) (greatest_of n.cutoff (floor_cutoffs config n (applies_floor r b))) sure chain
  applied_safe n r b sure safe stays (final, has) = by (is_above n b) refl has
    where
      above : (p h : ℕ) → nat_lt p h ≡ true → p < h
      above p h e = grind (arith, nat_tests)

      low : (p h : ℕ) → nat_lt p h ≡ false → h ≤ p
      low p h e = grind (arith, nat_tests)

      either : (c : Bool) → option_map height_in (Some (if c then at_block (b.height - 1) else at_absent (b.height - 1))) ≡ Some (b.height - 1)
      either true = refl
      either false = refl

      by : (c : Bool) → is_above n b ≡ c → (IsTrue c → IsTrue (has_height sure b.height)) → FloorSafe (option_map height_in (if c then Some (if has_height n.blocks.held (b.height - 1) then at_block (b.height - 1) else at_absent (b.height - 1)) else n.processed)) (greatest_of n.cutoff (at_round r ∷ (if c then closed_at config.epochs b.height else []))) sure chain
      by true e sure_there = subst (λ o. FloorSafe o (greatest_of n.cutoff (at_round r ∷ closed_at config.epochs b.height)) sure chain) (sym (either (has_height n.blocks.held (b.height - 1)))) (applied_above n r b sure safe final (above (height_of n.processed) b.height e) (sure_there refl))
      by false e sure_there =
          FloorSafe-greatest_of chain _ n.cutoff (at_round r ∷ []) sure (safe_still n sure safe (stays e))
          (safe_from_all n.processed sure (at_round r ∷ []) (CoversUpto-more chain b.height _ (at_round r) (low (height_of n.processed) b.height e) (CoversUpto-at_round config chain lawful b.height r final), tt))

  -- ANY EVENT

  append_none : (n : Node) (e : Event) (more : List Cutoff) → drained_blocks n e ≡ [] → more ≡ all_retired config.epochs n.certs.held (drained_blocks n e) ++ [] ++ more
  append_none n e more none = ap (λ out. all_retired config.epochs n.certs.held out ++ [] ++ more) (sym none)

  -- after any event the new cutoff is safe for the new processed height and the blocks that are sure then
  by_effect : (n : Node) (e : Event) (fx : Effect) (sure : List (At Block)) → (fx ≡ no_floor) ⊎ (drained_blocks n e ≡ []) → AreFinalizationsOf chain n.certs.held → ConsecutiveFrom (first_unprocessed n.processed) n.out → FloorSafe (option_map height_in n.processed) n.cutoff n.blocks.sure chain → KeepsHeightsFrom (blocks_from n e fx) n.blocks.sure sure → MeetsFinal chain (met_finalization n e) → HasFloor chain n fx sure → FloorSafe (option_map height_in (processed_after n e fx)) (cutoff_after config n e fx) sure chain
  by_effect n e no_floor sure drains certs line safe stays meets floor =
      subst (λ cs. FloorSafe (option_map height_in (acked_to n.processed (drained_blocks n e))) (greatest_of n.cutoff cs) sure chain) (sym (append-nil (all_retired config.epochs n.certs.held (drained_blocks n e) ++ map at_round (met_rounds n (met_finalization n e)))))
      (drained_safe n (drained_blocks n e) (map at_round (met_rounds n (met_finalization n e))) sure certs (ConsecutiveFrom-drained n e line) safe (stays_over n (blocks_from n e no_floor) sure (blocks_from-low n e) stays) (met_upto n (met_finalization n e) meets))
  by_effect n e (awaits_floor a) sure (inl same) certs line safe stays meets floor = absurd cc
  by_effect n e (awaits_floor a) sure (inr none) certs line safe stays meets floor =
      subst (λ cs. FloorSafe (option_map height_in n.processed) (greatest_of n.cutoff cs) sure chain) (append_none n e [] none) (safe_still n sure safe (stays_over n (blocks_from n e (awaits_floor a)) sure (subst (λ k. k ≤ height_of n.processed) (sym (blocks_from-awaits n e a)) (omega arith)) stays))
  by_effect n e (applies_floor r b) sure (inl same) certs line safe stays meets floor = absurd cc
  by_effect n e (applies_floor r b) sure (inr none) certs line safe stays meets floor =
      subst (λ cs. FloorSafe (option_map height_in (processed_after n e (applies_floor r b))) (greatest_of n.cutoff cs) sure chain) (append_none n e (floor_cutoffs config n (applies_floor r b)) none) (applied_safe n r b sure safe (λ off. stays_over n (blocks_from n e (applies_floor r b)) sure (subst (λ k. k ≤ height_of n.processed) (sym (blocks_from-applies n e r b ∙ ap (λ (c : Bool). if c then b.height - 1 else 0) off)) (omega arith)) stays) floor)

  pub FloorSafe-after : (n : Node) (e : Event) (sure : List (At Block)) → AreFinalizationsOf chain n.certs.held → ConsecutiveFrom (first_unprocessed n.processed) n.out → FloorSafe (option_map height_in n.processed) n.cutoff n.blocks.sure chain → KeepsHeightsFrom (blocks_from n e (effect_of config n e)) n.blocks.sure sure → MeetsFinal chain (met_finalization n e) → HasFloor chain n (effect_of config n e) sure → FloorSafe (option_map height_in (processed_after n e (effect_of config n e))) (cutoff_after config n e (effect_of config n e)) sure chain
  FloorSafe-after n e sure certs line safe stays meets floor = by_effect n e (effect_of config n e) sure (drains_or_floors config n e) certs line safe stays meets floor

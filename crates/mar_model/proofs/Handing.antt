-- Blocks that are handed over one after another: each the next held one, under the next ticket.
use Rattle.std.proofs.Common.{◌≡◌, ◌⊎◌, inl, inr, ℕ, suc, ◌+◌, ◌-◌, ◌<◌, ◌≤◌, ◌^◌, List, [], ◌∷◌, ◌++◌, length, map, Option, Some, None, Result, Err, Ok, MatchResult, IsTrue, Contains, refl, sym, ◌∙◌, ap, subst, arith, append_assoc, append-nil, length-append, false}
use Rattle.std.specs.List.{AllByRecursion}
use Rattle.mar_cert.specs.Block.{Block}
use Rattle.mar_store.specs.Kept.{At, Kept, has_height, value_at}
use Rattle.mar_store.specs.Changes.{IsNested, KeepsValues}
use Rattle.mar_store.proofs.Lookups.{AllByRecursion-contains, AllByRecursion-push, AllByRecursion-value_at, has_height-from_value, value-from_has_height}
use Rattle.mar_key.specs.Hears.{Hears}
use Rattle.mar_key.specs.Processed.{first_unprocessed}
use Rattle.mar_model.specs.Acks.{Outstanding, height_after}
use Rattle.mar_model.specs.Chain.{Chain, IsBlockAt}
use Rattle.mar_model.specs.Faults.{ack_kind, ticket_limit, is_by_value, store_fault, meta_store}
use Rattle.mar_model.specs.Held.{Ending, Grew, IsArchiveFault, Loses, Seen, Watches, nothing_written}
use Rattle.mar_model.specs.Moves.{AreNextHeld, Dispatches, HasRoom, HearsFront, HearsUpTo, IsBelowWrites, IsLastTicket, IsNext, IsRead, IsStill, StopsHanding, handed_report, next_in, with_handed, with_watches}
use Rattle.mar_model.specs.Step.{HeldFrom, AreHandedOf, HandedBlock, HandedFrom, Report, handed_blocks, handed_over, outstanding_of}
use Rattle.mar_model.specs.Node.{AreBlocksOf, ConsecutiveFrom, SureOrWritten}
use Rattle.mar_model.specs.Lives.{is_dropped_ack}
use Rattle.mar_model.proofs.Growing.{Grew-refl}

-- HEARING

-- what was heard first, then what was heard after it
pub Hears-then : {T : Type 0} (first second third : Option (List T)) (xs ys : List T) → Hears first xs second → Hears second ys third → Hears first (xs ++ ys) third
Hears-then None second third xs ys before after = tt
Hears-then {T = T} (Some told) second third xs ys before after = subst (λ zs. third ≡ Some zs) (append_assoc told xs ys) (subst (λ o. Hears o ys third) before after)

pub Hears-nothing : {T : Type 0} (told : Option (List T)) → Hears told [] told
Hears-nothing None = tt
Hears-nothing (Some told) = ap Some (sym (append-nil told))

-- a front of what was to be heard
pub HearsFront-whole : {T : Type 0} (old : Option (List T)) (xs : List T) (new : Option (List T)) → Hears old xs new → HearsFront old xs new
HearsFront-whole old xs new heard = (xs, ([], sym (append-nil xs)), heard)

pub HearsFront-nothing : {T : Type 0} (old : Option (List T)) (xs : List T) (new : Option (List T)) → Hears old [] new → HearsFront old xs new
HearsFront-nothing old xs new heard = ([], (xs, refl), heard)

pub HearsFront-more : {T : Type 0} (old : Option (List T)) (xs ys : List T) (new : Option (List T)) → HearsFront old xs new → HearsFront old (xs ++ ys) new
HearsFront-more old xs ys new (front, (rest, is), heard) = (front, (rest ++ ys, ap (λ zs. zs ++ ys) is ∙ append_assoc front rest ys), heard)

pub HearsFront-then : {T : Type 0} (old : Option (List T)) (xs : List T) (mid : Option (List T)) (ys : List T) (new : Option (List T)) → Hears old xs mid → HearsFront mid ys new → HearsFront old (xs ++ ys) new
HearsFront-then old xs mid ys new before (front, (rest, is), heard) = (xs ++ front, (rest, ap (λ zs. xs ++ zs) is ∙ sym (append_assoc xs front rest)), Hears-then old mid new xs front before heard)

pub HearsUpTo-then : {T A C : Type 0} (old : Option (List T)) (xs : List T) (mid : Option (List T)) (ys : List T) (new : Option (List T)) (result : Result A C) → Hears old xs mid → HearsUpTo mid ys new result → HearsUpTo old (xs ++ ys) new result
HearsUpTo-then old xs mid ys new (Ok r) before after = Hears-then old mid new xs ys before after
HearsUpTo-then old xs mid ys new (Err e) before after = HearsFront-then old xs mid ys new before after

-- HEIGHTS

height_after-append : (start : ℕ) (xs ys : List Outstanding) → height_after start (xs ++ ys) ≡ height_after (height_after start xs) ys
height_after-append start [] ys = refl
height_after-append start (x ∷ xs) ys = height_after-append (x.height + 1) xs ys

pub height_after-consecutive : (start : ℕ) (out : List Outstanding) → ConsecutiveFrom start out → height_after start out ≡ start + length out
height_after-consecutive start [] line = omega arith
height_after-consecutive start (a ∷ out) line =
    let rest : height_after (a.height + 1) out ≡ a.height + 1 + length out = height_after-consecutive (a.height + 1) out (subst (λ k. ConsecutiveFrom (k + 1) out) (sym line.0) line.1) in
    let at : a.height ≡ start = line.0 in
    rest ∙ omega arith

height_after-handed : (held : List (At Block)) (ticket height : ℕ) (xs : List HandedBlock) → HeldFrom held ticket height xs → height_after height (map outstanding_of xs) ≡ height + length xs
height_after-handed held ticket height [] line = omega arith
height_after-handed held ticket height (x ∷ xs) line =
    let at : x.block.height ≡ height = line.1 in
    let rest : height_after (height + 1) (map outstanding_of xs) ≡ height + 1 + length xs = height_after-handed held (ticket + 1) (height + 1) xs line.3 in
    let counted : height + 1 + length xs ≡ height + suc (length xs) = omega arith in
    subst (λ k. height_after (k + 1) (map outstanding_of xs) ≡ height + suc (length xs)) (sym at) (rest ∙ counted)

HeldFrom-append : (held : List (At Block)) (ticket height : ℕ) (xs ys : List HandedBlock) → HeldFrom held ticket height xs → HeldFrom held (ticket + length xs) (height + length xs) ys → HeldFrom held ticket height (xs ++ ys)
HeldFrom-append held ticket height [] ys before after =
    let t : ticket + 0 ≡ ticket = omega arith in
    let h : height + 0 ≡ height = omega arith in
    subst (λ k. HeldFrom held ticket k ys) h (subst (λ k. HeldFrom held k (height + 0) ys) t after)
HeldFrom-append held ticket height (x ∷ xs) ys before after =
    let t : ticket + suc (length xs) ≡ ticket + 1 + length xs = omega arith in
    let h : height + suc (length xs) ≡ height + 1 + length xs = omega arith in
    (before.0, before.1, before.2, HeldFrom-append held (ticket + 1) (height + 1) xs ys before.3 (subst (λ k. HeldFrom held (ticket + 1 + length xs) k ys) h (subst (λ k. HeldFrom held k (height + suc (length xs)) ys) t after)))

-- MORE AND MORE

map-append : {X Y : Type 0} (f : X → Y) (xs ys : List X) → map f (xs ++ ys) ≡ map f xs ++ map f ys
map-append f [] ys = refl
map-append f (x ∷ xs) ys = ap (λ zs. f x ∷ zs) (map-append f xs ys)

next_in-handed : {P E : Type 0} (a : Seen P E) (xs : List HandedBlock) → AreNextHeld a xs → next_in (with_handed a xs) ≡ next_in a + length xs
next_in-handed a xs next =
    height_after-append (first_unprocessed a.held.processed) a.life.out (map outstanding_of xs) ∙ height_after-handed a.held.blocks.held a.life.next_ack (next_in a) xs next

pub with_handed-none : {P E : Type 0} (a : Seen P E) → with_handed a [] ≡ a
with_handed-none a =
    let out : a.life.out ++ [] ≡ a.life.out = append-nil a.life.out in
    let count : a.life.next_ack + 0 ≡ a.life.next_ack = omega arith in
    ap (λ o. record a { life = record a.life { out = o; next_ack = a.life.next_ack + 0 } }) out ∙ ap (λ k. record a { life = record a.life { next_ack = k } }) count

pub with_handed-then : {P E : Type 0} (a : Seen P E) (xs ys : List HandedBlock) → with_handed (with_handed a xs) ys ≡ with_handed a (xs ++ ys)
with_handed-then a xs ys =
    let out : (a.life.out ++ map outstanding_of xs) ++ map outstanding_of ys ≡ a.life.out ++ map outstanding_of (xs ++ ys) = append_assoc a.life.out (map outstanding_of xs) (map outstanding_of ys) ∙ ap (λ zs. a.life.out ++ zs) (sym (map-append outstanding_of xs ys)) in
    let both : length (xs ++ ys) ≡ length xs + length ys = length-append xs ys in
    let count : a.life.next_ack + length xs + length ys ≡ a.life.next_ack + length (xs ++ ys) = omega arith in
    ap (λ o. record a { life = record a.life { out = o; next_ack = a.life.next_ack + length xs + length ys } }) out ∙ ap (λ k. record a { life = record a.life { out = a.life.out ++ map outstanding_of (xs ++ ys); next_ack = k } }) count

pub AreNextHeld-then : {P E : Type 0} (a : Seen P E) (xs ys : List HandedBlock) → AreNextHeld a xs → AreNextHeld (with_handed a xs) ys → AreNextHeld a (xs ++ ys)
AreNextHeld-then a xs ys before after = HeldFrom-append a.held.blocks.held a.life.next_ack (next_in a) xs ys before (subst (λ k. HeldFrom a.held.blocks.held (a.life.next_ack + length xs) k ys) (next_in-handed a xs before) after)

pub handed_report-append : (xs ys : List HandedBlock) → map handed_report (xs ++ ys) ≡ map handed_report xs ++ map handed_report ys
handed_report-append xs ys = map-append handed_report xs ys

-- WHAT WAS REPORTED

pub handed_blocks-is : (xs : List HandedBlock) → handed_blocks (map handed_report xs) ≡ xs
handed_blocks-is [] = refl
handed_blocks-is (x ∷ xs) = ap (λ zs. x ∷ zs) (handed_blocks-is xs)

-- a held height below each write that no sync covers is sure
pub sure_below : {T : Type 0} (kept : Kept (At T)) (uncovered : List ℕ) (h : ℕ) → SureOrWritten kept uncovered → AllByRecursion (λ k. h < k) uncovered → IsTrue (has_height kept.held h) → IsTrue (has_height kept.sure h)
sure_below kept uncovered h waits below has = by (waits h has)
  where
    by : IsTrue (has_height kept.sure h) ⊎ Contains uncovered h → IsTrue (has_height kept.sure h)
    by (inl is) = is
    by (inr waiting) = absurd (let apart : h < h = AllByRecursion-contains (λ k. h < k) uncovered h below waiting in omega arith)

-- Each that is held, below the writes that no sync covers, is sure, and so it is handed over sure.
pub HandedFrom-held : (held sure : List (At Block)) (uncovered : List ℕ) (ticket height : ℕ) (xs : List HandedBlock) → ((h : ℕ) → AllByRecursion (λ k. h < k) uncovered → IsTrue (has_height held h) → IsTrue (has_height sure h)) → AllByRecursion (λ x. AllByRecursion (λ k. x.block.height < k) uncovered) xs → HeldFrom held ticket height xs → HandedFrom sure ticket height xs
HandedFrom-held held sure uncovered ticket height [] all below line = tt
HandedFrom-held held sure uncovered ticket height (x ∷ xs) all below line = (line.0, line.1, all height (subst (λ h. AllByRecursion (λ k. h < k) uncovered) line.1 below.0) (has_height-from_value held height x.block line.2), HandedFrom-held held sure uncovered (ticket + 1) (height + 1) xs all below.1 line.3)

-- a sure height has the held block
pub sure_value : (held sure : List (At Block)) (h : ℕ) (b : Block) → KeepsValues sure held → IsTrue (has_height sure h) → value_at held h ≡ Some b → value_at sure h ≡ Some b
sure_value held sure h b keeps has is = by (value-from_has_height sure h has)
  where
    by : (c : Block) × (value_at sure h ≡ Some c) → value_at sure h ≡ Some b
    by (c, at) = at ∙ (sym (keeps h c at) ∙ is)

-- each held block that is handed over is sure with its value
pub AreHandedOf-values : (chain : Chain) (held sure : List (At Block)) (uncovered : List ℕ) (ticket height : ℕ) (xs : List HandedBlock) → AreBlocksOf chain held
    → ((h : ℕ) (b : Block) → AllByRecursion (λ k. h < k) uncovered → value_at held h ≡ Some b → value_at sure h ≡ Some b)
    → AllByRecursion (λ x. AllByRecursion (λ k. x.block.height < k) uncovered) xs → HeldFrom held ticket height xs → AreHandedOf chain sure xs
AreHandedOf-values chain held sure uncovered ticket height [] blocks all below line = tt
AreHandedOf-values chain held sure uncovered ticket height (x ∷ xs) blocks all below line = ((subst (λ k. IsBlockAt chain k x.block) (sym line.1) (AllByRecursion-value_at (λ y. IsBlockAt chain y.height y.value) held height x.block blocks line.2), subst (λ k. value_at sure k ≡ Some x.block) (sym line.1) (all height x.block (subst (λ h. AllByRecursion (λ k. h < k) uncovered) line.1 below.0) line.2)), AreHandedOf-values chain held sure uncovered (ticket + 1) (height + 1) xs blocks all below.1 line.3)

pub AreHandedOf-held : (chain : Chain) (held sure : List (At Block)) (uncovered : List ℕ) (ticket height : ℕ) (xs : List HandedBlock) → AreBlocksOf chain held → KeepsValues sure held → ((h : ℕ) → AllByRecursion (λ k. h < k) uncovered → IsTrue (has_height held h) → IsTrue (has_height sure h)) → AllByRecursion (λ x. AllByRecursion (λ k. x.block.height < k) uncovered) xs → HeldFrom held ticket height xs → AreHandedOf chain sure xs
AreHandedOf-held chain held sure uncovered ticket height xs blocks keeps all below line =
    AreHandedOf-values chain held sure uncovered ticket height xs blocks (λ h b low is. sure_value held sure h b keeps (all h low (has_height-from_value held h b is)) is) below line

-- A LOOP THAT HANDS OVER

pub IsRead-from : {P E : Type 0} (a b : Seen P E) (watches : Watches) → b ≡ with_watches a watches → IsRead a b
IsRead-from a b watches is = is ∙ ap (with_watches a) (sym (ap (λ s. s.held.watches) is))

pub IsRead-then : {P E : Type 0} (a b c : Seen P E) → IsRead a b → IsRead b c → IsRead a c
IsRead-then a b c first second = second ∙ ap (λ s. with_watches s c.held.watches) first

-- What was handed over so far.
pub record HandsSoFar {P E : Type 0} (start now : Seen P E) (told told' : Option (List Report)) (count : ℕ) : Type 0 where
  pub handed : List HandedBlock
  pub heard : Hears told (map handed_report handed) told'
  pub next : AreNextHeld start handed
  pub below_barrier : AllByRecursion (λ x. IsBelowWrites start x.block) handed
  pub room : HasRoom start handed
  pub same : IsRead (with_handed start handed) now
  pub grew : Grew start.held nothing_written now.held
  pub counted : count ≡ length handed

-- How a dispatch ended.
abbrev pub Delivers : {P E : Type 0} → Seen P E → Option (List Report) → Option (List Report) → Result (Seen P E) Ending → Type 0
Delivers start told told' result = (handed : List HandedBlock) × Hears told (map handed_report handed) told' × MatchResult result (λ a. Dispatches start handed a) (λ e. StopsHanding start handed e)

-- Some were handed over, and then the life ended, not by value and for no fault of the metadata.
pub record Stops {P E : Type 0} (old : Seen P E) (handed : List HandedBlock) (e : Ending) : Type 0 where
  pub next : AreNextHeld old handed
  pub below_barrier : AllByRecursion (λ x. IsBelowWrites old x.block) handed
  pub lost : Loses old.held nothing_written e
  pub no_value : is_by_value e.fault ≡ false
  pub undropped : is_dropped_ack e.fault ≡ false
  pub unsynced : e.fault ≡ store_fault meta_store → ⊥

-- the same, where what ended it may be a read beside
abbrev pub Ran : {P E : Type 0} → Seen P E → Option (List Report) → Option (List Report) → Result (Seen P E) Ending → Type 0
Ran start told told' result = (handed : List HandedBlock) × Hears told (map handed_report handed) told' × MatchResult result (λ a. Dispatches start handed a) (λ e. Stops start handed e)

pub HandsSoFar-first : {P E : Type 0} (start : Seen P E) (told : Option (List Report)) → IsNested start.held.blocks → IsNested start.held.certs → HandsSoFar start start told told 0
HandsSoFar-first start told blocks certs = record {
  handed = [];
  heard = Hears-nothing told;
  next = tt;
  below_barrier = tt;
  room = λ more. absurd (omega arith);
  same = IsRead-from (with_handed start []) start start.held.watches (sym (with_handed-none start));
  grew = Grew-refl start.held nothing_written blocks certs;
  counted = refl;
}

pub length_out : (xs : List HandedBlock) → length (map outstanding_of xs) ≡ length xs
length_out [] = refl
length_out (x ∷ xs) = ap (λ k. suc k) (length_out xs)

length_with : {P E : Type 0} (a : Seen P E) (xs : List HandedBlock) → length (with_handed a xs).life.out ≡ length a.life.out + length xs
length_with a xs = length-append a.life.out (map outstanding_of xs) ∙ ap (λ k. length a.life.out + k) (length_out xs)

module _ {P E : Type 0} (start now : Seen P E) (told told' : Option (List Report)) (count : ℕ) (so_far : HandsSoFar start now told told' count) where
  -- the store was asked for the next block
  module _ (next : Seen P E) (read : IsRead now next) (grew : Grew start.held nothing_written next.held) where
    next_same : IsRead (with_handed start so_far.handed) next
    next_same = IsRead-then (with_handed start so_far.handed) now next so_far.same read

    -- one more
    pub HandsSoFar-more : (b : Block) (new : Seen P E) (told'' : Option (List Report)) → IsNext now b → new ≡ with_handed next (record { ticket = next.life.next_ack; block = b } ∷ []) → Hears told' (handed_over next.life.next_ack b ∷ []) told'' → HandsSoFar start new told told'' (count + 1)
    HandsSoFar-more b new told'' is_next same heard = record {
      handed = so_far.handed ++ x ∷ [];
      heard = subst (λ rs. Hears told rs told'') (sym (handed_report-append so_far.handed (x ∷ []))) (Hears-then told told' told'' (map handed_report so_far.handed) (handed_over next.life.next_ack b ∷ []) so_far.heard heard);
      next = AreNextHeld-then start so_far.handed (x ∷ []) so_far.next (ap (λ s. s.life.next_ack) next_same, of_now is_next.height, held_of_now is_next.held, tt);
      below_barrier = AllByRecursion-push (λ y. IsBelowWrites start y.block) so_far.handed x so_far.below_barrier (subst (λ s. IsBelowWrites s b) so_far.same is_next.below_barrier);
      room = λ more. fits;
      same = IsRead-from (with_handed start (so_far.handed ++ x ∷ [])) new next.held.watches
          (same ∙ (ap (λ s. with_handed s (x ∷ [])) next_same ∙ ap (λ s. with_watches s next.held.watches) (with_handed-then start so_far.handed (x ∷ []))));
      grew = subst (λ s. Grew start.held nothing_written s.held) (sym same) grew;
      counted = ap (λ k. k + 1) so_far.counted ∙ sym (length-append so_far.handed (x ∷ []));
    }
      where
        x : HandedBlock
        x = record { ticket = next.life.next_ack; block = b }

        next_in_now : next_in now ≡ next_in (with_handed start so_far.handed)
        next_in_now = ap (λ s. next_in s) so_far.same

        of_now : b.height ≡ next_in now → b.height ≡ next_in (with_handed start so_far.handed)
        of_now is = is ∙ next_in_now

        held_of_now : value_at now.held.blocks.held (next_in now) ≡ Some b → value_at start.held.blocks.held (next_in (with_handed start so_far.handed)) ≡ Some b
        held_of_now is = subst (λ k. value_at start.held.blocks.held k ≡ Some b) next_in_now (subst (λ s. value_at s.held.blocks.held (next_in now) ≡ Some b) so_far.same is)

        fits : length start.life.out + length (so_far.handed ++ x ∷ []) ≤ start.life.sizes.window
        fits =
            let out : length now.life.out ≡ length start.life.out + length so_far.handed = ap (λ a. length a.life.out) so_far.same ∙ length_with start so_far.handed in
            let window : now.life.sizes.window ≡ start.life.sizes.window = ap (λ a. a.life.sizes.window) so_far.same in
            let both : length (so_far.handed ++ x ∷ []) ≡ length so_far.handed + 1 = length-append so_far.handed (x ∷ []) in
            let room : length now.life.out < now.life.sizes.window = is_next.room in
            omega arith

    -- no more can be handed over
    pub Ran-still : IsStill now → Delivers start told told' (Ok next)
    Ran-still still = (so_far.handed, so_far.heard, record { next = so_far.next; below_barrier = so_far.below_barrier; room = so_far.room; same = next_same; grew = grew; still = subst IsStill (sym read) still })

    -- the rules ended the life, or memory ran out
    pub Ran-ended : (told'' : Option (List Report)) (e : Ending) → Hears told' [] told'' → Loses start.held nothing_written e
        → IsArchiveFault e.fault ⊎ ((e.fault ≡ ticket_limit ack_kind) × (next.life.next_ack ≡ 2 ^ 64 - 1)) → Delivers start told told'' (Err e)
    Ran-ended told'' e heard lost kind = (so_far.handed, subst (λ rs. Hears told rs told'') (append-nil (map handed_report so_far.handed)) (Hears-then told told' told'' (map handed_report so_far.handed) [] so_far.heard heard), record { next = so_far.next; below_barrier = so_far.below_barrier; room = so_far.room; lost = lost; kind = by kind })
      where
        by : IsArchiveFault e.fault ⊎ ((e.fault ≡ ticket_limit ack_kind) × (next.life.next_ack ≡ 2 ^ 64 - 1)) → IsArchiveFault e.fault ⊎ ((e.fault ≡ ticket_limit ack_kind) × IsLastTicket start (length so_far.handed))
        by (inl usual) = inl usual
        by (inr (is, last)) = inr (is, sym (ap (λ s. s.life.next_ack) next_same) ∙ last)

  -- a call failed
  pub Ran-failed : (e : Ending) → Loses start.held nothing_written e → IsArchiveFault e.fault → Delivers start told told' (Err e)
  Ran-failed e lost usual = (so_far.handed, so_far.heard, record { next = so_far.next; below_barrier = so_far.below_barrier; room = so_far.room; lost = lost; kind = inl usual })

  -- as many were handed over as the window takes
  pub Ran-all : start.life.sizes.window ≤ count → Delivers start told told' (Ok now)
  Ran-all most = (so_far.handed, so_far.heard, record { next = so_far.next; below_barrier = so_far.below_barrier; room = so_far.room; same = so_far.same; grew = so_far.grew; still = inl full })
    where
      full : now.life.sizes.window ≤ length now.life.out
      full =
          let out : length now.life.out ≡ length start.life.out + length so_far.handed = ap (λ a. length a.life.out) so_far.same ∙ length_with start so_far.handed in
          let window : now.life.sizes.window ≡ start.life.sizes.window = ap (λ a. a.life.sizes.window) so_far.same in
          let counted : count ≡ length so_far.handed = so_far.counted in
          omega (arith, most)

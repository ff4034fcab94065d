-- An event in two parts: what it does first, and then the blocks that it hands over.
use Rattle.std.proofs.Common.{◌≡◌, ◌⊎◌, inl, inr, ⊎_elim, ℕ, zero, suc, ◌+◌, ◌-◌, ◌<◌, ◌≤◌, ◌^◌, List, [], ◌∷◌, ◌++◌, length, map, true, false, Option, Some, None, option_to_list, IfSome, IsFalse, IsTrue, Contains, slice_get, ◌==◌, refl, sym, ◌∙◌, ap, subst, arith, length-append}
use Rattle.std.specs.Bool.{⊤}
use Rattle.std.specs.List.{AllByRecursion, filter_map, list_any}
use Rattle.std.proofs.lemmas.List.Elements.{Contains-append_cases, Contains-append_left}
use Rattle.mar_cert.specs.Block.{Block}
use Rattle.mar_cert.specs.Finalization.{Finalization}
use Rattle.mar_gate.specs.Writing.{total_writes}
use Rattle.mar_store.specs.Kept.{At, Kept, has_height, value_at}
use Rattle.mar_store.specs.Changes.{IsNested, KeepsValues}
use Rattle.mar_store.proofs.Lookups.{AllByRecursion-append, AllByRecursion-value_at, AllByRecursion-weaker, AllByRecursion-within}
use Rattle.mar_key.specs.Keys.{Call, block_key, fetch, finalized_key, notarized_key, retain}
use Rattle.mar_key.specs.Processed.{first_unprocessed}
use Rattle.mar_model.specs.Answers.{answers_of, certified_after, is_known, sends_of, subscriptions_after}
use Rattle.mar_model.specs.Cache.{started_syncs}
use Rattle.mar_model.specs.Chain.{Chain, Finalizes, IsBlockAt, IsLawful}
use Rattle.mar_model.specs.Cached.{cached_block, cached_finalization}
use Rattle.mar_model.specs.Config.{Config}
use Rattle.mar_model.specs.Event.{Event, acked_to, blocks_from, brought_block, certs_from, cutoff_after, drained_blocks, effect_of, is_query, no_floor, storing_of, told_finalization, undrained_blocks}
use Rattle.mar_model.specs.Faults.{event_fault, last_height}
use Rattle.mar_model.specs.Held.{Seen}
use Rattle.mar_model.specs.Moves.{AreNextHeld, HasRoom, IsBelowWrites, IsStarted, IsStill, handed_report, next_in, with_handed}
use Rattle.mar_model.specs.Node.{AreHonest, CertifiedCommitment, IsGood, Node, Rest, block_missing, empty_inbox, empty_peers, window_full, write_count, write_uncovered}
use Rattle.mar_model.specs.Promise.{IsKnownSince, ReportsFinalized, Waiting, asked_since, knowing, made_of, node_of}
use Rattle.mar_model.specs.Requests.{IsRepairFetch, Repaired, is_pass, may_repair, own_asks, repairs_twice}
use Rattle.mar_model.specs.Step.{AdvancesBy, AreHandedOf, AreTipsOf, CertificatesFrom, EntersAt, HandedBlock, HandedFrom, HandsOver, IsBlockFrom, IsCertFrom, IsStored, IsStoredLate, KeepsFrom, RepairsFromHand, Report, Steps, TipsFrom, Writes, handed_blocks, is_blocking, handed_over, new_tip, outstanding_of, own_heights}
use Rattle.mar_model.proofs.CacheOver.{AdvancesCache-beside, MovesCache}
use Rattle.mar_model.proofs.EntryLists.{contains_none}
use Rattle.mar_model.proofs.Growing.{Grown, Grown-same}
use Rattle.mar_model.proofs.Handing.{AreHandedOf-held, HandedFrom-held, handed_blocks-is, height_after-consecutive, length_out, sure_below}
use Rattle.mar_model.proofs.HonestAsks.{AreHonest-asked_after, HonestCall, own_asks-honest}
use Rattle.mar_model.proofs.OutstandingLemmas.{ConsecutiveFrom-append, ConsecutiveFrom-handed}
use Rattle.mar_model.proofs.PlainEvents.{KeepsFrom-same}
use Rattle.mar_model.proofs.SyncTickets.{IsTicketed, with_sync-covered, with_sync-unwritten, with_sync-written}
use Rattle.mar_model.proofs.StillGood.{Rest-with, IsGood-with}

-- REPORTS

-- no block is handed over in these
abbrev pub AreTips : List Report → Type 0
AreTips [] = ⊤
AreTips (new_tip r h d ∷ reports) = AreTips reports
AreTips (handed_over t b ∷ reports) = ⊥

pub no_handed : (reports : List Report) → AreTips reports → handed_blocks reports ≡ []
no_handed [] is = refl
no_handed (new_tip r h d ∷ reports) is = no_handed reports is
no_handed (handed_over t b ∷ reports) is = absurd is

pub handed_after_tips : (tips : List Report) (xs : List HandedBlock) → AreTips tips → handed_blocks (tips ++ map handed_report xs) ≡ xs
handed_after_tips [] xs only = handed_blocks-is xs
handed_after_tips (new_tip r h d ∷ tips) xs only = handed_after_tips tips xs only
handed_after_tips (handed_over t b ∷ tips) xs only = absurd only

tips_from_handed : (tip : ℕ) (xs : List HandedBlock) → TipsFrom tip (map handed_report xs) tip
tips_from_handed tip [] = refl
tips_from_handed tip (x ∷ xs) = tips_from_handed tip xs

pub tips_before_handed : (tip last : ℕ) (tips : List Report) (xs : List HandedBlock) → AreTips tips → TipsFrom tip tips last → TipsFrom tip (tips ++ map handed_report xs) last
tips_before_handed tip last [] xs only is = subst (λ k. TipsFrom tip (map handed_report xs) k) (sym is) (tips_from_handed tip xs)
tips_before_handed tip last (new_tip r h d ∷ tips) xs only is = (is.0, tips_before_handed h last tips xs only is.1)
tips_before_handed tip last (handed_over t b ∷ tips) xs only is = absurd only

tips_of_handed : (chain : Chain) (xs : List HandedBlock) → AreTipsOf chain (map handed_report xs)
tips_of_handed chain [] = tt
tips_of_handed chain (x ∷ xs) = tips_of_handed chain xs

pub tips_of_both : (chain : Chain) (tips : List Report) (xs : List HandedBlock) → AreTips tips → AreTipsOf chain tips → AreTipsOf chain (tips ++ map handed_report xs)
tips_of_both chain [] xs only is = tips_of_handed chain xs
tips_of_both chain (new_tip r h d ∷ tips) xs only is = (is.0, is.1, tips_of_both chain tips xs only is.2)
tips_of_both chain (handed_over t b ∷ tips) xs only is = absurd only

-- HANDING OVER FROM A GOOD NODE

all_out_sure : (sure : List (At Block)) (ticket height : ℕ) (xs : List HandedBlock) → HandedFrom sure ticket height xs → AllByRecursion (λ o. IsTrue (has_height sure o.height)) (map outstanding_of xs)
all_out_sure sure ticket height [] line = tt
all_out_sure sure ticket height (x ∷ xs) line = (subst (λ k. IsTrue (has_height sure k)) (sym line.1) line.2, all_out_sure sure (ticket + 1) (height + 1) xs line.3)

room_for : (out window k : ℕ) → out ≤ window → (0 < k → out + k ≤ window) → out + k ≤ window
room_for out window zero within room = omega arith
room_for out window (suc k) within room = room (omega arith)

pub next_is : {P E : Type 0} (config : Config) (chain : Chain) (m : Seen P E) (buffer : List Block) (waiting : Waiting) → IsGood config chain (node_of m buffer waiting) → next_in m ≡ first_unprocessed m.held.processed + length m.life.out
next_is config chain m buffer waiting good = height_after-consecutive (first_unprocessed m.held.processed) m.life.out good.heights.delivery.consecutive

-- the first part's node stays good as blocks are handed over
pub IsGood-handed : {P E : Type 0} (config : Config) (chain : Chain) (m : Seen P E) (buffer : List Block) (waiting : Waiting) (handed : List HandedBlock) → config.window ≡ m.life.sizes.window → IsGood config chain (node_of m buffer waiting) → AreNextHeld m handed → AllByRecursion (λ x. IsBelowWrites m x.block) handed → HasRoom m handed → IsGood config chain (node_of (with_handed m handed) buffer waiting)
IsGood-handed config chain m buffer waiting handed window good next below room = record {
  heights = record {
    stores = good.heights.stores;
    delivery = record {
      consecutive = ConsecutiveFrom-append (first_unprocessed m.held.processed) m.life.out (map outstanding_of handed) good.heights.delivery.consecutive (ConsecutiveFrom-handed m.held.blocks.sure m.life.next_ack (first_unprocessed m.held.processed + length m.life.out) handed (subst (λ k. HandedFrom m.held.blocks.sure m.life.next_ack k handed) (next_is config chain m buffer waiting good) handed_sure));
      out_sure = AllByRecursion-append (λ o. IsTrue (has_height m.held.blocks.sure o.height)) m.life.out (map outstanding_of handed) good.heights.delivery.out_sure (all_out_sure m.held.blocks.sure m.life.next_ack (next_in m) handed handed_sure);
      within_window = subst (λ w. length (m.life.out ++ map outstanding_of handed) ≤ w) (sym window) (subst (λ k. k ≤ m.life.sizes.window) (sym counted) (room_for (length m.life.out) m.life.sizes.window (length handed) (subst (λ w. length m.life.out ≤ w) window good.heights.delivery.within_window) room));
      anchored = good.heights.delivery.anchored;
    };
    floor_clears = λ some. absurd cc;
    own_pair = good.heights.own_pair;
    sync_open = good.heights.sync_open;
  };
  of_chain = record {
    stores = good.of_chain.stores;
    cache = good.of_chain.cache;
    asks = good.of_chain.asks;
    awaits = good.of_chain.awaits;
    not_at_hand = good.of_chain.not_at_hand;
    floor_safe = good.of_chain.floor_safe;
    tip_reported = good.of_chain.tip_reported;
  };
}
  where
    handed_sure : HandedFrom m.held.blocks.sure m.life.next_ack (next_in m) handed
    handed_sure = HandedFrom-held m.held.blocks.held m.held.blocks.sure m.held.writes.uncovered m.life.next_ack (next_in m) handed (λ h low has. sure_below m.held.blocks m.held.writes.uncovered h good.heights.stores.sure_blocks low has) below next

    counted : length (m.life.out ++ map outstanding_of handed) ≡ length m.life.out + length handed
    counted = length-append m.life.out (map outstanding_of handed) ∙ ap (λ k. length m.life.out + k) (length_out handed)

pub in_list : (blocks : List Block) (i : ℕ) (b : Block) → slice_get blocks i ≡ Some b → i < length blocks
in_list [] i b at = absurd cc
in_list (c ∷ blocks) zero b at = omega arith
in_list (c ∷ blocks) (suc i) b at = let low : i < length blocks = in_list blocks i b at in omega arith

-- a good node that can hand over no more rests
pub Rest-still : {P E : Type 0} (config : Config) (chain : Chain) (m : Seen P E) (buffer : List Block) (waiting : Waiting) → IsLawful config.epochs chain → config.window ≡ m.life.sizes.window → IsGood config chain (node_of m buffer waiting) → IsStill m → Rest config.window (node_of m buffer waiting)
Rest-still config chain m buffer waiting lawful window good (inl full) = window_full (let within : length m.life.out ≤ config.window = good.heights.delivery.within_window in omega arith)
Rest-still config chain m buffer waiting lawful window good (inr (inl (h, waits, low))) = write_uncovered h waits (subst (λ k. h ≤ k) (next_is config chain m buffer waiting good) low)
Rest-still config chain m buffer waiting lawful window good (inr (inr (inl missing))) = block_missing (subst (λ k. value_at m.held.blocks.held k ≡ None) (next_is config chain m buffer waiting good) missing)
Rest-still config chain m buffer waiting lawful window good (inr (inr (inr end))) = block_missing (beyond (value_at m.held.blocks.held next) refl (high end))
  where
    next : ℕ
    next = first_unprocessed m.held.processed + length m.life.out

    same : next_in m ≡ next
    same = next_is config chain m buffer waiting good

    high : (last_height ≤ next_in m) ⊎ (2 ^ 64 ≤ first_unprocessed m.held.processed) → 2 ^ 64 - 1 ≤ next
    high (inl last) = subst (λ k. 2 ^ 64 - 1 ≤ k) same last
    high (inr past) = omega arith

    beyond : (o : Option Block) → value_at m.held.blocks.held next ≡ o → 2 ^ 64 - 1 ≤ next → value_at m.held.blocks.held next ≡ None
    beyond None is end = is
    beyond (Some b) is end = absurd (let at : IsBlockAt chain next b = AllByRecursion-value_at (λ x. IsBlockAt chain x.height x.value) m.held.blocks.held next b good.of_chain.stores.held_blocks is in let low : next < length chain.blocks = in_list chain.blocks next b at in let bound : length chain.blocks < 2 ^ 64 - 1 = lawful.bounded in omega (arith, end))

-- THE FIRST PART

-- What an event puts into an archive: the chain's and its own, and what was there stays from a bound on.
pub record PutsOwn {T : Type 0} (OfChain Own : At T → Type 0) (bound : ℕ) (old new : Kept (At T)) : Type 0 where
  pub keeps : KeepsFrom bound old new
  pub put : List (At T)
  pub grown : Grown old put new
  pub of_chain : AllByRecursion OfChain put
  pub own : (x : At T) → Contains put x → Own x

pub PutsOwn-same : {T : Type 0} (OfChain Own : At T → Type 0) (bound : ℕ) (old new : Kept (At T)) → IsNested old → new ≡ old → PutsOwn OfChain Own bound old new
PutsOwn-same OfChain Own bound old new nested same = subst (PutsOwn OfChain Own bound old) (sym same)
    (record { keeps = KeepsFrom-same bound old; put = []; grown = Grown-same old old nested refl; of_chain = tt; own = λ x has. contains_none x has })

-- so all that a crash can leave of it is the chain's
pub PutsOwn-may : {T : Type 0} (OfChain Own : At T → Type 0) (bound : ℕ) (old new : Kept (At T)) → PutsOwn OfChain Own bound old new → AllByRecursion OfChain old.may → AllByRecursion OfChain new.may
PutsOwn-may OfChain Own bound old new puts before =
    AllByRecursion-within OfChain new.may (old.may ++ puts.put) puts.grown.leaves.may (AllByRecursion-append OfChain old.may puts.put before puts.of_chain)

-- What an event has no part in: floors, queries, faults by value, blocks for peers, answers, subscriptions and syncs of the cache.
pub record HasNoPart (config : Config) (n : Node) (e : Event) : Type 0 where
  pub no_effect : effect_of config n e ≡ no_floor
  pub no_query : is_query e ≡ false
  pub no_fault : event_fault config n e ≡ None
  pub sends : sends_of n e ≡ []
  pub answers : (lowest : ℕ) → answers_of config n lowest e no_floor ≡ []
  pub subscriptions : subscriptions_after n e no_floor ≡ []
  pub no_syncs : (n' : Node) → started_syncs n n' e ≡ []

-- What an event does before it hands over: from `a` to `m`, with these tips.
pub record Comes {P E : Type 0} (config : Config) (chain : Chain) (a : Seen P E) (e : Event) (buffer : List Block) (waiting : Waiting) (tips : List Report) (m : Seen P E) : Type 0 where
  pub no_part : HasNoPart config (node_of a buffer waiting) e
  pub kept : m.life.out ≡ undrained_blocks (node_of a buffer waiting) e
  pub next_ack : m.life.next_ack ≡ a.life.next_ack
  pub next_sync : m.held.writes.next_sync ≡ a.held.writes.next_sync
  pub sizes : m.life.sizes ≡ a.life.sizes
  pub processed : m.held.processed ≡ acked_to a.held.processed (drained_blocks (node_of a buffer waiting) e)
  pub cutoff : m.held.cutoff ≡ cutoff_after config (node_of a buffer waiting) e no_floor
  pub blocks : PutsOwn (λ x. IsBlockAt chain x.height x.value) (IsBlockFrom (node_of a buffer waiting) e) (blocks_from (node_of a buffer waiting) e no_floor) a.held.blocks m.held.blocks
  pub certs : PutsOwn (λ x. Finalizes chain x.height x.value.round x.value.payload) (IsCertFrom (node_of a buffer waiting) e) (certs_from (node_of a buffer waiting) e no_floor) a.held.certs m.held.certs
  pub certificates : CertificatesFrom (node_of a buffer waiting) e (node_of m buffer waiting)
  pub writes : Writes (node_of a buffer waiting) e no_floor (node_of m buffer waiting)
  pub are_tips : AreTips tips
  pub tips_rise : TipsFrom a.life.tip tips m.life.tip
  pub tips_chain : AreTipsOf chain tips
  pub cache : MovesCache config chain a m e buffer waiting
  pub stored : IfSome (storing_of (node_of a buffer waiting) e) (IsStored (node_of m buffer waiting))
  pub stored_late : IfSome (storing_of (node_of a buffer waiting) e) (IsStoredLate (node_of a buffer waiting) no_floor (node_of m buffer waiting))

-- An event that doesn't repair, or before it does: all that it writes is its own.
pub record Reaches {P E : Type 0} (config : Config) (chain : Chain) (a : Seen P E) (e : Event) (buffer : List Block) (waiting : Waiting) (tips : List Report) (m : Seen P E) : Type 0 where
  pub comes : Comes config chain a e buffer waiting tips m
  pub no_repair : comes.writes.repaired ≡ []
  pub unblocked : comes.writes.blocking ≡ 0
  pub enters : EntersAt (own_heights (node_of a buffer waiting) e no_floor) (node_of a buffer waiting) (node_of m buffer waiting)

-- The same of an event that may repair, with what it asked for beyond its own asks.
pub record ReachesBy {P E : Type 0} (config : Config) (chain : Chain) (a : Seen P E) (e : Event) (buffer : List Block) (waiting : Waiting) (tips : List Report) (more : List Call) (m : Seen P E) : Type 0 where
  pub comes : Comes config chain a e buffer waiting tips m
  pub repairs : RepairsFromHand config (node_of a buffer waiting) e no_floor comes.writes.repaired (node_of m buffer waiting)
  pub unrepaired : (n' : Node) → IsFalse (is_pass (node_of a buffer waiting) e no_floor n') → comes.writes.repaired ≡ []
  pub unblocked : (n' : Node) → IsFalse (is_blocking (node_of a buffer waiting) e no_floor n') → comes.writes.blocking ≡ 0
  pub enters : EntersAt (own_heights (node_of a buffer waiting) e no_floor ++ comes.writes.repaired) (node_of a buffer waiting) (node_of m buffer waiting)
  pub once : repairs_twice e no_floor ≡ false
  pub idle : (n' : Node) → IsFalse (is_pass (node_of a buffer waiting) e no_floor n') → more ≡ []
  pub repaired : (n' : Node) → IsTrue (is_pass (node_of a buffer waiting) e no_floor n') → Repaired config (node_of m buffer waiting) more
  pub fetches : (more ≡ []) ⊎ (IsTrue (may_repair e) × AllByRecursion (IsRepairFetch chain) more)

-- an event without a pass asks for no more
none_repaired : (repaired : List ℕ) (h : ℕ) → repaired ≡ [] → IsTrue (list_any (λ k. k == h) repaired) → ⊥
none_repaired repaired h none any = let no : false ≡ true = subst (λ xs. IsTrue (list_any (λ k. k == h) xs)) none any in cc

pub unpassed : {P E : Type 0} (config : Config) (chain : Chain) (a : Seen P E) (e : Event) (buffer : List Block) (waiting : Waiting) (tips : List Report) (m : Seen P E) → ((n' : Node) → is_pass (node_of a buffer waiting) e no_floor n' ≡ false) → repairs_twice e no_floor ≡ false
    → Reaches config chain a e buffer waiting tips m → ReachesBy config chain a e buffer waiting tips [] m
unpassed config chain a e buffer waiting tips m no_pass once reach = record {
  comes = reach.comes;
  repairs = record {
    at_hand = λ h b any is. absurd (none_repaired reach.comes.writes.repaired h reach.no_repair any);
    with_finalization = λ h b any is some. absurd (none_repaired reach.comes.writes.repaired h reach.no_repair any);
  };
  unrepaired = λ n' is. reach.no_repair;
  unblocked = λ n' is. reach.unblocked;
  enters = record {
    blocks = λ h has. ⊎_elim (λ there. inl there) (λ own. inr (among h own)) (reach.enters.blocks h has);
    certs = λ h has. ⊎_elim (λ there. inl there) (λ own. inr (among h own)) (reach.enters.certs h has);
  };
  once = once;
  idle = λ n' is. refl;
  repaired = λ n' pass. absurd (let no : false ≡ true = sym (no_pass n') ∙ pass in cc);
  fetches = inl refl;
}
  where
    among : (h : ℕ) → Contains (own_heights (node_of a buffer waiting) e no_floor) h → Contains (own_heights (node_of a buffer waiting) e no_floor ++ reach.comes.writes.repaired) h
    among h own = Contains-append_left (own_heights (node_of a buffer waiting) e no_floor) reach.comes.writes.repaired h own

-- BOTH PARTS

pub some_first : {T : Type 0} (o : Option T) (others : List T) (x : T) → o ≡ Some x → Contains (option_to_list o ++ others) x
some_first o others x is = subst (λ p. Contains (option_to_list p ++ others) x) (sym is) (zero, omega arith, refl)

-- what an event brings and tells is from it
pub brought_from : (n : Node) (e : Event) (x : At Block) → brought_block n e ≡ Some x.value → IsBlockFrom n e x
brought_from n e x is = some_first (brought_block n e) (n.buffer ++ filter_map cached_block n.cache.held) x.value is

pub told_from : (n : Node) (e : Event) (x : At Finalization) → told_finalization n e ≡ Some x.value → IsCertFrom n e x
told_from n e x is = some_first (told_finalization n e) (filter_map cached_finalization n.cache.held) x.value is

-- what was put is from the event
pub put_from : {T : Type 0} (From : T → Type 0) (may put : List T) → ((x : T) → Contains put x → From x) → (x : T) → Contains (may ++ put) x → Contains may x ⊎ From x
put_from From may put own x has = ⊎_elim (λ before. inl before) (λ new. inr (own x new)) (Contains-append_cases may put x has)

pub IfSome-more : {T : Type 0} (P Q : T → Type 0) → ((x : T) → P x → Q x) → (o : Option T) → IfSome o P → IfSome o Q
IfSome-more P Q more None is = tt
IfSome-more P Q more (Some x) is = more x is

plus_none : (k : ℕ) → k + 0 ≡ k
plus_none k = omega arith

-- another buffer and other requests stand beside it
pub Rest-beside : {P E : Type 0} (window : ℕ) (m : Seen P E) (buffer buffer' : List Block) (waiting waiting' : Waiting) → Rest window (node_of m buffer waiting) → Rest window (node_of m buffer' waiting')
Rest-beside window m buffer buffer' waiting waiting' rests = Rest-with window m m.held.cache m.held.writes.next_sync m.held.watches buffer buffer' waiting waiting' rests

pub IsGood-beside : {P E : Type 0} (config : Config) (chain : Chain) (m : Seen P E) (buffer buffer' : List Block) (waiting waiting' : Waiting) → AreHonest chain waiting'.requests → IsGood config chain (node_of m buffer waiting) → IsGood config chain (node_of m buffer' waiting')
IsGood-beside config chain m buffer buffer' waiting waiting' honest good =
    IsGood-with config chain m m.held.cache m.held.writes.next_sync m.held.watches buffer buffer' waiting waiting' honest good.of_chain.cache good

-- What is handed over from a good node: each the next held block, and sure.
pub record HandsSure {P E : Type 0} (chain : Chain) (m : Seen P E) (handed : List HandedBlock) : Type 0 where
  pub in_order : HandedFrom m.held.blocks.sure m.life.next_ack (first_unprocessed m.held.processed + length m.life.out) handed
  pub of_chain : AreHandedOf chain m.held.blocks.sure handed
  pub below_barrier : AllByRecursion (λ x. IsBelowWrites m x.block) handed

pub HandsSure-none : {P E : Type 0} (chain : Chain) (m : Seen P E) → HandsSure chain m []
HandsSure-none chain m = record { in_order = tt; of_chain = tt; below_barrier = tt }

pub HandsSure-next : {P E : Type 0} (config : Config) (chain : Chain) (m : Seen P E) (buffer : List Block) (waiting : Waiting) (handed : List HandedBlock) → IsGood config chain (node_of m buffer waiting) → KeepsValues m.held.blocks.sure m.held.blocks.held → AreNextHeld m handed → AllByRecursion (λ x. IsBelowWrites m x.block) handed → HandsSure chain m handed
HandsSure-next config chain m buffer waiting handed good sure_is_held next below = record {
  in_order = subst (λ k. HandedFrom m.held.blocks.sure m.life.next_ack k handed) (next_is config chain m buffer waiting good) (HandedFrom-held m.held.blocks.held m.held.blocks.sure m.held.writes.uncovered m.life.next_ack (next_in m) handed sure below next);
  of_chain = AreHandedOf-held chain m.held.blocks.held m.held.blocks.sure m.held.writes.uncovered m.life.next_ack (next_in m) handed good.of_chain.stores.held_blocks sure_is_held sure below next;
  below_barrier = below;
}
  where
    sure : (h : ℕ) → AllByRecursion (λ k. h < k) m.held.writes.uncovered → IsTrue (has_height m.held.blocks.held h) → IsTrue (has_height m.held.blocks.sure h)
    sure h low has = sure_below m.held.blocks m.held.writes.uncovered h good.heights.stores.sure_blocks low has

module _ {P E : Type 0} (config : Config) (chain : Chain) (a m : Seen P E) (e : Event) (buffer : List Block) (waiting : Waiting) (tips : List Report) (more : List Call) (handed : List HandedBlock)
    (reported : ReportsFinalized chain e) (honest : AreHonest chain waiting.requests) (reach : ReachesBy config chain a e buffer waiting tips more m) (hands_sure : HandsSure chain m handed) (certified : List CertifiedCommitment) (known : IsKnownSince config (node_of a buffer waiting) e m.life.tip certified)
  where
    abbrev pub n : Node
    n = node_of a buffer waiting

    abbrev pub reports : List Report
    reports = tips ++ map handed_report handed

    abbrev pub asks : List Call
    asks = own_asks config n e no_floor ++ more

    abbrev pub after : Waiting
    after = knowing certified (asked_since waiting asks)

    abbrev pub n' : Node
    n' = node_of (with_handed m handed) buffer after

    blocks_are : handed_blocks reports ≡ handed
    blocks_are = handed_after_tips tips handed reach.comes.are_tips

    in_order : HandedFrom m.held.blocks.sure a.life.next_ack (first_unprocessed m.held.processed + length (undrained_blocks n e)) handed
    in_order =
        subst (λ o. HandedFrom m.held.blocks.sure a.life.next_ack (first_unprocessed m.held.processed + length o) handed) reach.comes.kept
        (subst (λ t. HandedFrom m.held.blocks.sure t (first_unprocessed m.held.processed + length m.life.out) handed) reach.comes.next_ack hands_sure.in_order)

    hands : HandsOver n (undrained_blocks n e) reports n'
    hands = record {
      in_order = subst (λ xs. HandedFrom m.held.blocks.sure a.life.next_ack (first_unprocessed m.held.processed + length (undrained_blocks n e)) xs) (sym blocks_are) in_order;
      counted = ap (λ k. k + length handed) reach.comes.next_ack ∙ ap (λ xs. a.life.next_ack + length xs) (sym blocks_are);
      out = ap (λ o. o ++ map outstanding_of handed) reach.comes.kept ∙ ap (λ xs. undrained_blocks n e ++ map outstanding_of xs) (sym blocks_are);
      below_barrier = subst (AllByRecursion (λ x. AllByRecursion (λ h. x.block.height < h) m.held.writes.uncovered)) (sym blocks_are) hands_sure.below_barrier;
    }

    hands_chain : AreHandedOf chain m.held.blocks.sure (handed_blocks reports)
    hands_chain = subst (AreHandedOf chain m.held.blocks.sure) (sym blocks_are) hands_sure.of_chain

    -- what is handed over and who waits is no matter for repair
    again : Repaired config (node_of m buffer waiting) more → Repaired config n' more
    again law = record { heights = law.heights; at_most = law.at_most; only = law.only; parent = law.parent; newest_block = law.newest_block }

    untouched : n' ≡ record n' { buffer = n.buffer; buffer_closed = n.buffer_closed; unanswered = n.unanswered; peers = n.peers; inbox = n.inbox; next_answer = n.next_answer }
    untouched = ap (λ (k : ℕ). record n' { peers = empty_peers k; inbox = empty_inbox k }) (ap (λ s. s.capacity) reach.comes.sizes)

    advances_unfloored : AdvancesBy config chain n e no_floor (made_of reports asks) n'
    advances_unfloored = record {
      hands = hands;
      hands_chain = hands_chain;
      processed = reach.comes.processed;
      cutoff = reach.comes.cutoff;
      blocks = reach.comes.blocks.keeps;
      certs = reach.comes.certs.keeps;
      may_blocks = λ x has. put_from (IsBlockFrom n e) a.held.blocks.may reach.comes.blocks.put reach.comes.blocks.own x (reach.comes.blocks.grown.leaves.may x has);
      may_certs = λ x has. put_from (IsCertFrom n e) a.held.certs.may reach.comes.certs.put reach.comes.certs.own x (reach.comes.certs.grown.leaves.may x has);
      certificates = record { entered = reach.comes.certificates.entered; own = reach.comes.certificates.own };
      writes = record {
        repaired = reach.comes.writes.repaired;
        by_repair = reach.comes.writes.by_repair;
        each_once = reach.comes.writes.each_once;
        blocking = reach.comes.writes.blocking;
        within = reach.comes.writes.within;
        at_least = reach.comes.writes.at_least;
        covered = reach.comes.writes.covered;
        uncovered = reach.comes.writes.uncovered;
        syncs = reach.comes.writes.syncs;
      };
      repairs = record { at_hand = reach.repairs.at_hand; with_finalization = reach.repairs.with_finalization };
      unrepaired = reach.unrepaired n';
      unblocked = reach.unblocked n';
      enters = record { blocks = reach.enters.blocks; certs = reach.enters.certs };
      tips = tips_before_handed a.life.tip m.life.tip tips handed reach.comes.are_tips reach.comes.tips_rise;
      tips_chain = tips_of_both chain tips handed reach.comes.are_tips reach.comes.tips_chain;
      awaited = refl;
      cache = AdvancesCache-beside config n e no_floor m (with_handed m handed) buffer buffer waiting after refl reach.comes.cache.advances;
      may_cached = λ x has. ⊎_elim (λ before. inl before) (λ new. inr (reach.comes.cache.own.own x new)) (Contains-append_cases a.held.cache.kept.may reach.comes.cache.put x (reach.comes.cache.leaves.may x has));
      stored = IfSome-more (IsStored (node_of m buffer waiting)) (IsStored n') (λ s is. record { block = is.block; certificate = is.certificate }) (storing_of n e) reach.comes.stored;
      stored_late = IfSome-more (IsStoredLate n no_floor (node_of m buffer waiting)) (IsStoredLate n no_floor n') (λ s is. is) (storing_of n e) reach.comes.stored_late;
      floor_stored = tt;
      query = λ is. absurd (let none : false ≡ true = sym reach.comes.no_part.no_query ∙ is in cc);
      no_fault = reach.comes.no_part.no_fault;
      beside = record {
        more = more;
        asks = refl;
        passes = record {
          first = [];
          second = more;
          split = refl;
          idle = λ is. ⊎_elim (λ not_pass. reach.idle n' not_pass) (λ some. absurd cc) is;
          once = λ is. refl;
          repaired_first = λ twice none. absurd (let no : false ≡ true = sym reach.once ∙ twice in cc);
          repaired = λ pass none. again (reach.repaired n' pass);
        };
        sends = sym reach.comes.no_part.sends;
        answers = sym (reach.comes.no_part.answers m.held.lowest);
        subscriptions = sym reach.comes.no_part.subscriptions;
        certified = λ h c. subst (λ fx. is_known certified h c ≡ is_known (certified_after n e fx m.life.tip) h c) reach.comes.no_part.no_effect (known.known h c);
        next_sync = reach.comes.next_sync ∙ sym (ap (λ xs. a.held.writes.next_sync + length xs) (reach.comes.no_part.no_syncs n') ∙ plus_none a.held.writes.next_sync);
        untouched = untouched;
      };
    }

    fetch_honest : (c : Call) → IsRepairFetch chain c → HonestCall chain c
    fetch_honest (fetch (finalized_key h) annotation targets) is = tt
    fetch_honest (fetch (block_key k) annotation targets) (none, h, at, named) = λ some. (h, named)
    fetch_honest (fetch (notarized_key r) annotation targets) is = absurd is
    fetch_honest (retain keep) is = absurd is

    more_honest : (more ≡ []) ⊎ (IsTrue (may_repair e) × AllByRecursion (IsRepairFetch chain) more) → AllByRecursion (HonestCall chain) more
    more_honest (inl none) = subst (AllByRecursion (HonestCall chain)) (sym none) tt
    more_honest (inr (may, fetches)) = AllByRecursion-weaker (IsRepairFetch chain) (HonestCall chain) fetch_honest more fetches

    -- The node that a step leaves: this one, or with a ticket.
    honest_after : AreHonest chain after.requests
    honest_after = AreHonest-asked_after chain waiting.requests [] asks (AllByRecursion-append (HonestCall chain) (own_asks config n e no_floor) more (own_asks-honest config chain n e no_floor reported tt) (more_honest reach.fetches)) honest

    -- an event that reached some node, and handed over from there until it rests, is a step where it opens no ticket
    pub Steps-reached : IsTicketed a.held.writes m.held.writes → IsGood config chain (node_of (with_handed m handed) buffer waiting) → Rest config.window (node_of (with_handed m handed) buffer waiting) → Steps config chain n (e ∷ []) (made_of reports asks) n'
    Steps-reached ticketed good rests = record {
      unticketed = n';
      advances = subst (λ fx. AdvancesBy config chain n e fx (made_of reports asks) n') (sym reach.comes.no_part.no_effect) advances_unfloored;
      ticket = sym (⊎_elim (λ unwritten. with_sync-unwritten (write_count n) n' unwritten) (λ covered. with_sync-covered (write_count n) n' covered) ticketed);
      rests = Rest-beside config.window (with_handed m handed) buffer buffer waiting after rests;
      good = IsGood-beside config chain (with_handed m handed) buffer buffer waiting after honest_after good;
    }

    -- where it wrote, it ends with a sync that covers what it wrote
    pub Steps-started : (new : Seen P E) → IsStarted (with_handed m handed) new → total_writes a.held.writes < total_writes m.held.writes → 0 < length m.held.writes.uncovered → IsGood config chain (node_of new buffer waiting) → Rest config.window (node_of new buffer waiting) → Steps config chain n (e ∷ []) (made_of reports asks) (node_of new buffer after)
    Steps-started new started written some good rests = record {
      unticketed = n';
      advances = subst (λ fx. AdvancesBy config chain n e fx (made_of reports asks) n') (sym reach.comes.no_part.no_effect) advances_unfloored;
      ticket = ap (λ s. node_of s buffer after) started ∙ sym (with_sync-written (write_count n) n' written some);
      rests = Rest-beside config.window new buffer buffer waiting after rests;
      good = IsGood-beside config chain new buffer buffer waiting after honest_after good;
    }

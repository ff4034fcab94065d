-- What breaks a plan is a cut of its event: one law for every act, and an induction over the plan.
use Rattle.std.proofs.Common.{◌≡◌, ◌⊎◌, inl, inr, ⊎_elim, ℕ, ◌+◌, ◌<◌, List, [], ◌∷◌, ◌++◌, length, map, true, false, Option, Some, option_map, IsTrue, Contains, refl, sym, ◌∙◌, ap, subst, arith, append-nil, append_assoc, ap₂}
use Rattle.std.specs.List.{AllByRecursion}
use Rattle.std.proofs.lemmas.List.Elements.{Contains-append_cases}
use Rattle.mar_types.specs.Round.{Round}
use Rattle.mar_cert.specs.Block.{Block}
use Rattle.mar_cert.specs.Finalization.{Finalization}
use Rattle.mar_store.specs.Changes.{KeepsValues, Within, left_of}
use Rattle.mar_store.specs.Kept.{At, has_height, value_at}
use Rattle.mar_store.proofs.Lookups.{AllByRecursion-append, AllByRecursion-within, has_height-from_value}
use Rattle.mar_key.specs.Hears.{Hears}
use Rattle.mar_key.specs.Keys.{Call}
use Rattle.mar_key.specs.Processed.{first_unprocessed, height_in, Processed}
use Rattle.mar_key.specs.Cutoff.{at_round, greatest_of, Cutoff}
use Rattle.mar_model.specs.Acks.{height_after}
use Rattle.mar_model.specs.Answers.{Sent, sends_of, TicketAnswer, answers_of}
use Rattle.mar_model.specs.Chain.{Chain, IsBlockAt}
use Rattle.mar_model.specs.Config.{Config}
use Rattle.mar_model.specs.Event.{Event, effect_of, no_floor, processed_after, kept_blocks}
use Rattle.mar_model.specs.Faults.{Fault, event_fault, is_by_value, meta_store, next_after, store_fault, want_of_memory, sync_kind, ticket_limit, ack_kind, TicketKind}
use Rattle.mar_model.specs.Held.{Ending, Held, IsUsual, LeavesMore, LeavesPairsSince, Loses, WithinWritten, Written, blocks_left, ended_on, nothing_written, IsArchiveFault, written_pair, Watches}
use Rattle.mar_model.specs.Lives.{AsksUntilCut, NotBelow, is_dropped_ack, is_refused_floor, reached_before, later_round, reached_after}
use Rattle.mar_model.specs.Metadata.{Pair, first_pair, pair_of}
use Rattle.mar_model.specs.Moves.{HearsFront, pruned_by, risen_to, tips_above, AreNextHeld, IsBelowWrites, handed_report, next_in}
use Rattle.mar_model.specs.Node.{AreBlocksOf, AreFinalizationsOf, Ended, Node, ConsecutiveFrom}
use Rattle.mar_model.specs.Promise.{CutsStep, Heard, IsGoodUntold, Waiting, made_of}
use Rattle.mar_model.specs.Requests.{IsRepairFetch, may_repair, own_asks, raise_asks}
use Rattle.mar_model.specs.Sound.{IsSafePair}
use Rattle.mar_model.specs.Step.{AreHandedOf, AreTipsOf, HandedFrom, Report, TipsFrom, handed_blocks, HandedBlock, IsFront, IsBlockFrom, IsCertFrom}
use Rattle.mar_model.specs.Acts.{Act, AreLawful, CacheAct, IsCacheFault, IsDone, IsFaultIn, IsLost, Joins, LosesOver, StoreAct, reply, ask, caches, finish_sync, keep_notarization, keep_notarized, keeps_for, load_cache, mark, note, process, progresses, put_finalization, says, send, start_sync, store, store_block, store_late, stores, sync_progress, sync_writes, tell, written_cached, written_stored, IsCached, IsKeepFault, IsKept, IsStored, IsUnkept, KeepAct, finish_kept, keep_certified, keep_verified, written_kept}
use Rattle.mar_model.specs.Ran.{Breaks, FailsRead, Reads, Task, does, dispatches, ends, repairs}
use Rattle.mar_model.proofs.Acting.{synced_as}
use Rattle.mar_model.specs.Scene.{Scene, seen_of}
use Rattle.mar_model.proofs.CachePrunes.{LeavesCache-pruned}
use Rattle.mar_model.proofs.Tips.{both_chain, both_rise, both_tips, tips_above-tips, tips_above-rise, tips_above-chain}
use Rattle.mar_model.proofs.FloorSafety.{next_after-is}
use Rattle.mar_model.proofs.CacheOver.{OwnCache, LeavesCache-then}
use Rattle.mar_model.proofs.Cutting.{LeavesStores, MayBeLeft, keeps_heights, keeps_sure, never, only_one, some_from_first, usual_not_by_value, usual_not_dropped, usual_from_archive, contains_first, Cuts-told}
use Rattle.mar_model.proofs.Growing.{Grew-refl, WithinWritten-nothing, WithinWritten-refl, Grown}
use Rattle.mar_model.proofs.Handing.{Hears-nothing, Hears-then, HearsFront-nothing, HearsFront-then, HearsFront-more, HandedFrom-held, height_after-consecutive, sure_below, sure_value, AreHandedOf-values}
use Rattle.mar_model.proofs.Reaching.{AreTips, handed_after_tips, tips_before_handed, tips_of_both, no_handed}
use Rattle.mar_model.proofs.Soundness.{IsSafePair-kept, from_none}
use Rattle.mar_model.proofs.Owns.{answers_for, answers_in, asks_in, written_in, Course, Owns, after_task, course_of, node_at, own_pair, pair_after, sends_in, noted_cutoff}
use Rattle.mar_model.proofs.KeptEach.{told_kept}
use Rattle.mar_model.proofs.Since.{LeavesSince, Since, Since-left, Since-joined, Since-refl}

-- WHAT WAS SAID

-- This was said since it began, and this is left to say of the whole.
pub record Said {T : Type 0} (first : Option (List T)) (left whole : List T) (now : Option (List T)) : Type 0 where
  pub said : List T
  pub hears : Hears first said now
  pub whole_is : said ++ left ≡ whole

pub Said-nothing : {T : Type 0} (first : Option (List T)) (left whole : List T) → left ≡ whole → Said first left whole first
Said-nothing first left whole is = record { said = []; hears = Hears-nothing first; whole_is = is }

Said-more : {T : Type 0} (first : Option (List T)) (more left whole : List T) (now next : Option (List T)) → Said first (more ++ left) whole now → Hears now more next → Said first left whole next
Said-more first more left whole now next so hears = record {
  said = so.said ++ more;
  hears = Hears-then first now next so.said more so.hears hears;
  whole_is = append_assoc so.said more left ∙ so.whole_is;
}

Said-front : {T : Type 0} (first : Option (List T)) (left whole : List T) (now next : Option (List T)) → Said first left whole now → HearsFront now left next → HearsFront first whole next
Said-front first left whole now next so front = subst (λ xs. HearsFront first xs next) so.whole_is (HearsFront-then first so.said now left next so.hears front)

-- a front of two lists is one of the first, or that and one of the second
abbrev IsFrontOfBoth : {T : Type 0} → List T → List T → List T → Type 0
IsFrontOfBoth xs ys front = IsFront front xs ⊎ ((some : List _) × (front ≡ xs ++ some) × IsFront some ys)

first_and_rest : {T : Type 0} (x z : T) (xs zs : List T) → ◌≡◌ {A = List T} (x ∷ xs) (z ∷ zs) → (x ≡ z) × (xs ≡ zs)
first_and_rest x z xs zs is = (cc, cc)

front_on : {T : Type 0} (x z : T) (xs ys front : List T) → x ≡ z → IsFrontOfBoth xs ys front → IsFrontOfBoth (x ∷ xs) ys (z ∷ front)
front_on x z xs ys front same (inl (left, whole)) = inl (left, ap₂ (λ u us. u ∷ us) same whole)
front_on x z xs ys front same (inr (some, whole, later)) = inr (some, ap₂ (λ u us. u ∷ us) (sym same) whole, later)

front_of_both : {T : Type 0} (xs ys front : List T) → IsFront front (xs ++ ys) → IsFrontOfBoth xs ys front
front_of_both [] ys front split = inr (front, refl, split)
front_of_both (x ∷ xs) ys [] split = inl (x ∷ xs, refl)
front_of_both (x ∷ xs) ys (z ∷ front) (rest, is) =
    let (same, later) = first_and_rest x z (xs ++ ys) (front ++ rest) is in
    front_on x z xs ys front same (front_of_both xs ys front (rest, later))

AllByRecursion-front : {T : Type 0} (P : T → Type 0) (xs ys : List T) → AllByRecursion P (xs ++ ys) → AllByRecursion P xs
AllByRecursion-front P [] ys all = tt
AllByRecursion-front P (x ∷ xs) ys all = (all.0, AllByRecursion-front P xs ys all.1)

-- nothing more was said
silent : {T : Type 0} (now next : Option (List T)) → next ≡ now → Hears now [] next
silent now next same = subst (Hears now []) (sym same) (Hears-nothing now)

front_same : {T : Type 0} (now : Option (List T)) (left : List T) (next : Option (List T)) → next ≡ now → HearsFront now left next
front_same now left next same = HearsFront-nothing now left next (silent now next same)

-- to those who ask
answers_are : (xs ys zs : List TicketAnswer) → Hears (Some xs) ys (Some zs) → zs ≡ xs ++ ys
answers_are xs ys zs is = let both : ◌≡◌ {A = Option (List TicketAnswer)} (Some zs) (Some (xs ++ ys)) = is in cc

front_of : (xs ys zs : List TicketAnswer) → IsFront xs ys → IsFront ys zs → IsFront xs zs
front_of xs ys zs (more, is) (rest, whole) = (more ++ rest, whole ∙ (ap (λ us. us ++ rest) is ∙ append_assoc xs more rest))

lawful_read : (h : Held) (w : Watches) → AreLawful h → AreLawful (record h { watches = w })
lawful_read h w law = record {
  blocks = law.blocks;
  certs = law.certs;
  written = record { blocks = law.written.blocks; certs = law.written.certs; ordered = law.written.ordered };
  cached = record { nested = law.cached.nested; own_lowest = law.cached.own_lowest; own_tickets = law.cached.own_tickets };
}

-- what of the stores is determined
pub record Stands : Type 0 where
  pub pairs : List Pair
  pub processed : Option Processed
  pub cutoff : Cutoff
  pub witnessed : Round

abbrev stands_in : Held → Stands
stands_in h = record { pairs = h.pairs; processed = h.processed; cutoff = h.cutoff; witnessed = h.witnessed }

abbrev stands_by : Course → Stands
stands_by c = record { pairs = c.pair ∷ []; processed = c.processed; cutoff = c.cutoff; witnessed = c.witnessed }

module _ (config : Config) (chain : Chain) (start : Scene) (e : Event) (buffer : List Block) (waiting : Waiting) (all : Written) where
  abbrev pub n : Node
  n = node_at start buffer waiting

  -- All that its plan may write is the event's own and the chain's; it prunes the cache alone.
  pub record OwnsWritten : Type 0 where
    pub unpruned : all.blocks_from ≡ 0
    pub certs_unpruned : all.certs_from ≡ 0
    pub pairs : (p : Pair) → Contains all.pairs p → pair_after config n e ≡ p
    pub cache : OwnCache config chain n e all.cached all.prunes
    pub of_blocks : AreBlocksOf chain all.blocks
    pub of_certs : AreFinalizationsOf chain all.certs
    pub own_blocks : (x : At Block) → Contains all.blocks x → IsBlockFrom n e x
    pub own_certs : (x : At Finalization) → Contains all.certs x → IsCertFrom n e x

  -- What is said once of an event and of its plan.
  pub record IsOwned : Type 0 where
    pub no_effect : effect_of config n e ≡ no_floor
    pub unrefused : (fault : Fault) → is_refused_floor e fault ≡ false
    pub good : IsGoodUntold config chain n
    pub safe : IsSafePair chain start.held.blocks.sure (pair_after config n e)
    pub rises : NotBelow (option_map height_in start.held.processed) (option_map height_in (processed_after n e no_floor))
    pub line : ConsecutiveFrom (first_unprocessed (processed_after n e no_floor)) (kept_blocks n e no_floor)
    pub writes : OwnsWritten

  -- what a fault says of the event
  pub record FaultFits (c : Course) (fault : Fault) : Type 0 where
    pub cause : IsTrue (is_by_value fault) → event_fault config n e ≡ Some fault
    pub undropped : is_dropped_ack fault ≡ false
    pub unsynced : (c.pair ≡ own_pair start) ⊎ (fault ≡ store_fault meta_store → ⊥)

  usual_fits : (c : Course) (fault : Fault) → IsUsual fault → (c.pair ≡ own_pair start) ⊎ (fault ≡ store_fault meta_store → ⊥) → FaultFits c fault
  usual_fits c fault usual unsynced = record { cause = λ is. absurd (never (is_by_value fault) (usual_not_by_value fault usual) is); undropped = usual_not_dropped fault usual; unsynced = unsynced }

  -- what it may ask beside its own: where it may repair, what a pass of repair asks for
  abbrev pub AsksMore : List Call → Type 0
  AsksMore more = (more ≡ []) ⊎ (IsTrue (may_repair e) × AllByRecursion (IsRepairFetch chain) more)

  -- a front of both is what a cut may have asked
  asked-until : (more asked : List Call) → AsksMore more → IsFront asked (own_asks config n e no_floor ++ more) → AsksUntilCut config chain n e no_floor asked
  asked-until more asked (inl none) (rest, is) = inl (rest, sym (append-nil (own_asks config n e no_floor)) ∙ (ap (λ xs. own_asks config n e no_floor ++ xs) (sym none) ∙ is))
  asked-until more asked (inr (may, are)) front = by (front_of_both (own_asks config n e no_floor) more asked front)
    where
      by : IsFrontOfBoth (own_asks config n e no_floor) more asked → AsksUntilCut config chain n e no_floor asked
      by (inl own) = inl own
      by (inr (some, is, (rest, split))) = inr (may, some, is, AllByRecursion-front (IsRepairFetch chain) some rest (subst (AllByRecursion (IsRepairFetch chain)) split are))

  -- where these are all its answers, and this is what it asks beside its own
  module _ (owned : IsOwned) (whole : List TicketAnswer) (answered : (lowest : ℕ) × IsFront whole (answers_of config n lowest e no_floor)) (more_asks : List Call) (asks_more : AsksMore more_asks) where
    abbrev pub whole_asks : List Call
    whole_asks = own_asks config n e no_floor ++ more_asks

    -- What the stores have become.
    pub record StoresSoFar (c : Course) (h : Held) : Type 0 where
      pub since : Since start.held all h
      pub lawful : AreLawful h
      pub loaded : h.cache.loaded ≡ true
      pub stands : stands_in h ≡ stands_by c
      pub pair_is : (c.pair ≡ own_pair start) ⊎ (c.pair ≡ pair_after config n e)
      pub unwritten : c.unwritten ≡ true → h ≡ record start.held { watches = h.watches }

    -- What the application was told.
    pub record TipsSoFar (tip : ℕ) (reports : Option (List Report)) : Type 0 where
      pub tips : List Report
      pub told : Hears start.heard.reports tips reports
      pub are_tips : AreTips tips
      pub rise : TipsFrom start.life.tip tips tip
      pub tips_chain : AreTipsOf chain tips

    abbrev pub AskedSoFar : List Call → Option (List Call) → Type 0
    AskedSoFar left asks = Said start.heard.asks left whole_asks asks

    abbrev pub SentSoFar : List Sent → Option (List Sent) → Type 0
    SentSoFar left sends = Said start.heard.sends left (sends_of n e) sends

    abbrev pub AnsweredSoFar : List TicketAnswer → List TicketAnswer → Type 0
    AnsweredSoFar left answers = Said (Some start.heard.answers) left whole (Some answers)

    -- What has happened where this much of the plan is left, and no block was handed over.
    pub record SoFar (c : Course) (plan : List Task) (s : Scene) : Type 0 where
      pub stores : StoresSoFar c s.held
      pub sizes : s.life.sizes ≡ start.life.sizes
      pub out : s.life.out ≡ start.life.out
      pub next_ack : s.life.next_ack ≡ start.life.next_ack
      pub told : TipsSoFar s.life.tip s.heard.reports
      pub asks : AskedSoFar (asks_in c.cutoff plan) s.heard.asks
      pub sends : SentSoFar (sends_in plan) s.heard.sends
      pub answers : AnsweredSoFar (answers_in start.held plan) s.heard.answers

    -- what is left, of the stores
    leaves_stores : (left : Ended) → LeavesSince start.held all left → LeavesStores config chain n e left
    leaves_stores left leaves = record {
      put_blocks = all.blocks;
      put_certs = all.certs;
      blocks = leaves.blocks;
      certs = leaves.certs;
      of_blocks = owned.writes.of_blocks;
      of_certs = owned.writes.of_certs;
      own_blocks = owned.writes.own_blocks;
      own_certs = owned.writes.own_certs;
      put_cached = all.cached;
      prunes = all.prunes;
      own_cache = owned.writes.cache;
      cache = leaves.cache;
    }

    -- and of the pairs
    own_first : first_pair start.held.pairs ≡ Some (own_pair start)
    own_first = ap first_pair owned.good.1.heights.own_pair

    first_left : (c : Course) (fault : Fault) (left : List Pair) → (c.pair ≡ own_pair start) ⊎ (c.pair ≡ pair_after config n e) → (c.pair ≡ own_pair start) ⊎ (fault ≡ store_fault meta_store → ⊥) → first_pair left ≡ Some c.pair → (first_pair left ≡ first_pair start.held.pairs) ⊎ (fault ≡ store_fault meta_store → ⊥) × (first_pair left ≡ Some (pair_after config n e))
    first_left c fault left (inl own) apart is = inl (is ∙ (ap Some own ∙ sym own_first))
    first_left c fault left (inr after) (inl own) is = inl (is ∙ (ap Some own ∙ sym own_first))
    first_left c fault left (inr after) (inr apart) is = inr (apart, is ∙ ap Some after)

    may_be_left : (left : Ended) → LeavesSince start.held all left → (p : Pair) → (own_pair start ≡ p) ⊎ (pair_after config n e ≡ p) → MayBeLeft config chain (seen_of start) e buffer waiting left.blocks_sure p
    may_be_left left leaves p (inl own) = inl own
    may_be_left left leaves p (inr after) = inr (
      after,
      subst (IsSafePair chain left.blocks_sure) after (IsSafePair-kept chain 0 start.held.blocks.sure left.blocks_sure (pair_after config n e) (λ h low has. keeps_heights start.held.blocks.sure left.blocks_sure (keeps_sure start.held.blocks all.blocks (blocks_left left) leaves.blocks) h has) (from_none (option_map height_in (processed_after n e no_floor))) owned.safe),
      subst (λ (q : Pair). NotBelow (option_map height_in start.held.processed) q.processed) after owned.rises,
    )

    each_left : (c : Course) (more : Written) (s : Held) (left : Ended) → s.pairs ≡ c.pair ∷ [] → (c.pair ≡ own_pair start) ⊎ (c.pair ≡ pair_after config n e) → WithinWritten more all → LeavesPairsSince s.pairs more.pairs left.meta → (p : Pair) → Contains left.meta p → (own_pair start ≡ p) ⊎ (pair_after config n e ≡ p)
    each_left c more s left pairs pair_is within leaves p has = ⊎_elim (λ old. before (only_one c.pair p (subst (λ ps. Contains ps p) pairs old)))
        (λ new. inr (owned.writes.pairs p (within.pairs p new))) (Contains-append_cases s.pairs more.pairs p (leaves.within p has))
      where
        before : c.pair ≡ p → (own_pair start ≡ p) ⊎ (pair_after config n e ≡ p)
        before is = ⊎_elim (λ own. inl (sym own ∙ is)) (λ after. inr (sym after ∙ is)) pair_is

    -- LOST: whatever was done last, what is left is a cut
    module _ (c : Course) (plan : List Task) (s : Scene) (so : SoFar c plan s) (x : Ending) (heard : Heard) (more : Written) (within : WithinWritten more all)
        (lost : LeavesMore s.held more x.remains.ended) (fits : FaultFits c x.fault) where
      leaves : LeavesSince start.held all x.remains.ended
      leaves = Since-left start.held all owned.writes.unpruned owned.writes.certs_unpruned s.held so.stores.since more within x.remains.ended lost

      pairs : s.held.pairs ≡ c.pair ∷ []
      pairs = ap (λ (z : Stands). z.pairs) so.stores.stands

      first : first_pair x.remains.ended.meta ≡ Some c.pair
      first = lost.pairs.first ∙ ap first_pair pairs

      none : handed_blocks so.told.tips ≡ []
      none = no_handed so.told.tips so.told.are_tips

      pub Cuts-undelivered : Hears s.heard.reports [] heard.reports → HearsFront s.heard.asks (asks_in c.cutoff plan) heard.asks → HearsFront s.heard.sends (sends_in plan) heard.sends
          → heard.answers ≡ s.heard.answers → CutsStep config chain n (e ∷ []) start.heard heard x
      Cuts-undelivered quiet asks sends unanswered = by (Said-front start.heard.asks (asks_in c.cutoff plan) whole_asks s.heard.asks heard.asks so.asks asks)
          (Said-front start.heard.sends (sends_in plan) (sends_of n e) s.heard.sends heard.sends so.sends sends)
        where
          by : HearsFront start.heard.asks whole_asks heard.asks → HearsFront start.heard.sends (sends_of n e) heard.sends → CutsStep config chain n (e ∷ []) start.heard heard x
          by (asked, front, asks_heard) (sent, sent_front, sends_heard) = record {
            made = record (made_of so.told.tips asked) { sends = sent; answers = so.answers.said };
            heard = record {
              reports = subst (λ rs. Hears start.heard.reports rs heard.reports) (append-nil so.told.tips)
                  (Hears-then start.heard.reports s.heard.reports heard.reports so.told.tips [] so.told.told quiet);
              asks = asks_heard;
              sends = sends_heard;
              answers = unanswered ∙ answers_are start.heard.answers so.answers.said s.heard.answers so.answers.hears;
            };
            cuts = Cuts-told config chain (seen_of start) e buffer waiting owned.good.0 owned.good.1 owned.no_effect sent sent_front so.answers.said
                (answered.0, front_of so.answers.said whole _ (answers_in start.held plan, sym so.answers.whole_is) answered.1)
                so.told.tips asked s.life.tip (reached_before n e) x.fault x.remains.ended so.told.rise so.told.tips_chain (inl refl)
                (subst (λ xs. HandedFrom x.remains.ended.blocks_sure start.life.next_ack (next_after (option_map height_in start.held.processed) + length (reached_before n e).out) xs) (sym none) tt)
                (subst (λ xs. AreHandedOf chain x.remains.ended.blocks_sure xs) (sym none) tt)
                (leaves_stores x.remains.ended leaves)
                (some_from_first x.remains.ended.meta c.pair first)
                (first_left c x.fault x.remains.ended.meta so.stores.pair_is fits.unsynced first)
                (λ p has. may_be_left x.remains.ended leaves p (each_left c more s.held x.remains.ended pairs so.stores.pair_is within lost.pairs p has))
                fits.cause (never (is_refused_floor e x.fault) (owned.unrefused x.fault)) (λ is. absurd (never (is_dropped_ack x.fault) fits.undropped is))
                (asked-until more_asks asked asks_more front);
          }

      -- the same was heard
      Cuts-silent : heard ≡ s.heard → CutsStep config chain n (e ∷ []) start.heard heard x
      Cuts-silent same = Cuts-undelivered (silent s.heard.reports heard.reports (ap (λ (h : Heard). h.reports) same))
          (front_same s.heard.asks (asks_in c.cutoff plan) heard.asks (ap (λ (h : Heard). h.asks) same))
          (front_same s.heard.sends (sends_in plan) heard.sends (ap (λ (h : Heard). h.sends) same)) (ap (λ (h : Heard). h.answers) same)

    -- a read failed
    pub Cuts-unread : (c : Course) (plan : List Task) (s : Scene) → SoFar c plan s → (x : Ending) (heard : Heard) → FailsRead s x heard → CutsStep config chain n (e ∷ []) start.heard heard x
    Cuts-unread c plan s so x heard fails = Cuts-silent c plan s so x heard nothing_written (WithinWritten-nothing all)
        (fails.loses s.held nothing_written (Grew-refl s.held nothing_written so.stores.lawful.blocks so.stores.lawful.certs) (WithinWritten-refl nothing_written)).leaves
        (usual_fits c x.fault fails.usual (inr fails.unsynced)) fails.same

    -- ACTS

    -- what a call of the stores leaves
    over_leaves : (s : Scene) (more : Written) (x : Ending) → AreLawful s.held → LosesOver s.held more x → LeavesMore s.held more x.remains.ended
    over_leaves s more x law loses = (loses s.held more (Grew-refl s.held more law.blocks law.certs) (WithinWritten-refl more)).leaves

    ended_leaves : (s : Scene) (x : Ending) (fault : Fault) → AreLawful s.held → x ≡ ended_on fault s.held → LeavesMore s.held nothing_written x.remains.ended
    ended_leaves s x fault law is = subst (λ (y : Ending). LeavesMore s.held nothing_written y.remains.ended) (sym is) (Grew-refl s.held nothing_written law.blocks law.certs).leaves

    archive_apart : (fault : Fault) → IsArchiveFault fault → fault ≡ store_fault meta_store → ⊥
    archive_apart fault archive is = subst IsArchiveFault is archive

    -- there was no ticket
    limit_fits : (c : Course) (k : TicketKind) (fault : Fault) → fault ≡ ticket_limit k → FaultFits c fault
    limit_fits c k fault is = record {
      cause = λ by. absurd (never (is_by_value fault) (ap is_by_value is) by);
      undropped = ap is_dropped_ack is;
      unsynced = inr (λ at. let both : ticket_limit k ≡ store_fault meta_store = sym is ∙ at in cc);
    }

    archive_fits : (c : Course) (fault : Fault) → IsArchiveFault fault → FaultFits c fault
    archive_fits c fault archive = usual_fits c fault (usual_from_archive fault archive) (inr (archive_apart fault archive))

    started_fits : (c : Course) (held : Held) (a : StoreAct) (fault : Fault) → IsFaultIn a held fault → FaultFits c fault
    started_fits c held (store f b) fault archive = archive_fits c fault archive
    started_fits c held (store_block b) fault archive = archive_fits c fault archive
    started_fits c held sync_writes fault archive = archive_fits c fault archive
    started_fits c held (store_late f b) fault archive = archive_fits c fault archive
    started_fits c held (finish_sync t) fault archive = archive_fits c fault archive
    started_fits c held start_sync fault (inl archive) = archive_fits c fault archive
    started_fits c held start_sync fault (inr limit) = limit_fits c sync_kind fault limit.0

    -- a sync that is started for what is kept may find no ticket
    keep_fits : (c : Course) (epoch : ℕ) (held : Held) (fault : Fault) → c.pair ≡ own_pair start → IsKeepFault epoch held fault → FaultFits c fault
    keep_fits c epoch held fault own (inl usual) = usual_fits c fault usual (inl own)
    keep_fits c epoch held fault own (inr limit) = limit_fits c sync_kind fault limit.0

    cache_fits : (c : Course) (a : CacheAct) (held : Held) (fault : Fault) → IsCacheFault a held fault → c.pair ≡ own_pair start → FaultFits c fault
    cache_fits c (put_finalization f) held fault usual own = usual_fits c fault usual (inl own)
    cache_fits c (keep_notarization f) held fault kind own = keep_fits c f.round.epoch held fault own kind
    cache_fits c (keep_notarized r b) held fault kind own = keep_fits c r.epoch held fault own kind
    cache_fits c load_cache held fault usual own = usual_fits c fault usual (inl own)

    kept_fits : (c : Course) (a : KeepAct) (held : Held) (fault : Fault) → IsUnkept a held fault → c.pair ≡ own_pair start → FaultFits c fault
    kept_fits c (keep_verified r b t) held fault kind own = keep_fits c r.epoch held fault own kind
    kept_fits c (keep_certified r b t) held fault kind own = keep_fits c r.epoch held fault own kind
    kept_fits c (finish_kept t) held fault usual own = usual_fits c fault usual (inl own)

    memory_fits : (c : Course) (x : Ending) (held : Held) → x ≡ ended_on want_of_memory held → FaultFits c x.fault
    memory_fits c x held is = usual_fits c x.fault (subst (λ (y : Ending). IsUsual y.fault) (sym is) tt)
        (inr (λ at. let both : want_of_memory ≡ store_fault meta_store = sym (ap (λ (y : Ending). y.fault) is) ∙ at in cc))

    abbrev OwnsFrom : Course → List Task → Type 0
    OwnsFrom c plan = Owns config chain n e all start.life.sizes.retention (own_pair start) c plan

    -- where a round is noted: it is written by what the course says
    module _ (c : Course) (plan : List Task) (s : Scene) (so : SoFar c plan s) (r : Round) where
      abbrev stands : stands_in s.held ≡ stands_by c
      stands = so.stores.stands

      pruned : Within (pruned_by start.life.sizes.retention c.witnessed (r ∷ [])) all.prunes → Within (pruned_by s.life.sizes.retention s.held.witnessed (r ∷ [])) all.prunes
      pruned prunes = subst (λ k. Within (pruned_by k s.held.witnessed (r ∷ [])) all.prunes) (sym (ap (λ z. z.retention) so.sizes))
          (subst (λ w. Within (pruned_by start.life.sizes.retention w (r ∷ [])) all.prunes) (sym (ap (λ (z : Stands). z.witnessed) stands)) prunes)

      noted_pair : pair_of s.held.processed (greatest_of s.held.cutoff (at_round r ∷ [])) ≡ pair_of c.processed (noted_cutoff c r)
      noted_pair = ap (λ (z : Stands). pair_of z.processed (greatest_of z.cutoff (at_round r ∷ []))) stands

      asked_as : raise_asks s.held.cutoff (at_round r ∷ []) ≡ raise_asks c.cutoff (at_round r ∷ [])
      asked_as = ap (λ (z : Stands). raise_asks z.cutoff (at_round r ∷ [])) stands

      untouched : WithinWritten nothing_written all
      untouched = WithinWritten-nothing all

      within_noted : pair_of c.processed (noted_cutoff c r) ≡ pair_after config n e → Within (pruned_by start.life.sizes.retention c.witnessed (r ∷ [])) all.prunes
          → Contains all.pairs (pair_after config n e)
          → WithinWritten (record (written_pair (pair_of s.held.processed (greatest_of s.held.cutoff (at_round r ∷ [])))) { prunes = pruned_by s.life.sizes.retention s.held.witnessed (r ∷ []) }) all
      within_noted is_after prunes among = record {
        blocks = untouched.blocks;
        certs = untouched.certs;
        cached = untouched.cached;
        prunes = pruned prunes;
        pairs = λ p has. subst (Contains all.pairs) (sym (noted_pair ∙ is_after) ∙ only_one _ p has) among;
        blocks_from = omega arith;
        certs_from = omega arith;
      }

    -- LOST-ACT: a call that fails leaves a cut
    pub Lost-act : (a : Act) (c : Course) (plan : List Task) (s : Scene) → SoFar c (does a ∷ plan) s → OwnsFrom c (does a ∷ plan) → (x : Ending) (heard : Heard) → IsLost a s x heard
        → CutsStep config chain n (e ∷ []) start.heard heard x
    Lost-act (caches a) c plan s so (own, within, owns) x heard (loses, kind, same) =
        Cuts-silent c (does (caches a) ∷ plan) s so x heard (written_cached a) within (over_leaves s (written_cached a) x so.stores.lawful loses) (cache_fits c a s.held x.fault kind own) same
    Lost-act (keeps_for a) c plan s so (own, within, fresh, owns) x heard (loses, kind, same) =
        Cuts-silent c (does (keeps_for a) ∷ plan) s so x heard (written_kept a) within (over_leaves s (written_kept a) x so.stores.lawful loses) (kept_fits c a s.held x.fault kind own) same
    Lost-act (stores a) c plan s so (within, owns) x heard (loses, fault, same) =
        Cuts-silent c (does (stores a) ∷ plan) s so x heard (written_stored a) within (over_leaves s (written_stored a) x so.stores.lawful loses) (started_fits c s.held a x.fault fault) same
    Lost-act (progresses (note r)) c plan s so (own, is_after, prunes, among, owns) x heard (loses, usual, (front, (rest, is_front), asks), same) =
        Cuts-undelivered c (does (progresses (note r)) ∷ plan) s so x heard _ (within_noted c (does (progresses (note r)) ∷ plan) s so r is_after prunes among)
        (over_leaves s _ x so.stores.lawful loses) (usual_fits c x.fault usual (inl own)) (silent s.heard.reports heard.reports (ap (λ (h : Heard). h.reports) same))
        (HearsFront-more s.heard.asks (raise_asks c.cutoff (at_round r ∷ [])) (asks_in (noted_cutoff c r) plan) heard.asks
        (subst (λ cs. HearsFront s.heard.asks cs heard.asks) (asked_as c (does (progresses (note r)) ∷ plan) s so r) (front, (rest, is_front), asks)))
        (front_same s.heard.sends (sends_in plan) heard.sends (ap (λ (h : Heard). h.sends) same)) (ap (λ (h : Heard). h.answers) same)
    Lost-act (progresses (mark ticket m)) c plan s so owns x heard fails = absurd owns
    Lost-act (progresses (process h)) c plan s so owns x heard fails = absurd owns
    Lost-act (progresses sync_progress) c plan s so owns x heard fails = absurd owns
    Lost-act (says (reply y)) c plan s so owns x heard (is, same) = Cuts-silent c (does (says (reply y)) ∷ plan) s so x heard nothing_written (WithinWritten-nothing all)
        (ended_leaves s x want_of_memory so.stores.lawful is) (memory_fits c x s.held is) same
    Lost-act (says (tell r h d)) c plan s so owns x heard (is, reports, same) =
        Cuts-undelivered c (does (says (tell r h d)) ∷ plan) s so x heard nothing_written (WithinWritten-nothing all)
        (ended_leaves s x want_of_memory so.stores.lawful is) (memory_fits c x s.held is) reports
        (front_same s.heard.asks (asks_in c.cutoff plan) heard.asks (ap (λ (h : Heard). h.asks) same))
        (front_same s.heard.sends (sends_in plan) heard.sends (ap (λ (h : Heard). h.sends) same)) (ap (λ (h : Heard). h.answers) same)
    Lost-act (says (ask calls)) c plan s so owns x heard (is, asks, same) =
        Cuts-undelivered c (does (says (ask calls)) ∷ plan) s so x heard nothing_written (WithinWritten-nothing all)
        (ended_leaves s x want_of_memory so.stores.lawful is) (memory_fits c x s.held is) (silent s.heard.reports heard.reports (ap (λ (h : Heard). h.reports) same))
        (HearsFront-more s.heard.asks calls (asks_in c.cutoff plan) heard.asks asks)
        (front_same s.heard.sends (sends_in plan) heard.sends (ap (λ (h : Heard). h.sends) same)) (ap (λ (h : Heard). h.answers) same)
    Lost-act (says (send y)) c plan s so owns x heard (is, sends, same) =
        Cuts-undelivered c (does (says (send y)) ∷ plan) s so x heard nothing_written (WithinWritten-nothing all)
        (ended_leaves s x want_of_memory so.stores.lawful is) (memory_fits c x s.held is) (silent s.heard.reports heard.reports (ap (λ (h : Heard). h.reports) same))
        (front_same s.heard.asks (asks_in c.cutoff plan) heard.asks (ap (λ (h : Heard). h.asks) same))
        (HearsFront-nothing s.heard.sends (y ∷ sends_in plan) heard.sends sends) (ap (λ (h : Heard). h.answers) same)

    -- ON

    -- reads change nothing of it
    pub SoFar-read : (c : Course) (plan : List Task) (s t : Scene) → SoFar c plan s → Reads s t → SoFar c plan t
    SoFar-read c plan s t so reads = subst (SoFar c plan) (sym reads.same) (record {
      stores = record {
        since = record { blocks = so.stores.since.blocks; certs = so.stores.since.certs; cache = so.stores.since.cache };
        lawful = lawful_read s.held t.held.watches so.stores.lawful;
        loaded = so.stores.loaded;
        stands = so.stores.stands;
        pair_is = so.stores.pair_is;
        unwritten = λ is. ap (λ (h : Held). record h { watches = t.held.watches }) (so.stores.unwritten is);
      };
      sizes = so.sizes;
      out = so.out;
      next_ack = so.next_ack;
      told = so.told;
      asks = so.asks;
      sends = so.sends;
      answers = so.answers;
    })

    -- a call of the stores that writes
    Stores-then : (c : Course) (h h' : Held) (more : Written) → StoresSoFar c h → WithinWritten more all → Joins h more h' → AreLawful h' → h'.cache.loaded ≡ true → stands_in h' ≡ stands_in h
        → StoresSoFar (written_in c) h'
    Stores-then c h h' more so within joins law loaded same = record {
      since = Since-joined start.held all owned.writes.unpruned owned.writes.certs_unpruned h so.since more within h' so.lawful joins;
      lawful = law;
      loaded = loaded;
      stands = same ∙ so.stands;
      pair_is = so.pair_is;
      unwritten = λ is. absurd (let both : false ≡ true = is in cc);
    }

    -- more was heard
    heard_on : (c : Course) (plan plan' : List Task) (s : Scene) (heard : Heard) → SoFar c plan s → TipsSoFar s.life.tip heard.reports → AskedSoFar (asks_in c.cutoff plan') heard.asks
        → SentSoFar (sends_in plan') heard.sends → AnsweredSoFar (answers_in start.held plan') heard.answers → SoFar c plan' (record s { heard = heard })
    heard_on c plan plan' s heard so told asks sends answers = record {
      stores = so.stores;
      sizes = so.sizes;
      out = so.out;
      next_ack = so.next_ack;
      told = told;
      asks = asks;
      sends = sends;
      answers = answers;
    }

    over : (c c' : Course) (plan plan' : List Task) (s t : Scene) → SoFar c plan s → t ≡ record s { held = t.held } → StoresSoFar c' t.held → asks_in c'.cutoff plan' ≡ asks_in c.cutoff plan
        → sends_in plan' ≡ sends_in plan → answers_in start.held plan' ≡ answers_in start.held plan → SoFar c' plan' t
    over c c' plan plan' s t so same stored asks sends answers = subst (SoFar c' plan') (sym same) (record {
      stores = stored;
      sizes = so.sizes;
      out = so.out;
      next_ack = so.next_ack;
      told = so.told;
      asks = subst (λ xs. AskedSoFar xs s.heard.asks) (sym asks) so.asks;
      sends = subst (λ xs. SentSoFar xs s.heard.sends) (sym sends) so.sends;
      answers = subst (λ xs. AnsweredSoFar xs s.heard.answers) (sym answers) so.answers;
    })

    -- what was kept for a caller is answered
    answered_by : (a : KeepAct) (s t : Held) (answered : List TicketAnswer) → s.cache.loaded ≡ true → s ≡ record start.held { watches = s.watches } → IsKept a s t answered
        → answered ≡ answers_for a start.held
    answered_by (keep_verified r b k) s t answered loaded same is = told_kept r _ _ k s t answered is loaded ∙ ap (λ (h : Held). answers_for (keep_verified r b k) h) same
    answered_by (keep_certified r b k) s t answered loaded same is = told_kept r _ _ k s t answered is loaded ∙ ap (λ (h : Held). answers_for (keep_certified r b k) h) same
    answered_by (finish_kept k) s t answered loaded same is = is.1 ∙ ap (λ (h : Held). answers_for (finish_kept k) h) same

    kept_stands : (a : KeepAct) (s t : Held) (answered : List TicketAnswer) → IsKept a s t answered → (t.cache.loaded ≡ s.cache.loaded) × (stands_in t ≡ stands_in s)
    kept_stands (keep_verified r b k) s t answered is = (is.kept.loaded, ap stands_in is.kept.same)
    kept_stands (keep_certified r b k) s t answered is = (is.kept.loaded, ap stands_in is.kept.same)
    kept_stands (finish_kept k) s t answered is = (is.0.loaded, ap stands_in is.0.same)

    cached_stands : (a : CacheAct) (s t : Held) → s.cache.loaded ≡ true → IsCached a s t → (t.cache.loaded ≡ true) × (stands_in t ≡ stands_in s)
    cached_stands (put_finalization f) s t loaded is = (is.loaded ∙ loaded, ap stands_in is.same)
    cached_stands (keep_notarization f) s t loaded (ticket, is) = (is.loaded ∙ loaded, ap stands_in is.same)
    cached_stands (keep_notarized r b) s t loaded (ticket, is) = (is.loaded ∙ loaded, ap stands_in is.same)
    cached_stands load_cache s t loaded is = (is.loaded, ap stands_in is.same)

    stored_stands : (inner : List ℕ → List ℕ) (a : StoreAct) (s t : Held) → IsStored inner a s t → (t.cache.loaded ≡ s.cache.loaded) × (stands_in t ≡ stands_in s)
    stored_stands inner (store f b) s t is = (ap (λ h. h.cache.loaded) is.same, ap stands_in is.same)
    stored_stands inner (store_block b) s t is = (ap (λ h. h.cache.loaded) is.same, ap stands_in is.same)
    stored_stands inner sync_writes s t is = let kept = (synced_as s.writes.uncovered s t is).0 in (ap (λ h. h.cache.loaded) kept, ap stands_in kept)
    stored_stands inner (store_late f b) s t is = (ap (λ h. h.cache.loaded) is.same, ap stands_in is.same)
    stored_stands inner start_sync s t is = (ap (λ h. h.cache.loaded) is, ap stands_in is)
    stored_stands inner (finish_sync k) s t is = (ap (λ h. h.cache.loaded) is.same, ap stands_in is.same)

    -- SOUND-ACT: what was said of the event so far is said behind an act of it
    pub Sound-act : (inner : List ℕ → List ℕ) (a : Act) (c : Course) (plan : List Task) (s t : Scene) → SoFar c (does a ∷ plan) s → OwnsFrom c (does a ∷ plan) → IsDone inner a s t
        → SoFar (after_task c (does a)) plan t
    Sound-act inner (caches a) c plan s t so (own, within, owns) (is, joins, law, same) =
        let (loaded, stood) = cached_stands a s.held t.held so.stores.loaded is in
        over c (written_in c) (does (caches a) ∷ plan) plan s t so same (Stores-then c s.held t.held (written_cached a) so.stores within joins law loaded stood) refl refl refl
    Sound-act inner (stores a) c plan s t so (within, owns) (is, joins, law, same) =
        let (loaded, stood) = stored_stands inner a s.held t.held is in
        over c (written_in c) (does (stores a) ∷ plan) plan s t so same (Stores-then c s.held t.held (written_stored a) so.stores within joins law (loaded ∙ so.stores.loaded) stood) refl refl refl
    Sound-act inner (keeps_for a) c plan s t so (own, within, fresh, owns) (answered, is, joins, law, same) =
        let (loaded, stood) = kept_stands a s.held t.held answered is in
        subst (SoFar (written_in c) plan) (sym same) (record {
          stores = Stores-then c s.held t.held (written_kept a) so.stores within joins law (loaded ∙ so.stores.loaded) stood;
          sizes = so.sizes;
          out = so.out;
          next_ack = so.next_ack;
          told = so.told;
          asks = so.asks;
          sends = so.sends;
          answers = Said-more (Some start.heard.answers) answered (answers_in start.held plan) whole (Some s.heard.answers) (Some (s.heard.answers ++ answered))
              (subst (λ xs. AnsweredSoFar (xs ++ answers_in start.held plan) s.heard.answers) (sym
              (answered_by a s.held t.held answered so.stores.loaded (so.stores.unwritten fresh) is)) so.answers) refl;
        })
    Sound-act inner (progresses (mark ticket m)) c plan s t so owns done = absurd owns
    Sound-act inner (progresses (process h)) c plan s t so owns done = absurd owns
    Sound-act inner (progresses sync_progress) c plan s t so owns done = absurd owns
    Sound-act inner (progresses (note r)) c plan s t so (own, is_after, prunes, among, owns) (is, law, asks, same) = subst (SoFar (after_task c (does (progresses (note r)))) plan) (sym same) (record {
      stores = record {
        since = record {
          blocks = subst (Grown start.held.blocks all.blocks) (sym (ap (λ h. h.blocks) is.same)) so.stores.since.blocks;
          certs = subst (Grown start.held.certs all.certs) (sym (ap (λ h. h.certs) is.same)) so.stores.since.certs;
          cache = LeavesCache-then (left_of start.held.cache.kept) start.held.lowests (left_of s.held.cache.kept) s.held.lowests (left_of t.held.cache.kept) t.held.lowests all.cached [] all.cached
              all.prunes (pruned_by s.life.sizes.retention s.held.witnessed (r ∷ [])) all.prunes (λ x has. has) (WithinWritten-nothing all).cached (λ x has. has)
              (pruned c (does (progresses (note r)) ∷ plan) s so r prunes)
              so.stores.since.cache (LeavesCache-pruned _ s.held t.held so.stores.loaded so.stores.lawful.cached.own_lowest is.prunes);
        };
        lawful = law;
        loaded = is.prunes.loaded ∙ so.stores.loaded;
        stands = ap stands_in is.same ∙ ap (λ (z : Stands). record z {
          cutoff = greatest_of z.cutoff (at_round r ∷ []);
          witnessed = later_round z.witnessed (Some r);
          pairs = pair_of z.processed (greatest_of z.cutoff (at_round r ∷ [])) ∷ [];
        }) so.stores.stands;
        pair_is = inr is_after;
        unwritten = λ is. absurd (let both : false ≡ true = is in cc);
      };
      sizes = so.sizes;
      out = so.out;
      next_ack = so.next_ack;
      told = so.told;
      asks = Said-more start.heard.asks (raise_asks c.cutoff (at_round r ∷ [])) (asks_in (noted_cutoff c r) plan) whole_asks s.heard.asks t.heard.asks so.asks
          (subst (λ cs. Hears s.heard.asks cs t.heard.asks) (asked_as c (does (progresses (note r)) ∷ plan) s so r) asks);
      sends = so.sends;
      answers = so.answers;
    })
    Sound-act inner (says (tell r h d)) c plan s t so (final, named, owns) (told, same) = subst (SoFar c plan) (sym same) (record {
      stores = so.stores;
      sizes = so.sizes;
      out = so.out;
      next_ack = so.next_ack;
      told = record {
        tips = so.told.tips ++ tips_above s.life.tip r h d;
        told = Hears-then start.heard.reports s.heard.reports t.heard.reports so.told.tips (tips_above s.life.tip r h d) so.told.told told;
        are_tips = both_tips so.told.tips (tips_above s.life.tip r h d) so.told.are_tips (tips_above-tips s.life.tip r h d);
        rise = both_rise start.life.tip s.life.tip (risen_to s.life.tip h) so.told.tips (tips_above s.life.tip r h d) so.told.rise (tips_above-rise s.life.tip r h d);
        tips_chain = both_chain chain so.told.tips (tips_above s.life.tip r h d) so.told.tips_chain (tips_above-chain chain s.life.tip r h d final named);
      };
      asks = so.asks;
      sends = so.sends;
      answers = so.answers;
    })
    Sound-act inner (says (ask calls)) c plan s t so owns (asks, same) = subst (SoFar c plan) (sym same)
        (heard_on c (does (says (ask calls)) ∷ plan) plan s (record s.heard { asks = t.heard.asks }) so so.told
        (Said-more start.heard.asks calls (asks_in c.cutoff plan) whole_asks s.heard.asks t.heard.asks so.asks asks) so.sends so.answers)
    Sound-act inner (says (send y)) c plan s t so owns (sends, same) = subst (SoFar c plan) (sym same)
        (heard_on c (does (says (send y)) ∷ plan) plan s (record s.heard { sends = t.heard.sends }) so so.told so.asks
        (Said-more start.heard.sends (y ∷ []) (sends_in plan) (sends_of n e) s.heard.sends t.heard.sends so.sends sends) so.answers)
    Sound-act inner (says (reply y)) c plan s t so owns same = subst (SoFar c plan) (sym same) (heard_on c (does (says (reply y)) ∷ plan) plan s
        (record s.heard { answers = s.heard.answers ++ y ∷ [] }) so so.told so.asks so.sends
        (Said-more (Some start.heard.answers) (y ∷ []) (answers_in start.held plan) whole (Some s.heard.answers) (Some (s.heard.answers ++ y ∷ [])) so.answers refl))

    -- HANDING OVER, which is last

    module _ (c : Course) (s : Scene) (so : SoFar c (dispatches ∷ []) s) (durable : c.pair ≡ pair_after config n e) (processed : c.processed ≡ processed_after n e no_floor) (kept : n.out ≡ kept_blocks n e no_floor)
        (handed : List HandedBlock) (x : Ending) (heard : Heard) (next : AreNextHeld (seen_of s) handed) (below : AllByRecursion (λ y. IsBelowWrites (seen_of s) y.block) handed) (lost : Loses s.held nothing_written x) (fits : FaultFits c x.fault)
        (told : Hears s.heard.reports (map handed_report handed) heard.reports) (same : heard ≡ record s.heard { reports = heard.reports }) where
      gone : LeavesSince start.held all x.remains.ended
      gone = Since-left start.held all owned.writes.unpruned owned.writes.certs_unpruned s.held so.stores.since nothing_written (WithinWritten-nothing all) x.remains.ended lost.leaves

      first_is : first_pair x.remains.ended.meta ≡ Some c.pair
      first_is = lost.leaves.pairs.first ∙ ap first_pair (ap (λ (z : Stands). z.pairs) so.stores.stands)

      keeps : KeepsValues s.held.blocks.sure x.remains.ended.blocks_sure
      keeps = keeps_sure s.held.blocks [] (blocks_left x.remains.ended) lost.leaves.blocks

      now_sure : (h : ℕ) → AllByRecursion (λ k. h < k) s.held.writes.uncovered → IsTrue (has_height s.held.blocks.held h) → IsTrue (has_height s.held.blocks.sure h)
      now_sure h low has = sure_below s.held.blocks s.held.writes.uncovered h so.stores.lawful.written.blocks low has

      height_left : (h : ℕ) → AllByRecursion (λ k. h < k) s.held.writes.uncovered → IsTrue (has_height s.held.blocks.held h) → IsTrue (has_height x.remains.ended.blocks_sure h)
      height_left h low has = keeps_heights s.held.blocks.sure x.remains.ended.blocks_sure keeps h (now_sure h low has)

      value_left : (h : ℕ) (b : Block) → AllByRecursion (λ k. h < k) s.held.writes.uncovered → value_at s.held.blocks.held h ≡ Some b → value_at x.remains.ended.blocks_sure h ≡ Some b
      value_left h b low is = keeps h b (sure_value s.held.blocks.held s.held.blocks.sure h b so.stores.lawful.blocks.sure_held (now_sure h low (has_height-from_value s.held.blocks.held h b is)) is)

      held_blocks : AreBlocksOf chain s.held.blocks.held
      held_blocks = AllByRecursion-within (λ y. IsBlockAt chain y.height y.value) s.held.blocks.held s.held.blocks.may so.stores.lawful.blocks.held_may
          (AllByRecursion-within (λ y. IsBlockAt chain y.height y.value) s.held.blocks.may (start.held.blocks.may ++ all.blocks) so.stores.since.blocks.leaves.may
          (AllByRecursion-append (λ y. IsBlockAt chain y.height y.value) start.held.blocks.may all.blocks owned.good.1.of_chain.stores.may_blocks owned.writes.of_blocks))

      next_height : next_in (seen_of s) ≡ next_after (option_map height_in (processed_after n e no_floor)) + length (kept_blocks n e no_floor)
      next_height =
          ap₂ (λ p o. height_after (first_unprocessed p) o) (ap (λ (z : Stands). z.processed) so.stores.stands ∙ processed) (so.out ∙ kept)
          ∙ (height_after-consecutive (first_unprocessed (processed_after n e no_floor)) (kept_blocks n e no_floor) owned.line
          ∙ ap (λ k. k + length (kept_blocks n e no_floor)) (sym (next_after-is (processed_after n e no_floor))))

      blocks_are : handed_blocks (so.told.tips ++ map handed_report handed) ≡ handed
      blocks_are = handed_after_tips so.told.tips handed so.told.are_tips

      in_order : HandedFrom x.remains.ended.blocks_sure start.life.next_ack (next_after (option_map height_in (processed_after n e no_floor)) + length (kept_blocks n e no_floor)) handed
      in_order = subst (λ t. HandedFrom x.remains.ended.blocks_sure t (next_after (option_map height_in (processed_after n e no_floor)) + length (kept_blocks n e no_floor)) handed) so.next_ack
          (subst (λ k. HandedFrom x.remains.ended.blocks_sure s.life.next_ack k handed) next_height
          (HandedFrom-held s.held.blocks.held x.remains.ended.blocks_sure s.held.writes.uncovered s.life.next_ack (next_in (seen_of s)) handed height_left below next))

      all_asked : so.asks.said ≡ whole_asks
      all_asked = sym (append-nil so.asks.said) ∙ so.asks.whole_is

      all_sent : so.sends.said ≡ sends_of n e
      all_sent = sym (append-nil so.sends.said) ∙ so.sends.whole_is

      pub Cuts-handing : CutsStep config chain n (e ∷ []) start.heard heard x
      Cuts-handing = record {
        made = record (made_of (so.told.tips ++ map handed_report handed) so.asks.said) { sends = so.sends.said; answers = so.answers.said };
        heard = record {
          reports = Hears-then start.heard.reports s.heard.reports heard.reports so.told.tips (map handed_report handed) so.told.told told;
          asks = subst (λ (h : Heard). Hears start.heard.asks so.asks.said h.asks) (sym same) so.asks.hears;
          sends = subst (λ (h : Heard). Hears start.heard.sends so.sends.said h.sends) (sym same) so.sends.hears;
          answers = ap (λ (h : Heard). h.answers) same ∙ answers_are start.heard.answers so.answers.said s.heard.answers so.answers.hears;
        };
        cuts = Cuts-told config chain (seen_of start) e buffer waiting owned.good.0 owned.good.1 owned.no_effect so.sends.said ([], sym all_sent ∙ sym (append-nil so.sends.said)) so.answers.said
            (answered.0, front_of so.answers.said whole _ ([], sym so.answers.whole_is) answered.1) (so.told.tips ++ map handed_report handed) so.asks.said s.life.tip
            (reached_after n e no_floor) x.fault x.remains.ended
            (tips_before_handed start.life.tip s.life.tip so.told.tips handed so.told.are_tips so.told.rise) (tips_of_both chain so.told.tips handed so.told.are_tips so.told.tips_chain)
            (inr (refl, subst (λ (p : Pair). Contains (map (λ q. q.processed) x.remains.ended.meta) p.processed) durable (contains_first x.remains.ended.meta c.pair first_is)))
            (subst (HandedFrom x.remains.ended.blocks_sure start.life.next_ack (next_after (option_map height_in (processed_after n e no_floor)) + length (kept_blocks n e no_floor))) (sym blocks_are) in_order)
            (subst (AreHandedOf chain x.remains.ended.blocks_sure) (sym blocks_are) (AreHandedOf-values chain s.held.blocks.held x.remains.ended.blocks_sure s.held.writes.uncovered s.life.next_ack (next_in (seen_of s)) handed held_blocks value_left below next))
            (leaves_stores x.remains.ended gone)
            (some_from_first x.remains.ended.meta c.pair first_is)
            (first_left c x.fault x.remains.ended.meta so.stores.pair_is fits.unsynced first_is)
            (λ p has. may_be_left x.remains.ended gone p (each_left c nothing_written s.held x.remains.ended (ap (λ (z : Stands). z.pairs) so.stores.stands) so.stores.pair_is
            (WithinWritten-nothing all) lost.leaves.pairs p has))
            fits.cause (never (is_refused_floor e x.fault) (owned.unrefused x.fault)) (λ is. absurd (never (is_dropped_ack x.fault) fits.undropped is))
            (asked-until more_asks so.asks.said asks_more ([], sym all_asked ∙ sym (append-nil so.asks.said)));
      }

    stopped_fits : {T : Type 0} (c : Course) (fault : Fault) → IsArchiveFault fault ⊎ ((fault ≡ ticket_limit ack_kind) × T) → FaultFits c fault
    stopped_fits c fault (inl archive) = archive_fits c fault archive
    stopped_fits c fault (inr limit) = limit_fits c ack_kind fault limit.0

    -- PLANS

    pub owns_rest : (a : Act) (c : Course) (plan : List Task) → OwnsFrom c (does a ∷ plan) → OwnsFrom (after_task c (does a)) plan
    owns_rest (caches a) c plan owns = owns.2
    owns_rest (keeps_for a) c plan owns = owns.3
    owns_rest (progresses (mark ticket m)) c plan owns = absurd owns
    owns_rest (progresses (process h)) c plan owns = absurd owns
    owns_rest (progresses sync_progress) c plan owns = absurd owns
    owns_rest (says (reply y)) c plan owns = owns
    owns_rest (stores a) c plan owns = owns.1
    owns_rest (progresses (note r)) c plan owns = owns.4
    owns_rest (says (tell r h d)) c plan owns = owns.2
    owns_rest (says (ask calls)) c plan owns = owns
    owns_rest (says (send x)) c plan owns = owns

    -- CUTS-RAN: what breaks a plan that is the event's own is a cut of the event
    pub Cuts-ran : (inner : List ℕ → List ℕ) (plan : List Task) (c : Course) (s : Scene) → SoFar c plan s → OwnsFrom c plan → (x : Ending) (heard : Heard) → Breaks inner s plan x heard
        → CutsStep config chain n (e ∷ []) start.heard heard x
    Cuts-ran inner [] c s so owns x heard fails = Cuts-unread c [] s so x heard fails
    Cuts-ran inner (k ∷ plan) c s so owns x heard (inl fails) = Cuts-unread c (k ∷ plan) s so x heard fails
    Cuts-ran inner (does a ∷ plan) c s so owns x heard (inr (mid, reads, inl fails)) = Lost-act a c plan mid (SoFar-read c (does a ∷ plan) s mid so reads) owns x heard fails
    Cuts-ran inner (does a ∷ plan) c s so owns x heard (inr (mid, reads, inr (after, did, breaks))) =
        Cuts-ran inner plan (after_task c (does a)) after (Sound-act inner a c plan mid after (SoFar-read c (does a ∷ plan) s mid so reads) owns did) (owns_rest a c plan owns) x heard breaks
    Cuts-ran inner (repairs blocks ∷ plan) c s so owns x heard (inr broke) = absurd owns
    Cuts-ran inner (dispatches ∷ []) c s so owns x heard (inr (mid, reads, inl fails)) =
        Cuts-handing c mid (SoFar-read c (dispatches ∷ []) s mid so reads) owns.1 owns.2 owns.3 fails.handed x heard fails.stops.next fails.stops.below_barrier fails.stops.lost (stopped_fits c x.fault fails.stops.kind) fails.told fails.same
    Cuts-ran inner (dispatches ∷ []) c s so owns x heard (inr (mid, reads, inr (after, hands, fails))) =
        Cuts-handing c mid (SoFar-read c (dispatches ∷ []) s mid so reads) owns.1 owns.2 owns.3 hands.handed x heard hands.ran.next hands.ran.below_barrier
        (fails.loses mid.held nothing_written hands.ran.grew (WithinWritten-refl nothing_written)) (usual_fits c x.fault fails.usual (inr fails.unsynced))
        (subst (λ (h : Heard). Hears mid.heard.reports (map handed_report hands.handed) h.reports) (sym fails.same) hands.heard)
        (fails.same ∙ (ap (λ (y : Scene). y.heard) hands.same ∙ ap (λ (h : Heard). record mid.heard { reports = h.reports }) (sym fails.same)))
    Cuts-ran inner (dispatches ∷ k ∷ plan) c s so owns x heard (inr broke) = absurd (let no : (k ∷ plan) ≡ [] = owns.0 in cc)
    Cuts-ran inner (ends fault ∷ plan) c s so owns x heard (inr (mid, reads, inl (is, same))) =
        Cuts-silent c (ends fault ∷ plan) mid (SoFar-read c (ends fault ∷ plan) s mid so reads) x heard nothing_written (WithinWritten-nothing all)
        (ended_leaves mid x fault (SoFar-read c (ends fault ∷ plan) s mid so reads).stores.lawful is)
        (record { cause = λ by. owns.1 ∙ ap Some (sym (ap (λ (y : Ending). y.fault) is)); undropped = ap (λ (y : Ending). is_dropped_ack y.fault) is ∙ owns.2; unsynced = inl owns.0 }) same
    Cuts-ran inner (ends fault ∷ plan) c s so owns x heard (inr (mid, reads, inr (after, did, breaks))) = absurd did

    -- as an event begins
    pub SoFar-first : (plan : List Task) → AreLawful start.held → start.held.cache.loaded ≡ true → asks_in start.held.cutoff plan ≡ whole_asks → sends_in plan ≡ sends_of n e
        → answers_in start.held plan ≡ whole → SoFar (course_of start) plan start
    SoFar-first plan law loaded asks sends answers = record {
      stores = record {
        since = Since-refl start.held all law;
        lawful = law;
        loaded = loaded;
        stands = ap (λ ps. record (stands_in start.held) { pairs = ps }) owned.good.1.heights.own_pair;
        pair_is = inl refl;
        unwritten = λ is. refl;
      };
      sizes = refl;
      out = refl;
      next_ack = refl;
      told = record { tips = []; told = Hears-nothing start.heard.reports; are_tips = tt; rise = refl; tips_chain = tt };
      asks = Said-nothing start.heard.asks (asks_in start.held.cutoff plan) whole_asks asks;
      sends = Said-nothing start.heard.sends (sends_in plan) (sends_of n e) sends;
      answers = Said-nothing (Some start.heard.answers) (answers_in start.held plan) whole answers;
    }

  -- what breaks a plan that asks beside its own asks what a pass of repair asks for
  pub Cuts-repairing : IsOwned → (inner : List ℕ → List ℕ) (plan : List Task) → AreLawful start.held → start.held.cache.loaded ≡ true → (more : List Call) → AsksMore more
      → asks_in start.held.cutoff plan ≡ own_asks config n e no_floor ++ more → sends_in plan ≡ sends_of n e → (lowest : ℕ) × IsFront (answers_in start.held plan) (answers_of config n lowest e no_floor)
      → Owns config chain n e all start.life.sizes.retention (own_pair start) (course_of start) plan → (x : Ending) (heard : Heard) → Breaks inner start plan x heard
      → CutsStep config chain n (e ∷ []) start.heard heard x
  Cuts-repairing owned inner plan law loaded more asks_more asks sends answered owns x heard breaks =
      let whole = answers_in start.held plan in
      Cuts-ran owned whole answered more asks_more inner plan (course_of start) start (SoFar-first owned whole answered more asks_more plan law loaded asks sends refl) owns x heard breaks

  pub Cuts-plan : IsOwned → (inner : List ℕ → List ℕ) (plan : List Task) → AreLawful start.held → start.held.cache.loaded ≡ true → asks_in start.held.cutoff plan ≡ own_asks config n e no_floor
      → sends_in plan ≡ sends_of n e → (lowest : ℕ) × IsFront (answers_in start.held plan) (answers_of config n lowest e no_floor)
      → Owns config chain n e all start.life.sizes.retention (own_pair start) (course_of start) plan → (x : Ending) (heard : Heard) → Breaks inner start plan x heard
      → CutsStep config chain n (e ∷ []) start.heard heard x
  Cuts-plan owned inner plan law loaded asks = Cuts-repairing owned inner plan law loaded [] (inl refl) (asks ∙ sym (append-nil (own_asks config n e no_floor)))

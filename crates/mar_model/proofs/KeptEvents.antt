-- Entries that are kept in the cache in one event: what such an event makes of the cache and of its open syncs.
use Rattle.std.proofs.Common.{◌≡◌, ◌≢◌, ◌⊎◌, inl, inr, ℕ, ◌+◌, ◌<◌, ◌≤◌, ◌&&◌, ◌||◌, List, [], ◌∷◌, length, Bool, true, false, cond, fold, max, nat_lt, Option, Contains, IsTrue, refl, sym, ◌∙◌, ap, subst, arith, append-nil, ap₂, ◌++◌, Some, Ok}
use Rattle.std.proofs.lemmas.Bool.{cases_lt}
use Rattle.std.proofs.lemmas.Bool.Decides.{nat_tests}
use Rattle.std.proofs.lemmas.List.Elements.{Contains-append_cases}
use Rattle.std.specs.Prelude.{flat_map}
use Rattle.mar_types.specs.Epochs.{Epochs}
use Rattle.mar_types.specs.Round.{Round}
use Rattle.mar_cert.specs.Block.{Block}
use Rattle.mar_key.specs.Hears.{Hears}
use Rattle.mar_key.specs.Keys.{Call}
use Rattle.mar_model.specs.Answers.{Sent, TicketAnswer, answers_of, sends_of}
use Rattle.mar_model.specs.Cache.{AdvancesCache, MayBeCached, OpensCacheSyncs, answer_ticket, entries_put, finished_covers, first_verified, is_covered_put, is_pruned, is_synced, is_synced_put, started_syncs, tickets_from, without_cache_sync}
use Rattle.mar_model.specs.Cached.{Cached, epoch_of, verified_entry, with_entry}
use Rattle.mar_model.specs.Chain.{Chain}
use Rattle.mar_model.specs.Config.{Config}
use Rattle.mar_model.specs.Event.{Event, is_query, message_told, no_floor}
use Rattle.mar_model.specs.Held.{AreCached, Held, Seen, seen}
use Rattle.mar_model.specs.Messages.{Message}
use Rattle.mar_model.specs.Node.{Agrees, AreCachedOf, BlocksAgree, CacheSync, IsCacheOf, Node}
use Rattle.mar_model.specs.OpenSyncs.{AreStillOpen}
use Rattle.mar_model.specs.Promise.{AreOne, IsLawfulStep, IsSetTo, KeepsStep, Waiting, heard_with, knowing, known_blocks, node_of, told_blocks}
use Rattle.mar_model.specs.Queries.{answers_found}
use Rattle.mar_model.specs.Step.{Report, Steps}
use Rattle.mar_model.proofs.CacheEvents.{LeavesArchives, quietly_made, steps-kept}
use Rattle.mar_model.proofs.CacheOver.{AdvancesCache-beside, IsCacheOf-grown}
use Rattle.mar_model.proofs.CacheSteps.{KeepsBeside, KeepsEntries, advances_with, is_certified}
use Rattle.mar_model.proofs.EntryLists.{contains_here, contains_more, contains_none}
use Rattle.mar_model.proofs.Handing.{Hears-nothing}
use Rattle.mar_model.proofs.KeptEach.{AreAlike, AreAlike-refl, KeepsEach, PutsAll-alike, PutsAll-held, PutsAll-may, PutsAll-sure, fold_cases, fold_firsts, fold_more}
use Rattle.mar_model.proofs.KnownBlocks.{told_agrees}
use Rattle.mar_model.proofs.OpenSyncs.{AreStillOpen-more}
use Rattle.mar_model.proofs.StillGood.{cached_with}

-- THE EVENT

-- An event that keeps entries in the cache, where these nodes stand before and behind it: it puts these, of this epoch, and starts
-- a sync of what each test passes for who waits for the answer.
pub record KeepsEvent (config : Config) (n n' : Node) (e : Event) (epoch : ℕ) (put : List Cached) (tests : List (Cached → Bool)) (answer : Option ℕ) : Type 0 where
  pub quiet : LeavesArchives config n e []
  pub unfinished : without_cache_sync e n.cache_syncs ≡ n.cache_syncs
  pub uncovered : finished_covers n e ≡ []
  pub no_query : is_query e ≡ false
  pub answered : answer_ticket e ≡ answer
  pub entries : entries_put config n n'.cache.held e no_floor ≡ put
  pub of_epoch : (x : Cached) → Contains put x → epoch_of x ≡ epoch
  pub by_view : (x : Cached) → Contains put x → is_certified x ≡ false
  pub unsynced : (x : Cached) → Contains put x → is_synced_put e x ≡ false
  pub starts : started_syncs n n' e ≡ cond (nat_lt epoch n'.lowest) [] tests

-- nothing is synced where no put is
none_synced : (e : Event) (put : List Cached) (y : Cached) → ((x : Cached) → Contains put x → is_synced_put e x ≡ false) → is_synced e put y ≡ false
none_synced e [] y unsynced = refl
none_synced e (x ∷ xs) y unsynced = ap₂ (λ p q. (p && is_covered_put e x y) || q) (unsynced x (contains_here x xs)) (none_synced e xs y (λ z has. unsynced z (contains_more x xs z has)))

module _ {P E : Type 0} (config : Config) (chain : Chain) (a : Seen P E) (m : Held) (buffer : List Block) (waiting : Waiting) (e : Event) (epoch : ℕ) (put : List Cached) (tests : List (Cached → Bool)) (answer : Option ℕ) (cached : AreCached a.held) (loaded : a.held.cache.loaded ≡ true) (keeps : KeepsEach epoch put tests answer a.held m) where
  abbrev n : Node
  n = node_of a buffer waiting

  abbrev n' : Node
  n' = node_of (cached_with a m.cache m.writes.next_sync m.watches) buffer waiting

  is_low : epoch < a.held.lowest → nat_lt epoch a.held.lowest ≡ true
  is_low low = grind (arith, nat_tests)

  not_low : a.held.lowest ≤ epoch → nat_lt epoch a.held.lowest ≡ false
  not_low from = grind (arith, nat_tests)

  module _ (event : KeepsEvent config n n' e epoch put tests answer) where
    none_started : epoch < a.held.lowest → started_syncs n n' e ≡ []
    none_started low = event.starts ∙ ap (λ c. cond c [] tests) (is_low low)

    all_started : a.held.lowest ≤ epoch → started_syncs n n' e ≡ tests
    all_started from = event.starts ∙ ap (λ c. cond c [] tests) (not_low from)

    -- a ticket is taken for each sync that starts
    pub next-is : m.writes.next_sync ≡ a.held.writes.next_sync + length (started_syncs n n' e)
    next-is = elim (cases_lt epoch a.held.lowest) [
      | inl low ↦ (keeps.below low).0 ∙ (sym (plus_none a.held.writes.next_sync) ∙ sym (ap (λ xs. a.held.writes.next_sync + length xs) (none_started low)))
      | inr from ↦ (keeps.done loaded from).0 ∙ sym (ap (λ xs. a.held.writes.next_sync + length xs) (all_started from))
    ]
      where
        plus_none : (k : ℕ) → k + 0 ≡ k
        plus_none k = omega arith

    opens : OpensCacheSyncs config n e no_floor n'
    opens = elim (cases_lt epoch a.held.lowest) [
      | inl low ↦ record {
        still = m.cache.syncs;
        still_open = still_open m.cache.syncs (keeps.below low).2;
        started = [];
        started_open = subst (λ ts. AreStillOpen (λ x. false) (tickets_from a.held.writes.next_sync (answer_ticket e) m.cache.kept.held ts) []) (sym (none_started low)) tt;
        are = sym (append-nil m.cache.syncs);
      }
      | inr from ↦ let starts = (keeps.done loaded from).2 in record {
        still = starts.still;
        still_open = still_open starts.still starts.still_open;
        started = starts.started;
        started_open = subst (λ ts. AreStillOpen (λ x. false) (tickets_from a.held.writes.next_sync (answer_ticket e) m.cache.kept.held ts) starts.started) (sym (all_started from))
            (subst (λ o. AreStillOpen (λ x. false) (tickets_from a.held.writes.next_sync o m.cache.kept.held tests) starts.started) (sym event.answered) starts.started_open);
        are = starts.are;
      }
    ]
      where
        still_open : (still : List CacheSync) → AreStillOpen (λ x. false) a.held.cache.syncs still → AreStillOpen (is_pruned config n e no_floor) (without_cache_sync e n.cache_syncs) still
        still_open still opened = subst (λ ss. AreStillOpen (is_pruned config n e no_floor) ss still) (sym event.unfinished) (AreStillOpen-more (λ x. false) (is_pruned config n e no_floor) (λ x stays. refl) a.held.cache.syncs still opened)

    beside : KeepsBeside config n e no_floor n'
    beside = record {
      lowest = sym (ap (λ w. fold (λ k p. max k p.epoch) a.held.lowest w.prunes) event.quiet.witnessing);
      lowests = cached.own_lowest;
      cache_syncs = opens;
      witnessed = sym (ap (λ w. w.last) event.quiet.witnessing);
    }

    -- what was held with each entry
    abbrev with_puts : List Cached
    with_puts = fold with_entry a.held.cache.kept.held put

    alike : a.held.lowest ≤ epoch → AreAlike m.cache.kept.held with_puts
    alike from = PutsAll-alike put a.held.cache.kept m.cache.kept a.held.cache.kept.held event.by_view (keeps.done loaded from).1 (AreAlike-refl a.held.cache.kept.held)

    in_puts : (y : Cached) → Contains m.cache.kept.held y → Contains with_puts y
    in_puts y has = elim (cases_lt epoch a.held.lowest) [
      | inl low ↦ fold_more put a.held.cache.kept.held y (subst (λ k. Contains k.held y) (keeps.below low).1 has)
      | inr from ↦ (alike from).within y has
    ]

    of_puts : (y : Cached) → Contains with_puts y → Contains m.cache.kept.held y ⊎ (epoch_of y < a.held.lowest)
    of_puts y has = elim (cases_lt epoch a.held.lowest) [
      | inl low ↦ elim (fold_cases put a.held.cache.kept.held y has) [
        | inl before ↦ inl (subst (λ k. Contains k.held y) (sym (keeps.below low).1) before)
        | inr new ↦ inr (let at = event.of_epoch y new in omega (arith, at, low))
      ]
      | inr from ↦ inl ((alike from).back y has)
    ]

    still_held : (y : Cached) → Contains a.held.cache.kept.held y → Contains m.cache.kept.held y
    still_held y has = elim (cases_lt epoch a.held.lowest) [
      | inl low ↦ subst (λ k. Contains k.held y) (sym (keeps.below low).1) has
      | inr from ↦ (alike from).back y (fold_more put a.held.cache.kept.held y has)
    ]

    still_sure : (y : Cached) → Contains a.held.cache.kept.sure y → Contains m.cache.kept.sure y
    still_sure y has = elim (cases_lt epoch a.held.lowest) [
      | inl low ↦ subst (λ k. Contains k.sure y) (sym (keeps.below low).1) has
      | inr from ↦ PutsAll-sure put a.held.cache.kept m.cache.kept (keeps.done loaded from).1 y has
    ]

    -- nothing is held below the lowest epoch
    firsts : (r : Round) (b : Block) → Contains m.cache.kept.held (verified_entry r b) → first_verified m.cache.kept.held r ≡ first_verified with_puts r
    firsts r b has = elim (cases_lt epoch a.held.lowest) [
      | inl low ↦ ap (λ k. first_verified k.held r) (keeps.below low).1 ∙ sym (fold_firsts put a.held.cache.kept.held r (apart low))
      | inr from ↦ (alike from).firsts r
    ]
      where
        apart : epoch < a.held.lowest → (x : Cached) → Contains put x → epoch_of x ≢ r.epoch
        apart low x new same = let at = event.of_epoch x new in let over = over_lowest in omega (arith, at, low, over, same)
          where
            over_lowest : a.held.lowest ≤ r.epoch
            over_lowest = cached.nested.above (verified_entry r b) (cached.nested.held_may (verified_entry r b) (subst (λ k. Contains k.held (verified_entry r b)) (keeps.below low).1 has))

    puts_are : (y : Cached) → Contains (fold with_entry a.held.cache.kept.held (entries_put config n n'.cache.held e no_floor)) y → Contains with_puts y
    puts_are y has = subst (λ xs. Contains (fold with_entry a.held.cache.kept.held xs) y) event.entries has

    entries : KeepsEntries config n e no_floor n'
    entries = record {
      kept = λ y has. elim (of_puts y (puts_are y has)) [ inl held ↦ inl held | inr low ↦ inr (inl low) ];
      nothing_else = λ y has. subst (λ xs. Contains (fold with_entry a.held.cache.kept.held xs) y) (sym event.entries) (in_puts y has);
      stays_sure = λ y sure has. still_sure y sure;
      stays = λ y has. inl (still_held y has);
      first_stays = λ r b first has. firsts r b has ∙ (ap (λ xs. first_verified (fold with_entry a.held.cache.kept.held xs) r) (sym event.entries) ∙ first);
      synced = λ y synced has. absurd (let none : false ≡ true = sym (none_synced e put y event.unsynced) ∙ subst (λ xs. IsTrue (is_synced e xs y)) event.entries synced in cc);
      finished = λ y covered has. contains_none y (subst (λ ys. Contains ys y) event.uncovered covered);
    }

    pub advances-for : AdvancesCache config n e no_floor n'
    advances-for = advances_with config n e no_floor n' entries beside

    -- what may be left might be before, or was put
    pub may-for : (x : Cached) → Contains m.cache.kept.may x → MayBeCached config n e no_floor x
    may-for x has = elim (cases_lt epoch a.held.lowest) [
      | inl low ↦ inl (subst (λ k. Contains k.may x) (keeps.below low).1 has)
      | inr from ↦ elim (Contains-append_cases a.held.cache.kept.may put x (PutsAll-may put a.held.cache.kept m.cache.kept (keeps.done loaded from).1 x has)) [
        | inl before ↦ inl before
        | inr new ↦ inr (m.cache.kept.held, subst (λ xs. Contains xs x) (sym event.entries) new)
      ]
    ]

  -- the cache agrees with the chain where what was put does
  pub IsCacheOf-for : AreCachedOf chain put → BlocksAgree chain put → IsCacheOf chain a.held.cache.kept → IsCacheOf chain m.cache.kept
  IsCacheOf-for finalizations blocks is = elim (cases_lt epoch a.held.lowest) [
    | inl low ↦ subst (IsCacheOf chain) (sym (keeps.below low).1) is
    | inr from ↦ IsCacheOf-grown chain put a.held.cache.kept m.cache.kept is finalizations blocks (PutsAll-held put a.held.cache.kept m.cache.kept (keeps.done loaded from).1) (PutsAll-may put a.held.cache.kept m.cache.kept (keeps.done loaded from).1)
  ]

-- Blocks that are kept for a caller: what the steps of these events promise.

module _ {P E : Type 0} (epochs : Epochs) (inner : List ℕ → List ℕ) (a : Seen P E) (buffer : List Block) (t : Option ℕ) (message : Message) (told : Option (List Report)) (heard : Option (List Call)) (before after : Option (List Sent)) (answers answers' : List TicketAnswer) where
  abbrev pub e : Event
  e = message_told t message

  -- What is to be known of such an event, for one chain: what it puts and starts, sends and answers, and that what it puts agrees
  -- with the chain.
  pub record IsKeptIn (config : Config) (chain : Chain) (waiting : Waiting) (epoch : ℕ) (put : List Cached) (tests : List (Cached → Bool)) (answer : Option ℕ) (m : Held) (sent : List Sent) : Type 0 where
    pub event : KeepsEvent config (node_of a buffer waiting) (node_of (cached_with a m.cache m.writes.next_sync m.watches) buffer waiting) e epoch put tests answer
    pub sends : sent ≡ sends_of (node_of a buffer waiting) e
    pub answered : answers_found inner a.held buffer e ≡ answers_of config (node_of a buffer waiting) a.held.lowest e no_floor
    pub finalizations : AreCachedOf chain put
    pub blocks : BlocksAgree chain put

  -- what it is to keep was kept: it is sent and answered as this says
  pub kept : (epoch : ℕ) (put : List Cached) (tests : List (Cached → Bool)) (answer : Option ℕ) (m : Held) (sent : List Sent) → AreCached a.held → KeepsEach epoch put tests answer a.held m
      → (a.held.cache.loaded ≡ true → (config : Config) (chain : Chain) (waiting : Waiting) → IsSetTo config a.life.sizes epochs inner → IsLawfulStep config chain (node_of a buffer waiting) (e ∷ []) → IsKeptIn config chain waiting epoch put tests answer m sent)
      → Hears before sent after → answers' ≡ answers ++ answers_found inner a.held buffer e → KeepsStep epochs inner a (e ∷ []) buffer (heard_with told heard before answers) (heard_with told heard after answers') (Ok (record a { held = m }))
  kept epoch put tests answer m sent cached keeps is_kept sends answered loaded config chain waiting set step = record {
    made = quietly_made [] sent (answers_found inner a.held buffer e);
    heard = record { reports = Hears-nothing told; asks = Hears-nothing heard; sends = sends; answers = answered };
    steps = λ certified known. subst (λ h. Steps config chain (node_of a buffer waiting) (e ∷ []) (quietly_made [] sent (answers_found inner a.held buffer e)) (node_of (seen h a.life) buffer (knowing certified waiting))) (sym keeps.same)
        (steps-kept config chain a buffer waiting m.cache m.writes.next_sync m.watches certified [] e is.event.quiet known sent (answers_found inner a.held buffer e)
        (AdvancesCache-beside config (node_of a buffer waiting) e no_floor (cached_with a m.cache m.writes.next_sync m.watches) (cached_with a m.cache m.writes.next_sync m.watches) buffer buffer waiting (knowing certified waiting) refl (advances-for config chain a m buffer waiting e epoch put tests answer cached loaded keeps is.event)) (may-for config chain a m buffer waiting e epoch put tests answer cached loaded keeps is.event)
        (λ query. absurd (let none : false ≡ true = sym is.event.no_query ∙ query in cc)) (next-is config chain a m buffer waiting e epoch put tests answer cached loaded keeps is.event) is.sends is.answered
        (IsCacheOf-for config chain a m buffer waiting e epoch put tests answer cached loaded keeps is.finalizations is.blocks step.good.of_chain.cache) tt step.good step.rests);
  }
    where
      is : IsKeptIn config chain waiting epoch put tests answer m sent
      is = is_kept loaded config chain waiting set step

-- the block that a message tells agrees with the chain
pub agrees_told : {P E : Type 0} (config : Config) (chain : Chain) (a : Seen P E) (buffer : List Block) (waiting : Waiting) (t : ℕ) (m : Message) (b : Block)
    → flat_map told_blocks (message_told (Some t) m ∷ []) ≡ b ∷ [] → IsLawfulStep config chain (node_of a buffer waiting) (message_told (Some t) m ∷ []) → Agrees chain b
agrees_told config chain a buffer waiting t m b tells step = told_agrees config.inner chain b _ (subst (λ bs. AreOne config.inner (bs ++ known_blocks chain (node_of a buffer waiting))) tells step.one)

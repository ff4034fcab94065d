-- Events that change the cache alone, and take a ticket for a sync of it: what such a step makes.
use Rattle.std.proofs.Common.{◌≡◌, inl, ℕ, ◌+◌, List, [], ◌∷◌, true, false, length, None, IfSome, IsTrue, Contains, ◌==◌, refl, sym, ◌∙◌, ap, subst, arith, append-nil, ◌++◌, Option, Ok}
use Rattle.std.proofs.lemmas.List.Elements.{Contains-append_left}
use Rattle.std.specs.List.{AllByRecursion, list_any}
use Rattle.mar_types.specs.Epochs.{Epochs}
use Rattle.mar_gate.specs.Writing.{is_open_sync}
use Rattle.mar_cert.specs.Block.{Block}
use Rattle.mar_key.specs.Keys.{Call}
use Rattle.mar_model.specs.Answers.{Sent, TicketAnswer, answers_of, certified_after, finished_answers, is_known, sends_of, subscriptions_after}
use Rattle.mar_model.specs.Cache.{AdvancesCache, MayBeCached, is_pruned, started_syncs, witnessing_of}
use Rattle.mar_model.specs.Cached.{Cached}
use Rattle.mar_model.specs.Chain.{Chain}
use Rattle.mar_model.specs.Config.{Config}
use Rattle.mar_model.specs.Event.{Event, acked_to, blocks_from, certs_from, cutoff_after, drained_blocks, effect_of, is_query, no_floor, own_writes, storing_of, sync_finished, undrained_blocks}
use Rattle.mar_model.specs.Faults.{Fault, event_fault}
use Rattle.mar_model.specs.Held.{AreCached, Held, HeldCache, Seen, Watches, seen}
use Rattle.mar_model.specs.Lives.{is_refused_floor}
use Rattle.mar_model.specs.Moves.{FinishesCacheSync}
use Rattle.mar_model.specs.Node.{CertifiedCommitment, IsCacheOf, IsGood, Node, Rest, write_count}
use Rattle.mar_model.specs.Promise.{IsKnownSince, KeepsStep, Waiting, asked_since, heard_with, knowing, node_of}
use Rattle.mar_model.specs.Requests.{is_pass, own_asks, repairs_twice}
use Rattle.mar_model.specs.Step.{AdvancesBy, IsStored, IsStoredLate, Made, Report, Steps, finished_position, without_finished}
use Rattle.mar_model.proofs.CacheOver.{AdvancesCache-beside, IsCacheOf-grown}
use Rattle.mar_model.proofs.CacheSteps.{advances_none}
use Rattle.mar_model.proofs.Handing.{Hears-nothing}
use Rattle.mar_model.proofs.HonestAsks.{AreHonest-asked_after, HonestCall}
use Rattle.mar_model.proofs.OpenSyncs.{AreStillOpen-more}
use Rattle.mar_model.proofs.PlainEvents.{Certificates-beside, Certificates-same, EntersAt-same, KeepsFrom-same, Writes-alike}
use Rattle.mar_model.proofs.StillGood.{IsGood-with, Rest-with, cached_with}
use Rattle.mar_model.proofs.SyncTickets.{position-closed, with_sync-unwritten, without-closed}

-- An event that meets, stores, drains and witnesses nothing, and finishes no sync of both archives; it makes these calls, and may
-- send, answer and change the cache.
pub record LeavesArchives (config : Config) (n : Node) (e : Event) (calls : List Call) : Type 0 where
  pub effect : effect_of config n e ≡ no_floor
  pub undrained : undrained_blocks n e ≡ n.out
  pub processed : acked_to n.processed (drained_blocks n e) ≡ n.processed
  pub cutoff : cutoff_after config n e no_floor ≡ n.cutoff
  pub storing : storing_of n e ≡ None
  pub position : finished_position n.syncs e ≡ 0
  pub syncs : without_finished e n.syncs ≡ n.syncs
  pub witnessing : witnessing_of config n e no_floor ≡ record { last = n.witnessed; prunes = [] }
  pub no_fault : event_fault config n e ≡ None
  pub asks : own_asks config n e no_floor ≡ calls
  pub subscriptions : subscriptions_after n e no_floor ≡ []
  pub unrefused : (fault : Fault) → is_refused_floor e fault ≡ false
  pub once : repairs_twice e no_floor ≡ false
  pub no_pass : (n' : Node) → is_pass n e no_floor n' ≡ false

-- what such an event makes
abbrev pub quietly_made : List Call → List Sent → List TicketAnswer → Made
quietly_made calls sends answers = record { reports = []; asks = calls; sends = sends; answers = answers }

module _ {P E : Type 0} (config : Config) (chain : Chain) (a : Seen P E) (buffer : List Block) (waiting : Waiting) (cache : HeldCache) (next : ℕ) (watches : Watches) (certified : List CertifiedCommitment) (calls : List Call) where
  abbrev n : Node
  n = node_of a buffer waiting

  abbrev pub m : Seen P E
  m = cached_with a cache next watches

  abbrev since : Waiting
  since = knowing certified (asked_since waiting calls)

  abbrev n' : Node
  n' = node_of m buffer since

  module _ (e : Event) (quiet : LeavesArchives config n e calls) (known : IsKnownSince config n e a.life.tip certified) where
    pub advances-kept : (sends : List Sent) (answers : List TicketAnswer) → AdvancesCache config n e no_floor n' → ((x : Cached) → Contains cache.kept.may x → MayBeCached config n e no_floor x) → (IsTrue (is_query e) → n' ≡ n) → next ≡ a.held.writes.next_sync + length (started_syncs n n' e) → sends ≡ sends_of n e → answers ≡ answers_of config n a.held.lowest e no_floor → AdvancesBy config chain n e no_floor (quietly_made calls sends answers) n'
    advances-kept sends answers advances may query tickets sent answered =
        let wrote = Writes-alike a m e buffer waiting since (ap (λ s. own_writes n s no_floor) quiet.storing) refl refl refl refl quiet.position quiet.syncs in
        record {
          hands = record {
            in_order = tt;
            counted = omega arith;
            out = sym quiet.undrained ∙ sym (append-nil (undrained_blocks n e));
            below_barrier = tt;
          };
          hands_chain = tt;
          processed = sym quiet.processed;
          cutoff = sym quiet.cutoff;
          blocks = KeepsFrom-same (blocks_from n e no_floor) n.blocks;
          certs = KeepsFrom-same (certs_from n e no_floor) n.certs;
          may_blocks = λ x has. inl has;
          may_certs = λ x has. inl has;
          certificates = Certificates-beside n m e buffer waiting since (Certificates-same a m e buffer waiting refl);
          writes = wrote.0;
          repairs = record { at_hand = λ h b any is. absurd (none_repaired wrote.0.repaired wrote.1 h any); with_finalization = λ h b any is some. absurd (none_repaired wrote.0.repaired wrote.1 h any) };
          unrepaired = λ is. wrote.1;
          unblocked = λ is. wrote.2;
          enters = EntersAt-same _ n n' refl refl;
          tips = refl;
          tips_chain = tt;
          awaited = refl;
          cache = advances;
          may_cached = may;
          stored = subst (λ s. IfSome s (IsStored n')) (sym quiet.storing) tt;
          stored_late = subst (λ s. IfSome s (IsStoredLate n no_floor n')) (sym quiet.storing) tt;
          floor_stored = tt;
          query = query;
          no_fault = quiet.no_fault;
          beside = record {
            more = [];
            asks = sym quiet.asks ∙ sym (append-nil (own_asks config n e no_floor));
            passes = record {
              first = [];
              second = [];
              split = refl;
              idle = λ is. refl;
              once = λ is. refl;
              repaired_first = λ twice none. absurd (let no : false ≡ true = sym quiet.once ∙ twice in cc);
              repaired = λ pass none. absurd (let no : false ≡ true = sym (quiet.no_pass n') ∙ pass in cc);
            };
            sends = sent;
            answers = answered;
            subscriptions = sym quiet.subscriptions;
            certified = λ h c. subst (λ fx. is_known certified h c ≡ is_known (certified_after n e fx a.life.tip) h c) quiet.effect (known.known h c);
            next_sync = tickets;
            untouched = refl;
          };
        }
      where
        none_repaired : (xs : List ℕ) → xs ≡ [] → (h : ℕ) → IsTrue (list_any (λ k. k == h) xs) → ⊥
        none_repaired xs none h any = let is : false ≡ true = subst (λ ys. IsTrue (list_any (λ k. k == h) ys)) none any in cc

    pub steps-kept : (sends : List Sent) (answers : List TicketAnswer) → AdvancesCache config n e no_floor n' → ((x : Cached) → Contains cache.kept.may x → MayBeCached config n e no_floor x) → (IsTrue (is_query e) → n' ≡ n) → next ≡ a.held.writes.next_sync + length (started_syncs n n' e) → sends ≡ sends_of n e → answers ≡ answers_of config n a.held.lowest e no_floor → IsCacheOf chain cache.kept → AllByRecursion (HonestCall chain) calls → IsGood config chain n → Rest config.window n → Steps config chain n (e ∷ []) (quietly_made calls sends answers) n'
    steps-kept sends answers advances may query tickets sent answered is honest good rests = record {
      unticketed = n';
      advances = subst (λ fx. AdvancesBy config chain n e fx (quietly_made calls sends answers) n') (sym quiet.effect) (advances-kept sends answers advances may query tickets sent answered);
      ticket = sym (with_sync-unwritten (write_count n) n' (omega arith));
      rests = Rest-with config.window a cache next watches buffer buffer waiting since rests;
      good = IsGood-with config chain a cache next watches buffer buffer waiting since (AreHonest-asked_after chain waiting.requests [] calls honest good.of_chain.asks.requests) is good;
    }

-- A sync of the cache finishes: what it covers is sure, and who waits for it is answered.

module _ {P E : Type 0} (epochs : Epochs) (inner : List ℕ → List ℕ) (a : Seen P E) (buffer : List Block) (t : ℕ) where
  abbrev e : Event
  e = sync_finished t

  -- it is no sync of both archives
  pub quiet : (config : Config) (waiting : Waiting) → is_open_sync a.held.writes.syncs t ≡ false → LeavesArchives config (node_of a buffer waiting) e []
  quiet config waiting other = record { effect = refl; undrained = refl; processed = refl; cutoff = refl; storing = refl; position = position-closed a.held.writes.syncs t other; syncs = without-closed a.held.writes.syncs t other; witnessing = refl; no_fault = refl; asks = refl; subscriptions = refl; unrefused = λ fault. refl; once = refl; no_pass = λ n'. refl }

  advances : (config : Config) (waiting : Waiting) (m : Held) → AreCached a.held → FinishesCacheSync t a.held m → AdvancesCache config (node_of a buffer waiting) e no_floor (node_of (cached_with a m.cache a.held.writes.next_sync m.watches) buffer waiting)
  advances config waiting m cached finishes = advances_none config (node_of a buffer waiting) e no_floor (node_of (cached_with a m.cache a.held.writes.next_sync m.watches) buffer waiting) (record {
    entries = refl;
    no_floor = refl;
    mid = m.cache.kept;
    held = finishes.finishes.held;
    sure = finishes.finishes.sure;
    finished = λ y covered has. finishes.finishes.finished y covered;
    prunes = refl;
  }) (record {
    lowest = refl;
    lowests = cached.own_lowest;
    cache_syncs = record {
      still = m.cache.syncs;
      still_open = AreStillOpen-more (λ x. false) (is_pruned config (node_of a buffer waiting) e no_floor) (λ x stays. refl) _ m.cache.syncs finishes.still_open;
      started = [];
      started_open = tt;
      are = sym (append-nil m.cache.syncs);
    };
    witnessed = refl;
  })

  still_of : (chain : Chain) (m : Held) → FinishesCacheSync t a.held m → IsCacheOf chain a.held.cache.kept → IsCacheOf chain m.cache.kept
  still_of chain m finishes is = IsCacheOf-grown chain [] a.held.cache.kept m.cache.kept is tt tt (λ x has. Contains-append_left a.held.cache.kept.held [] x (subst (λ xs. Contains xs x) finishes.finishes.held has)) (λ x has. Contains-append_left a.held.cache.kept.may [] x (finishes.finishes.may x has))

  -- it has finished
  pub promise-cache_finished : (told : Option (List Report)) (heard : Option (List Call)) (sends : Option (List Sent)) (answers answers' : List TicketAnswer) (m : Held) → AreCached a.held → is_open_sync a.held.writes.syncs t ≡ false → FinishesCacheSync t a.held m → answers' ≡ answers ++ finished_answers t a.held.cache.syncs → KeepsStep epochs inner a (e ∷ []) buffer (heard_with told heard sends answers) (heard_with told heard sends answers') (Ok (record a { held = m }))
  promise-cache_finished told heard sends answers answers' m cached other finishes answered loaded config chain waiting set step = record {
    made = quietly_made [] [] (finished_answers t a.held.cache.syncs);
    heard = record { reports = Hears-nothing told; asks = Hears-nothing heard; sends = Hears-nothing sends; answers = answered };
    steps = λ certified known. subst (λ h. Steps config chain (node_of a buffer waiting) (e ∷ []) (quietly_made [] [] (finished_answers t a.held.cache.syncs)) (node_of (seen h a.life) buffer (knowing certified waiting))) (sym finishes.same)
        (steps-kept config chain a buffer waiting m.cache a.held.writes.next_sync m.watches certified [] e (quiet config waiting other) known [] (finished_answers t a.held.cache.syncs) (AdvancesCache-beside config (node_of a buffer waiting) e no_floor (cached_with a m.cache a.held.writes.next_sync m.watches) (cached_with a m.cache a.held.writes.next_sync m.watches) buffer buffer waiting (knowing certified waiting) refl (advances config waiting m cached finishes)) (λ x has. inl (finishes.finishes.may x has)) (λ is. absurd cc) (plus_none a.held.writes.next_sync) refl refl
        (still_of chain m finishes step.good.of_chain.cache) tt step.good step.rests);
  }
    where
      plus_none : (k : ℕ) → k ≡ k + 0
      plus_none k = omega arith

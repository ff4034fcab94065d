-- What an event makes of the cache: what it puts, and what its rounds prune.
use Rattle.std.proofs.Common.{◌≡◌, inl, inr, ⊎_elim, cond, ℕ, max, List, [], ◌∷◌, ◌++◌, map, fold, Bool, true, false, None, Contains, refl, sym, ◌∙◌, ap, subst, bytes_eq, filter, find}
use Rattle.std.proofs.lemmas.Bool.{cases_lt}
use Rattle.std.proofs.lemmas.List.{append-nil}
use Rattle.std.proofs.lemmas.List.Elements.{Contains-append_cases, Contains-append_left, Contains-append_right}
use Rattle.std.specs.List.{list_any}
use Rattle.std.specs.Option.{option_or}
use Rattle.std.specs.Prelude.{option_and_then}
use Rattle.mar_types.specs.Round.{Round}
use Rattle.mar_cert.specs.Block.{Block}
use Rattle.mar_cert.specs.Finalization.{Finalization}
use Rattle.mar_store.specs.Changes.{Left, Within, left_of}
use Rattle.mar_store.specs.Kept.{At, Kept}
use Rattle.mar_model.specs.AllEntries.{PrunesByAll, is_in_place, sooner_of, soonest}
use Rattle.mar_model.specs.Cache.{AdvancesCache, answer_ticket, entries_put, finished_covers, is_below, is_certified_below, is_pruned, started_syncs, tickets_from, without_cache_sync, witnessing_of}
use Rattle.mar_model.specs.CacheCalls.{PutsAndSyncs}
use Rattle.mar_model.specs.Cached.{Cached, cached_block, cached_finalization, finalization_entry}
use Rattle.mar_model.specs.Chain.{Chain}
use Rattle.mar_model.specs.Config.{Config}
use Rattle.mar_model.specs.Entries.{has_commitment}
use Rattle.mar_model.specs.Event.{Effect, Event, message_told, no_floor}
use Rattle.mar_model.specs.Held.{AreCached, Held, LeavesCache, Seen}
use Rattle.mar_model.specs.Messages.{report_finalization}
use Rattle.mar_model.specs.Moves.{CachesFinalization, PrunesCacheBy, found_at_hand, of_commitment}
use Rattle.mar_model.specs.Node.{Agrees, AreCachedOf, BlocksAgree, IsCacheOf, IsFinalized, Node}
use Rattle.mar_model.specs.OpenSyncs.{AreStillOpen}
use Rattle.mar_model.specs.Promise.{Waiting, node_of}
use Rattle.mar_model.specs.Stored.{block_of}
use Rattle.mar_model.proofs.CacheChanges.{any_within, map_within}
use Rattle.mar_model.proofs.CachePrunes.{LeavesCache-pruned, not_first}
use Rattle.mar_model.proofs.CacheSteps.{KeepsBeside, advances_none, advances_one}
use Rattle.mar_model.proofs.EntryLists.{contains_none}
use Rattle.mar_model.proofs.Filtered.{all_found_put}
use Rattle.mar_model.proofs.Growing.{LeavesCache-refl}
use Rattle.mar_model.proofs.OpenSyncs.{AreStillOpen-more, AreStillOpen-refl, AreStillOpen-then}

-- WHAT IS AN EVENT'S OWN

-- The entries that were put so far are the event's and the chain's, and the rounds that pruned are the event's.
pub record OwnCache (config : Config) (chain : Chain) (n : Node) (e : Event) (put : List Cached) (prunes : List Round) : Type 0 where
  pub own : (x : Cached) → Contains put x → (after : List Cached) × Contains (entries_put config n after e no_floor) x
  pub finalizations : AreCachedOf chain put
  pub blocks : BlocksAgree chain put
  pub prunes_own : Within prunes (witnessing_of config n e no_floor).prunes

pub own_pruned : (config : Config) (chain : Chain) (n : Node) (e : Event) (prunes : List Round) → Within prunes (witnessing_of config n e no_floor).prunes → OwnCache config chain n e [] prunes
own_pruned config chain n e prunes within = record { own = λ x has. contains_none x has; finalizations = tt; blocks = tt; prunes_own = within }

pub own_none : (config : Config) (chain : Chain) (n : Node) (e : Event) → OwnCache config chain n e [] []
own_none config chain n e = own_pruned config chain n e [] (λ r has. contains_none r has)

pub own_reported : (config : Config) (chain : Chain) (n : Node) (f : Finalization) (prunes : List Round) → IsFinalized chain f.round f.payload → Within prunes (witnessing_of config n (message_told None (report_finalization f)) no_floor).prunes → OwnCache config chain n (message_told None (report_finalization f)) (finalization_entry f ∷ []) prunes
own_reported config chain n f prunes final within = record { own = λ x has. ([], has); finalizations = (final, tt); blocks = tt; prunes_own = within }

-- WHAT IS LEFT

-- calls one after another
pub LeavesCache-then : (start : Left Cached) (started : List ℕ) (mid : Left Cached) (between : List ℕ) (left : Left Cached) (lowests : List ℕ) (put more all : List Cached) (prunes others every : List Round) → Within put all → Within more all → Within prunes every → Within others every → LeavesCache start started put prunes mid between → LeavesCache mid between more others left lowests → LeavesCache start started all every left lowests
LeavesCache-then start started mid between left lowests put more all prunes others every put_all more_all prunes_all others_all first second = record {
  sure = λ x has. ⊎_elim (λ there. ⊎_elim (λ still. inl still) (λ gone. inr (any_within (λ p. is_below p x) others every others_all gone)) (second.sure x there)) (λ gone. inr (any_within (λ p. is_below p x) prunes every prunes_all gone)) (first.sure x has);
  may = λ x has. ⊎_elim (λ there. ⊎_elim (λ before. Contains-append_left start.may all x before) (λ new. Contains-append_right start.may all x (put_all x new)) (Contains-append_cases start.may put x (first.may x there))) (λ new. Contains-append_right start.may all x (more_all x new)) (Contains-append_cases mid.may more x (second.may x has));
  lowest = λ k has. ⊎_elim (λ there. ⊎_elim (λ before. Contains-append_left started (map (λ p. p.epoch) every) k before) (λ new. Contains-append_right started (map (λ p. p.epoch) every) k (map_within (λ (p : Round). p.epoch) prunes every prunes_all k new)) (Contains-append_cases started (map (λ p. p.epoch) prunes) k (first.lowest k there))) (λ new. Contains-append_right started (map (λ p. p.epoch) every) k (map_within (λ (p : Round). p.epoch) others every others_all k new)) (Contains-append_cases between (map (λ p. p.epoch) others) k (second.lowest k has));
}

Within-none : {T : Type 0} (xs : List T) → Within [] xs
Within-none xs x has = contains_none x has

-- what a later call leaves that writes nothing there
pub LeavesCache-still : (start : Left Cached) (started : List ℕ) (put : List Cached) (prunes : List Round) (mid : Left Cached) (between : List ℕ) (left : Left Cached) (lowests : List ℕ) → LeavesCache start started put prunes mid between → LeavesCache mid between [] [] left lowests → LeavesCache start started put prunes left lowests
LeavesCache-still start started put prunes mid between left lowests first second = LeavesCache-then start started mid between left lowests put [] put prunes [] prunes (λ x has. has) (Within-none put) (λ r has. has) (Within-none prunes) first second

-- WHAT IS OF THE CHAIN

-- an entry more is held or may be left
within_both : (put : List Cached) (old new : Kept Cached) → Within new.held (old.held ++ put) → Within new.may (old.may ++ put) → Within (new.held ++ new.may) ((old.held ++ old.may) ++ put)
within_both put old new held may x has = ⊎_elim (λ at_held. sides old.held (λ y there. Contains-append_left old.held old.may y there) (held x at_held)) (λ at_may. sides old.may (λ y there. Contains-append_right old.held old.may y there) (may x at_may)) (Contains-append_cases new.held new.may x has)
  where
    sides : (xs : List Cached) → Within xs (old.held ++ old.may) → Contains (xs ++ put) x → Contains ((old.held ++ old.may) ++ put) x
    sides xs within there = ⊎_elim (λ before. Contains-append_left (old.held ++ old.may) put x (within x before)) (λ new'. Contains-append_right (old.held ++ old.may) put x new') (Contains-append_cases xs put x there)

pub IsCacheOf-grown : (chain : Chain) (put : List Cached) (old new : Kept Cached) → IsCacheOf chain old → AreCachedOf chain put → BlocksAgree chain put → Within new.held (old.held ++ put) → Within new.may (old.may ++ put) → IsCacheOf chain new
IsCacheOf-grown chain put old new is finalizations blocks held may = record {
  finalizations = all_found_put cached_finalization (λ f. IsFinalized chain f.round f.payload) (new.held ++ new.may) (old.held ++ old.may) put (within_both put old new held may) is.finalizations finalizations;
  blocks = all_found_put cached_block (Agrees chain) (new.held ++ new.may) (old.held ++ old.may) put (within_both put old new held may) is.blocks blocks;
}

-- EVENTS

module _ {P E : Type 0} (config : Config) (a m : Seen P E) (e : Event) (buffer buffer' : List Block) (waiting waiting' : Waiting) (rounds : List Round) where
  abbrev n : Node
  n = node_of a buffer waiting

  abbrev n' : Node
  n' = node_of m buffer' waiting'

  -- What the event's rounds are, and what they make of the lowest epoch: no sync is started.
  pub record Witnesses : Type 0 where
    pub unstarted : started_syncs n n' e ≡ []
    pub unfinished : without_cache_sync e a.held.cache.syncs ≡ a.held.cache.syncs
    pub uncovered : finished_covers n e ≡ []
    pub rounds_are : rounds ≡ (witnessing_of config n e no_floor).prunes
    pub last_is : m.held.witnessed ≡ (witnessing_of config n e no_floor).last
    pub still_open : AreStillOpen (λ x. list_any (λ r. is_below r x) rounds) a.held.cache.syncs m.held.cache.syncs
    pub lowest : m.held.lowest ≡ fold (λ k r. max k r.epoch) a.held.lowest rounds
    pub own_lowest : m.held.lowests ≡ m.held.lowest ∷ []

  beside : Witnesses → KeepsBeside config n e no_floor n'
  beside is = record {
    lowest = is.lowest ∙ ap (fold (λ k r. max k r.epoch) a.held.lowest) is.rounds_are;
    lowests = is.own_lowest;
    cache_syncs = record {
      still = m.held.cache.syncs;
      still_open = subst (λ ss. AreStillOpen (is_pruned config n e no_floor) ss m.held.cache.syncs) (sym is.unfinished) (AreStillOpen-more (λ x. list_any (λ r. is_below r x) rounds) (is_pruned config n e no_floor) fewer a.held.cache.syncs m.held.cache.syncs is.still_open);
      started = [];
      started_open = subst (λ tests. AreStillOpen (λ x. false) (tickets_from a.held.writes.next_sync (answer_ticket e) m.held.cache.kept.held tests) []) (sym is.unstarted) tt;
      are = sym (append-nil m.held.cache.syncs);
    };
    witnessed = is.last_is;
  }
    where
      fewer : (x : Cached) → is_pruned config n e no_floor x ≡ false → list_any (λ r. is_below r x) rounds ≡ false
      fewer x stays = ap (list_any (λ r. is_below r x)) is.rounds_are ∙ not_first (list_any (λ r. is_below r x) (witnessing_of config n e no_floor).prunes) (is_certified_below 0 x) stays

  -- nothing is put
  pub advances_pruned : entries_put config n m.held.cache.kept.held e no_floor ≡ [] → Witnesses → PrunesByAll rounds a.held.cache.kept m.held.cache.kept → AdvancesCache config n e no_floor n'
  advances_pruned none is prunes = advances_none config n e no_floor n' (record {
    entries = none;
    no_floor = refl;
    mid = a.held.cache.kept;
    held = refl;
    sure = λ y has. has;
    finished = λ y covered has. contains_none y (subst (λ ys. Contains ys y) is.uncovered covered);
    prunes = subst (λ rs. PrunesByAll rs a.held.cache.kept m.held.cache.kept) is.rounds_are prunes;
  }) (beside is)

-- A REPORTED FINALIZATION

-- it is cached first, and then its event's rounds prune
pub advances_report : {P E : Type 0} (config : Config) (a m : Seen P E) (f : Finalization) (buffer buffer' : List Block) (waiting waiting' : Waiting) (rounds : List Round) (mid : Kept Cached) → AreCached a.held → a.held.cache.loaded ≡ true → PutsAndSyncs (finalization_entry f) a.held.lowest a.held.cache.loaded a.held.cache.kept mid → Witnesses config a m (message_told None (report_finalization f)) buffer buffer' waiting waiting' rounds → PrunesByAll rounds mid m.held.cache.kept → AdvancesCache config (node_of a buffer waiting) (message_told None (report_finalization f)) no_floor (node_of m buffer' waiting')
advances_report config a m f buffer buffer' waiting waiting' rounds mid cached loaded puts is prunes =
    advances_one config (node_of a buffer waiting) (message_told None (report_finalization f)) no_floor (node_of m buffer' waiting') (finalization_entry f) (record {
      entries = refl;
      by_view = refl;
      no_floor = refl;
      within = λ y has. cached.nested.above y (cached.nested.held_may y has);
      mid = mid;
      put = elim (cases_lt f.round.epoch a.held.lowest) [
        | inl less ↦ inl (less, puts.ready less)
        | inr from ↦ inr (from, (puts.done loaded from).puts)
      ];
      covers = λ y. refl;
      synced = λ synced from y same has. (puts.done loaded from).synced y same has;
      prunes = subst (λ rs. PrunesByAll rs mid m.held.cache.kept) is.rounds_are prunes;
    }) refl (beside config a m (message_told None (report_finalization f)) buffer buffer' waiting waiting' rounds is)

-- what is held and may be left is what was, and the entry
module _ (f : Finalization) (old mid : Held) (loaded : old.cache.loaded ≡ true) (puts : PutsAndSyncs (finalization_entry f) old.lowest old.cache.loaded old.cache.kept mid.cache.kept) where
  pub held_put : Within mid.cache.kept.held (old.cache.kept.held ++ finalization_entry f ∷ [])
  held_put y has = elim (cases_lt f.round.epoch old.lowest) [
    | inl less ↦ Contains-append_left old.cache.kept.held (finalization_entry f ∷ []) y (subst (λ k. Contains k.held y) (puts.ready less) has)
    | inr from ↦ own (list_any (is_in_place (finalization_entry f)) old.cache.kept.held) ((puts.done loaded from).puts.only y has)
  ]
    where
      own : (c : Bool) → Contains (cond c old.cache.kept.held (old.cache.kept.held ++ finalization_entry f ∷ [])) y → Contains (old.cache.kept.held ++ finalization_entry f ∷ []) y
      own true there = Contains-append_left old.cache.kept.held (finalization_entry f ∷ []) y there
      own false there = there

  pub may_put : Within mid.cache.kept.may (old.cache.kept.may ++ finalization_entry f ∷ [])
  may_put y has = elim (cases_lt f.round.epoch old.lowest) [
    | inl less ↦ Contains-append_left old.cache.kept.may (finalization_entry f ∷ []) y (subst (λ k. Contains k.may y) (puts.ready less) has)
    | inr from ↦ (puts.done loaded from).puts.may y has
  ]

  sure_put : Within old.cache.kept.sure mid.cache.kept.sure
  sure_put y has = elim (cases_lt f.round.epoch old.lowest) [
    | inl less ↦ subst (λ k. Contains k.sure y) (sym (puts.ready less)) has
    | inr from ↦ (puts.done loaded from).puts.sure y has
  ]

  pub LeavesCache-put : mid.lowests ≡ old.lowests → LeavesCache (left_of old.cache.kept) old.lowests (finalization_entry f ∷ []) [] (left_of mid.cache.kept) mid.lowests
  LeavesCache-put same = record {
    sure = λ x has. inl (sure_put x has);
    may = may_put;
    lowest = λ k has. Contains-append_left old.lowests [] k (subst (λ ks. Contains ks k) same has);
  }

  pub IsCacheOf-put : (chain : Chain) → IsCacheOf chain old.cache.kept → IsFinalized chain f.round f.payload → IsCacheOf chain mid.cache.kept
  IsCacheOf-put chain is final = IsCacheOf-grown chain (finalization_entry f ∷ []) old.cache.kept mid.cache.kept is (final, tt) tt held_put may_put

-- WHAT AN EVENT DOES

-- What an event made of the cache of an actor: what it put and pruned, and what that leaves.
pub record MovesCache {P E : Type 0} (config : Config) (chain : Chain) (a m : Seen P E) (e : Event) (buffer : List Block) (waiting : Waiting) : Type 0 where
  pub put : List Cached
  pub prunes : List Round
  pub own : OwnCache config chain (node_of a buffer waiting) e put prunes
  pub leaves : LeavesCache (left_of a.held.cache.kept) a.held.lowests put prunes (left_of m.held.cache.kept) m.held.lowests
  pub advances : AdvancesCache config (node_of a buffer waiting) e no_floor (node_of m buffer waiting)

module _ {P E : Type 0} (config : Config) (chain : Chain) (a m : Seen P E) (e : Event) (buffer : List Block) (waiting : Waiting) (unput : entries_put config (node_of a buffer waiting) m.held.cache.kept.held e no_floor ≡ []) (unstarted : started_syncs (node_of a buffer waiting) (node_of m buffer waiting) e ≡ []) (unfinished : without_cache_sync e a.held.cache.syncs ≡ a.held.cache.syncs) (uncovered : finished_covers (node_of a buffer waiting) e ≡ []) (own_lowest : a.held.lowests ≡ a.held.lowest ∷ []) where
  -- it puts nothing, and its rounds prune
  pub moves_pruned : (rounds : List Round) → a.held.cache.loaded ≡ true → rounds ≡ (witnessing_of config (node_of a buffer waiting) e no_floor).prunes → m.held.witnessed ≡ (witnessing_of config (node_of a buffer waiting) e no_floor).last → PrunesCacheBy rounds a.held m.held → MovesCache config chain a m e buffer waiting
  moves_pruned rounds loaded rounds_are last_is pruned = record {
    put = [];
    prunes = rounds;
    own = own_pruned config chain (node_of a buffer waiting) e rounds (λ r has. subst (λ rs. Contains rs r) rounds_are has);
    leaves = LeavesCache-pruned rounds a.held m.held loaded own_lowest pruned;
    advances = advances_pruned config a m e buffer buffer waiting waiting rounds unput (record { unstarted = unstarted; unfinished = unfinished; uncovered = uncovered; rounds_are = rounds_are; last_is = last_is; still_open = pruned.still_open; lowest = pruned.lowest; own_lowest = pruned.own_lowest own_lowest }) (pruned.prunes loaded);
  }

  -- it leaves the cache as it was
  pub moves_none : [] ≡ (witnessing_of config (node_of a buffer waiting) e no_floor).prunes → m.held.witnessed ≡ (witnessing_of config (node_of a buffer waiting) e no_floor).last → m.held.cache ≡ a.held.cache → m.held.lowest ≡ a.held.lowest → m.held.lowests ≡ a.held.lowests → MovesCache config chain a m e buffer waiting
  moves_none none last_is cache lowest lowests = record {
    put = [];
    prunes = [];
    own = own_none config chain (node_of a buffer waiting) e;
    leaves = subst (λ k. LeavesCache (left_of a.held.cache.kept) a.held.lowests [] [] (left_of k.kept) m.held.lowests) (sym cache) (subst (LeavesCache (left_of a.held.cache.kept) a.held.lowests [] [] (left_of a.held.cache.kept)) (sym lowests) (LeavesCache-refl (left_of a.held.cache.kept) a.held.lowests [] []));
    advances = advances_pruned config a m e buffer buffer waiting waiting [] unput (record { unstarted = unstarted; unfinished = unfinished; uncovered = uncovered; rounds_are = none; last_is = last_is; still_open = subst (λ k. AreStillOpen (λ x. false) a.held.cache.syncs k.syncs) (sym cache) (AreStillOpen-refl (λ x. false) a.held.cache.syncs); lowest = lowest; own_lowest = lowests ∙ (own_lowest ∙ ap (λ k. k ∷ []) (sym lowest)) }) (ap (λ k. k.kept) cache);
  }

-- a finalization was cached, and then rounds pruned
module _ (f : Finalization) (old now new : Held) (rounds : List Round) (cached : AreCached old) (loaded : old.cache.loaded ≡ true) (caches : CachesFinalization f old now) (pruned : PrunesCacheBy rounds now new) where
  same_lowest : now.lowest ≡ old.lowest
  same_lowest = ap (λ h. h.lowest) caches.same

  same_lowests : now.lowests ≡ old.lowests
  same_lowests = ap (λ h. h.lowests) caches.same

  own_now : now.lowests ≡ now.lowest ∷ []
  own_now = same_lowests ∙ (cached.own_lowest ∙ ap (λ k. k ∷ []) (sym same_lowest))

  lowest_new : new.lowest ≡ fold (λ k r. max k r.epoch) old.lowest rounds
  lowest_new = pruned.lowest ∙ ap (λ k. fold (λ j r. max j r.epoch) k rounds) same_lowest

  own_new : new.lowests ≡ new.lowest ∷ []
  own_new = pruned.own_lowest own_now

  open_new : AreStillOpen (λ x. list_any (λ r. is_below r x) rounds) old.cache.syncs new.cache.syncs
  open_new = AreStillOpen-then (λ x. false) (λ x. list_any (λ r. is_below r x) rounds) (λ x. list_any (λ r. is_below r x) rounds) (λ x stays. refl) (λ x stays. stays) old.cache.syncs now.cache.syncs new.cache.syncs caches.still_open pruned.still_open

  pub leaves_reported : LeavesCache (left_of old.cache.kept) old.lowests (finalization_entry f ∷ []) rounds (left_of new.cache.kept) new.lowests
  leaves_reported = LeavesCache-then (left_of old.cache.kept) old.lowests (left_of now.cache.kept) now.lowests (left_of new.cache.kept) new.lowests (finalization_entry f ∷ []) [] (finalization_entry f ∷ []) [] rounds rounds (λ x has. has) (Within-none (finalization_entry f ∷ [])) (Within-none rounds) (λ r has. has)
      (LeavesCache-put f old now loaded caches.puts same_lowests)
      (LeavesCache-pruned rounds now new (caches.loaded ∙ loaded) own_now pruned)

-- a report of a finalization caches it, and then its rounds prune
pub moves_reported : {P E : Type 0} (config : Config) (chain : Chain) (a m : Seen P E) (f : Finalization) (now : Held) (buffer : List Block) (waiting : Waiting) (rounds : List Round) → AreCached a.held → a.held.cache.loaded ≡ true → CachesFinalization f a.held now → IsFinalized chain f.round f.payload → rounds ≡ (witnessing_of config (node_of a buffer waiting) (message_told None (report_finalization f)) no_floor).prunes → m.held.witnessed ≡ (witnessing_of config (node_of a buffer waiting) (message_told None (report_finalization f)) no_floor).last → PrunesCacheBy rounds now m.held → MovesCache config chain a m (message_told None (report_finalization f)) buffer waiting
moves_reported config chain a m f now buffer waiting rounds cached loaded caches final rounds_are last_is pruned = record {
  put = finalization_entry f ∷ [];
  prunes = rounds;
  own = own_reported config chain (node_of a buffer waiting) f rounds final (λ r has. subst (λ rs. Contains rs r) rounds_are has);
  leaves = leaves_reported f a.held now m.held rounds cached loaded caches pruned;
  advances = advances_report config a m f buffer buffer waiting waiting rounds now.cache.kept cached loaded caches.puts (record { unstarted = refl; unfinished = refl; uncovered = refl; rounds_are = rounds_are; last_is = last_is; still_open = open_new f a.held now m.held rounds cached loaded caches pruned; lowest = lowest_new f a.held now m.held rounds cached loaded caches pruned; own_lowest = own_new f a.held now m.held rounds cached loaded caches pruned }) (pruned.prunes (caches.loaded ∙ loaded));
}

-- an actor whose cache is as these stores have it
abbrev pub cached_as : {P E : Type 0} → Seen P E → Held → Seen P E
cached_as a now = record a { held = record a.held { cache = now.cache; watches = now.watches } }

-- WHAT IS FOUND STAYS

-- a search looks at what passes alone
soonest-filtered : (passes : Cached → Bool) (xs : List Cached) → soonest passes xs ≡ soonest passes (filter passes xs)
soonest-filtered passes [] = refl
soonest-filtered passes (x ∷ xs) = by (passes x) refl (soonest-filtered passes xs)
  where
    by : (c : Bool) → passes x ≡ c → soonest passes xs ≡ soonest passes (filter passes xs) → cond c (sooner_of x (soonest passes xs)) (soonest passes xs) ≡ soonest passes (cond c (x ∷ filter passes xs) (filter passes xs))
    by true is rest = ap (sooner_of x) rest ∙ sym (ap (λ d. cond d (sooner_of x (soonest passes (filter passes xs))) (soonest passes (filter passes xs))) is)
    by false is rest = rest

-- what is found is what was, where the cached blocks of the commitment are as they were
pub found_unmoved : (inner : List ℕ → List ℕ) (buffer : List Block) (held : List (At Block)) (commitment : List ℕ) (old new : List Cached) → filter (λ x. has_commitment commitment (cached_block x)) new ≡ filter (λ x. has_commitment commitment (cached_block x)) old → found_at_hand inner buffer new held commitment ≡ found_at_hand inner buffer old held commitment
found_unmoved inner buffer held commitment old new same = ap (λ o. option_or (find (λ b. bytes_eq b.commitment commitment) buffer) (option_or (option_and_then cached_block o) (of_commitment commitment (block_of held (inner commitment))))) (soonest-filtered passes new ∙ (ap (soonest passes) same ∙ sym (soonest-filtered passes old)))
  where
    passes : Cached → Bool
    passes x = has_commitment commitment (cached_block x)

-- a cached finalization is no block, so what is at hand is what was
pub found_cached : (inner : List ℕ → List ℕ) (f : Finalization) (old now : Held) (buffer : List Block) (held : List (At Block)) (commitment : List ℕ) → old.cache.loaded ≡ true → CachesFinalization f old now → found_at_hand inner buffer now.cache.kept.held held commitment ≡ found_at_hand inner buffer old.cache.kept.held held commitment
found_cached inner f old now buffer held commitment loaded caches = elim (cases_lt f.round.epoch old.lowest) [
  | inl less ↦ ap (λ k. found_at_hand inner buffer k.held held commitment) (caches.puts.ready less)
  | inr from ↦ found_unmoved inner buffer held commitment old.cache.kept.held now.cache.kept.held ((caches.puts.done loaded from).puts.others (λ x. has_commitment commitment (cached_block x)) refl)
]

-- What an event makes of the cache, where other archives, another buffer and others that wait stand beside it.

pub AdvancesCache-beside : {P E : Type 0} (config : Config) (n : Node) (e : Event) (fx : Effect) (m m' : Seen P E) (buffer buffer' : List Block) (waiting waiting' : Waiting)
    → m'.held ≡ record m.held { blocks = m'.held.blocks; certs = m'.held.certs; writes = m'.held.writes; watches = m'.held.watches }
    → AdvancesCache config n e fx (node_of m buffer waiting) → AdvancesCache config n e fx (node_of m' buffer' waiting')
AdvancesCache-beside config n e fx m m' buffer buffer' waiting waiting' same advances = subst (λ h. AdvancesCache config n e fx (node_of (record m' { held = h }) buffer' waiting')) (sym same) (record {
  kept = advances.kept;
  nothing_else = advances.nothing_else;
  stays_sure = advances.stays_sure;
  stays = advances.stays;
  first_stays = advances.first_stays;
  synced = advances.synced;
  finished = advances.finished;
  lowest = advances.lowest;
  lowests = advances.lowests;
  own_lowest = advances.own_lowest;
  cache_syncs = record {
    still = advances.cache_syncs.still;
    still_open = advances.cache_syncs.still_open;
    started = advances.cache_syncs.started;
    started_open = advances.cache_syncs.started_open;
    are = advances.cache_syncs.are;
  };
  witnessed = advances.witnessed;
})

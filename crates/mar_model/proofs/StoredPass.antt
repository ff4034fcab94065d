-- A reported finalization that is stored above the processed height, with the pass of repair behind it: what is promised of its step.
use Rattle.std.proofs.Common.{◌≡◌, ◌⊎◌, inl, inr, ⊎_elim, ◌∷◌, [], List, ◌++◌, map, length, Contains, IfSome, IsTrue, Option, None, Some, Bool, true, false, if◌then◌else◌, ◌==◌, ◌||◌, nat_lt, option_to_list, Ok, zero, suc, ℕ, ◌+◌, ◌<◌, ◌≤◌, arith, refl, sym, ◌∙◌, ap, ap₂, subst, option_map, append_assoc, is_some}
use Rattle.std.specs.List.{AllByRecursion, filter_map, list_any}
use Rattle.std.proofs.lemmas.Bool.Decides.{nat_tests}
use Rattle.std.proofs.lemmas.List.{length-append}
use Rattle.std.proofs.lemmas.List.Elements.{Contains-append_cases, Contains-append_left, Contains-append_right}
use Rattle.mar_types.specs.Epochs.{Epochs, IsPartition}
use Rattle.mar_cert.specs.Block.{Block}
use Rattle.mar_cert.specs.Finalization.{Finalization}
use Rattle.mar_gate.specs.Writing.{Writing, total_writes, with_started}
use Rattle.mar_key.specs.Hears.{Hears}
use Rattle.mar_key.specs.Processed.{first_unprocessed, height_in, height_of}
use Rattle.mar_store.specs.Kept.{has_height, value_at}
use Rattle.mar_store.proofs.Lookups.{AllByRecursion-contains, AllByRecursion-from_contains, AllByRecursion-weaker, has_height-from_value}
use Rattle.mar_model.specs.Acts.{AreLawful}
use Rattle.mar_model.specs.Cached.{Cached, cached_block, cached_finalization, finalization_entry}
use Rattle.mar_model.specs.Chain.{Chain, Finalizes, IsBlockAt, IsFinal}
use Rattle.mar_model.specs.Config.{Config}
use Rattle.mar_model.specs.Event.{Event, message_told, no_floor, own_writes, storing_of}
use Rattle.mar_model.specs.Held.{Grew, Held, Remembered, Seen, written_both}
use Rattle.mar_model.specs.Messages.{report_finalization}
use Rattle.mar_model.specs.Metadata.{pair_of}
use Rattle.mar_model.specs.Moves.{CachesFinalization, IsStarted, PutsAbove, at_height, found_at_hand, tip_after, tip_reports}
use Rattle.mar_model.specs.Node.{AreBlocksOf, AreCachedOf, AreFinalizationsOf, IsCacheOf, IsFinalized, IsGood, Node, Rest, at_hand, block_missing, floor_awaited, window_full, write_uncovered, FloorSafe}
use Rattle.mar_model.specs.Promise.{AreOne, IsLawfulStep, IsSetTo, KeepsStep, Waiting, heard_by, known_blocks, node_of, FinishesStep}
use Rattle.mar_model.specs.Ran.{RunsPass}
use Rattle.mar_model.specs.Scene.{Scene}
use Rattle.mar_model.specs.Step.{IsStored}
use Rattle.mar_model.specs.Stored.{at_own_height, is_certified}
use Rattle.mar_model.proofs.CacheOver.{IsCacheOf-put, cached_as, held_put, may_put}
use Rattle.mar_model.proofs.Cutting.{only_one}
use Rattle.mar_model.proofs.EventPromises as event
use Rattle.mar_model.proofs.FillsOfChain.{itself}
use Rattle.mar_model.proofs.Filtered.{all_found_from, all_found_of, all_found_within}
use Rattle.mar_model.proofs.FinalizationEvent as final
use Rattle.mar_model.proofs.FinalizationEvent.{last_position, nested_heights}
use Rattle.mar_model.proofs.FloorSafety.{FloorSafe-still, KeepsHeightsFrom}
use Rattle.mar_model.proofs.FoundBlocks.{chain_known}
use Rattle.mar_model.proofs.Growing.{Grown-blocks, Grown-certs}
use Rattle.mar_model.proofs.KnownBlocks.{AreOne-within}
use Rattle.mar_model.proofs.PassFacts as facts
use Rattle.mar_model.proofs.PassOfChain.{Passed, passed}
use Rattle.mar_model.proofs.PassRan.{RowRan}
use Rattle.mar_model.proofs.PassReached as reached
use Rattle.mar_model.proofs.Promises.{started-by}
use Rattle.mar_model.proofs.Reaching.{PutsOwn-may, Reaches, ReachesBy}
use Rattle.mar_model.proofs.StillGood.{IsGood-grown}
use Rattle.mar_model.proofs.StoredValues.{all_held, entered_height}
use Rattle.mar_model.proofs.SyncPromise.{at}
use Rattle.mar_model.proofs.Tips.{above_from, tip_after-high}
use Rattle.mar_model.proofs.Handing.{Hears-then}

module _ {P E : Type 0} (life : Remembered P E) (epochs : Epochs) (inner : List ℕ → List ℕ) (partition : IsPartition epochs) (buffer : List Block) (s : Scene) (law : AreLawful s.held) (f : Finalization) (now : Held)
    (caches : CachesFinalization f s.held now) (b : Block) (found : found_at_hand inner buffer now.cache.kept.held now.blocks.held f.payload ≡ Some b) (above_now : nat_lt (height_of now.processed) b.height ≡ true)
    (u t new : Scene) (puts_as : PutsAbove inner (record (at life s) { held = now }) f b (at life u)) (grew : Grew s.held (record (written_both (at_own_height b) (at_height b.height f)) { cached = finalization_entry f ∷ [] }) u.held)
    (lawful_u : AreLawful u.held) (pass : RunsPass inner buffer u t) (starts : IsStarted (at life t) (at life new)) (lawful_new : AreLawful new.held) where
  abbrev a : Seen P E
  a = at life s

  abbrev e : Event
  e = message_told None (report_finalization f)

  module _ (loaded : s.held.cache.loaded ≡ true) (config : Config) (chain : Chain) (waiting : Waiting) (set : IsSetTo config s.life.sizes epochs inner) (step : IsLawfulStep config chain (node_of a buffer waiting) (e ∷ [])) where
    abbrev n : Node
    n = node_of a buffer waiting

    is : at_hand n f.payload ≡ Some b
    is = event.hand epochs inner partition a buffer f now law.cached caches loaded config chain waiting set step (Some b) found

    above : nat_lt (height_of s.held.processed) b.height ≡ true
    above = subst (λ h. nat_lt (height_of h.processed) b.height ≡ true) caches.same above_now

    puts : PutsAbove config.inner (cached_as a now) f b (at life u)
    puts = subst (λ x. PutsAbove config.inner x f b (at life u)) (event.after_is epochs inner partition a buffer f now law.cached caches) (subst (λ i. PutsAbove i (record a { held = now }) f b (at life u)) (sym set.inner_is) puts_as)

    block_final : IsFinal chain f.round b.height × IsBlockAt chain b.height b
    block_final = final.block-final config chain a f buffer waiting step.lawful step.one step.good step.reported.0 b is

    finalizes : Finalizes chain b.height f.round f.payload
    finalizes = final.finalizes config chain a f buffer waiting step.lawful step.one step.good step.reported.0 b is

    reach : Reaches config chain a e buffer waiting (tip_reports a.life.tip f b) (at life u)
    reach = final.Reaches-stored config chain a f buffer waiting step.lawful step.one step.good step.reported.0 now law.cached loaded caches b (at life u) (Grown-blocks s.held u.held _ refl grew) (Grown-certs s.held u.held _ refl grew) is above puts

    -- THE SCENE IN WHICH THE PASS BEGINS

    u_blocks : AreBlocksOf chain u.held.blocks.held
    u_blocks = all_held (λ x. IsBlockAt chain x.height x.value) _ _ _ _ puts.blocks.held step.good.of_chain.stores.held_blocks block_final.1

    u_certs : AreFinalizationsOf chain u.held.certs.held
    u_certs = all_held (λ x. Finalizes chain x.height x.value.round x.value.payload) _ _ _ _ puts.certs.held step.good.of_chain.stores.held_certs finalizes

    cache_u : u.held.cache ≡ now.cache
    cache_u = ap (λ k. k.held.cache) puts.same

    cache_good : IsCacheOf chain u.held.cache.kept
    cache_good = subst (λ c. IsCacheOf chain c.kept) (sym cache_u) (IsCacheOf-put f s.held now loaded caches.puts chain step.good.of_chain.cache step.reported.0)

    finals : AreCachedOf chain u.held.cache.kept.held
    finals = all_found_within cached_finalization (λ g. IsFinalized chain g.round g.payload) u.held.cache.kept.held (u.held.cache.kept.held ++ u.held.cache.kept.may) (λ x has. Contains-append_left u.held.cache.kept.held u.held.cache.kept.may x has) cache_good.finalizations

    abbrev known : List Block
    known = known_blocks chain n

    one : AreOne inner known
    one = subst (λ i. AreOne i known) set.inner_is step.one

    -- a cached block was cached before
    near_before : (xs : List Cached) (ys : List Cached) → ((x : Cached) → Contains xs x → Contains (ys ++ finalization_entry f ∷ []) x) → (c : Block) → Contains (filter_map cached_block xs) c → Contains (filter_map cached_block ys) c
    near_before xs ys within c has = AllByRecursion-contains (Contains (filter_map cached_block ys)) (filter_map cached_block xs) c
        (all_found_from cached_block (Contains (filter_map cached_block ys)) xs (λ x d there found_d. ⊎_elim (λ old. all_found_of cached_block (Contains (filter_map cached_block ys)) ys x d (itself (filter_map cached_block ys)) old found_d)
        (λ new_one. absurd (let none : ◌≡◌ {A = Option Block} None (Some d) = ap cached_block (only_one (finalization_entry f) x new_one) ∙ found_d in cc)) (Contains-append_cases ys (finalization_entry f ∷ []) x (within x there)))) has

    cached_near : (c : Block) → Contains (filter_map cached_block u.held.cache.kept.held) c → Contains (filter_map cached_block s.held.cache.kept.held) c
    cached_near c has = near_before now.cache.kept.held s.held.cache.kept.held (held_put f s.held now loaded caches.puts) c (subst (λ k. Contains (filter_map cached_block k.kept.held) c) cache_u has)

    may_near : (c : Block) → Contains (filter_map cached_block u.held.cache.kept.may) c → Contains (filter_map cached_block s.held.cache.kept.may) c
    may_near c has = near_before now.cache.kept.may s.held.cache.kept.may (may_put f s.held now loaded caches.puts) c (subst (λ k. Contains (filter_map cached_block k.kept.may) c) cache_u has)

    filtered_left : (xs ys : List Cached) (c : Block) → Contains (filter_map cached_block xs) c → Contains (filter_map cached_block (xs ++ ys)) c
    filtered_left xs ys c has = AllByRecursion-contains (Contains (filter_map cached_block (xs ++ ys))) (filter_map cached_block xs) c
        (all_found_from cached_block (Contains (filter_map cached_block (xs ++ ys))) xs (λ x d there found_d. all_found_of cached_block (Contains (filter_map cached_block (xs ++ ys))) (xs ++ ys) x d (itself (filter_map cached_block (xs ++ ys))) (Contains-append_left xs ys x there) found_d)) has

    filtered_right : (xs ys : List Cached) (c : Block) → Contains (filter_map cached_block ys) c → Contains (filter_map cached_block (xs ++ ys)) c
    filtered_right xs ys c has = AllByRecursion-contains (Contains (filter_map cached_block (xs ++ ys))) (filter_map cached_block ys) c
        (all_found_from cached_block (Contains (filter_map cached_block (xs ++ ys))) ys (λ x d there found_d. all_found_of cached_block (Contains (filter_map cached_block (xs ++ ys))) (xs ++ ys) x d (itself (filter_map cached_block (xs ++ ys))) (Contains-append_right xs ys x there) found_d)) has

    abbrev olds : List Block
    olds = filter_map cached_block (s.held.cache.kept.held ++ s.held.cache.kept.may)

    in_known : (c : Block) → Contains buffer c ⊎ Contains olds c → Contains known c
    in_known c (inl own) = Contains-append_right chain.blocks (buffer ++ olds) c (Contains-append_left buffer olds c own)
    in_known c (inr cached) = Contains-append_right chain.blocks (buffer ++ olds) c (Contains-append_right buffer olds c cached)

    beside_known : (c : Block) → Contains (buffer ++ filter_map cached_block u.held.cache.kept.held) c → Contains known c
    beside_known c has = ⊎_elim (λ own. in_known c (inl own)) (λ cached. in_known c (inr (filtered_left s.held.cache.kept.held s.held.cache.kept.may c (cached_near c cached)))) (Contains-append_cases buffer (filter_map cached_block u.held.cache.kept.held) c has)

    went : Passed chain inner buffer u t
    went = passed config.epochs chain step.lawful inner buffer u t known one (λ c has. chain_known inner chain a buffer waiting c has) beside_known finals u_blocks u_certs pass

    abbrev ran : RowRan inner chain went.blocks went.certs went.tells went.asks u t
    ran = went.ran

    -- the blocks that are known behind it are known
    one_t : AreOne inner (known_blocks chain (node_of (at life t) buffer waiting))
    one_t = AreOne-within inner (known_blocks chain (node_of (at life t) buffer waiting)) known (λ c has. by c (Contains-append_cases chain.blocks _ c has)) one
      where
        cached : (c : Block) → Contains (filter_map cached_block (t.held.cache.kept.held ++ t.held.cache.kept.may)) c → Contains olds c
        cached c has = AllByRecursion-contains (Contains olds) (filter_map cached_block (t.held.cache.kept.held ++ t.held.cache.kept.may)) c
            (all_found_from cached_block (Contains olds) (t.held.cache.kept.held ++ t.held.cache.kept.may) (λ x d there found_d. entry x d found_d (Contains-append_cases u.held.cache.kept.held u.held.cache.kept.may x (subst (λ k. Contains (k.kept.held ++ k.kept.may) x) (ap (λ h. h.cache) ran.same) there)))) has
          where
            entry : (x : Cached) (d : Block) → cached_block x ≡ Some d → Contains u.held.cache.kept.held x ⊎ Contains u.held.cache.kept.may x → Contains olds d
            entry x d found_d (inl held) = filtered_left s.held.cache.kept.held s.held.cache.kept.may d (cached_near d (all_found_of cached_block (Contains (filter_map cached_block u.held.cache.kept.held)) u.held.cache.kept.held x d (itself (filter_map cached_block u.held.cache.kept.held)) held found_d))
            entry x d found_d (inr may) = filtered_right s.held.cache.kept.held s.held.cache.kept.may d (may_near d (all_found_of cached_block (Contains (filter_map cached_block u.held.cache.kept.may)) u.held.cache.kept.may x d (itself (filter_map cached_block u.held.cache.kept.may)) may found_d))

        by : (c : Block) → Contains chain.blocks c ⊎ Contains (buffer ++ filter_map cached_block (t.held.cache.kept.held ++ t.held.cache.kept.may)) c → Contains known c
        by c (inl own) = chain_known inner chain a buffer waiting c own
        by c (inr beside) = ⊎_elim (λ own. in_known c (inl own)) (λ far. in_known c (inr (cached c far))) (Contains-append_cases buffer (filter_map cached_block (t.held.cache.kept.held ++ t.held.cache.kept.may)) c beside)

    -- WHAT IS REACHED

    abbrev own : List ℕ
    own = own_writes n (storing_of n e) no_floor

    own_is : own ≡ b.height ∷ []
    own_is = ap (λ x. own_writes n x no_floor) (final.storing_by config chain a f buffer waiting step.lawful step.one step.good step.reported.0 (Some b) is) ∙ ap (λ (c : Bool). if c then b.height ∷ [] else []) above

    stored : IsStored (node_of (at life u) buffer waiting) (record { height = b.height; with_certificate = true })
    stored = subst (λ x. IfSome x (IsStored (node_of (at life u) buffer waiting))) (final.storing_by config chain a f buffer waiting step.lawful step.one step.good step.reported.0 (Some b) is) reach.comes.stored

    processed_u : u.held.processed ≡ s.held.processed
    processed_u = ap (λ k. k.held.processed) puts.same

    high : height_of u.held.processed < b.height
    high = subst (λ p. height_of p < b.height) (sym processed_u) (above_from (height_of s.held.processed) b.height above)

    b_held : IsTrue (has_height u.held.blocks.held b.height)
    b_held = ⊎_elim (λ has. has) (λ low. absurd (let up : height_of u.held.processed < b.height = high in omega (arith, low))) stored.block

    ends : reached.EndsInPass life config chain inner a e buffer waiting (tip_reports a.life.tip f b) u t reach went
    ends = record {
      passes = λ k. final.pass-at config chain a f buffer waiting step.lawful step.one step.good step.reported.0 b is true above k;
      once = refl;
      may = refl;
      blocks_from_none = refl;
      certs_from_none = refl;
      sure_blocks = law.blocks.sure_held;
      sure_certs = law.certs.sure_held;
      lawful = lawful_u;
      cached_near = cached_near;
      finals_near = finals_near;
      own_held = λ h any. held_own h (subst (λ xs. IsTrue (list_any (λ k. k == h) xs)) own_is any);
      stored_cert = subst (λ o. IfSome o (λ x. IsTrue (has_height u.held.certs.held x.height))) (sym (final.storing_by config chain a f buffer waiting step.lawful step.one step.good step.reported.0 (Some b) is)) (stored.certificate refl high);
      covered = ap (λ k. k.held.writes.covered) puts.same;
      uncovered = ap (λ k. k.held.writes.uncovered) puts.same ∙ ap (λ xs. s.held.writes.uncovered ++ xs) (sym own_is);
      finalized = facts.finalized life config chain config.epochs step.lawful inner buffer waiting u t one_t u_certs finals went;
      law = facts.law life config chain config.epochs step.lawful inner buffer waiting u t one_t u_certs finals went (set.max_repair ∙ sym (ap (λ k. k.life.sizes.max_repair) puts.same));
    }
      where
        finals_near : (g : Finalization) → Contains (filter_map cached_finalization u.held.cache.kept.held) g → Contains (option_to_list (Some f) ++ filter_map cached_finalization s.held.cache.kept.held) g
        finals_near g has = AllByRecursion-contains (Contains (f ∷ filter_map cached_finalization s.held.cache.kept.held)) (filter_map cached_finalization u.held.cache.kept.held) g
            (all_found_from cached_finalization (Contains (f ∷ filter_map cached_finalization s.held.cache.kept.held)) u.held.cache.kept.held (λ x d there found_d. entry x d found_d (Contains-append_cases s.held.cache.kept.held (finalization_entry f ∷ []) x (held_put f s.held now loaded caches.puts x (subst (λ k. Contains k.kept.held x) cache_u there))))) has
          where
            inside : (d : Finalization) → ◌≡◌ {A = Option Finalization} (Some f) (Some d) → f ≡ d
            inside d same = cc

            entry : (x : Cached) (d : Finalization) → cached_finalization x ≡ Some d → Contains s.held.cache.kept.held x ⊎ Contains (finalization_entry f ∷ []) x → Contains (f ∷ filter_map cached_finalization s.held.cache.kept.held) d
            entry x d found_d (inl old) = let there = all_found_of cached_finalization (Contains (filter_map cached_finalization s.held.cache.kept.held)) s.held.cache.kept.held x d (itself (filter_map cached_finalization s.held.cache.kept.held)) old found_d in (suc there.0, (let low = there.1 in omega arith), there.2)
            entry x d found_d (inr new_one) = (zero, omega arith, inside d (ap cached_finalization (only_one (finalization_entry f) x new_one) ∙ found_d))

        held_own : (h : ℕ) → IsTrue (list_any (λ k. k == h) (b.height ∷ [])) → IsTrue (has_height u.held.blocks.held h)
        held_own h any = by (b.height == h) refl any
          where
            same_of : (i j : ℕ) → (i == j) ≡ true → i ≡ j
            same_of i j so = grind (arith, nat_tests)

            by : (c : Bool) → (b.height == h) ≡ c → (c || false) ≡ true → IsTrue (has_height u.held.blocks.held h)
            by true same there = subst (λ k. IsTrue (has_height u.held.blocks.held k)) (same_of b.height h same) b_held
            by false other there = absurd (let bad : false ≡ true = there in cc)

    by_pass : ReachesBy config chain a e buffer waiting (tip_reports a.life.tip f b ++ ran.tips) went.asks (at life t)
    by_pass = reached.Reaches-passed life config chain inner a e buffer waiting (tip_reports a.life.tip f b) u t reach went ends

    -- WHAT STANDS THEN

    held_new : new.held ≡ record t.held { writes = with_started t.held.writes; watches = new.held.watches }
    held_new = ap (λ k. k.held) starts

    life_t : t.life ≡ record u.life { tip = t.life.tip }
    life_t = ran.life

    out_new : new.life.out ≡ s.life.out
    out_new = ap (λ k. k.life.out) starts ∙ (ap (λ l. l.out) life_t ∙ ap (λ k. k.life.out) puts.same)

    processed_new : new.held.processed ≡ s.held.processed
    processed_new = ap (λ h. h.processed) held_new ∙ (ap (λ h. h.processed) ran.same ∙ processed_u)

    cutoff_new : new.held.cutoff ≡ s.held.cutoff
    cutoff_new = ap (λ h. h.cutoff) held_new ∙ (ap (λ h. h.cutoff) ran.same ∙ ap (λ k. k.held.cutoff) puts.same)

    pairs_new : new.held.pairs ≡ s.held.pairs
    pairs_new = ap (λ h. h.pairs) held_new ∙ (ap (λ h. h.pairs) ran.same ∙ ap (λ k. k.held.pairs) puts.same)

    blocks_new : new.held.blocks ≡ t.held.blocks
    blocks_new = ap (λ h. h.blocks) held_new

    certs_new : new.held.certs ≡ t.held.certs
    certs_new = ap (λ h. h.certs) held_new

    sure_new : new.held.blocks.sure ≡ s.held.blocks.sure
    sure_new = ap (λ k. k.sure) blocks_new ∙ (ran.sure_blocks ∙ puts.blocks.sure)

    tip_new : new.life.tip ≡ t.life.tip
    tip_new = ap (λ k. k.life.tip) starts

    good : IsGood config chain (node_of (at life new) buffer waiting)
    good = IsGood-grown config chain a buffer waiting step.good (at life new) (nested_heights new.held.blocks lawful_new.blocks) (nested_heights new.held.certs lawful_new.certs) out_new processed_new
        (subst (λ c. IsCacheOf chain c.kept) (sym (ap (λ h. h.cache) held_new ∙ ap (λ h. h.cache) ran.same)) cache_good)
        (pairs_new ∙ (step.good.heights.own_pair ∙ ap₂ (λ p c. pair_of p c ∷ []) (sym processed_new) (sym cutoff_new))) lawful_new.written.blocks lawful_new.written.certs
        (λ some. subst (λ w. Contains (map (λ x. x.position) w.syncs) (total_writes w)) (sym (ap (λ h. h.writes) held_new)) (last_position t.held.writes.syncs (record { ticket = t.held.writes.next_sync; position = total_writes t.held.writes })))
        stays (subst (λ k. AreBlocksOf chain k.held) (sym blocks_new) went.of_blocks) (subst (λ k. AreBlocksOf chain k.may) (sym blocks_new) may_blocks)
        (subst (λ k. AreFinalizationsOf chain k.held) (sym certs_new) (facts.certs_then life config chain config.epochs step.lawful inner buffer waiting u t one_t u_certs finals went)) (subst (λ k. AreFinalizationsOf chain k.may) (sym certs_new) may_certs)
        (subst (λ c. FloorSafe (option_map height_in s.held.processed) c new.held.blocks.sure chain) (sym cutoff_new) (FloorSafe-still chain (option_map height_in s.held.processed) s.held.cutoff s.held.blocks.sure new.held.blocks.sure (λ has. stays _ (omega arith) has) step.good.of_chain.floor_safe))
        (subst (λ k. AllByRecursion (λ x. x.height ≤ new.life.tip) k.held) (sym certs_new) (subst (λ i. AllByRecursion (λ x. x.height ≤ i) t.held.certs.held) (sym tip_new) tips_high))
      where
        stays : KeepsHeightsFrom 0 s.held.blocks.sure new.held.blocks.sure
        stays h low has = subst (λ xs. IsTrue (has_height xs h)) (sym sure_new) has

        may_blocks : AreBlocksOf chain t.held.blocks.may
        may_blocks = PutsOwn-may _ _ _ s.held.blocks t.held.blocks by_pass.comes.blocks step.good.of_chain.stores.may_blocks

        may_certs : AreFinalizationsOf chain t.held.certs.may
        may_certs = PutsOwn-may _ _ _ s.held.certs t.held.certs by_pass.comes.certs step.good.of_chain.stores.may_certs

        tip_u : u.life.tip ≡ tip_after s.life.tip b
        tip_u = ap (λ k. k.life.tip) puts.same

        u_high : AllByRecursion (λ x. x.height ≤ u.life.tip) u.held.certs.held
        u_high = subst (λ i. AllByRecursion (λ x. x.height ≤ i) u.held.certs.held) (sym tip_u) (all_held (λ x. x.height ≤ tip_after s.life.tip b) (is_certified config.inner (cached_as a now).held.certs.held b.height (config.inner f.payload)) s.held.certs.held (at_height b.height f) u.held.certs.held puts.certs.held
            (AllByRecursion-weaker (λ x. x.height ≤ s.life.tip) (λ x. x.height ≤ tip_after s.life.tip b) (λ x low. let up : s.life.tip ≤ tip_after s.life.tip b = (tip_after-high s.life.tip b).0 in omega arith) s.held.certs.held step.good.of_chain.tip_reported)
            (tip_after-high s.life.tip b).1)

        tips_high : AllByRecursion (λ x. x.height ≤ t.life.tip) t.held.certs.held
        tips_high = AllByRecursion-from_contains (λ x. x.height ≤ t.life.tip) t.held.certs.held (λ x has. ⊎_elim
            (λ old. let low : x.height ≤ u.life.tip = AllByRecursion-contains (λ y. y.height ≤ u.life.tip) u.held.certs.held x u_high old in let up : u.life.tip ≤ t.life.tip = ran.rises in omega arith)
            (λ fresh. ran.reaches x.height (went.certs_told x fresh)) (ran.certs_from x has))

    -- what waits for a sync then
    uncovered_new : new.held.writes.uncovered ≡ s.held.writes.uncovered ++ (b.height ∷ map (λ c. c.height) went.blocks)
    uncovered_new = ap (λ h. h.writes.uncovered) held_new ∙ (ap (λ (w : Writing). w.uncovered) ran.writes ∙ (ap (λ k. k.held.writes.uncovered ++ map (λ c. c.height) went.blocks) puts.same ∙ append_assoc s.held.writes.uncovered (b.height ∷ []) (map (λ c. c.height) went.blocks)))

    next_new : first_unprocessed new.held.processed + length new.life.out ≡ first_unprocessed s.held.processed + length s.life.out
    next_new = ap₂ (λ p o. first_unprocessed p + length o) processed_new out_new

    rests : Rest config.window n → Rest config.window (node_of (at life new) buffer waiting)
    rests (floor_awaited some) = absurd cc
    rests (window_full full) = window_full (ap length out_new ∙ full)
    rests (write_uncovered h waits low) = write_uncovered h (subst (λ us. Contains us h) (sym uncovered_new) (Contains-append_left s.held.writes.uncovered (b.height ∷ map (λ c. c.height) went.blocks) h waits)) (subst (λ k. h ≤ k) (sym next_new) low)
    rests (block_missing missing) = by (value_at new.held.blocks.held (first_unprocessed new.held.processed + length new.life.out)) refl
      where
        next : ℕ
        next = first_unprocessed s.held.processed + length s.life.out

        entered : (v : Block) → value_at new.held.blocks.held next ≡ Some v → Contains (b.height ∷ map (λ c. c.height) went.blocks) next
        entered v there = reached.entered_heights u.held.blocks.held went.blocks b.height next (subst (λ xs. IsTrue (has_height xs next)) (ap (λ k. k.held) blocks_new ∙ ran.blocks) (has_height-from_value new.held.blocks.held next v there)) (λ has. u_cases has)
          where
            u_cases : IsTrue (has_height u.held.blocks.held next) → b.height ≡ next
            u_cases has = ⊎_elim (λ old. absurd (let bad : false ≡ true = sym (ap is_some missing) ∙ old in cc)) (λ same. same) (entered_height _ s.held.blocks.held (at_own_height b) u.held.blocks.held next puts.blocks.held has)

        by : (o : Option Block) → value_at new.held.blocks.held (first_unprocessed new.held.processed + length new.life.out) ≡ o → Rest config.window (node_of (at life new) buffer waiting)
        by None none = block_missing none
        by (Some v) there = write_uncovered next (subst (λ us. Contains us next) (sym uncovered_new) (Contains-append_right s.held.writes.uncovered (b.height ∷ map (λ c. c.height) went.blocks) next (entered v (ap (value_at new.held.blocks.held) (sym next_new) ∙ there)))) (let same : first_unprocessed new.held.processed + length new.life.out ≡ next = next_new in omega arith)

    total_more : total_writes s.held.writes < total_writes t.held.writes
    total_more =
        let covered : t.held.writes.covered ≡ s.held.writes.covered = ap (λ (w : Writing). w.covered) ran.writes ∙ ap (λ k. k.held.writes.covered) puts.same in
        let all : length t.held.writes.uncovered ≡ length (s.held.writes.uncovered ++ (b.height ∷ map (λ c. c.height) went.blocks)) = ap length uncovered_t in
        let parts : length (s.held.writes.uncovered ++ (b.height ∷ map (λ c. c.height) went.blocks)) ≡ length s.held.writes.uncovered + length (b.height ∷ map (λ c. c.height) went.blocks) = length-append s.held.writes.uncovered (b.height ∷ map (λ c. c.height) went.blocks) in
        omega arith
      where
        uncovered_t : t.held.writes.uncovered ≡ s.held.writes.uncovered ++ (b.height ∷ map (λ c. c.height) went.blocks)
        uncovered_t = sym (ap (λ h. h.writes.uncovered) held_new) ∙ uncovered_new

    some_waits : 0 < length t.held.writes.uncovered
    some_waits =
        let all : length t.held.writes.uncovered ≡ length (s.held.writes.uncovered ++ (b.height ∷ map (λ c. c.height) went.blocks)) = ap length (sym (ap (λ h. h.writes.uncovered) held_new) ∙ uncovered_new) in
        let parts : length (s.held.writes.uncovered ++ (b.height ∷ map (λ c. c.height) went.blocks)) ≡ length s.held.writes.uncovered + length (b.height ∷ map (λ c. c.height) went.blocks) = length-append s.held.writes.uncovered (b.height ∷ map (λ c. c.height) went.blocks) in
        omega arith

    -- THE PROMISE
    pub finishes : Hears s.heard.reports (tip_reports s.life.tip f b) u.heard.reports → u.heard.asks ≡ s.heard.asks
        → FinishesStep config chain n (e ∷ []) (heard_by s.heard.reports s.heard.asks) (heard_by t.heard.reports t.heard.asks) new.held (at life new).life
    finishes tips asks = started-by config chain a (at life t) e buffer waiting (tip_reports s.life.tip f b ++ ran.tips) went.asks step by_pass (at life new) starts total_more some_waits good (rests step.rests)
        s.heard.reports t.heard.reports s.heard.asks t.heard.asks (Hears-then s.heard.reports u.heard.reports t.heard.reports (tip_reports s.life.tip f b) ran.tips tips ran.told)
        (subst (λ xs. Hears s.heard.asks xs t.heard.asks) (ap (λ xs. xs ++ went.asks) (final.asks-stored config chain a f buffer waiting step.lawful step.one step.good step.reported.0 b is above)) (subst (λ o. Hears o went.asks t.heard.asks) asks ran.asked))

  -- what is promised of the step
  pub promise-passed : Hears s.heard.reports (tip_reports s.life.tip f b) u.heard.reports → u.heard.asks ≡ s.heard.asks
      → KeepsStep epochs inner a (e ∷ []) buffer (heard_by s.heard.reports s.heard.asks) (heard_by t.heard.reports t.heard.asks) (Ok (at life new))
  promise-passed tips asks loaded config chain waiting set step = finishes loaded config chain waiting set step tips asks

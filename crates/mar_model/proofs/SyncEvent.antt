-- A sync of both archives finishes: more is sure, and dispatch may go on.
use Rattle.std.proofs.Common.{◌≡◌, ◌⊎◌, inl, inr, ℕ, ◌-◌, ◌<◌, ◌≤◌, List, [], ◌∷◌, length, map, max, drop, Some, None, option_map, option_to_list, IsTrue, Contains, refl, sym, ◌∙◌, ap, subst, arith}
use Rattle.std.specs.List.{AllByRecursion, AllPairs}
use Rattle.std.proofs.lemmas.List.{length-drop}
use Rattle.std.proofs.lemmas.List.Elements.{Contains-append_left}
use Rattle.mar_cert.specs.Block.{Block}
use Rattle.mar_gate.specs.Writing.{IsOrdered, position_of, total_writes, with_finished, without_sync}
use Rattle.mar_store.specs.Kept.{At, Kept, has_height, value_at}
use Rattle.mar_store.specs.Changes.{IsNested}
use Rattle.mar_store.proofs.Lookups.{AllByRecursion-within, Contains-from_value}
use Rattle.mar_key.specs.Processed.{height_in}
use Rattle.mar_model.specs.Chain.{Chain, Finalizes, IsBlockAt}
use Rattle.mar_model.specs.OpenSyncs.{NoneHas}
use Rattle.mar_model.specs.Config.{Config}
use Rattle.mar_model.specs.Event.{no_floor, sync_finished}
use Rattle.mar_model.specs.Held.{AreCached, MakesSure, Seen}
use Rattle.mar_model.specs.Metadata.{pair_of}
use Rattle.mar_model.specs.Moves.{FinishesSync}
use Rattle.mar_model.specs.Node.{AreBlocksOf, AreFinalizationsOf, FloorSafe, IsCacheOf, IsGood}
use Rattle.mar_model.specs.Promise.{Waiting, node_of}
use Rattle.mar_model.specs.Step.{KeepsFrom, Writes}
use Rattle.mar_model.specs.Answers.{to, true_value}
use Rattle.mar_model.proofs.Cutting.{keeps_heights}
use Rattle.mar_model.proofs.EntryLists.{contains_none}
use Rattle.mar_model.proofs.FinalizationEvent.{nested_heights}
use Rattle.mar_model.proofs.FloorSafety.{FloorSafe-still}
use Rattle.mar_model.proofs.Growing.{Grown}
use Rattle.mar_model.proofs.CacheOver.{moves_none}
use Rattle.mar_model.proofs.OpenSyncs.{covered-none, waits-none, without-none}
use Rattle.mar_model.proofs.PlainEvents.{EntersAt-same, Writes-none}
use Rattle.mar_model.proofs.Reaching.{Reaches}
use Rattle.mar_model.proofs.SyncTickets.{position-stays, total-finished}
use Rattle.mar_model.proofs.StillGood.{IsGood-grown}

module _ {P E : Type 0} (config : Config) (chain : Chain) (a m : Seen P E) (t : ℕ) (buffer : List Block) (waiting : Waiting) (nested : IsNested a.held.blocks) (certs_nested : IsNested a.held.certs) (finishes : FinishesSync t a m) where
  -- no more is left than was, and all that was sure is sure
  pub Grown-finished : {T : Type 0} (old new : Kept (At T)) → IsNested old → IsNested new → MakesSure old new → Grown old [] new
  Grown-finished old new old_nested new_nested makes = record {
    leaves = record {
      sure = λ h v low is. makes.sure h v is;
      held = λ x low has. new_nested.held_may x (subst (λ xs. Contains xs x) (sym makes.held) has);
      may = λ x has. Contains-append_left old.may [] x (makes.may x has);
      sure_may = λ h v is. new_nested.held_may _ (Contains-from_value new.held h v (new_nested.sure_held h v is));
    };
    held = λ x has. subst (λ xs. Contains xs x) (sym makes.held) has;
  }

  KeepsFrom-finished : {T : Type 0} (old new : Kept (At T)) → MakesSure old new → KeepsFrom 0 old new
  KeepsFrom-finished old new makes = record { held = λ h v low is. subst (λ xs. value_at xs h ≡ Some v) (sym makes.held) is; sure = λ h v is has. makes.sure h v is }

  written : (w : Writes (node_of a buffer waiting) (sync_finished t) no_floor (node_of m buffer waiting)) × (w.repaired ≡ []) × (w.blocking ≡ 0)
  written = Writes-none a m (sync_finished t) buffer waiting waiting refl finishes.blocks.held (ap (λ s. s.held.writes.covered) finishes.same) (ap (λ s. s.held.writes.uncovered) finishes.same ∙ ap (λ k. drop (k - a.held.writes.covered) a.held.writes.uncovered) (sym (ap (λ s. s.held.writes.covered) finishes.same))) (ap (λ s. s.held.writes.syncs) finishes.same)

  -- a sync of both archives that finished, or one that wasn't open, reaches the actor in which it makes more sure
  pub Reaches-finished : AreCached a.held → NoneHas t a.held.cache.syncs → IsNested m.held.blocks → IsNested m.held.certs → Reaches config chain a (sync_finished t) buffer waiting [] m
  Reaches-finished cached none new_nested new_certs = record {
    comes = record {
      no_part = record { no_effect = refl; no_query = refl; no_fault = refl; sends = refl; answers = λ lowest. ap (λ o. map (λ k. to k true_value) (option_to_list o)) (waits-none t a.held.cache.syncs none); subscriptions = refl; no_syncs = λ n'. refl };
      kept = ap (λ s. s.life.out) finishes.same;
      next_ack = ap (λ s. s.life.next_ack) finishes.same;
      next_sync = ap (λ s. s.held.writes.next_sync) finishes.same;
      sizes = ap (λ s. s.life.sizes) finishes.same;
      processed = ap (λ s. s.held.processed) finishes.same;
      cutoff = ap (λ s. s.held.cutoff) finishes.same;
      blocks = record { keeps = KeepsFrom-finished a.held.blocks m.held.blocks finishes.blocks; put = []; grown = Grown-finished a.held.blocks m.held.blocks nested new_nested finishes.blocks; of_chain = tt; own = λ x has. contains_none x has };
      certs = record { keeps = KeepsFrom-finished a.held.certs m.held.certs finishes.certs; put = []; grown = Grown-finished a.held.certs m.held.certs certs_nested new_certs finishes.certs; of_chain = tt; own = λ x has. contains_none x has };
      certificates = record {
        entered = λ h f is. inl (subst (λ xs. value_at xs h ≡ Some f) finishes.certs.held is);
        own = λ s f stores told none. inl (subst (λ xs. value_at xs s.height ≡ None) (sym finishes.certs.held) none);
      };
      writes = written.0;
      are_tips = tt;
      tips_rise = ap (λ s. s.life.tip) finishes.same;
      tips_chain = tt;
      cache = moves_none config chain a m (sync_finished t) buffer waiting refl refl (without-none t a.held.cache.syncs none) (covered-none t a.held.cache.syncs none) cached.own_lowest refl (ap (λ s. s.held.witnessed) finishes.same) (ap (λ s. s.held.cache) finishes.same) (ap (λ s. s.held.lowest) finishes.same) (ap (λ s. s.held.lowests) finishes.same);
      stored = tt;
      stored_late = tt;
    };
    no_repair = written.1;
    unblocked = written.2;
    enters = EntersAt-same _ (node_of a buffer waiting) (node_of m buffer waiting) finishes.blocks.held finishes.certs.held;
  }

  -- in which no more writes are counted
  pub total-same : IsOrdered a.held.writes → total_writes m.held.writes ≤ total_writes a.held.writes
  total-same ordered = let same : total_writes m.held.writes ≡ total_writes a.held.writes = ap (λ s. total_writes s.held.writes) finishes.same ∙ total-finished a.held.writes t ordered in omega arith

  -- the last write is still covered by an open sync, or by the one that finished
  sync_open : AllPairs (λ s u. s.ticket < u.ticket) a.held.writes.syncs → IsOrdered a.held.writes → (0 < length a.held.writes.uncovered → Contains (map (λ s. s.position) a.held.writes.syncs) (total_writes a.held.writes)) → 0 < length (with_finished t a.held.writes).uncovered → Contains (map (λ s. s.position) (with_finished t a.held.writes).syncs) (total_writes (with_finished t a.held.writes))
  sync_open ascend ordered last some = subst (Contains (map (λ s. s.position) (with_finished t a.held.writes).syncs)) (sym (total-finished a.held.writes t ordered)) (by (position-stays a.held.writes.syncs t (total_writes a.held.writes) ascend (last before)))
    where
      left : length (with_finished t a.held.writes).uncovered ≡ length a.held.writes.uncovered - (max a.held.writes.covered (position_of a.held.writes.syncs t) - a.held.writes.covered)
      left = length-drop (max a.held.writes.covered (position_of a.held.writes.syncs t) - a.held.writes.covered) a.held.writes.uncovered

      before : 0 < length a.held.writes.uncovered
      before = omega (arith, left, some)

      by : (position_of a.held.writes.syncs t ≡ total_writes a.held.writes) ⊎ Contains (map (λ s. s.position) (without_sync t a.held.writes.syncs)) (total_writes a.held.writes) → Contains (map (λ s. s.position) (without_sync t a.held.writes.syncs)) (total_writes a.held.writes)
      by (inl whole) = absurd (omega (arith, left, some, whole))
      by (inr stays) = stays

  -- the node that it leaves is good
  pub IsGood-finished : IsOrdered a.held.writes → IsNested m.held.blocks → IsNested m.held.certs → IsGood config chain (node_of a buffer waiting) → IsGood config chain (node_of m buffer waiting)
  IsGood-finished ordered new_nested new_certs good =
      IsGood-grown config chain a buffer waiting good m (nested_heights m.held.blocks new_nested) (nested_heights m.held.certs new_certs) (ap (λ s. s.life.out) finishes.same)
      (ap (λ s. s.held.processed) finishes.same) (subst (IsCacheOf chain) (sym (ap (λ s. s.held.cache.kept) finishes.same)) good.of_chain.cache)
      (ap (λ s. s.held.pairs) finishes.same ∙ (good.heights.own_pair ∙ sym (ap (λ s. pair_of s.held.processed s.held.cutoff ∷ []) finishes.same)))
      finishes.written.blocks finishes.written.certs
      (subst (λ s. 0 < length s.held.writes.uncovered → Contains (map (λ u. u.position) s.held.writes.syncs) (total_writes s.held.writes)) (sym same)
      (sync_open ordered.ascend ordered good.heights.sync_open))
      (λ h low has. stays h has) (subst (AreBlocksOf chain) (sym finishes.blocks.held) good.of_chain.stores.held_blocks)
      (AllByRecursion-within (λ x. IsBlockAt chain x.height x.value) m.held.blocks.may a.held.blocks.may finishes.blocks.may good.of_chain.stores.may_blocks)
      (subst (AreFinalizationsOf chain) (sym finishes.certs.held) good.of_chain.stores.held_certs)
      (AllByRecursion-within (λ x. Finalizes chain x.height x.value.round x.value.payload) m.held.certs.may a.held.certs.may finishes.certs.may good.of_chain.stores.may_certs)
      (subst (λ c. FloorSafe (option_map height_in a.held.processed) c m.held.blocks.sure chain) (sym (ap (λ s. s.held.cutoff) finishes.same))
      (FloorSafe-still chain (option_map height_in a.held.processed) a.held.cutoff a.held.blocks.sure m.held.blocks.sure (λ has. stays _ has) good.of_chain.floor_safe))
      (subst (λ xs. AllByRecursion (λ x. x.height ≤ m.life.tip) xs) (sym finishes.certs.held)
      (subst (λ k. AllByRecursion (λ x. x.height ≤ k) a.held.certs.held) (sym (ap (λ s. s.life.tip) finishes.same)) good.of_chain.tip_reported))
    where
      same : m ≡ record a { held = record a.held { blocks = m.held.blocks; certs = m.held.certs; writes = with_finished t a.held.writes; watches = m.held.watches } }
      same = finishes.same

      stays : (h : ℕ) → IsTrue (has_height a.held.blocks.sure h) → IsTrue (has_height m.held.blocks.sure h)
      stays h has = keeps_heights a.held.blocks.sure m.held.blocks.sure finishes.blocks.sure h has

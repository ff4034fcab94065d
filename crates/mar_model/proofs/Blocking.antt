-- A blocking sync of both archives behind what an event has reached.
use Rattle.mar_store.specs.Kept.{At, Kept, has_height, value_at}
use Rattle.std.proofs.Common.{◌≡◌, List, [], ◌∷◌, ◌++◌, length, max, drop, None, true, false, ℕ, ◌+◌, ◌-◌, ◌≤◌, arith, refl, sym, ◌∙◌, ap, ap₂, subst, append-nil, length-append, Some, IsTrue}
use Rattle.std.proofs.lemmas.List.{drop_all}
use Rattle.mar_cert.specs.Block.{Block}
use Rattle.mar_gate.specs.Writing.{Writing, total_writes, with_all_covered}
use Rattle.mar_key.specs.Keys.{Call}
use Rattle.mar_model.specs.Acts.{AreLawful, SyncsBoth, SyncsUncovered}
use Rattle.mar_model.specs.Chain.{Chain}
use Rattle.mar_model.specs.Config.{Config}
use Rattle.mar_model.specs.Event.{Event, life_started, no_floor}
use Rattle.mar_model.specs.Held.{AreWritten, Grew, Held, MakesSure, Remembered, Seen, nothing_written}
use Rattle.mar_model.specs.Promise.{Waiting, node_of}
use Rattle.mar_model.specs.Scene.{Scene}
use Rattle.mar_model.specs.Step.{Report}
use Rattle.mar_model.proofs.CacheOver.{AdvancesCache-beside}
use Rattle.mar_model.proofs.Growing.{Grown, Grown-blocks, Grown-certs, Grown-then}
use Rattle.mar_model.proofs.Reaching.{PutsOwn, ReachesBy}
use Rattle.mar_model.proofs.SyncPromise.{at}

-- where no write waits, both are as a sync would leave them
pub synced_both : (old new : Held) → AreLawful old → SyncsUncovered old.writes.uncovered old new → SyncsBoth old new
synced_both old new law syncs = by old.writes.uncovered refl syncs
  where
    by : (us : List ℕ) → old.writes.uncovered ≡ us → SyncsUncovered us old new → SyncsBoth old new
    by (h ∷ us) some both = both
    by [] none same = record {
      blocks = subst (λ (h : Held). MakesSure old.blocks h.blocks) (sym same) (record { held = refl; sure = λ h v is. is; may = λ x has. has });
      certs = subst (λ (h : Held). MakesSure old.certs h.certs) (sym same) (record { held = refl; sure = λ h v is. is; may = λ x has. has });
      written = subst (λ (h : Held). AreWritten h) (sym same) (record { blocks = law.written.blocks; certs = law.written.certs; ordered = law.written.ordered });
      same = subst (λ (h : Held). h ≡ record old { blocks = h.blocks; certs = h.certs; writes = with_all_covered old.writes; watches = h.watches }) (sym same)
          (ap (λ w. record old { writes = w; watches = new.watches }) covered);
    }
      where
        total : total_writes old.writes ≡ old.writes.covered
        total = let nothing : length old.writes.uncovered ≡ 0 = ap length none in omega arith

        rises : max old.writes.covered (total_writes old.writes) ≡ old.writes.covered
        rises = let is : total_writes old.writes ≡ old.writes.covered = total in omega arith

        left : drop (max old.writes.covered (total_writes old.writes) - old.writes.covered) old.writes.uncovered ≡ old.writes.uncovered
        left = subst (λ us. drop (max old.writes.covered (total_writes old.writes) - old.writes.covered) us ≡ us) (sym none) (drop_all (max old.writes.covered (total_writes old.writes) - old.writes.covered) [] (omega arith))

        covered : old.writes ≡ with_all_covered old.writes
        covered = sym (ap₂ (λ c us. record old.writes { covered = c; uncovered = us }) rises left)

-- none waits behind it
pub none_waits : (w : Writing) → (with_all_covered w).uncovered ≡ []
none_waits w = drop_all (max w.covered (total_writes w) - w.covered) w.uncovered (omega arith)

-- what an event put stays as a sync makes more of it sure
synced : {T : Type 0} (OfChain Own : At T → Type 0) (bound : ℕ) (old new later : Kept (At T)) → PutsOwn OfChain Own bound old new → later.held ≡ new.held
    → ((h : ℕ) (v : T) → value_at new.sure h ≡ Some v → value_at later.sure h ≡ Some v) → Grown new [] later → PutsOwn OfChain Own bound old later
synced OfChain Own bound old new later puts held sure grown = record {
  keeps = record {
    held = λ h v low is. subst (λ xs. value_at xs h ≡ Some v) (sym held) (puts.keeps.held h v low is);
    sure = λ h v at_h has. sure h v (puts.keeps.sure h v at_h (subst (λ xs. IsTrue (has_height xs h)) held has));
  };
  put = puts.put;
  grown = subst (λ xs. Grown old xs later) (append-nil puts.put) (Grown-then old puts.put new [] later puts.grown grown);
  of_chain = puts.of_chain;
  own = puts.own;
}

module _ {P E : Type 0} (life : Remembered P E) (config : Config) (chain : Chain) (a : Seen P E) (buffer : List Block) (waiting : Waiting) (tips : List Report) (more : List Call) (t : Scene) (v : Held)
    (reach : ReachesBy config chain a (life_started None) buffer waiting tips more (at life t)) (syncs : SyncsBoth t.held v) (grew : Grew t.held nothing_written v)
    (covered : t.held.writes.covered ≡ a.held.writes.covered) where
  abbrev e : Event
  e = life_started None

  blocks_is : v.blocks ≡ record t.held.blocks { sure = v.blocks.sure; may = v.blocks.may }
  blocks_is = ap (λ xs. record v.blocks { held = xs }) syncs.blocks.held

  certs_is : v.certs ≡ record t.held.certs { sure = v.certs.sure; may = v.certs.may }
  certs_is = ap (λ xs. record v.certs { held = xs }) syncs.certs.held

  -- in parts: what is held stays, and what is sure and may be left is as the sync left it
  abbrev parts : Held
  parts = record t.held {
    blocks = record t.held.blocks { sure = v.blocks.sure; may = v.blocks.may };
    certs = record t.held.certs { sure = v.certs.sure; may = v.certs.may };
    writes = with_all_covered t.held.writes;
    watches = v.watches;
  }

  v_is : v ≡ parts
  v_is = syncs.same ∙ ap₂ (λ b c. record t.held { blocks = b; certs = c; writes = with_all_covered t.held.writes; watches = v.watches }) blocks_is certs_is

  uncovered : t.held.writes.uncovered ≡ a.held.writes.uncovered ++ reach.comes.writes.repaired
  uncovered = reach.comes.writes.uncovered ∙ ap (λ k. drop k (a.held.writes.uncovered ++ reach.comes.writes.repaired)) none
    where
      none : t.held.writes.covered - a.held.writes.covered ≡ 0
      none = let same : t.held.writes.covered ≡ a.held.writes.covered = covered in omega arith

  total : total_writes t.held.writes ≡ a.held.writes.covered + length (a.held.writes.uncovered ++ reach.comes.writes.repaired)
  total = ap₂ (λ c us. c + length us) covered uncovered

  pub ReachesBy-synced : ReachesBy config chain a e buffer waiting tips more (at life (record t { held = v }))
  ReachesBy-synced = subst (λ h. ReachesBy config chain a e buffer waiting tips more (at life (record t { held = h }))) (sym v_is) (record {
    comes = record {
      no_part = reach.comes.no_part;
      kept = reach.comes.kept;
      next_ack = reach.comes.next_ack;
      next_sync = reach.comes.next_sync;
      sizes = reach.comes.sizes;
      processed = reach.comes.processed;
      cutoff = reach.comes.cutoff;
      blocks = subst (PutsOwn _ _ _ a.held.blocks) blocks_is
          (synced _ _ _ a.held.blocks t.held.blocks v.blocks reach.comes.blocks syncs.blocks.held syncs.blocks.sure (Grown-blocks t.held v nothing_written refl grew));
      certs = subst (PutsOwn _ _ _ a.held.certs) certs_is
          (synced _ _ _ a.held.certs t.held.certs v.certs reach.comes.certs syncs.certs.held syncs.certs.sure (Grown-certs t.held v nothing_written refl grew));
      certificates = record { entered = reach.comes.certificates.entered; own = reach.comes.certificates.own };
      writes = record {
        repaired = reach.comes.writes.repaired;
        by_repair = reach.comes.writes.by_repair;
        each_once = reach.comes.writes.each_once;
        blocking = total_writes t.held.writes;
        within = within;
        at_least = omega arith;
        covered = ap (λ c. max c (total_writes t.held.writes)) covered ∙ ap (λ c. max c (total_writes t.held.writes)) (omega arith);
        uncovered = ap₂ (λ c us. drop (max t.held.writes.covered (total_writes t.held.writes) - c) us) covered uncovered;
        syncs = reach.comes.writes.syncs;
      };
      are_tips = reach.comes.are_tips;
      tips_rise = reach.comes.tips_rise;
      tips_chain = reach.comes.tips_chain;
      cache = record {
        put = reach.comes.cache.put;
        prunes = reach.comes.cache.prunes;
        own = reach.comes.cache.own;
        leaves = reach.comes.cache.leaves;
        advances = AdvancesCache-beside config (node_of a buffer waiting) e no_floor (at life t) (at life (record t { held = parts })) buffer buffer waiting waiting refl reach.comes.cache.advances;
      };
      stored = tt;
      stored_late = tt;
    };
    repairs = record { at_hand = reach.repairs.at_hand; with_finalization = reach.repairs.with_finalization };
    unrepaired = reach.unrepaired;
    unblocked = λ n' unblocking. absurd (let no : true ≡ false = unblocking in cc);
    enters = record { blocks = reach.enters.blocks; certs = reach.enters.certs };
    once = reach.once;
    idle = reach.idle;
    repaired = reach.repaired;
    fetches = reach.fetches;
  })
    where
      within : total_writes t.held.writes ≤ (a.held.writes.covered + length a.held.writes.uncovered) + length reach.comes.writes.repaired
      within =
          let all : total_writes t.held.writes ≡ a.held.writes.covered + length (a.held.writes.uncovered ++ reach.comes.writes.repaired) = total in
          let both : length (a.held.writes.uncovered ++ reach.comes.writes.repaired) ≡ length a.held.writes.uncovered + length reach.comes.writes.repaired = length-append a.held.writes.uncovered reach.comes.writes.repaired in
          omega arith

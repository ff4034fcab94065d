-- What stands of the stores since an event began, and what a failed call leaves of them: one law for every act.
use Rattle.std.proofs.Common.{◌≡◌, ⊎_elim, ℕ, ◌≤◌, List, ◌++◌, subst, arith}
use Rattle.std.proofs.lemmas.List.Elements.{Contains-append_cases, Contains-append_right}
use Rattle.mar_store.specs.Kept.{At, Kept}
use Rattle.mar_store.specs.Changes.{Left, Within, left_of}
use Rattle.mar_model.specs.Held.{Grew, Held, LeavesCache, LeavesMore, LeavesStore, WithinWritten, Written, blocks_left, cache_left, certs_left}
use Rattle.mar_model.specs.Node.{Ended}
use Rattle.mar_model.proofs.CacheOver.{LeavesCache-then}
use Rattle.mar_model.proofs.Growing.{Grew-refl, Grown, Grown-blocks, Grown-certs, LeavesCache-refl, LeavesStore-refl, WithinWritten-refl}
use Rattle.mar_model.specs.Acts.{AreLawful, Joins}

-- what was put since, and then more of it
more_within : {T : Type 0} (start now put more : List T) → Within now (start ++ put) → Within more put → Within (now ++ more) (start ++ put)
more_within start now put more before within x has = ⊎_elim (λ there. before x there) (λ new. Contains-append_right start put x (within x new)) (Contains-append_cases now more x has)

-- a store has become this since the start, and a call leaves that of it
pub LeavesStore-onto : {T : Type 0} (start : Kept (At T)) (put : List (At T)) (now : Kept (At T)) (more : List (At T)) (left : Left (At T)) → Grown start put now → LeavesStore now 0 more left → Within more put → LeavesStore start 0 put left
LeavesStore-onto start put now more left grown leaves within = record {
  sure = λ h v low is. leaves.sure h v low (grown.leaves.sure h v low is);
  held = λ x low has. leaves.held x low (grown.held x has);
  may = λ x has. more_within start.may now.may put more grown.leaves.may within x (leaves.may x has);
  sure_may = leaves.sure_may;
}

pub Grown-onto : {T : Type 0} (start : Kept (At T)) (put : List (At T)) (now : Kept (At T)) (more : List (At T)) (new : Kept (At T)) → Grown start put now → Grown now more new → Within more put → Grown start put new
Grown-onto start put now more new grown next within = record {
  leaves = LeavesStore-onto start put now more (left_of new) grown next.leaves within;
  held = λ x has. next.held x (grown.held x has);
}

-- What the stores have become since the start, of which nothing else was written, and nothing pruned but the cache.
pub record Since (start : Held) (all : Written) (now : Held) : Type 0 where
  pub blocks : Grown start.blocks all.blocks now.blocks
  pub certs : Grown start.certs all.certs now.certs
  pub cache : LeavesCache (left_of start.cache.kept) start.lowests all.cached all.prunes (left_of now.cache.kept) now.lowests

-- What is left of them.
pub record LeavesSince (start : Held) (all : Written) (left : Ended) : Type 0 where
  pub blocks : LeavesStore start.blocks 0 all.blocks (blocks_left left)
  pub certs : LeavesStore start.certs 0 all.certs (certs_left left)
  pub cache : LeavesCache (left_of start.cache.kept) start.lowests all.cached all.prunes (cache_left left) left.lowests

pub Since-refl : (start : Held) (all : Written) → AreLawful start → Since start all start
Since-refl start all law = record {
  blocks = record { leaves = LeavesStore-refl start.blocks 0 all.blocks law.blocks; held = λ x has. has };
  certs = record { leaves = LeavesStore-refl start.certs 0 all.certs law.certs; held = λ x has. has };
  cache = LeavesCache-refl (left_of start.cache.kept) start.lowests all.cached all.prunes;
}

low_none : (k all : ℕ) → k ≤ all → all ≡ 0 → k ≡ 0
low_none k all low none = omega (arith, low, none)

module _ (start : Held) (all : Written) (unpruned : all.blocks_from ≡ 0) (certs_unpruned : all.certs_from ≡ 0) (now : Held) (since : Since start all now) (more : Written) (within : WithinWritten more all) where
  -- a call went well
  pub Since-then : (new : Held) → Grew now more new → Since start all new
  Since-then new grew = record {
    blocks = Grown-onto start.blocks all.blocks now.blocks more.blocks new.blocks since.blocks (Grown-blocks now new more (low_none _ _ within.blocks_from unpruned) grew) within.blocks;
    certs = Grown-onto start.certs all.certs now.certs more.certs new.certs since.certs (Grown-certs now new more (low_none _ _ within.certs_from certs_unpruned) grew) within.certs;
    cache = LeavesCache-then (left_of start.cache.kept) start.lowests (left_of now.cache.kept) now.lowests (left_of new.cache.kept) new.lowests all.cached more.cached all.cached all.prunes more.prunes all.prunes (λ x has. has) within.cached (λ x has. has) within.prunes since.cache grew.leaves.cache;
  }

  pub Since-joined : (new : Held) → AreLawful now → Joins now more new → Since start all new
  Since-joined new law joins = Since-then new (joins now more (Grew-refl now more law.blocks law.certs) (WithinWritten-refl more))

  -- LOST: what a failed call leaves, whatever act it was
  pub Since-left : (left : Ended) → LeavesMore now more left → LeavesSince start all left
  Since-left left leaves = record {
    blocks = LeavesStore-onto start.blocks all.blocks now.blocks more.blocks (blocks_left left) since.blocks (subst (λ k. LeavesStore now.blocks k more.blocks (blocks_left left)) (low_none _ _ within.blocks_from unpruned) leaves.blocks) within.blocks;
    certs = LeavesStore-onto start.certs all.certs now.certs more.certs (certs_left left) since.certs (subst (λ k. LeavesStore now.certs k more.certs (certs_left left)) (low_none _ _ within.certs_from certs_unpruned) leaves.certs) within.certs;
    cache = LeavesCache-then (left_of start.cache.kept) start.lowests (left_of now.cache.kept) now.lowests (cache_left left) left.lowests all.cached more.cached all.cached all.prunes more.prunes all.prunes (λ x has. has) within.cached (λ x has. has) within.prunes since.cache leaves.cache;
  }

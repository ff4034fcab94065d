-- What the openings of two stores come to for all four.
use Rattle.std.proofs.Common.{◌≡◌, ◌⊎◌, ◌<◌, ◌∷◌, [], ◌&&◌, inl, inr, ℕ, Bool, Contains, List, length, map, refl, sym, ap, ◌∙◌, arith, subst}
use Rattle.mar_cert.specs.Block.{Block}
use Rattle.mar_cert.specs.Finalization.{Finalization}
use Rattle.mar_store.specs.Changes.{Left, left_of}
use Rattle.mar_store.specs.Kept.{At, Kept}
use Rattle.mar_store.specs.Values.{Values}
use Rattle.mar_store.specs.Watch.{Watch}
use Rattle.mar_model.specs.Cached.{Cached, IsUnloaded}
use Rattle.mar_model.specs.Faults.{Fault, StoreName, block_store, cache_store, cert_store, meta_store, store_fault, want_of_memory}
use Rattle.mar_model.specs.Held.{FailsInOrder, LosesOpening, Progress, Remains, ReopensAs, ended_of, nothing_written, opening_place, progress_of}
use Rattle.mar_model.specs.Metadata.{pair_at}
use Rattle.mar_model.specs.Writing.{no_writes}
use Rattle.mar_model.specs.declared.CacheTicket.{CacheTicket}
use Rattle.mar_model.proofs.Cutting.{only_one}
use Rattle.mar_model.proofs.Reopenings.{lost_blocks, lost_certs, lost_meta, lost_shelf, reopens}
use Rattle.mar_life.specs.Caching.{ClosesCache, LifeEntries, OpensCache, with_syncs}
use Rattle.mar_life.specs.Pooling.{Closes, ClosesPairs, IsFaultOf, Opens, OpensPairs, Unopens, UnopensPairs}

-- a store's fault is no other's
own_store : (s k : StoreName) (old now : Watch) (fault : Fault) → IsFaultOf s old fault now → fault ≡ store_fault k → s ≡ k
own_store s k old now fault (inl (own, broke)) is = same (sym own ∙ is)
  where
    same : store_fault s ≡ store_fault k → s ≡ k
    same both = cc
own_store s k old now fault (inr (memory, passed)) is = absurd (let both : want_of_memory ≡ store_fault k = sym memory ∙ is in cc)

-- none stands behind the cache
none_behind : (t : StoreName) → 3 < opening_place t → ⊥
none_behind block_store behind = omega (arith, behind)
none_behind cert_store behind = omega (arith, behind)
none_behind meta_store behind = omega (arith, behind)
none_behind cache_store behind = omega (arith, behind)

module _ {W X Y : Type 0} (left : W → Left (At Block)) (watch : W → Watch) (left_2 : X → Left (At Finalization)) (watch_2 : X → Watch) (values : Y → List Values) (watch_3 : Y → Watch) (blocks : W) (certs : X) (meta : Y) (waits : Left Cached) (lowests : List ℕ) (cache : Watch) where
  -- what was left of all four
  abbrev pub before : Remains
  before = record { ended = ended_of (left blocks) (left_2 certs) waits lowests (map pair_at (values meta)); watches = record { blocks = watch blocks; certs = watch_2 certs; meta = watch_3 meta; cache = cache } }

  -- the archives were not opened
  pub archives_lost : (first : W) (second : X) (fault : Fault) → Unopens block_store left watch blocks first fault × (second ≡ certs) ⊎ Closes left watch blocks first × Unopens cert_store left_2 watch_2 certs second fault
      → LosesOpening before nothing_written (record { fault = fault; remains = record { ended = ended_of (left first) (left_2 second) waits lowests (map pair_at (values meta)); watches = record { blocks = watch first; certs = watch_2 second; meta = watch_3 meta; cache = cache } } })
  archives_lost first second fault (inl (failed, same)) = rw same (lost_blocks (left blocks) (left_2 certs) waits lowests (values meta) _ (left first) fault (watch first) failed.fails failed.cause)
  archives_lost first second fault (inr (closed, failed)) = rw closed.is (lost_certs (left blocks) (left_2 certs) waits lowests (values meta) _ closed.kept (watch first) closed.found closed.passed (left_2 second) fault (watch_2 second) failed.fails failed.cause)

  -- and no store was called behind the one that failed
  pub archives_in_order : (first : W) (second : X) (fault : Fault) → Unopens block_store left watch blocks first fault × (second ≡ certs) ⊎ Closes left watch blocks first × Unopens cert_store left_2 watch_2 certs second fault
      → FailsInOrder before (record { fault = fault; remains = record { ended = ended_of (left first) (left_2 second) waits lowests (map pair_at (values meta)); watches = record { blocks = watch first; certs = watch_2 second; meta = watch_3 meta; cache = cache } } })
  archives_in_order first second fault kind s block_store is behind = absurd (omega (arith, behind))
  archives_in_order first second fault (inl (failed, same)) s cert_store is behind = ap watch_2 same
  archives_in_order first second fault (inr (closed, failed)) s cert_store is behind = absurd (let low : 1 < 1 = subst (λ k. opening_place k < 1) (sym (own_store cert_store s _ _ fault failed.cause is)) behind in omega (arith, low))
  archives_in_order first second fault kind s meta_store is behind = refl
  archives_in_order first second fault kind s cache_store is behind = refl

  module _ {S R : Type 0} (stored : S → Kept (At Block)) (watch_open : S → Watch) (stored_2 : R → Kept (At Finalization)) (watch_open_2 : R → Watch) (luck : ℕ) (s : S) (r : R) (first : Opens stored left watch_open watch luck blocks s) (second : Opens stored_2 left_2 watch_open_2 watch_2 luck certs r) (some : 0 < length (values meta)) where
    module _ {Z : Type 0} (left_4 : Z → Left Cached) (lowests_4 : Z → List ℕ) (watch_4 : Z → Watch) (shelf : Z) (of_waits : left_4 shelf ≡ waits) (of_lowests : lowests_4 shelf ≡ lowests) (of_cache : watch_4 shelf ≡ cache) where
      -- they were opened, and the others were not
      pub progress_lost : (third : Y) (fourth : Z) (fault : Fault) → UnopensPairs values watch_3 meta third fault × (fourth ≡ shelf) ⊎ ClosesPairs values watch_3 meta third × ClosesCache left_4 lowests_4 watch_4 shelf fourth fault
          → LosesOpening before nothing_written (record { fault = fault; remains = record { ended = ended_of (left_of (stored s)) (left_of (stored_2 r)) (left_4 fourth) (lowests_4 fourth) (map pair_at (values third)); watches = record { blocks = watch_open s; certs = watch_open_2 r; meta = watch_3 third; cache = watch_4 fourth } } })
      progress_lost third fourth fault (inl (failed, same)) = rw (same, of_waits, of_lowests, of_cache) (lost_meta (left blocks) (left_2 certs) waits lowests (values meta) _ (stored s) (watch_open s) first.found first.passed (stored_2 r) (watch_open_2 r) second.found second.passed (values third) fault (watch_3 third) some failed.leaves failed.cause)
      progress_lost third fourth fault (inr (closed, unopened)) = rw closed.is (lost_shelf (left blocks) (left_2 certs) waits lowests (values meta) _ (stored s) (watch_open s) first.found first.passed (stored_2 r) (watch_open_2 r) second.found second.passed closed.values (progress_of (pair_at closed.values) (watch_3 third)) (watch_3 third) closed.may refl closed.passed (left_4 fourth) (lowests_4 fourth) fault (watch_4 fourth) (rw (of_waits, of_lowests) at unopened.leaves) (rw of_cache at unopened.cause))

      pub progress_in_order : (third : Y) (fourth : Z) (fault : Fault) → UnopensPairs values watch_3 meta third fault × (fourth ≡ shelf) ⊎ ClosesPairs values watch_3 meta third × ClosesCache left_4 lowests_4 watch_4 shelf fourth fault
          → FailsInOrder before (record { fault = fault; remains = record { ended = ended_of (left_of (stored s)) (left_of (stored_2 r)) (left_4 fourth) (lowests_4 fourth) (map pair_at (values third)); watches = record { blocks = watch_open s; certs = watch_open_2 r; meta = watch_3 third; cache = watch_4 fourth } } })
      progress_in_order third fourth fault (inl (failed, same)) k cache_store is behind = ap watch_4 same ∙ of_cache
      progress_in_order third fourth fault (inl (failed, same)) k block_store is behind = absurd (omega (arith, behind))
      progress_in_order third fourth fault (inl (failed, same)) k cert_store is behind = absurd (let low : 2 < 1 = subst (λ j. opening_place j < 1) (sym (own_store meta_store k _ _ fault failed.cause is)) behind in omega (arith, low))
      progress_in_order third fourth fault (inl (failed, same)) k meta_store is behind = absurd (let low : 2 < 2 = subst (λ j. opening_place j < 2) (sym (own_store meta_store k _ _ fault failed.cause is)) behind in omega (arith, low))
      progress_in_order third fourth fault (inr (closed, unopened)) k t is behind = absurd (let low : 3 < opening_place t = subst (λ j. opening_place j < opening_place t) (sym (own_store cache_store k _ _ fault unopened.cause is)) behind in none_behind t low)

      -- all four were opened
      pub all_opened : {H : Type 0} (held : H → LifeEntries) (covers : H → CacheTicket → List Cached) (lowest : H → ℕ) (lowests_open : H → List ℕ) (intact : H → Bool) (watch_open_4 : H → Watch) (opened : H) (progress : Progress) → OpensPairs (values meta) (watch_3 meta) luck progress → OpensCache held lowest lowests_open intact left_4 lowests_4 watch_open_4 watch_4 luck shelf opened
          → ReopensAs before luck (record { blocks = stored s; certs = stored_2 r; processed = progress.processed; cutoff = progress.cutoff; witnessed = progress.witnessed; pairs = progress.pairs; cache = with_syncs (held opened) (covers opened) []; lowest = lowest opened; lowests = lowests_open opened; writes = no_writes; watches = record { blocks = watch_open s; certs = watch_open_2 r; meta = progress.watch; cache = watch_open_4 opened }; intact = intact opened && progress.intact })
      all_opened held covers lowest lowests_open intact watch_open_4 opened progress pairs opens = rw (opens.intact_is, opens.lowest_is) (reopens (left blocks) (left_2 certs) waits lowests (values meta) _ (stored s) (watch_open s) first.found first.passed (stored_2 r) (watch_open_2 r) second.found second.passed pairs.values progress pairs.now pairs.may pairs.is pairs.passed luck (with_syncs (held opened) (covers opened) []) (lowest opened) (lowest opened ∷ []) (watch_open_4 opened) (subst (λ l. IsUnloaded l.sure l.may (left_of (held opened).kept)) of_waits (record { with_sure = opens.found.sure; within_may = opens.found.may; sure_may = opens.nested })) opens.found.held opens.fresh_is (rw (of_waits, of_cache) at opens.picked) refl (0, omega arith, refl) (λ k has. subst (Contains lowests) (only_one (lowest opened) k has) (rw of_lowests at opens.lowest_was)) (rw of_cache at opens.passed) some first.lucky second.lucky pairs.lucky)

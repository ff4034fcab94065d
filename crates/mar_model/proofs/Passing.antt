-- Counted calls one after another: none failed, or the last one did.
use Rattle.std.proofs.Common.{◌≡◌, ◌⊎◌, inl, inr, ℕ, zero, suc, false, Err, refl, sym, ◌∙◌, ap, subst}
use Rattle.mar_store.specs.Watch.{HeedsOrNot, Heeds, HeedsRead, Strikes, Watch, counted, is_due}
use Rattle.mar_store.specs.Lost.{wreck_of}
use Rattle.mar_store.specs.declared.Lost.{Lost}
use Rattle.mar_store.specs.declared.Lost.TheVariants.{Fault as Broke, Memory as Forgot}
use Rattle.mar_store.specs.declared.Miss.{Miss}
use Rattle.mar_store.specs.declared.Miss.TheVariants.{Fault as Missed, Memory as NoRoom}
use Rattle.mar_model.specs.Faults.{Fault, StoreName, block_store, cache_store, cert_store, meta_store, store_fault, want_of_memory}
use Rattle.mar_model.specs.Held.{ArePassed, Breaks, FailsBy, IsNoStores, Passes, Unarmed, Watches, counted_calls, lost_fault, missed_fault, watch_of}

-- ONE STORE

pub Passes-refl : (w : Watch) → Passes w w
Passes-refl w = record { calls = zero; unarmed = tt; is = refl }

pub Passes-one : (old new : Watch) → is_due old.due ≡ false → new ≡ counted old → Passes old new
Passes-one old new unarmed is = record { calls = suc zero; unarmed = (unarmed, tt); is = is }

pub Passes-same : (old new : Watch) → new ≡ old → Passes old new
Passes-same old new is = subst (Passes old) (sym is) (Passes-refl old)

-- a call that may find nothing to do
pub Passes-or_idle : (old new : Watch) → (new ≡ old) ⊎ ((is_due old.due ≡ false) × (new ≡ counted old)) → Passes old new
Passes-or_idle old new (inl is) = Passes-same old new is
Passes-or_idle old new (inr (unarmed, is)) = Passes-one old new unarmed is

pub Passes-then : (start old new : Watch) → Passes start old → Passes old new → Passes start new
Passes-then start old new before after = go before.calls start before.unarmed (subst (λ w. Passes w new) before.is after)
  where
    go : (k : ℕ) (w : Watch) → Unarmed k w → Passes (counted_calls k w) new → Passes w new
    go zero w none rest = rest
    go (suc k) w none rest = let more = go k (counted w) none.1 rest in record { calls = suc more.calls; unarmed = (none.0, more.unarmed); is = more.is }

pub Breaks-then : (start old new : Watch) → Passes start old → Breaks old new → Breaks start new
Breaks-then start old new before after = record { mid = after.mid; passes = Passes-then start old after.mid before after.passes; strikes = after.strikes }

-- no count of faults rose
pub faults-passed : (old new : Watch) → Passes old new → new.faults ≡ old.faults
faults-passed old new passes = ap (λ w. w.faults) passes.is ∙ by passes.calls old
  where
    by : (k : ℕ) (w : Watch) → (counted_calls k w).faults ≡ w.faults
    by zero w = refl
    by (suc k) w = by k (counted w)

-- ALL STORES

pub ArePassed-refl : (watches : Watches) → ArePassed watches watches
ArePassed-refl watches = λ s. Passes-refl (watch_of watches s)

pub ArePassed-then : (start old new : Watches) → ArePassed start old → ArePassed old new → ArePassed start new
ArePassed-then start old new before after = λ s. Passes-then (watch_of start s) (watch_of old s) (watch_of new s) (before s) (after s)

pub FailsBy-then : (start old : Watches) (fault : Fault) (now : Watches) → ArePassed start old → FailsBy old fault now → FailsBy start fault now
FailsBy-then start old fault now before fails = record {
  broke = λ s is. Breaks-then (watch_of start s) (watch_of old s) (watch_of now s) (before s) (fails.broke s is);
  passed = λ s other. Passes-then (watch_of start s) (watch_of old s) (watch_of now s) (before s) (fails.passed s other);
}

-- the watches with this one in place of a store's
abbrev pub with_watch : Watches → StoreName → Watch → Watches
with_watch watches block_store w = record watches { blocks = w }
with_watch watches cert_store w = record watches { certs = w }
with_watch watches meta_store w = record watches { meta = w }
with_watch watches cache_store w = record watches { cache = w }

watch_of-with : (watches : Watches) (s : StoreName) (w : Watch) → watch_of (with_watch watches s w) s ≡ w
watch_of-with watches block_store w = refl
watch_of-with watches _ w = refl

-- one store's watch, or another's that stands
same_or_other : (s t : StoreName) → (s ≡ t) ⊎ (((watches : Watches) (w : Watch) → watch_of (with_watch watches s w) t ≡ watch_of watches t) × (s ≡ t → ⊥))
same_or_other block_store block_store = inl refl
same_or_other block_store cert_store = inr ((λ c k. refl), λ e. cc)
same_or_other block_store meta_store = inr ((λ c k. refl), λ e. cc)
same_or_other block_store cache_store = inr ((λ c k. refl), λ e. cc)
same_or_other cert_store block_store = inr ((λ c k. refl), λ e. cc)
same_or_other cert_store cert_store = inl refl
same_or_other cert_store meta_store = inr ((λ c k. refl), λ e. cc)
same_or_other cert_store cache_store = inr ((λ c k. refl), λ e. cc)
same_or_other meta_store block_store = inr ((λ c k. refl), λ e. cc)
same_or_other meta_store cert_store = inr ((λ c k. refl), λ e. cc)
same_or_other meta_store meta_store = inl refl
same_or_other meta_store cache_store = inr ((λ c k. refl), λ e. cc)
same_or_other cache_store block_store = inr ((λ c k. refl), λ e. cc)
same_or_other cache_store cert_store = inr ((λ c k. refl), λ e. cc)
same_or_other cache_store meta_store = inr ((λ c k. refl), λ e. cc)
same_or_other cache_store cache_store = inl refl

store_inside : (s t : StoreName) → store_fault s ≡ store_fault t → s ≡ t
store_inside s t e = cc

-- a call of one store went well
pub ArePassed-store : (watches : Watches) (s : StoreName) (w : Watch) → Passes (watch_of watches s) w → ArePassed watches (with_watch watches s w)
ArePassed-store watches s w passes t = by (same_or_other s t)
  where
    by : (s ≡ t) ⊎ (((c : Watches) (k : Watch) → watch_of (with_watch c s k) t ≡ watch_of c t) × (s ≡ t → ⊥)) → Passes (watch_of watches t) (watch_of (with_watch watches s w) t)
    by (inl same) = subst (λ u. Passes (watch_of watches u) (watch_of (with_watch watches s w) u)) same (subst (Passes (watch_of watches s)) (sym (watch_of-with watches s w)) passes)
    by (inr (stands, other)) = subst (Passes (watch_of watches t)) (sym (stands watches w)) (Passes-refl (watch_of watches t))

-- HOW A LIFE ENDS

-- one store's call failed, or memory ran out in it
pub FailsBy-store : (before : Watches) (s : StoreName) (w : Watch) (fault : Fault) (now : Watches) → now ≡ with_watch before s w → (fault ≡ store_fault s) × Breaks (watch_of before s) w ⊎ ((fault ≡ want_of_memory) × Passes (watch_of before s) w) → FailsBy before fault now
FailsBy-store before s w fault now watches how = record {
  broke = λ t is. subst (λ c. Breaks (watch_of before t) (watch_of c t)) (sym watches) (broke t is how);
  passed = λ t other. subst (λ c. Passes (watch_of before t) (watch_of c t)) (sym watches) (passed t other how (same_or_other s t));
}
  where
    broke : (t : StoreName) → fault ≡ store_fault t → (fault ≡ store_fault s) × Breaks (watch_of before s) w ⊎ ((fault ≡ want_of_memory) × Passes (watch_of before s) w) → Breaks (watch_of before t) (watch_of (with_watch before s w) t)
    broke t is (inl (by, breaks)) = subst (λ u. Breaks (watch_of before u) (watch_of (with_watch before s w) u)) (store_inside s t (sym by ∙ is)) (subst (Breaks (watch_of before s)) (sym (watch_of-with before s w)) breaks)
    broke t is (inr (memory, passes)) = absurd (let both : want_of_memory ≡ store_fault t = sym memory ∙ is in cc)

    passed : (t : StoreName) → (fault ≡ store_fault t → ⊥) → (fault ≡ store_fault s) × Breaks (watch_of before s) w ⊎ ((fault ≡ want_of_memory) × Passes (watch_of before s) w) → (s ≡ t) ⊎ (((c : Watches) (k : Watch) → watch_of (with_watch c s k) t ≡ watch_of c t) × (s ≡ t → ⊥)) → Passes (watch_of before t) (watch_of (with_watch before s w) t)
    passed t other (inl (by, breaks)) (inl same) = absurd (other (by ∙ ap store_fault same))
    passed t other (inr (memory, passes)) (inl same) = subst (λ u. Passes (watch_of before u) (watch_of (with_watch before s w) u)) same (subst (Passes (watch_of before s)) (sym (watch_of-with before s w)) passes)
    passed t other how (inr (stands, apart)) = subst (Passes (watch_of before t)) (sym (stands before w)) (Passes-refl (watch_of before t))

breaks_by : (old new : Watch) → Strikes old new → Breaks old new
breaks_by old new strikes = record { mid = old; passes = Passes-refl old; strikes = inl strikes }

pub by_lost : {S W : Type 0} (now : S → Watch) (left : W → Watch) (before : Watch) (s : StoreName) (lost : Lost W) → Heeds now left before (Err lost) → (lost_fault s lost ≡ store_fault s) × Breaks before (left (wreck_of lost)) ⊎ ((lost_fault s lost ≡ want_of_memory) × Passes before (left (wreck_of lost)))
by_lost now left before s (Broke w) strikes = inl (refl, breaks_by before (left w) strikes)
by_lost now left before s (Forgot w) (unarmed, is) = inr (refl, Passes-one before (left w) unarmed is)

pub by_lost_put : {S W : Type 0} (now : S → Watch) (left : W → Watch) (before : Watch) (s : StoreName) (lost : Lost W) → HeedsOrNot now left before (Err lost) → (lost_fault s lost ≡ store_fault s) × Breaks before (left (wreck_of lost)) ⊎ ((lost_fault s lost ≡ want_of_memory) × Passes before (left (wreck_of lost)))
by_lost_put now left before s (Broke w) strikes = inl (refl, breaks_by before (left w) strikes)
by_lost_put now left before s (Forgot w) (inl is) = inr (refl, subst (Passes before) (sym is) (Passes-refl before))
by_lost_put now left before s (Forgot w) (inr (unarmed, is)) = inr (refl, Passes-one before (left w) unarmed is)

pub by_miss : (T : Type 0) (before now : Watch) (s : StoreName) (miss : Miss) → HeedsRead {T = T} before now (Err miss) → (missed_fault s miss ≡ store_fault s) × Breaks before now ⊎ ((missed_fault s miss ≡ want_of_memory) × Passes before now)
by_miss T before now s Missed strikes = inl (refl, breaks_by before now strikes)
by_miss T before now s NoRoom (unarmed, is) = inr (refl, Passes-one before now unarmed is)

-- no store failed
pub FailsBy-nothing : (watches : Watches) (fault : Fault) → IsNoStores fault → FailsBy watches fault watches
FailsBy-nothing watches fault none = record {
  broke = λ s is. absurd (subst IsNoStores is none);
  passed = λ s other. Passes-refl (watch_of watches s);
}

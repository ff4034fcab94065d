-- What a start takes up of what a crash left, seen over all epochs.
use Rattle.std.proofs.Common.{◌≡◌, ◌≢◌, ◌⊎◌, inl, inr, ◌==◌, ◌&&◌, ◌||◌, ℕ, zero, suc, List, [], ◌∷◌, ◌++◌, Bool, true, false, IsFalse, Contains, refl, ap, ap₂, sym, subst, arith, ◌∙◌}
use Rattle.std.specs.List.{list_any}
use Rattle.std.proofs.lemmas.Bool.{ne_eqb}
use Rattle.std.proofs.lemmas.List.Folds.{list_any-append}
use Rattle.mar_store.specs.Changes.{Left, Within}
use Rattle.mar_model.specs.Cached.{Cached, EachPlaceOnce, epoch_of, same_place}
use Rattle.mar_epochs.specs.EpochArchives.{nothing_left}
use Rattle.mar_cache.specs.Bounds.{Bounds}
use Rattle.mar_cache.specs.AsOne.{IsLoaded, kept_of, up_to}
use Rattle.mar_model.specs.AllEntries.{EachOnce, LoadsEntries, is_in_place}
use Rattle.mar_epochs.specs.EpochStates.{EpochState, EpochStates, HasSome, IsBare, IsNestedEpoch, OpensEpoch, held_in, is_opened, may_in, opened, shut, sure_in}
use Rattle.mar_cache.specs.Laws.{LoadsAll}
use Rattle.mar_cache.specs.Shelved.{LieWithin}
use Rattle.mar_cache.specs.Nested.{of_up_to, within_up_to}
use Rattle.mar_model.proofs.EntryLists.{contains_none}
use Rattle.mar_cache.proofs.ListPuts.{and_false_left, none_passes}

-- what is taken up of one epoch
pub record LoadsHere (t n : EpochState) : Type 0 where
  pub with_sure : Within (sure_in t) (held_in n)
  pub within_may : Within (held_in n) (may_in t)
  pub sure : Within (held_in n) (sure_in n)
  pub may : Within (may_in n) (held_in n)
  pub loaded : is_opened n ≡ false → IsBare n

bare_or_some : (l : Left Cached) → (l ≡ nothing_left) ⊎ (l ≢ nothing_left)
bare_or_some l = by l.sure refl l.may refl
  where
    by : (sure : List Cached) → l.sure ≡ sure → (may : List Cached) → l.may ≡ may → (l ≡ nothing_left) ⊎ (l ≢ nothing_left)
    by [] none [] none_may = inl (ap (λ s. record { sure = s; may = l.may }) none ∙ ap (λ m. record { sure = []; may = m }) none_may)
    by (x ∷ xs) some may is = inr (λ nothing. absurd (let e : x ∷ xs ≡ [] = sym some ∙ ap (λ k. k.sure) nothing in cc))
    by [] none (x ∷ xs) some = inr (λ nothing. absurd (let e : x ∷ xs ≡ [] = sym some ∙ ap (λ k. k.may) nothing in cc))

pub loads_here : (t n : EpochState) → is_opened t ≡ false → (n ≡ t) ⊎ OpensEpoch t n → (HasSome t → is_opened n ≡ true) → LoadsHere t n
loads_here (opened b) n closed does some = absurd cc
loads_here (shut l) n closed (inl same) some = elim (bare_or_some l) [
  | inl bare ↦ subst (LoadsHere (shut l)) (sym same) (record {
    with_sure = λ y has. contains_none y (subst (λ m. Contains m.sure y) bare has);
    within_may = λ y has. contains_none y has;
    sure = λ y has. contains_none y has;
    may = λ y has. contains_none y (subst (λ m. Contains m.may y) bare has);
    loaded = λ shut_now. bare;
  })
  | inr left ↦ absurd (let clash : false ≡ true = sym (ap is_opened same) ∙ some left in cc)
]
loads_here (shut l) n closed (inr opens) some = let (b, found, is) = opens in subst (LoadsHere (shut l)) (sym is) (subst (λ kept. LoadsHere (shut l) (opened (record b { kept = kept }))) (sym found.is) (record {
  with_sure = found.reopens.with_sure;
  within_may = found.reopens.within_may;
  sure = λ y has. has;
  may = λ y has. has;
  loaded = λ shut_now. absurd cc;
}))

-- NO TWO IN ONE PLACE

once_here : (e : ℕ) (xs : List Cached) → ((y : Cached) → Contains xs y → epoch_of y ≡ e) → EachPlaceOnce xs → EachOnce xs
once_here e [] own once = tt
once_here e (x ∷ xs) own once = (none_in_place (once.0), once_here e xs (λ y (k, lt, is). own y (suc k, omega (arith, lt), is)) once.1)
  where
    weaker : (zs : List Cached) → IsFalse (list_any (same_place x) zs) → list_any (is_in_place x) zs ≡ false
    weaker [] none = refl
    weaker (z ∷ zs) none = by (same_place x z) refl (list_any (same_place x) zs) refl (epoch_of z == epoch_of x) (weaker zs) none
      where
        by : (p : Bool) → same_place x z ≡ p → (q : Bool) → list_any (same_place x) zs ≡ q → (d : Bool) → (IsFalse (list_any (same_place x) zs) → list_any (is_in_place x) zs ≡ false) → IsFalse (p || q) → (d && same_place x z || list_any (is_in_place x) zs) ≡ false
        by false p_is false q_is true rest none' = ap (λ c. c || list_any (is_in_place x) zs) p_is ∙ rest (subst IsFalse (sym q_is) refl)
        by false p_is false q_is false rest none' = rest (subst IsFalse (sym q_is) refl)
        by false p_is true q_is d rest none' = absurd cc
        by true p_is q q_is d rest none' = absurd cc

    none_in_place : IsFalse (list_any (same_place x) xs) → list_any (is_in_place x) xs ≡ false
    none_in_place none = weaker xs none

once_append : (xs ys : List Cached) → EachOnce xs → EachOnce ys → ((x y : Cached) → Contains xs x → Contains ys y → is_in_place x y ≡ false) → EachOnce (xs ++ ys)
once_append [] ys once_xs once_ys apart = once_ys
once_append (x ∷ xs) ys once_xs once_ys apart = (list_any-append (is_in_place x) xs ys ∙ ap₂ (λ a b. a || b) once_xs.0 (none_passes (is_in_place x) ys (λ y has. apart x y (zero, omega arith, refl) has)), once_append xs ys once_xs.1 once_ys (λ z y (k, lt, is) has. apart z y (suc k, omega (arith, lt), is) has))

once_up_to : (lists : ℕ → List Cached) (h : ℕ) → ((k : ℕ) (y : Cached) → Contains (lists k) y → epoch_of y ≡ k) → ((k : ℕ) → EachPlaceOnce (lists k)) → EachOnce (up_to lists h)
once_up_to lists zero own once = once_here zero (lists zero) (own zero) (once zero)
once_up_to lists (suc h) own once = once_append (up_to lists h) (lists (suc h)) (once_up_to lists h own once) (once_here (suc h) (lists (suc h)) (own (suc h)) (once (suc h))) (λ x y has here. let (k, within, found) = of_up_to lists h x has in and_false_left (epoch_of y == epoch_of x) (same_place x y) (ne_eqb (epoch_of y) (epoch_of x) (λ same. omega (arith, same, own k x found, own (suc h) y here, within))))

pub loads_flat : (old new : EpochStates) (b : Bounds) → LieWithin new b → ((k : ℕ) → IsNestedEpoch (new k)) → ((k : ℕ) → LoadsHere (old k) (new k)) → LoadsEntries (kept_of old b.highest) (kept_of new b.highest)
loads_flat old new b lie nested each = record {
  with_sure = within_up_to (λ k. sure_in (old k)) (λ k. held_in (new k)) b.highest (λ k within. (each k).with_sure);
  within_may = within_up_to (λ k. held_in (new k)) (λ k. may_in (old k)) b.highest (λ k within. (each k).within_may);
  sure = within_up_to (λ k. held_in (new k)) (λ k. sure_in (new k)) b.highest (λ k within. (each k).sure);
  may = within_up_to (λ k. may_in (new k)) (λ k. held_in (new k)) b.highest (λ k within. (each k).may);
  once = once_up_to (λ k. held_in (new k)) b.highest (λ k. (lie k).held) (λ k. once_in (new k) (nested k));
}
  where
    once_in : (t : EpochState) → IsNestedEpoch t → EachPlaceOnce (held_in t)
    once_in (opened c) nested' = nested'.once
    once_in (shut l) nested' = tt

pub now_loaded : (old new : EpochStates) → ((k : ℕ) → LoadsHere (old k) (new k)) → IsLoaded new
now_loaded old new each k closed = (each k).loaded closed

pub loads_all : (old new : EpochStates) (b : Bounds) → LieWithin new b → ((k : ℕ) → IsNestedEpoch (new k)) → LoadsAll old new → LoadsEntries (kept_of old b.highest) (kept_of new b.highest) × IsLoaded new
loads_all old new b lie nested loads = let each : (k : ℕ) → LoadsHere (old k) (new k) = λ k. loads_here (old k) (new k) (loads.shut k) (loads.opens k) (loads.opened k) in (loads_flat old new b lie nested each, now_loaded old new each)

-- What calls make of single epochs, seen over all of them.
use Rattle.std.proofs.Common.{◌≡◌, ◌⊎◌, inl, inr, ◌≤◌, ◌<◌, ◌&&◌, nat_le, ℕ, zero, List, [], ◌∷◌, ◌++◌, Bool, true, false, Contains, filter, refl, ap, sym, subst, arith, ◌∙◌}
use Rattle.std.proofs.lemmas.Bool.{cases_eq, eqb-true, leb-true}
use Rattle.std.proofs.lemmas.List.Elements.{Contains-append_cases, Contains-append_left, Contains-append_right}
use Rattle.mar_store.specs.Changes.{Within}
use Rattle.mar_store.specs.Kept.{reopened_store}
use Rattle.mar_model.specs.Cached.{Cached, certified_entry, epoch_of, finalization_entry, notarization_entry, notarized_entry, verified_entry, with_entry}
use Rattle.mar_model.specs.Cache.{first_verified, same_archive}
use Rattle.mar_epochs.specs.EpochArchives.{Book, nothing_left}
use Rattle.mar_model.specs.Sections.{is_in, section_of}
use Rattle.mar_model.specs.declared.Section.{Section}
use Rattle.mar_epochs.specs.declared.Change.TheVariants.{Put, Sync}
use Rattle.mar_cache.specs.Bounds.{Bounds, includes}
use Rattle.mar_cache.specs.AsOne.{IsLoaded, kept_of, up_to}
use Rattle.mar_model.specs.AllEntries.{PutsEntry, PutsEntryNow, with_own_entry}
use Rattle.mar_epochs.specs.EpochStates.{ChangesEpoch, EpochState, EpochStates, HasSome, IsBare, KeepsOtherEpochs, OpensEpoch, held_in, is_opened, may_in, opened, shut, sure_in}
use Rattle.mar_cache.specs.Shelved.{DoesAt, LieWithin, raised}
use Rattle.mar_cache.specs.Nested.{in_up_to, may_some, of_up_to, within_up_to}
use Rattle.mar_model.proofs.EntryLists.{contains_none, filter_passed}
use Rattle.mar_cache.proofs.EpochLists.{up_to_more}
use Rattle.mar_cache.proofs.ListPuts.{puts_firsts, puts_held, puts_only, puts_others}

-- NOTHING BEYOND THE HIGHEST

pub nothing_in : {T : Type 0} (xs : List T) → ((x : T) → Contains xs x → ⊥) → xs ≡ []
nothing_in [] none = refl
nothing_in (x ∷ xs) none = absurd (none x (zero, omega arith, refl))

pub held_some : (t : EpochState) (x : Cached) → Contains (held_in t) x → HasSome t
held_some (opened b) x has = tt
held_some (shut l) x has = absurd (contains_none x has)

pub sure_some : (t : EpochState) (x : Cached) → Contains (sure_in t) x → HasSome t
sure_some (opened b) x has = tt
sure_some (shut l) x has = λ bare. contains_none x (subst (λ m. Contains m.sure x) bare has)

pub to_highest : (b : Bounds) (k : ℕ) → includes b k ≡ true → k ≤ b.highest
to_highest b k is = leb-true k b.highest (right (nat_le b.lowest k) (nat_le k b.highest) is)
  where
    right : (p q : Bool) → (p && q) ≡ true → q ≡ true
    right true q is' = is'
    right false q is' = absurd cc

module _ (states : EpochStates) (b : Bounds) (lie : LieWithin states b) where
  pub beyond : (k : ℕ) → b.highest < k → HasSome (states k) → ⊥
  beyond k over some = let within = to_highest b k ((lie k).inside some) in omega (arith, over, within)

  pub held_more : (j : ℕ) → b.highest ≤ j → up_to (λ k. held_in (states k)) j ≡ up_to (λ k. held_in (states k)) b.highest
  held_more j within = up_to_more (λ k. held_in (states k)) b.highest j within (λ k over. nothing_in (held_in (states k)) (λ x has. beyond k over (held_some (states k) x has)))

  pub sure_more : (j : ℕ) → b.highest ≤ j → up_to (λ k. sure_in (states k)) j ≡ up_to (λ k. sure_in (states k)) b.highest
  sure_more j within = up_to_more (λ k. sure_in (states k)) b.highest j within (λ k over. nothing_in (sure_in (states k)) (λ x has. beyond k over (sure_some (states k) x has)))

  pub may_more : (j : ℕ) → b.highest ≤ j → up_to (λ k. may_in (states k)) j ≡ up_to (λ k. may_in (states k)) b.highest
  may_more j within = up_to_more (λ k. may_in (states k)) b.highest j within (λ k over. nothing_in (may_in (states k)) (λ x has. beyond k over (may_some (states k) x has)))

-- A PUT

-- what an opening finds of an epoch that is open, or of which nothing is left
pub record SameBook (t : EpochState) (b : Book) : Type 0 where
  pub held : b.kept.held ≡ held_in t
  pub sure : b.kept.sure ≡ sure_in t
  pub may : b.kept.may ≡ may_in t

pub opens_loaded : (t u : EpochState) → OpensEpoch t u → (is_opened t ≡ false → IsBare t) → (b : Book) × (u ≡ opened b) × SameBook t b
opens_loaded (opened b) u is bare = (b, is, record { held = refl; sure = refl; may = refl })
opens_loaded (shut l) u (b, found, is) bare = (
  b,
  is,
  record {
    held = ap (λ k. k.held) same;
    sure = ap (λ k. k.sure) same ∙ sym (ap (λ m. m.sure) none);
    may = ap (λ k. k.may) same ∙ sym (ap (λ m. m.may) none);
  },
)
  where
    none : l ≡ nothing_left
    none = bare refl

    nothing : found.found ≡ []
    nothing = nothing_in found.found (λ x has. contains_none x (subst (λ m. Contains m.may x) none (found.reopens.within_may x has)))

    same : b.kept ≡ reopened_store []
    same = found.is ∙ ap reopened_store nothing

-- what a put makes of an epoch that is open, or of which nothing is left
pub record PutsHere (x : Cached) (t n : EpochState) : Type 0 where
  pub held : held_in n ≡ with_entry (held_in t) x
  pub sure : Within (sure_in t) (sure_in n)
  pub may : Within (may_in n) (may_in t ++ x ∷ [])

pub puts_here : (x : Cached) (t mid m n : EpochState) → OpensEpoch t mid → (is_opened t ≡ false → IsBare t) → ChangesEpoch (λ y. y) (Put x) mid m → n ≡ m → PutsHere x t n
puts_here x t mid m n opens bare done is =
    let (b, mid_is, same) = opens_loaded t mid opens bare in
    let (c, does, m_is) = subst (λ u. ChangesEpoch (λ y. y) (Put x) u m) mid_is done in
    subst (PutsHere x t) (sym (is ∙ m_is)) (record {
      held = does.held ∙ ap (λ ys. with_entry ys x) same.held;
      sure = λ y has. does.sure y (subst (λ ys. Contains ys y) (sym same.sure) has) refl;
      may = λ y has. subst (λ ys. Contains (ys ++ x ∷ []) y) same.may (does.may y has);
    })

-- a put of which this is known in its epoch, seen over all
pub puts_over : (x : Cached) (old new : EpochStates) (b : Bounds) → LieWithin old b → PutsHere x (old (epoch_of x)) (new (epoch_of x)) → KeepsOtherEpochs (epoch_of x) old new → PutsEntry x (kept_of old b.highest) (kept_of new (raised (epoch_of x) b).highest)
puts_over x old new b lie here others = record {
  held = λ y has. puts_held (λ k. held_in (old k)) (λ k. held_in (new k)) (epoch_of x) h x (λ k. (lie k).held) refl inside here.held (λ k other. ap held_in (others k other)) y (subst (λ zs. Contains (with_own_entry zs x) y) (sym (held_more old b lie h above)) has);
  only = λ y has. subst (λ zs. Contains (with_own_entry zs x) y) (held_more old b lie h above) (puts_only (λ k. held_in (old k)) (λ k. held_in (new k)) (epoch_of x) h x (λ k. (lie k).held) refl inside here.held (λ k other. ap held_in (others k other)) y has);
  others = λ passes none. puts_others (λ k. held_in (old k)) (λ k. held_in (new k)) (epoch_of x) h x (λ k. (lie k).held) refl inside here.held (λ k other. ap held_in (others k other)) passes none ∙ ap (filter passes) (held_more old b lie h above);
  firsts = λ r. puts_firsts (λ k. held_in (old k)) (λ k. held_in (new k)) (epoch_of x) h x (λ k. (lie k).held) refl inside here.held (λ k other. ap held_in (others k other)) r ∙ ap (λ zs. first_verified (with_own_entry zs x) r) (held_more old b lie h above);
  sure = λ y has. within_up_to (λ k. sure_in (old k)) (λ k. sure_in (new k)) h (λ k within. each k (cases_eq k (epoch_of x))) y (subst (λ zs. Contains zs y) (sym (sure_more old b lie h above)) has);
  may = λ y has. let (k, within, found) = of_up_to (λ k. may_in (new k)) h y has in elim (may_from k y (cases_eq k (epoch_of x)) found) [
    | inl before ↦ Contains-append_left _ (x ∷ []) y (subst (λ zs. Contains zs y) (may_more old b lie h above) (in_up_to (λ k. may_in (old k)) h k y within before))
    | inr put ↦ Contains-append_right _ (x ∷ []) y put
  ];
}
  where
    h : ℕ
    h = (raised (epoch_of x) b).highest

    inside : epoch_of x ≤ (raised (epoch_of x) b).highest
    inside = omega arith

    above : b.highest ≤ (raised (epoch_of x) b).highest
    above = omega arith

    each : (k : ℕ) → (k ≡ epoch_of x) ⊎ (k ≡ epoch_of x → ⊥) → Within (sure_in (old k)) (sure_in (new k))
    each k (inl same) = subst (λ j. Within (sure_in (old j)) (sure_in (new j))) (sym same) here.sure
    each k (inr other) = λ y has. subst (λ t. Contains (sure_in t) y) (sym (others k other)) has

    may_from : (k : ℕ) (y : Cached) → (k ≡ epoch_of x) ⊎ (k ≡ epoch_of x → ⊥) → Contains (may_in (new k)) y → Contains (may_in (old k)) y ⊎ Contains (x ∷ []) y
    may_from k y (inl same) has = elim (Contains-append_cases (may_in (old (epoch_of x))) (x ∷ []) y (here.may y (subst (λ j. Contains (may_in (new j)) y) same has))) [ inl before ↦ inl (subst (λ j. Contains (may_in (old j)) y) (sym same) before) | inr put ↦ inr put ]
    may_from k y (inr other) has = inl (subst (λ t. Contains (may_in t) y) (others k other) has)

pub puts_flat : (x : Cached) (old new : EpochStates) (b : Bounds) → LieWithin old b → IsLoaded old → DoesAt (λ y. y) (epoch_of x) (Put x ∷ []) old new → PutsEntry x (kept_of old b.highest) (kept_of new (raised (epoch_of x) b).highest)
puts_flat x old new b lie loaded does = puts_over x old new b lie (puts_here x (old (epoch_of x)) does.mid does.done.0 (new (epoch_of x)) does.opens (loaded (epoch_of x)) does.done.1 does.done.2) does.others

-- A PUT, AND THEN A SYNC OF ITS ARCHIVE

-- what the sync of an archive makes sure of an epoch
pub record SyncsHere (s : Section) (t n : EpochState) : Type 0 where
  pub held : held_in n ≡ held_in t
  pub sure : Within (sure_in t) (sure_in n)
  pub synced : (y : Cached) → Contains (held_in n) y → is_in s y ≡ true → Contains (sure_in n) y
  pub may : Within (may_in n) (may_in t)

pub syncs_here : (s : Section) (t m n : EpochState) → is_opened t ≡ true → ChangesEpoch (λ y. y) (Sync s) t m → n ≡ m → SyncsHere s t n
syncs_here s (opened b) m n open_now (c, does, m_is) is = subst (SyncsHere s (opened b)) (sym (is ∙ m_is)) (record {
  held = does.held;
  sure = λ y has. does.sure y has refl;
  synced = λ y has passes. does.made_sure y (filter_passed (is_in s) b.kept.held y (subst (λ ys. Contains ys y) does.held has) passes);
  may = λ y has. elim (Contains-append_cases b.kept.may [] y (does.may y has)) [ inl before ↦ before | inr none ↦ contains_none y none ];
})
syncs_here s (shut l) m n open_now done is = absurd cc

pub still_open : (x : Cached) (t mid m : EpochState) → OpensEpoch t mid → ChangesEpoch (λ y. y) (Put x) mid m → is_opened m ≡ true
still_open x (opened b) mid m opens done = let (c, does, is) = subst (λ u. ChangesEpoch (λ y. y) (Put x) u m) opens done in ap is_opened is
still_open x (shut l) mid m (b, found, opens) done = let (c, does, is) = subst (λ u. ChangesEpoch (λ y. y) (Put x) u m) opens done in ap is_opened is

pub puts_then : (x : Cached) (s : Section) (t m n : EpochState) → PutsHere x t m → SyncsHere s m n → PutsHere x t n
puts_then x s t m n puts syncs = record {
  held = syncs.held ∙ puts.held;
  sure = λ y has. syncs.sure y (puts.sure y has);
  may = λ y has. puts.may y (syncs.may y has);
}

in_archive : (x y : Cached) → same_archive x y ≡ true → (epoch_of y ≡ epoch_of x) × (is_in (section_of x) y ≡ true)
in_archive (finalization_entry f) (finalization_entry g) same = (sym (eqb-true f.round.epoch g.round.epoch same), refl)
in_archive (notarization_entry f) (notarization_entry g) same = (sym (eqb-true f.round.epoch g.round.epoch same), refl)
in_archive (notarized_entry r b) (notarized_entry s c) same = (sym (eqb-true r.epoch s.epoch same), refl)
in_archive (verified_entry r b) (verified_entry s c) same = (sym (eqb-true r.epoch s.epoch same), refl)
in_archive (certified_entry e b) (certified_entry f c) same = (sym (eqb-true e f same), refl)
in_archive _ _ same = absurd cc

pub puts_now_flat : (x : Cached) (old new : EpochStates) (b : Bounds) → LieWithin old b → LieWithin new (raised (epoch_of x) b) → IsLoaded old → DoesAt (λ y. y) (epoch_of x) (Put x ∷ Sync (section_of x) ∷ []) old new → PutsEntryNow x (kept_of old b.highest) (kept_of new (raised (epoch_of x) b).highest)
puts_now_flat x old new b lie lie_new loaded does =
    let (m, put, rest) = does.done in
    let (n, sync, is) = rest in
    let puts = puts_here x (old (epoch_of x)) does.mid m m does.opens (loaded (epoch_of x)) put refl in
    let syncs = syncs_here (section_of x) m n (new (epoch_of x)) (still_open x (old (epoch_of x)) does.mid m does.opens put) sync is in
    record {
      puts = puts_over x old new b lie (puts_then x (section_of x) (old (epoch_of x)) m (new (epoch_of x)) puts syncs) does.others;
      synced = λ y same has.
          let (epoch, passes) = in_archive x y same in
          let (k, within, found) = of_up_to (λ k. held_in (new k)) (raised (epoch_of x) b).highest y has in
          let here : k ≡ epoch_of x = sym ((lie_new k).held y found) ∙ epoch in
          in_up_to (λ k. sure_in (new k)) (raised (epoch_of x) b).highest (epoch_of x) y (omega arith) (syncs.synced y (subst (λ j. Contains (held_in (new j)) y) here found) passes);
    }

-- What a prune by view makes of a shelf, what a search finds there, and what is left where a call failed, seen over all epochs.
use Rattle.std.proofs.Common.{◌≡◌, inl, inr, ◌≤◌, ◌<◌, ◌==◌, ◌&&◌, ◌||◌, nat_le, not, ℕ, zero, suc, List, [], ◌∷◌, Bool, true, false, Contains, Option, Some, None, cond, filter, length, max, refl, ap, ap₂, sym, subst, arith, ◌∙◌}
use Rattle.std.specs.List.{AllByRecursion, list_any}
use Rattle.std.proofs.lemmas.Bool.{cases_eq, cases_lt, eq-eqb, le-ltb, ne_eqb}
use Rattle.std.proofs.lemmas.List.Elements.{Contains-append_cases, Contains-append_left, Contains-append_right}
use Rattle.mar_types.specs.Round.{Round, round_lt}
use Rattle.mar_store.specs.Changes.{Within}
use Rattle.mar_store.proofs.Lookups.{AllByRecursion-contains}
use Rattle.mar_model.specs.Cached.{Cached, epoch_of}
use Rattle.mar_model.specs.Cache.{is_below}
use Rattle.mar_model.specs.Sections.{earlier_of, first_found, is_in, stands_before}
use Rattle.mar_model.specs.declared.Section.{Section}
use Rattle.mar_epochs.specs.declared.Change.TheVariants.{PruneBelow}
use Rattle.mar_cache.specs.Bounds.{Bounds}
use Rattle.mar_cache.specs.AsOne.{IsLoaded, greatest_highest, kept_of, may_of_some, sure_of_all, up_to}
use Rattle.mar_model.specs.AllEntries.{FirstsStay, LeavesEntries, PrunesEntries, is_sooner, sooner_of, soonest}
use Rattle.mar_epochs.specs.EpochStates.{ChangesEpoch, EpochState, EpochStates, HasSome, IsBare, IsNewest, held_in, is_opened, may_in, opened, shut, sure_in}
use Rattle.mar_cache.specs.Laws.{PrunesByView}
use Rattle.mar_cache.specs.SameEntries.{same_entry}
use Rattle.mar_cache.specs.Shelved.{AllLieWithin, LeavesEpochs, LieWithin, pruned_bounds}
use Rattle.mar_cache.specs.Nested.{in_up_to, may_some, of_up_to}
use Rattle.mar_model.proofs.EntryLists.{contains_none, filter_passed, filtered, firsts_stay}
use Rattle.mar_cache.proofs.EpochLists.{filter_up_to, only_in}
use Rattle.mar_cache.proofs.ListPrunes.{filter_none, older_below, prunes_all}
use Rattle.mar_cache.proofs.ListFinds.{soonest_in, soonest_newest, soonest_none}
use Rattle.mar_cache.proofs.StatePuts.{beyond, held_more, held_some, may_more, sure_more, sure_some, to_highest}
use Rattle.mar_cache.proofs.TellsEntries.{entries_same, entry_refl}

-- A PRUNE BY VIEW

bare_held : (t : EpochState) → IsBare t → held_in t ≡ []
bare_held (opened b) bare = absurd bare
bare_held (shut l) bare = refl

bare_may : (t : EpochState) (y : Cached) → IsBare t → Contains (may_in t) y → ⊥
bare_may (opened b) y bare has = bare
bare_may (shut l) y bare has = contains_none y (subst (λ m. Contains m.may y) bare has)

-- what a prune makes of its own epoch
pub record PrunesHere (r : Round) (t n : EpochState) : Type 0 where
  pub held : held_in n ≡ filter (λ x. not (is_below r x)) (held_in t)
  pub sure : (y : Cached) → Contains (sure_in t) y → is_below r y ≡ false → is_opened t ≡ true → Contains (sure_in n) y
  pub may : Within (may_in n) (may_in t)

pub prunes_here : (r : Round) (t n : EpochState) → ChangesEpoch (λ y. y) (PruneBelow r) t n → (is_opened t ≡ false → IsBare t) → PrunesHere r t n
prunes_here r (opened b) n (c, does, is) bare = subst (PrunesHere r (opened b)) (sym is) (record {
  held = does.held;
  sure = λ y has stays open_now. does.sure y has (ap not stays);
  may = λ y has. elim (Contains-append_cases b.kept.may [] y (does.may y has)) [ inl before ↦ before | inr none ↦ contains_none y none ];
})
prunes_here r (shut l) n is bare = subst (PrunesHere r (shut l)) (sym is) (record { held = refl; sure = λ y has stays open_now. absurd cc; may = λ y has. has })

module _ (r : Round) (old new : EpochStates) (b : Bounds) (lie : LieWithin old b) (lie_new : LieWithin new (pruned_bounds r b))
    (loaded : (k : ℕ) → is_opened (old k) ≡ false → IsBare (old k))
    (own : ChangesEpoch (λ y. y) (PruneBelow r) (old r.epoch) (new r.epoch)) (newer : (k : ℕ) → r.epoch < k → new k ≡ old k) (older : (k : ℕ) → k < r.epoch → IsBare (new k)) where
  abbrev h : ℕ
  h = max b.highest r.epoch

  here : PrunesHere r (old r.epoch) (new r.epoch)
  here = prunes_here r (old r.epoch) (new r.epoch) own (loaded r.epoch)

  pub pruned_held : up_to (λ k. held_in (new k)) h ≡ filter (λ x. not (is_below r x)) (up_to (λ k. held_in (old k)) h)
  pruned_held = prunes_all r (λ k. held_in (old k)) (λ k. held_in (new k)) h h (λ k. (lie k).held) here.held (λ k over. ap held_in (newer k over)) (λ k under. bare_held (new k) (older k under))

  to_pruned : (pruned_bounds r b).highest ≤ max b.highest r.epoch
  to_pruned = by (nat_le r.epoch b.lowest)
    where
      by : (c : Bool) → (cond c b (record { lowest = r.epoch; highest = max b.highest r.epoch })).highest ≤ max b.highest r.epoch
      by true = omega arith
      by false = omega arith

  -- where an entry that isn't pruned stands
  from_round : (y : Cached) (k : ℕ) → epoch_of y ≡ k → is_below r y ≡ false → r.epoch ≤ k
  from_round y k at stays = elim (cases_lt k r.epoch) [ inl under ↦ absurd (let clash : false ≡ true = sym stays ∙ older_below r y (omega (arith, at, under)) in cc) | inr over ↦ over ]

  sure_at : (k : ℕ) (y : Cached) → Contains (sure_in (old k)) y → is_below r y ≡ false → Contains (sure_in (new k)) y
  sure_at k y has stays = elim (cases_eq k r.epoch) [
    | inl same ↦ subst (λ j. Contains (sure_in (new j)) y) (sym same) (own_sure (is_opened (old r.epoch)) refl (subst (λ j. Contains (sure_in (old j)) y) same has))
    | inr other ↦ subst (λ t. Contains (sure_in t) y) (sym (newer k (let over = from_round y k ((lie k).sure y has) stays in omega (arith, over, other)))) has
  ]
    where
      own_sure : (c : Bool) → is_opened (old r.epoch) ≡ c → Contains (sure_in (old r.epoch)) y → Contains (sure_in (new r.epoch)) y
      own_sure true open_now found = here.sure y found stays open_now
      own_sure false closed found = absurd (none (old r.epoch) (loaded r.epoch closed) found)
        where
          none : (t : EpochState) → IsBare t → Contains (sure_in t) y → ⊥
          none (opened c) bare found' = bare
          none (shut l) bare found' = contains_none y (subst (λ m. Contains m.sure y) bare found')

  may_at : (k : ℕ) (y : Cached) → Contains (may_in (new k)) y → Contains (may_in (old k)) y
  may_at k y has = elim (cases_lt k r.epoch) [
    | inl under ↦ absurd (bare_may (new k) y (older k under) has)
    | inr over ↦ elim (cases_eq k r.epoch) [
      | inl same ↦ subst (λ j. Contains (may_in (old j)) y) (sym same) (here.may y (subst (λ j. Contains (may_in (new j)) y) same has))
      | inr other ↦ subst (λ t. Contains (may_in t) y) (newer k (omega (arith, over, other))) has
    ]
  ]

  pub prunes_flat : PrunesEntries (is_below r) (kept_of old b.highest) (kept_of new (pruned_bounds r b).highest)
  prunes_flat = record {
    held = sym (held_more new (pruned_bounds r b) lie_new h to_pruned) ∙ pruned_held ∙ ap (filter (λ x. not (is_below r x))) (held_more old b lie h (omega arith));
    sure = λ y has stays. subst (λ ys. Contains ys y) (sure_more new (pruned_bounds r b) lie_new h to_pruned) (let (k, within, found) = of_up_to (λ k. sure_in (old k)) b.highest y has in in_up_to (λ k. sure_in (new k)) h k y (omega (arith, within)) (sure_at k y found stays));
    may = λ y has. subst (λ ys. Contains ys y) (may_more old b lie h (omega arith)) (let (k, within, found) = of_up_to (λ k. may_in (new k)) (pruned_bounds r b).highest y has in in_up_to (λ k. may_in (old k)) h k y (omega (arith, within, to_pruned)) (may_at k y found));
  }

-- WHAT A SEARCH FINDS

-- in one epoch
before_sooner : (x y : Cached) → epoch_of x ≡ epoch_of y → stands_before x y ≡ is_sooner x y
before_sooner x y same = sym (ap₂ (λ p q. p || (q && stands_before x y)) (le-ltb (epoch_of y) (epoch_of x) (omega (arith, same))) (eq-eqb (epoch_of x) (epoch_of y) same))

first_soonest : (passes : Cached → Bool) (e : ℕ) (xs : List Cached) → ((x : Cached) → Contains xs x → epoch_of x ≡ e) → first_found passes xs ≡ soonest passes xs
first_soonest passes e [] own = refl
first_soonest passes e (x ∷ xs) own = ap (λ o. cond (passes x) (earlier_of x o) o) (first_soonest passes e xs (λ y (k, lt, is). own y (suc k, omega (arith, lt), is))) ∙ ap (λ o. cond (passes x) o (soonest passes xs)) (by (soonest passes xs) refl)
  where
    by : (o : Option Cached) → soonest passes xs ≡ o → earlier_of x o ≡ sooner_of x o
    by None is = refl
    by (Some y) is = let (k, lt, at) = soonest_in passes xs y is in ap (λ c. cond c (Some y) (Some x)) (before_sooner y x (own y (suc k, omega (arith, lt), at) ∙ sym (own x (zero, omega arith, refl))))

pub newest_soonest : (passes : Cached → Bool) (states : EpochStates) (b : Bounds) (lie : LieWithin states b) (o : Option Cached) → IsNewest passes states o → o ≡ soonest passes (kept_of states b.highest).held
newest_soonest passes states b lie None none = sym (soonest_none passes (λ k. held_in (states k)) (λ k. (lie k).held) b.highest (λ k. sym (first_soonest passes k (held_in (states k)) (lie k).held) ∙ none k))
newest_soonest passes states b lie (Some x) (e, found, later) = sym (soonest_newest passes (λ k. held_in (states k)) (λ k. (lie k).held) b.highest e x within here (λ k over. sym (first_soonest passes k (held_in (states k)) (lie k).held) ∙ later k over))
  where
    here : soonest passes (held_in (states e)) ≡ Some x
    here = sym (first_soonest passes e (held_in (states e)) (lie e).held) ∙ found

    within : e ≤ b.highest
    within = elim (cases_lt b.highest e) [ inl over ↦ absurd (beyond states b lie e over (held_some (states e) x (soonest_in passes (held_in (states e)) x here))) | inr to ↦ to ]

-- WHAT IS LEFT

any_same : (y : Cached) (xs : List Cached) → Contains xs y → list_any (same_entry y) xs ≡ true
any_same y [] has = contains_none y has
any_same y (x ∷ xs) (zero, lt, is) = ap (λ z. same_entry y z || list_any (same_entry y) xs) is ∙ ap (λ c. c || list_any (same_entry y) xs) (entry_refl y)
any_same y (x ∷ xs) (suc k, lt, is) = ap (λ c. same_entry y x || c) (any_same y xs (k, omega (arith, lt), is)) ∙ or_true_right (same_entry y x)
  where
    or_true_right : (a : Bool) → (a || true) ≡ true
    or_true_right true = refl
    or_true_right false = refl

same_any : (y : Cached) (xs : List Cached) → list_any (same_entry y) xs ≡ true → Contains xs y
same_any y [] is = absurd cc
same_any y (x ∷ xs) is = by (same_entry y x) refl is (same_any y xs)
  where
    by : (c : Bool) → same_entry y x ≡ c → (c || list_any (same_entry y) xs) ≡ true → (list_any (same_entry y) xs ≡ true → Contains xs y) → Contains (x ∷ xs) y
    by true same is' rest = (zero, omega arith, sym (entries_same y x same))
    by false other is' rest = let (k, lt, at) = rest is' in (suc k, omega (arith, lt), at)

pub in_all : (ways : List EpochStates) (h : ℕ) (y : Cached) → 0 < length ways → ((way : EpochStates) → Contains ways way → Contains (up_to (λ k. sure_in (way k)) h) y) → Contains (sure_of_all ways h) y
in_all [] h y some all = absurd (omega (arith, some))
in_all (way ∷ []) h y some all = all way (zero, omega arith, refl)
in_all (way ∷ other ∷ ways) h y some all = filter_passed (λ x. list_any (same_entry x) (sure_of_all (other ∷ ways) h)) (up_to (λ k. sure_in (way k)) h) y (all way (zero, omega arith, refl)) (any_same y (sure_of_all (other ∷ ways) h) (in_all (other ∷ ways) h y (omega arith) (λ w (k, lt, is). all w (suc k, omega (arith, lt), is))))

pub of_all : (ways : List EpochStates) (h : ℕ) (y : Cached) → Contains (sure_of_all ways h) y → (way : EpochStates) → Contains ways way → Contains (up_to (λ k. sure_in (way k)) h) y
of_all [] h y has way among = contains_none y has
of_all (w ∷ []) h y has way (zero, lt, is) = subst (λ v. Contains (up_to (λ k. sure_in (v k)) h) y) is has
of_all (w ∷ []) h y has way (suc k, lt, is) = absurd (omega (arith, lt))
of_all (w ∷ other ∷ ways) h y has way (zero, lt, is) = let (found, passes) = filtered (λ x. list_any (same_entry x) (sure_of_all (other ∷ ways) h)) (up_to (λ k. sure_in (w k)) h) y has in subst (λ v. Contains (up_to (λ k. sure_in (v k)) h) y) is found
of_all (w ∷ other ∷ ways) h y has way (suc k, lt, is) = let (found, passes) = filtered (λ x. list_any (same_entry x) (sure_of_all (other ∷ ways) h)) (up_to (λ k. sure_in (w k)) h) y has in of_all (other ∷ ways) h y (same_any y (sure_of_all (other ∷ ways) h) passes) way (k, omega (arith, lt), is)

pub in_some : (ways : List EpochStates) (h : ℕ) (y : Cached) (way : EpochStates) → Contains ways way → Contains (up_to (λ k. may_in (way k)) h) y → Contains (may_of_some ways h) y
in_some [] h y way among has = contains_none way among
in_some (w ∷ []) h y way (zero, lt, is) has = subst (λ v. Contains (up_to (λ k. may_in (v k)) h) y) (sym is) has
in_some (w ∷ []) h y way (suc k, lt, is) has = absurd (omega (arith, lt))
in_some (w ∷ other ∷ ways) h y way (zero, lt, is) has = Contains-append_left (up_to (λ k. may_in (w k)) h) (may_of_some (other ∷ ways) h) y (subst (λ v. Contains (up_to (λ k. may_in (v k)) h) y) (sym is) has)
in_some (w ∷ other ∷ ways) h y way (suc k, lt, is) has = Contains-append_right (up_to (λ k. may_in (w k)) h) (may_of_some (other ∷ ways) h) y (in_some (other ∷ ways) h y way (k, omega (arith, lt), is) has)

pub of_some : (ways : List EpochStates) (h : ℕ) (y : Cached) → Contains (may_of_some ways h) y → (way : EpochStates) × Contains ways way × Contains (up_to (λ k. may_in (way k)) h) y
of_some [] h y has = contains_none y has
of_some (w ∷ []) h y has = (w, (zero, omega arith, refl), has)
of_some (w ∷ other ∷ ways) h y has = elim (Contains-append_cases (up_to (λ k. may_in (w k)) h) (may_of_some (other ∷ ways) h) y has) [
  | inl here ↦ (w, (zero, omega arith, refl), here)
  | inr later ↦ let (way, among, found) = of_some (other ∷ ways) h y later in let (k, lt, is) = among in (way, (suc k, omega (arith, lt), is), found)
]

pub up_to_greatest : (bounds : List Bounds) (c : Bounds) → Contains bounds c → c.highest ≤ greatest_highest bounds
up_to_greatest [] c has = contains_none c has
up_to_greatest (d ∷ bounds) c (zero, lt, is) = let same = ap (λ x. x.highest) is in omega (arith, same)
up_to_greatest (d ∷ bounds) c (suc k, lt, is) = let rest = up_to_greatest bounds c (k, omega (arith, lt), is) in omega (arith, rest)

pub one_of_some : {T : Type 0} (xs : List T) → 0 < length xs → (x : T) × Contains xs x
one_of_some [] none = absurd (omega (arith, none))
one_of_some (x ∷ xs) is = (x, (zero, omega arith, refl))

-- where something may be left of an epoch
pub reaches : (ways : List EpochStates) (lefts : List Bounds) → AllLieWithin ways lefts → 0 < length lefts → (way : EpochStates) → Contains ways way → (k : ℕ) → HasSome (way k) → k ≤ greatest_highest lefts
reaches ways lefts within some_bounds way among k has =
    let (c, one) = one_of_some lefts some_bounds in
    let top = to_highest c k ((within way among c one k).inside has) in
    let greatest = up_to_greatest lefts c one in
    omega (arith, top, greatest)

-- what is left where a call failed
module _ (put : ℕ → List Cached) (gone : ℕ → Cached → Bool) (all : List Cached) (lets : Cached → Bool) (old : EpochStates) (b : Bounds) (lie : LieWithin old b) (ways : List EpochStates) (lefts : List Bounds)
    (within : AllLieWithin ways lefts) (some : 0 < length ways) (some_bounds : 0 < length lefts) (puts : (k : ℕ) → Within (put k) all) (fewer : (k : ℕ) (y : Cached) → epoch_of y ≡ k → lets y ≡ false → gone k y ≡ false) (leaves : AllByRecursion (LeavesEpochs put gone old) ways) where
  of_way : (way : EpochStates) → Contains ways way → LeavesEpochs put gone old way
  of_way way among = AllByRecursion-contains (LeavesEpochs put gone old) ways way leaves among

  pub leaves_flat : LeavesEntries all lets (kept_of old b.highest) (sure_of_all ways (greatest_highest lefts)) (may_of_some ways (greatest_highest lefts))
  leaves_flat = record {
    stays = λ y has stays. let (k, under, found) = of_up_to (λ k. sure_in (old k)) b.highest y has in in_all ways (greatest_highest lefts) y some (λ way among. let here = (of_way way among k).sure y found (fewer k y ((lie k).sure y found) stays) in in_up_to (λ k. sure_in (way k)) (greatest_highest lefts) k y (reaches ways lefts within some_bounds way among k (sure_some (way k) y here)) here);
    held = λ y has stays. let (k, under, found) = of_up_to (λ k. held_in (old k)) b.highest y has in let (way, among) = one_of_some ways some in let here = (of_way way among k).held y found (fewer k y ((lie k).held y found) stays) in in_some ways (greatest_highest lefts) y way among (in_up_to (λ k. may_in (way k)) (greatest_highest lefts) k y (reaches ways lefts within some_bounds way among k (may_some (way k) y here)) here);
    within = λ y has. let (way, among, there) = of_some ways (greatest_highest lefts) y has in let (k, under, found) = of_up_to (λ k. may_in (way k)) (greatest_highest lefts) y there in elim ((of_way way among k).may y found) [
      | inl before ↦ Contains-append_left _ all y (subst (λ ys. Contains ys y) (may_more old b lie (max k b.highest) (omega arith)) (in_up_to (λ k. may_in (old k)) (max k b.highest) k y (omega arith) before))
      | inr new ↦ Contains-append_right _ all y (puts k y new)
    ];
  }

-- a prune by view, as a law
pub prunes_all_epochs : (r : Round) (old new : EpochStates) (b : Bounds) → LieWithin old b → LieWithin new (pruned_bounds r b) → IsLoaded old → PrunesByView r old new
    → PrunesEntries (is_below r) (kept_of old b.highest) (kept_of new (pruned_bounds r b).highest) × FirstsStay (kept_of old b.highest).held (kept_of new (pruned_bounds r b).highest).held
prunes_all_epochs r old new b lie lie_new loaded prunes =
    let flat = prunes_flat r old new b lie lie_new loaded prunes.own prunes.newer prunes.older in
    (flat, subst (FirstsStay (kept_of old b.highest).held) (sym flat.held) (firsts_stay (λ x. not (is_below r x)) (λ s. not (round_lt s r)) (λ c s. refl) (kept_of old b.highest).held))

-- what an epoch holds of what passes
pub held_passing : (e : ℕ) (p : Cached → Bool) (states : EpochStates) (b : Bounds) → LieWithin states b → filter (λ x. epoch_of x == e && p x) (kept_of states b.highest).held ≡ filter p (held_in (states e))
held_passing e p states b lie = ap (filter (λ x. epoch_of x == e && p x)) (sym (held_more states b lie (max b.highest e) (omega arith))) ∙ filter_up_to (λ x. epoch_of x == e && p x) (λ k. held_in (states k)) (max b.highest e)
    ∙ only_in (λ k. filter (λ x. epoch_of x == e && p x) (held_in (states k))) e (max b.highest e) (omega arith) (λ k other. filter_none (λ x. epoch_of x == e && p x) (held_in (states k)) (λ x has. ap (λ c. c && p x) (ne_eqb (epoch_of x) e (λ same. other (sym ((lie k).held x has) ∙ same)))))
    ∙ alike (held_in (states e)) (lie e).held
  where
    alike : (xs : List Cached) → ((x : Cached) → Contains xs x → epoch_of x ≡ e) → filter (λ x. epoch_of x == e && p x) xs ≡ filter p xs
    alike [] own = refl
    alike (x ∷ xs) own = ap (λ c. cond (c && p x) (x ∷ filter (λ y. epoch_of y == e && p y) xs) (filter (λ y. epoch_of y == e && p y) xs)) (eq-eqb (epoch_of x) e (own x (zero, omega arith, refl))) ∙ ap (λ ys. cond (p x) (x ∷ ys) ys) (alike xs (λ y (k, lt, is). own y (suc k, omega (arith, lt), is)))

-- what one archive of an epoch holds
pub held_of_archive : (e : ℕ) (s : Section) (states : EpochStates) (b : Bounds) → LieWithin states b → filter (λ x. epoch_of x == e && is_in s x) (kept_of states b.highest).held ≡ filter (is_in s) (held_in (states e))
held_of_archive e s states b lie = held_passing e (is_in s) states b lie

-- of those that pass the soonest is the soonest of the list without the others
soonest_filter : (p : Cached → Bool) (xs : List Cached) → soonest p xs ≡ soonest (λ y. true) (filter p xs)
soonest_filter p [] = refl
soonest_filter p (x ∷ xs) = by (p x) (soonest_filter p xs)
  where
    by : (c : Bool) → soonest p xs ≡ soonest (λ y. true) (filter p xs) → cond c (sooner_of x (soonest p xs)) (soonest p xs) ≡ soonest (λ y. true) (cond c (x ∷ filter p xs) (filter p xs))
    by true rest = ap (sooner_of x) rest
    by false rest = rest

-- what a look-up finds in an epoch
pub found_soonest : (e : ℕ) (p : Cached → Bool) (states : EpochStates) (b : Bounds) → LieWithin states b → first_found p (held_in (states e)) ≡ soonest (λ x. epoch_of x == e && p x) (kept_of states b.highest).held
found_soonest e p states b lie = first_soonest p e (held_in (states e)) (lie e).held ∙ soonest_filter p (held_in (states e))
    ∙ ap (soonest (λ y. true)) (sym (held_passing e p states b lie)) ∙ sym (soonest_filter (λ x. epoch_of x == e && p x) (kept_of states b.highest).held)

-- What an armed put leaves, which is done but for its sync, seen over all epochs.
use Rattle.std.proofs.Common.{◌≡◌, ◌≢◌, ◌⊎◌, inl, inr, ◌≤◌, ◌<◌, ◌||◌, nat_le, nat_lt, ℕ, zero, suc, List, [], ◌∷◌, ◌++◌, Bool, true, false, Contains, Option, is_some, cond, length, refl, ap, ap₂, sym, subst, arith, ◌∙◌, filter}
use Rattle.std.specs.List.{list_any}
use Rattle.std.proofs.lemmas.Bool.{cases_eq, le-leb, le-ltb, lt-leb, lt-ltb, ltb-false, ltb-true}
use Rattle.std.proofs.lemmas.List.{append_assoc, append-nil}
use Rattle.std.proofs.lemmas.List.Elements.{filter-append}
use Rattle.mar_store.specs.Changes.{Left, Within}
use Rattle.mar_store.specs.Lost.{wreck_of}
use Rattle.mar_store.specs.Watch.{Follows, Strikes, Watch}
use Rattle.mar_store.specs.declared.Lost.{Lost}
use Rattle.mar_store.specs.declared.Lost.TheVariants.{Fault, Memory}
use Rattle.mar_model.specs.AllEntries.{is_in_place}
use Rattle.mar_model.specs.CacheCalls.{LeavesFailedPut, LeavesPut, is_ignored, put_behind}
use Rattle.mar_model.specs.Cached.{Cached, epoch_of, same_place, with_entry}
use Rattle.mar_epochs.specs.EpochArchives.{is_fault}
use Rattle.mar_epochs.specs.EpochStates.{ChangesEpoch, EpochState, EpochStates, IsBare, IsWholeEpoch, OpensEpoch, held_in, is_opened, may_in, opened, shut, sure_in}
use Rattle.mar_epochs.specs.declared.Change.TheVariants.{Put}
use Rattle.mar_cache.specs.AsOne.{IsLoaded, kept_of, left_of_ways, up_to}
use Rattle.mar_cache.specs.Bounds.{Bounds}
use Rattle.mar_cache.specs.Calls.{IsPut}
use Rattle.mar_cache.specs.Nested.{of_up_to, within_up_to}
use Rattle.mar_cache.specs.Shelved.{AllLeft, DoesAt, FailsAgain, IsDoneInPart, LieWithin, raised}
use Rattle.mar_model.proofs.EntryLists.{contains_none}
use Rattle.mar_cache.proofs.CacheSteps.{left_is}
use Rattle.mar_cache.proofs.EpochLists.{up_to_same}
use Rattle.mar_cache.proofs.ListPuts.{placed}
use Rattle.mar_cache.proofs.Plainly.{put_plain}
use Rattle.mar_cache.proofs.StatePuts.{PutsHere, may_more, opens_loaded, puts_here, still_open, sure_more}
use Rattle.mar_cache.proofs.Watched.{IsCalmLost}

-- WHAT IS TOLD

pub fails_same : (old new : Watch) → new ≡ old → FailsAgain old new
fails_same old new is = subst (FailsAgain old) (sym is) (record { later = omega arith; same = refl })

pub fails_lost : {W : Type 0} (left : W → Watch) (old : Watch) (l : Lost W) → IsCalmLost left old l → FailsAgain old (left (wreck_of l))
fails_lost left old (Fault w) calm = record { later = let rose = calm.0 in omega (arith, rose); same = calm.2 }
fails_lost left old (Memory w) calm = fails_same old (left w) calm

pub strikes_on : (old mid new : Watch) → Strikes old mid → FailsAgain mid new → Strikes old new
strikes_on old mid new strikes again = record {
  rose = let rose = strikes.rose in let later = again.later in omega (arith, rose, later);
  armed = strikes.armed;
  same = again.same ∙ ap {A = Watch} (λ w. record w { faults = new.faults }) strikes.same;
}

-- WHAT AN ARMED PUT LEAVES OF THE EPOCHS

module _ {E : Type 0} (plain : E → Cached) (entry : E) (keeps : Option Follows) (b : Bounds) (old : EpochStates) (ways : List EpochStates) (lefts : List Bounds) where
  pub part_ready : epoch_of (plain entry) < b.lowest → (is_some keeps ≡ true → (k : ℕ) → IsWholeEpoch (old k)) → AllLeft old ways → length ways ≡ 1 → lefts ≡ b ∷ [] → IsDoneInPart plain entry keeps b old ways lefts
  part_ready low whole left one is = record { new = old; ready = λ less. (refl, is); done = λ above. absurd (omega (arith, low, above)); whole = whole; left = left; one = one }

  pub part_done : b.lowest ≤ epoch_of (plain entry) → (new : EpochStates) → DoesAt plain (epoch_of (plain entry)) (Put entry ∷ []) old new → (is_some keeps ≡ true → (k : ℕ) → IsWholeEpoch (new k)) → AllLeft new ways → length ways ≡ 1 → lefts ≡ raised (epoch_of (plain entry)) b ∷ [] → IsDoneInPart plain entry keeps b old ways lefts
  part_done above new does whole left one is = record { new = new; ready = λ less. absurd (omega (arith, less, above)); done = λ low. (does, is); whole = whole; left = left; one = one }

-- THE ENTRY AMONG ALL

module _ (old new : ℕ → List Cached) (e h : ℕ) (x : Cached) (own : (k : ℕ) (y : Cached) → Contains (old k) y → epoch_of y ≡ k) (epoch : epoch_of x ≡ e) (inside : e ≤ h) (here : new e ≡ with_entry (old e) x) (others : (k : ℕ) → k ≢ e → new k ≡ old k) where
  abbrev up : Cached → Bool
  up y = nat_le (epoch_of y) (epoch_of x)

  abbrev over : Cached → Bool
  over y = nat_lt (epoch_of x) (epoch_of y)

  all_up : (xs : List Cached) → ((y : Cached) → Contains xs y → epoch_of y ≤ epoch_of x) → filter up xs ≡ xs
  all_up [] low = refl
  all_up (y ∷ xs) low = ap (λ c. cond c (y ∷ filter up xs) (filter up xs)) (le-leb (epoch_of y) (epoch_of x) (low y (zero, omega arith, refl))) ∙ ap (λ ys. y ∷ ys) (all_up xs (λ z (i, less, is). low z (suc i, omega (arith, less), is)))

  none_over : (xs : List Cached) → ((y : Cached) → Contains xs y → epoch_of y ≤ epoch_of x) → filter over xs ≡ []
  none_over [] low = refl
  none_over (y ∷ xs) low = ap (λ c. cond c (y ∷ filter over xs) (filter over xs)) (le-ltb (epoch_of x) (epoch_of y) (low y (zero, omega arith, refl))) ∙ none_over xs (λ z (i, less, is). low z (suc i, omega (arith, less), is))

  none_up : (xs : List Cached) → ((y : Cached) → Contains xs y → epoch_of x < epoch_of y) → filter up xs ≡ []
  none_up [] high = refl
  none_up (y ∷ xs) high = ap (λ c. cond c (y ∷ filter up xs) (filter up xs)) (lt-leb (epoch_of y) (epoch_of x) (high y (zero, omega arith, refl))) ∙ none_up xs (λ z (i, less, is). high z (suc i, omega (arith, less), is))

  all_over : (xs : List Cached) → ((y : Cached) → Contains xs y → epoch_of x < epoch_of y) → filter over xs ≡ xs
  all_over [] high = refl
  all_over (y ∷ xs) high = ap (λ c. cond c (y ∷ filter over xs) (filter over xs)) (lt-ltb (epoch_of x) (epoch_of y) (high y (zero, omega arith, refl))) ∙ ap (λ ys. y ∷ ys) (all_over xs (λ z (i, less, is). high z (suc i, omega (arith, less), is)))

  -- entries of epochs up to its own come before it
  behind_all : (xs : List Cached) → ((y : Cached) → Contains xs y → epoch_of y ≤ epoch_of x) → put_behind x xs ≡ xs ++ x ∷ []
  behind_all xs low = ap₂ (λ ys zs. ys ++ x ∷ zs) (all_up xs low) (none_over xs low)

  -- and of later epochs behind it
  before_more : (xs ys : List Cached) → ((y : Cached) → Contains ys y → epoch_of x < epoch_of y) → put_behind x (xs ++ ys) ≡ put_behind x xs ++ ys
  before_more xs ys high =
      ap₂ (λ us vs. us ++ x ∷ vs) (filter-append up xs ys ∙ ap (λ zs. filter up xs ++ zs) (none_up ys high) ∙ append-nil (filter up xs)) (filter-append over xs ys ∙ ap (λ zs. filter over xs ++ zs) (all_over ys high))
      ∙ sym (append_assoc (filter up xs) (x ∷ filter over xs) ys)

  low_in : (j : ℕ) → j ≤ e → (y : Cached) → Contains (up_to old j) y → epoch_of y ≤ epoch_of x
  low_in j within y has = let (k, under, found) = of_up_to old j y has in let at = own k y found in omega (arith, under, at, within, epoch)

  module _ (added : new e ≡ old e ++ x ∷ []) where
    before : (j : ℕ) → j < e → up_to new j ≡ up_to old j
    before j less = up_to_same new old j (λ k within. others k (λ is. omega (arith, is, within, less)))

    pub added_behind : (j : ℕ) → e ≤ j → up_to new j ≡ put_behind x (up_to old j)
    added_behind zero within =
        let first : zero ≡ e = omega (arith, within) in
        ap new first ∙ added ∙ sym (behind_all (old e) (λ y has. let at = own e y has in omega (arith, at, epoch))) ∙ ap (λ k. put_behind x (old k)) (sym first)
    added_behind (suc j) within = elim (cases_eq e (suc j)) [
      | inl same ↦ ap₂ (λ us vs. us ++ vs) (before j (omega (arith, same))) (ap new (sym same) ∙ added ∙ ap (λ k. old k ++ x ∷ []) same) ∙ sym (append_assoc (up_to old j) (old (suc j)) (x ∷ [])) ∙ sym (behind_all (up_to old (suc j)) (low_in (suc j) (omega (arith, same))))
      | inr other ↦ ap₂ (λ us vs. us ++ vs) (added_behind j (omega (arith, within, other))) (others (suc j) (λ is. other (sym is))) ∙ sym (before_more (up_to old j) (old (suc j)) (λ y has. let at = own (suc j) y has in omega (arith, at, epoch, within, other)))
    ]

  pub puts_behind : up_to new h ≡ cond (list_any (is_in_place x) (up_to old h)) (up_to old h) (put_behind x (up_to old h))
  puts_behind = by (list_any (same_place x) (old e)) here ∙ ap (λ c. cond c (up_to old h) (put_behind x (up_to old h))) (sym (placed old new e h x own epoch inside here others))
    where
      by : (c : Bool) → new e ≡ cond c (old e) (old e ++ x ∷ []) → up_to new h ≡ cond c (up_to old h) (put_behind x (up_to old h))
      by true is = up_to_same new old h (λ k within. elim (cases_eq k e) [ inl same ↦ ap new same ∙ is ∙ ap old (sym same) | inr other ↦ others k other ])
      by false is = added_behind is h inside

-- WHAT IS LEFT

-- of a loaded cache that goes by luck all that is held may be left, in that order
whole_may : (t : EpochState) → IsWholeEpoch t → (is_opened t ≡ false → IsBare t) → may_in t ≡ held_in t
whole_may (opened c) whole bare = whole
whole_may (shut l) whole bare = ap (λ m. m.may) (bare refl)

-- a put makes nothing sure
sure_here : (x : Cached) (t mid m n : EpochState) → OpensEpoch t mid → (is_opened t ≡ false → IsBare t) → ChangesEpoch (λ y. y) (Put x) mid m → n ≡ m → Within (sure_in n) (sure_in t)
sure_here x t mid m n opens bare done is y has =
    let (c, mid_is, same) = opens_loaded t mid opens bare in
    let (d, does, m_is) = subst (λ u. ChangesEpoch (λ y. y) (Put x) u m) mid_is done in
    elim (does.only y (subst (λ u. Contains (sure_in u) y) (is ∙ m_is) has)) [ inl before ↦ subst (λ ys. Contains ys y) same.sure before | inr none ↦ contains_none y none ]

module _ (x : Cached) (b : Bounds) (old : EpochStates) (lie : LieWithin old b) (loaded : IsLoaded old) (whole : (k : ℕ) → IsWholeEpoch (old k)) where
  abbrev e : ℕ
  e = epoch_of x

  abbrev h : ℕ
  h = (raised (epoch_of x) b).highest

  above : b.highest ≤ (raised (epoch_of x) b).highest
  above = omega arith

  inside : epoch_of x ≤ (raised (epoch_of x) b).highest
  inside = omega arith

  as_held : (k : ℕ) → may_in (old k) ≡ held_in (old k)
  as_held k = whole_may (old k) (whole k) (loaded k)

  same_lists : (kept_of old b.highest).may ≡ (kept_of old b.highest).held
  same_lists = up_to_same (λ k. may_in (old k)) (λ k. held_in (old k)) b.highest (λ k within. as_held k)

  left_ready : (ways : List EpochStates) (lefts : List Bounds) → e < b.lowest → AllLeft old ways → length ways ≡ 1 → lefts ≡ b ∷ [] → LeavesPut x b.lowest (kept_of old b.highest) (left_of_ways ways lefts)
  left_ready ways lefts low left one is = subst (LeavesPut x b.lowest (kept_of old b.highest)) (sym (left_is old ways b lefts left one is)) (record {
    may = sym (ap (λ c. cond (c || list_any (is_in_place x) (kept_of old b.highest).held) (kept_of old b.highest).may (put_behind x (kept_of old b.highest).may)) (lt-ltb (epoch_of x) b.lowest low));
    sure = λ y has. has;
  })

  module _ (new : EpochStates) (low : b.lowest ≤ e) (does : IsPut x old new) (new_whole : (k : ℕ) → IsWholeEpoch (new k)) where
    put : PutsHere x (old e) (new e)
    put = puts_here x (old e) does.mid does.done.0 (new e) does.opens (loaded e) does.done.1 does.done.2

    not_bare : is_opened (new e) ≡ false → IsBare (new e)
    not_bare closed = absurd (let clash : true ≡ false = sym (ap is_opened does.done.2 ∙ still_open x (old e) does.mid does.done.0 does.opens does.done.1) ∙ closed in cc)

    here_may : may_in (new e) ≡ with_entry (may_in (old e)) x
    here_may = whole_may (new e) (new_whole e) not_bare ∙ put.held ∙ ap (λ ys. with_entry ys x) (sym (as_held e))

    each : (k : ℕ) → (k ≡ e) ⊎ (k ≡ e → ⊥) → Within (sure_in (new k)) (sure_in (old k))
    each k (inl same) = subst (λ j. Within (sure_in (new j)) (sure_in (old j))) (sym same) (sure_here x (old e) does.mid does.done.0 (new e) does.opens (loaded e) does.done.1 does.done.2)
    each k (inr other) = λ y has. subst (λ t. Contains (sure_in t) y) (does.others k other) has

    none_below : nat_lt e b.lowest ≡ false
    none_below = le-ltb e b.lowest low

    all_may : (kept_of new (raised (epoch_of x) b).highest).may ≡ cond (is_ignored x b.lowest (kept_of old b.highest)) (kept_of old b.highest).may (put_behind x (kept_of old b.highest).may)
    all_may =
        puts_behind (λ k. may_in (old k)) (λ k. may_in (new k)) (epoch_of x) h x (λ k. (lie k).may) refl inside here_may (λ k other. ap may_in (does.others k other))
        ∙ ap (λ ys. cond (list_any (is_in_place x) ys) ys (put_behind x ys)) (may_more old b lie h above)
        ∙ ap (λ ys. cond (list_any (is_in_place x) ys) (kept_of old b.highest).may (put_behind x (kept_of old b.highest).may)) same_lists
        ∙ sym (ap (λ c. cond (c || list_any (is_in_place x) (kept_of old b.highest).held) (kept_of old b.highest).may (put_behind x (kept_of old b.highest).may)) none_below)

    left_done : (ways : List EpochStates) (lefts : List Bounds) → AllLeft new ways → length ways ≡ 1 → lefts ≡ raised (epoch_of x) b ∷ [] → LeavesPut x b.lowest (kept_of old b.highest) (left_of_ways ways lefts)
    left_done ways lefts left one is = subst (LeavesPut x b.lowest (kept_of old b.highest)) (sym (left_is new ways (raised (epoch_of x) b) lefts left one is)) (record {
      may = all_may;
      sure = λ y has. subst (λ zs. Contains zs y) (sure_more old b lie h above) (within_up_to (λ k. sure_in (new k)) (λ k. sure_in (old k)) h (λ k within. each k (cases_eq k e)) y has);
    })

pub left_in_part : {E : Type 0} (plain : E → Cached) (entry : E) (keeps : Option Follows) (b : Bounds) (old : EpochStates) (ways : List EpochStates) (lefts : List Bounds) → LieWithin old b → IsLoaded old → (is_some keeps ≡ true → (k : ℕ) → IsWholeEpoch (old k)) → IsDoneInPart plain entry keeps b old ways lefts → is_some keeps ≡ true
    → LeavesPut (plain entry) b.lowest (kept_of old b.highest) (left_of_ways ways lefts)
left_in_part plain entry keeps b old ways lefts lie loaded whole part goes = elim (low_or (epoch_of (plain entry)) b.lowest) [
  | inl low ↦ left_ready (plain entry) b old lie loaded (whole goes) ways lefts low (subst (λ s. AllLeft s ways) (part.ready low).0 part.left) part.one (part.ready low).1
  | inr high ↦ left_done (plain entry) b old lie loaded (whole goes) part.new high (put_plain plain entry old part.new (part.done high).0) (part.whole goes) ways lefts part.left part.one (part.done high).1
]
  where
    low_or : (n m : ℕ) → (n < m) ⊎ (m ≤ n)
    low_or n m = by (nat_lt n m) refl
      where
        by : (c : Bool) → nat_lt n m ≡ c → (n < m) ⊎ (m ≤ n)
        by true is = inl (ltb-true n m is)
        by false is = inr (ltb-false n m is)

-- what a put that failed leaves, as a cache tells it
pub left_of_failed : {E W : Type 0} (left : W → Left Cached) (short : W → Bool) (plain : E → Cached) (entry : E) (keeps : Option Follows) (b : Bounds) (loaded : Bool) (watch : Watch) (old : EpochStates) (ways : W → List EpochStates) (lefts : W → List Bounds)
    → ((w : W) → left w ≡ left_of_ways (ways w) (lefts w)) → watch.keeps ≡ keeps → LieWithin old b → (loaded ≡ true → IsLoaded old) → (is_some keeps ≡ true → (k : ℕ) → IsWholeEpoch (old k)) → (l : Lost W)
    → (is_fault l ≡ true → watch.only_armed ≡ true → short (wreck_of l) ≡ false → IsDoneInPart plain entry keeps b old (ways (wreck_of l)) (lefts (wreck_of l)))
    → LeavesFailedPut left short (plain entry) b.lowest loaded watch (kept_of old b.highest) l
left_of_failed left short plain entry keeps b loaded watch old ways lefts is same lie staged whole (Fault w) part = λ taken only goes long. subst (LeavesPut (plain entry) b.lowest (kept_of old b.highest)) (sym (is w)) (left_in_part plain entry keeps b old (ways w) (lefts w) lie (staged taken) whole (part refl only long) (sym (ap is_some same) ∙ goes))
left_of_failed left short plain entry keeps b loaded watch old ways lefts is same lie staged whole (Memory w) part = tt

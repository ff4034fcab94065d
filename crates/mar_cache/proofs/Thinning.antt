-- Prunes of one epoch after another.
use Rattle.std.proofs.Common.{◌≡◌, ◌⊎◌, inl, inr, ◌≤◌, ◌<◌, ◌+◌, ℕ, zero, suc, List, [], ◌∷◌, Bool, true, false, not, IsTrue, Contains, cond, get_or, length, refl, ap, sym, ◌∙◌, subst, filter, Result, Ok, Err, IfOk, arith}
use Rattle.std.proofs.lemmas.Bool.{cases_eq}
use Rattle.mar_model.specs.Cached.{Cached}
use Rattle.mar_model.specs.Cache.{is_certified_below}
use Rattle.mar_epochs.specs.EpochArchives.{held_after, is_kept, puts_of}
use Rattle.mar_epochs.specs.EpochStates.{ChangesEpoch, EpochState, EpochStates, HasSome, KeepsOtherEpochs, held_in, is_opened, opened, shut}
use Rattle.mar_cache.specs.Shelved.{IsClear, KeepsTickets, ThinsEpoch}
use Rattle.mar_epochs.specs.declared.Change.{Change}
use Rattle.mar_epochs.specs.declared.Change.TheVariants.{PruneCertified}
use Rattle.mar_epochs.proofs.Filtering.{contains_more, contains_none}
use Rattle.mar_cache.proofs.Shelving.{changes_grows, filter_contains, grows_itself, grows_then, index_default}

within_filter : (p : Cached → Bool) (xs : List Cached) (x : Cached) → Contains (filter p xs) x → Contains xs x
within_filter p [] x has = has
within_filter p (y ∷ ys) x has = by (p y) (within_filter p ys x) has
  where
    by : (b : Bool) → (Contains (filter p ys) x → Contains ys x) → Contains (cond b (y ∷ filter p ys) (filter p ys)) x → Contains (y ∷ ys) x
    by true rest (zero, lt, is) = (zero, omega arith, is)
    by true rest (suc k, lt, is) = contains_more y ys x (rest (k, omega arith, is))
    by false rest has' = contains_more y ys x (rest has')

passes_filter : (p : Cached → Bool) (xs : List Cached) (x : Cached) → Contains (filter p xs) x → p x ≡ true
passes_filter p [] x has = contains_none x has
passes_filter p (y ∷ ys) x has = by (p y) refl (passes_filter p ys x) has
  where
    by : (b : Bool) → p y ≡ b → (Contains (filter p ys) x → p x ≡ true) → Contains (cond b (y ∷ filter p ys) (filter p ys)) x → p x ≡ true
    by true passes rest (zero, lt, is) = ap p (sym is) ∙ passes
    by true passes rest (suc k, lt, is) = rest (k, omega arith, is)
    by false passes rest has' = rest has'

pub test_from_kept : (b : Bool) → b ≡ false → not (not b) ≡ false
test_from_kept true is = absurd cc
test_from_kept false is = refl

pub kept_from_test : (b : Bool) → b ≡ false → IsTrue (not b)
kept_from_test true is = absurd cc
kept_from_test false is = refl

tickets_itself : (test : Cached → Bool) (t : EpochState) → KeepsTickets test t t
tickets_itself test (opened b) = (omega arith, λ s t below less x has stays. has)
tickets_itself test (shut l) = tt

tickets_then : (test : Cached → Bool) (t u v : EpochState) → KeepsTickets test t u → KeepsTickets test u v → KeepsTickets test t v
tickets_then test (opened b) (opened c) (opened d) first second = (omega (arith, first.0, second.0), λ s t below less x has stays. second.1 s t (omega (arith, below, first.0)) less x (first.1 s t below less x has stays) stays)
tickets_then test (opened b) (opened c) (shut l) first second = absurd second
tickets_then test (opened b) (shut l) v first second = absurd first
tickets_then test (shut l) u v first second = tt

pub thins_itself : (test : Cached → Bool) (t : EpochState) → ThinsEpoch test t t
thins_itself test t = record { grows = grows_itself [] test t; within = λ x has. has; rest = refl; opened = refl; tickets = tickets_itself test t }

thins_then : (test : Cached → Bool) (t u v : EpochState) → ThinsEpoch test t u → ThinsEpoch test u v → ThinsEpoch test t v
thins_then test t u v first second = record { grows = grows_then [] test t u v first.grows second.grows; within = λ x has. first.within x (second.within x has); rest = second.rest ∙ first.rest; opened = second.opened ∙ first.opened; tickets = tickets_then test t u v first.tickets second.tickets }

-- what passes passes again
filter_again : (p : Cached → Bool) (xs : List Cached) → filter p (filter p xs) ≡ filter p xs
filter_again p [] = refl
filter_again p (x ∷ xs) = by (p x) refl (filter_again p xs)
  where
    by : (c : Bool) → p x ≡ c → filter p (filter p xs) ≡ filter p xs → filter p (cond c (x ∷ filter p xs) (filter p xs)) ≡ cond c (x ∷ filter p xs) (filter p xs)
    by true is rest = ap (λ c. cond c (x ∷ filter p (filter p xs)) (filter p (filter p xs))) is ∙ ap (λ ys. x ∷ ys) rest
    by false is rest = rest

-- one prune of an epoch
pub thins_change : {E : Type 0} (plain : E → Cached) (change : Change E) (test : Cached → Bool) (t u : EpochState) → puts_of plain change ≡ [] → ((x : Cached) → is_kept change x ≡ not (test x)) → ((held : List Cached) → held_after plain change held ≡ filter (λ x. not (test x)) held) → ChangesEpoch plain change t u → ThinsEpoch test t u
thins_change plain change test (opened b) u no_puts kept held_is (c, does, is) = subst (ThinsEpoch test (opened b)) (sym is) (record {
  grows = changes_grows plain change [] test (opened b) (opened c) (λ x has. subst (λ ys. Contains ys x) no_puts has) (λ x stays. kept x ∙ kept_from_test (test x) stays) (c, does, refl);
  within = λ x has. from b.kept.held x (subst (λ ys. Contains ys x) (does.held ∙ held_is b.kept.held) has);
  rest = ap (filter (λ x. not (test x))) (does.held ∙ held_is b.kept.held) ∙ filter_again (λ x. not (test x)) b.kept.held;
  opened = refl;
  tickets = (does.number, λ s t below less x has stays. subst (λ ys. Contains ys x) (sym (does.covers s t below less)) (filter_contains (is_kept change) (b.covers s t) x has (kept x ∙ kept_from_test (test x) stays)));
})
  where
    from : (xs : List Cached) (x : Cached) → Contains (filter (λ y. not (test y)) xs) x → Contains xs x
    from xs x has = within_filter (λ y. not (test y)) xs x has
thins_change plain change test (shut l) u no_puts kept held_is is = subst (ThinsEpoch test (shut l)) (sym is) (thins_itself test (shut l))

pub thins_step : (test : Cached → Bool) (e : ℕ) (old mid new : EpochStates) → ((k : ℕ) → ThinsEpoch test (old k) (mid k)) → ThinsEpoch test (mid e) (new e) → KeepsOtherEpochs e mid new → (k : ℕ) → ThinsEpoch test (old k) (new k)
thins_step test e old mid new before here others k = by (cases_eq k e)
  where
    by : (k ≡ e) ⊎ (k ≡ e → ⊥) → ThinsEpoch test (old k) (new k)
    by (inl same) = subst (λ j. ThinsEpoch test (old j) (new j)) (sym same) (thins_then test (old e) (mid e) (new e) (before e) here)
    by (inr other) = subst (ThinsEpoch test (old k)) (sym (others k other)) (before k)

pub clear_stays : (test : Cached → Bool) (e : ℕ) (mid new : EpochStates) → ThinsEpoch test (mid e) (new e) → KeepsOtherEpochs e mid new → (k : ℕ) → IsClear test (mid k) → IsClear test (new k)
clear_stays test e mid new here others k clear = by (cases_eq k e)
  where
    by : (k ≡ e) ⊎ (k ≡ e → ⊥) → IsClear test (new k)
    by (inl same) = λ x has. clear x (subst (λ j. Contains (held_in (mid j)) x) (sym same) (here.within x (subst (λ j. Contains (held_in (new j)) x) same has)))
    by (inr other) = λ x has. clear x (subst (λ t. Contains (held_in t) x) (others k other) has)

not_true : (b : Bool) → not b ≡ true → b ≡ false
not_true true is = absurd cc
not_true false is = refl

pub clear_here : {E : Type 0} (plain : E → Cached) (height : ℕ) (t u : EpochState) → ChangesEpoch plain (PruneCertified height) t u → IsClear (is_certified_below height) u
clear_here plain height (opened b) u (c, does, is) = subst (IsClear (is_certified_below height)) (sym is) (λ x has. not_true (is_certified_below height x) (passes_filter (λ y. not (is_certified_below height y)) b.kept.held x (subst (λ ys. Contains ys x) does.held has)))
clear_here plain height (shut l) u is = subst (IsClear (is_certified_below height)) (sym is) (λ x has. contains_none x has)

pub clear_more : (test : Cached → Bool) (states : EpochStates) (es : List ℕ) (place : ℕ) → ((j : ℕ) → j < place → IsClear test (states (get_or es j 0))) → IsClear test (states (get_or es place 0)) → (j : ℕ) → j < place + 1 → IsClear test (states (get_or es j 0))
clear_more test states es place before here j less = by (cases_eq j place)
  where
    by : (j ≡ place) ⊎ (j ≡ place → ⊥) → IsClear test (states (get_or es j 0))
    by (inl same) = subst (λ i. IsClear test (states (get_or es i 0))) (sym same) here
    by (inr other) = before j (omega (arith, less, other))

pub clear_all : (test : Cached → Bool) (states : EpochStates) (es : List ℕ) (place : ℕ) → length es ≤ place → ((j : ℕ) → j < place → IsClear test (states (get_or es j 0))) → (k : ℕ) → Contains es k → IsClear test (states k)
clear_all test states es place over all k (j, less, is) = subst (λ e. IsClear test (states e)) (index_default es j 0 k less ∙ is) (all j (omega (arith, over, less)))

-- what isn't open holds nothing
pub clear_each : (test : Cached → Bool) (old mid new : EpochStates) → ((k : ℕ) → mid k ≡ old k) → ((k : ℕ) → ThinsEpoch test (mid k) (new k)) → ((k : ℕ) → HasSome (old k) → IsClear test (new k)) → (k : ℕ) → IsClear test (new k)
clear_each test old mid new same thins clear k = by (old k) refl
  where
    closed : (t : EpochState) → is_opened t ≡ false → IsClear test t
    closed (opened b) is = absurd cc
    closed (shut l) is = λ x has. contains_none x has

    by : (t : EpochState) → old k ≡ t → IsClear test (new k)
    by (opened b) is = clear k (subst HasSome (sym is) tt)
    by (shut l) is = closed (new k) ((thins k).opened ∙ ap is_opened (same k ∙ is))

pub clear_if : {S L : Type 0} (test : Cached → Bool) (states : S → EpochStates) (old mid : EpochStates) (es : List ℕ) (r : Result S L) → ((k : ℕ) → mid k ≡ old k) → IfOk r (λ s. (k : ℕ) → ThinsEpoch test (mid k) (states s k)) → ((k : ℕ) → Contains es k → IfOk r (λ s. IsClear test (states s k))) → ((k : ℕ) → HasSome (old k) → Contains es k) → IfOk r (λ s. (k : ℕ) → IsClear test (states s k))
clear_if test states old mid es (Ok s) same thins clear found = clear_each test old mid (states s) same thins (λ k some. clear k (found k some))
clear_if test states old mid es (Err l) same thins clear found = tt

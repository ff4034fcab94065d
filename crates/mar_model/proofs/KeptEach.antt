-- Entries that are kept in the cache one after another in one event: what that makes of the cache and of its open syncs.
use Rattle.std.proofs.Common.{◌≡◌, ◌≢◌, ◌⊎◌, inl, inr, ⊎_elim, ℕ, None, Some, ◌+◌, ◌<◌, ◌≤◌, List, [], ◌∷◌, ◌++◌, length, filter, fold, Bool, true, false, cond, Option, Contains, refl, sym, ◌∙◌, ap, subst, arith, append-nil, append_assoc, length-append, suc, nat_lt}
use Rattle.std.specs.List.{AllByRecursion, filter_map, list_any}
use Rattle.std.specs.Option.{option_or}
use Rattle.std.proofs.lemmas.Bool.{cases_lt}
use Rattle.std.proofs.lemmas.List.Elements.{Contains-append_cases, Contains-append_left, Contains-append_right, filter_map-append}
use Rattle.mar_types.specs.Round.{Round}
use Rattle.mar_cert.specs.Block.{Block}
use Rattle.mar_store.specs.Changes.{Within}
use Rattle.mar_store.specs.Kept.{Kept}
use Rattle.mar_model.specs.AllEntries.{is_in_place, with_own_entry}
use Rattle.mar_model.specs.Cache.{first_of, first_verified, tickets_from, verified_in}
use Rattle.mar_model.specs.CacheCalls.{none_goes}
use Rattle.mar_model.specs.Cached.{Cached, epoch_of, same_place, with_entry}
use Rattle.mar_model.specs.Held.{Held, Watches}
use Rattle.mar_model.specs.Moves.{KeepsFor, KeepsNotarizedWhere, PutsAll, ticketed}
use Rattle.mar_model.specs.Node.{CacheSync}
use Rattle.mar_model.specs.OpenSyncs.{AreStillOpen}
use Rattle.mar_model.proofs.CacheChanges.{any_within}
use Rattle.mar_model.proofs.CacheSteps.{is_certified, own_is, with_cases, with_more, without}
use Rattle.mar_model.proofs.EntryLists.{contains_here, contains_more, filter_passed, filtered}
use Rattle.mar_model.proofs.OpenSyncs.{AreStillOpen-refl, AreStillOpen-then}
use Rattle.mar_gate.specs.Writing.{Writing}
use Rattle.mar_model.specs.Acts.{KeepsAndTells, kept_value}
use Rattle.mar_model.specs.Answers.{TicketAnswer, started_value, to}
use Rattle.std.proofs.lemmas.Bool.Decides.{nat_tests}

-- READS BESIDE A KEEP

-- a read follows
pub KeepsFor-read : (epoch : ℕ) (put : List Cached) (covered : Cached → Bool) (answer ticket : Option ℕ) (old new : Held) (w : Watches) → KeepsFor epoch put covered answer ticket old new → KeepsFor epoch put covered answer ticket old (record new { watches = w })
KeepsFor-read epoch put covered answer ticket old new w keeps = record {
  below = keeps.below;
  done = λ loaded from. let (given, puts, starts) = keeps.done loaded from in (given, puts, record { still = starts.still; still_open = starts.still_open; entries = starts.entries; covers = starts.covers; are = starts.are });
  loaded = keeps.loaded;
  same = ap {A = Held} (λ h. record h { watches = w }) keeps.same;
}

-- a read came before
pub KeepsFor-unread : (epoch : ℕ) (put : List Cached) (covered : Cached → Bool) (answer ticket : Option ℕ) (old new : Held) (w : Watches) → KeepsFor epoch put covered answer ticket (record old { watches = w }) new → KeepsFor epoch put covered answer ticket old new
KeepsFor-unread epoch put covered answer ticket old new w keeps = record {
  below = keeps.below;
  done = λ loaded from. let (given, puts, starts) = keeps.done loaded from in (given, puts, record { still = starts.still; still_open = starts.still_open; entries = starts.entries; covers = starts.covers; are = starts.are });
  loaded = keeps.loaded;
  same = keeps.same;
}

pub KeepsNotarizedWhere-unread : (c : Bool) (r : Round) (b : Block) (old new : Held) (w : Watches) → KeepsNotarizedWhere c r b (record old { watches = w }) new → KeepsNotarizedWhere c r b old new
KeepsNotarizedWhere-unread true r b old new w same = same
KeepsNotarizedWhere-unread false r b old new w (ticket, keeps) = (ticket, KeepsFor-unread r.epoch _ _ _ ticket old new w keeps)

-- ENTRIES THAT WERE PUT

-- an entry stands behind those that were there, or isn't new
own_behind : (x : Cached) (held : List Cached) (y : Cached) → Contains (with_own_entry held x) y → Contains (held ++ x ∷ []) y
own_behind x held y = by (list_any (is_in_place x) held)
  where
    by : (c : Bool) → Contains (cond c held (held ++ x ∷ [])) y → Contains (held ++ x ∷ []) y
    by true has = Contains-append_left held (x ∷ []) y has
    by false has = has

-- first one, and then the others
then_others : (x : Cached) (xs old mid new : List Cached) → Within mid (old ++ x ∷ []) → Within new (mid ++ xs) → Within new (old ++ x ∷ xs)
then_others x xs old mid new first others y has = ⊎_elim (λ there. ⊎_elim (λ before. Contains-append_left old (x ∷ xs) y before) (λ own. Contains-append_right old (x ∷ xs) y (Contains-append_left (x ∷ []) xs y own)) (Contains-append_cases old (x ∷ []) y (first y there))) (λ later. Contains-append_right old (x ∷ xs) y (Contains-append_right (x ∷ []) xs y later)) (Contains-append_cases mid xs y (others y has))

pub PutsAll-held : (put : List Cached) (old new : Kept Cached) → PutsAll put old new → Within new.held (old.held ++ put)
PutsAll-held [] old new is y has = Contains-append_left old.held [] y (subst (λ k. Contains k.held y) is has)
PutsAll-held (x ∷ xs) old new (mid, puts, others) y has = then_others x xs old.held mid.held new.held (λ z there. own_behind x old.held z (puts.only z there)) (PutsAll-held xs mid new others) y has

pub PutsAll-may : (put : List Cached) (old new : Kept Cached) → PutsAll put old new → Within new.may (old.may ++ put)
PutsAll-may [] old new is y has = Contains-append_left old.may [] y (subst (λ k. Contains k.may y) is has)
PutsAll-may (x ∷ xs) old new (mid, puts, others) y has = then_others x xs old.may mid.may new.may puts.may (PutsAll-may xs mid new others) y has

pub PutsAll-sure : (put : List Cached) (old new : Kept Cached) → PutsAll put old new → Within old.sure new.sure
PutsAll-sure [] old new is y has = subst (λ k. Contains k.sure y) (sym is) has
PutsAll-sure (x ∷ xs) old new (mid, puts, others) y has = PutsAll-sure xs mid new others y (puts.sure y has)

-- what passes a test that no put passes is as it was
pub PutsAll-others : (passes : Cached → Bool) (put : List Cached) (old new : Kept Cached) → ((x : Cached) → Contains put x → passes x ≡ false) → PutsAll put old new → filter passes new.held ≡ filter passes old.held
PutsAll-others passes [] old new fails is = ap (λ k. filter passes k.held) is
PutsAll-others passes (x ∷ xs) old new fails (mid, puts, others) = PutsAll-others passes xs mid new (λ y has. fails y (contains_more x xs y has)) others ∙ puts.others passes (fails x (contains_here x xs))

PutsAll-append : (put more : List Cached) (old mid new : Kept Cached) → PutsAll put old mid → PutsAll more mid new → PutsAll (put ++ more) old new
PutsAll-append [] more old mid new is second = subst (λ k. PutsAll more k new) is second
PutsAll-append (x ∷ xs) more old mid new (next, puts, others) second = (next, puts, PutsAll-append xs more next mid new others second)

-- THE SAME ENTRIES

-- Lists with the same entries, and of each round the same block first.
pub record AreAlike (some others : List Cached) : Type 0 where
  pub within : Within some others
  pub back : Within others some
  pub firsts : (r : Round) → first_verified some r ≡ first_verified others r

pub AreAlike-refl : (xs : List Cached) → AreAlike xs xs
AreAlike-refl xs = record { within = λ y has. has; back = λ y has. has; firsts = λ r. refl }

AreAlike-then : (xs ys zs : List Cached) → AreAlike xs ys → AreAlike ys zs → AreAlike xs zs
AreAlike-then xs ys zs one two = record { within = λ y has. two.within y (one.within y has); back = λ y has. one.back y (two.back y has); firsts = λ r. one.firsts r ∙ two.firsts r }

any_alike : (test : Cached → Bool) (xs ys : List Cached) → AreAlike xs ys → list_any test xs ≡ list_any test ys
any_alike test xs ys are = by (list_any test xs) refl (list_any test ys) refl
  where
    by : (c : Bool) → list_any test xs ≡ c → (d : Bool) → list_any test ys ≡ d → c ≡ d
    by true some true also = refl
    by true some false none = let both : false ≡ true = sym none ∙ any_within test xs ys are.within some in cc
    by false none true some = let both : false ≡ true = sym none ∙ any_within test ys xs are.back some in cc
    by false none false neither = refl

first_of-append : {T : Type 0} (xs ys : List T) → first_of (xs ++ ys) ≡ option_or (first_of xs) (first_of ys)
first_of-append [] ys = refl
first_of-append (x ∷ xs) ys = refl

verified-append : (xs ys : List Cached) (r : Round) → first_verified (xs ++ ys) r ≡ option_or (first_verified xs r) (first_verified ys r)
verified-append xs ys r = ap first_of (filter_map-append (verified_in r) xs ys) ∙ first_of-append (filter_map (verified_in r) xs) (filter_map (verified_in r) ys)

-- with one entry more
AreAlike-entry : (x : Cached) (xs ys : List Cached) → AreAlike xs ys → AreAlike (with_entry xs x) (with_entry ys x)
AreAlike-entry x xs ys are = subst (λ c. AreAlike (with_entry xs x) (cond c ys (ys ++ x ∷ []))) (any_alike (same_place x) xs ys are) (by (list_any (same_place x) xs))
  where
    more : (some others : List Cached) → Within some others → Within (some ++ x ∷ []) (others ++ x ∷ [])
    more some others within y has = ⊎_elim (λ before. Contains-append_left others (x ∷ []) y (within y before)) (λ own. Contains-append_right others (x ∷ []) y own) (Contains-append_cases some (x ∷ []) y has)

    by : (c : Bool) → AreAlike (cond c xs (xs ++ x ∷ [])) (cond c ys (ys ++ x ∷ []))
    by true = are
    by false = record { within = more xs ys are.within; back = more ys xs are.back; firsts = λ r. verified-append xs (x ∷ []) r ∙ (ap (λ o. option_or o (first_verified (x ∷ []) r)) (are.firsts r) ∙ sym (verified-append ys (x ∷ []) r)) }

-- what stands after puts is what was held with each entry, the first of a place kept
pub PutsAll-alike : (put : List Cached) (old new : Kept Cached) (held : List Cached) → ((x : Cached) → Contains put x → is_certified x ≡ false) → PutsAll put old new → AreAlike old.held held → AreAlike new.held (fold with_entry held put)
PutsAll-alike [] old new held by_view is are = subst (λ k. AreAlike k.held held) (sym is) are
PutsAll-alike (x ∷ xs) old new held by_view (mid, puts, others) are =
    PutsAll-alike xs mid new (with_entry held x) (λ y has. by_view y (contains_more x xs y has)) others (AreAlike-then mid.held (with_entry old.held x) (with_entry held x) put_one (AreAlike-entry x old.held held are))
  where
    own : with_own_entry old.held x ≡ with_entry old.held x
    own = own_is x old.held (by_view x (contains_here x xs))

    put_one : AreAlike mid.held (with_entry old.held x)
    put_one = record { within = λ y has. subst (λ ys. Contains ys y) own (puts.only y has); back = λ y has. puts.held y (subst (λ ys. Contains ys y) (sym own) has); firsts = λ r. puts.firsts r ∙ ap (λ ys. first_verified ys r) own }

-- and where nothing is put it is what was held, but for these
pub fold_more : (put held : List Cached) (y : Cached) → Contains held y → Contains (fold with_entry held put) y
fold_more [] held y has = has
fold_more (x ∷ xs) held y has = fold_more xs (with_entry held x) y (with_more x held y has)

pub fold_cases : (put held : List Cached) (y : Cached) → Contains (fold with_entry held put) y → Contains held y ⊎ Contains put y
fold_cases [] held y has = inl has
fold_cases (x ∷ xs) held y has = elim (fold_cases xs (with_entry held x) y has) [
  | inl before ↦ elim (with_cases x held y before) [ inl there ↦ inl there | inr same ↦ inr (subst (Contains (x ∷ xs)) (sym same) (contains_here x xs)) ]
  | inr put ↦ inr (contains_more x xs y put)
]

-- entries of other epochs are no blocks that were verified at that round
pub fold_firsts : (put held : List Cached) (r : Round) → ((x : Cached) → Contains put x → epoch_of x ≢ r.epoch) → first_verified (fold with_entry held put) r ≡ first_verified held r
fold_firsts [] held r other = refl
fold_firsts (x ∷ xs) held r other = fold_firsts xs (with_entry held x) r (λ y has. other y (contains_more x xs y has)) ∙ without x held r (other x (contains_here x xs))

-- SYNCS THAT WERE STARTED

-- what is open of two lists is of the first, and then of the second
AreStillOpen-split : (gone : Cached → Bool) (xs ys zs : List CacheSync) → AreStillOpen gone (xs ++ ys) zs → (first : List CacheSync) × (second : List CacheSync) × (zs ≡ first ++ second) × AreStillOpen gone xs first × AreStillOpen gone ys second
AreStillOpen-split gone [] ys zs opened = ([], zs, refl, tt, opened)
AreStillOpen-split gone (x ∷ xs) ys [] opened = absurd opened
AreStillOpen-split gone (x ∷ xs) ys (z ∷ zs) opened = let (first, second, are, here, behind) = AreStillOpen-split gone xs ys zs opened.1 in (z ∷ first, second, ap (λ ss. z ∷ ss) are, (opened.0, here), behind)

AreStillOpen-append : (gone : Cached → Bool) (xs first ys second : List CacheSync) → AreStillOpen gone xs first → AreStillOpen gone ys second → AreStillOpen gone (xs ++ ys) (first ++ second)
AreStillOpen-append gone [] [] ys second one two = two
AreStillOpen-append gone [] (z ∷ first) ys second one two = absurd one
AreStillOpen-append gone (x ∷ xs) [] ys second one two = absurd one
AreStillOpen-append gone (x ∷ xs) (z ∷ first) ys second one two = (one.0, AreStillOpen-append gone xs first ys second one.1 two)

tickets_from-append : (t : ℕ) (answer : Option ℕ) (held : List Cached) (tests others : List (Cached → Bool)) → tickets_from t answer held (tests ++ others) ≡ tickets_from t answer held tests ++ tickets_from (t + length tests) answer held others
tickets_from-append t answer held [] others = ap (λ k. tickets_from k answer held others) (plus_none t)
  where
    plus_none : (k : ℕ) → k ≡ k + 0
    plus_none k = omega arith
tickets_from-append t answer held (test ∷ tests) others = ap (λ ss. record { ticket = t; entries = filter test held; answer = answer } ∷ ss) (tickets_from-append (t + 1) answer held tests others ∙ ap (λ k. tickets_from (t + 1) answer held tests ++ tickets_from k answer held others) (plus_one t (length tests)))
  where
    plus_one : (k more : ℕ) → k + 1 + more ≡ k + suc more
    plus_one k more = omega arith

-- entries that no test passes are covered by none of these syncs
tickets_from-within : (t : ℕ) (answer : Option ℕ) (old new more : List Cached) (tests : List (Cached → Bool)) → Within new (old ++ more) → ((x : Cached) → Contains more x → AllByRecursion (λ test. test x ≡ false) tests) → AreStillOpen none_goes (tickets_from t answer new tests) (tickets_from t answer old tests)
tickets_from-within t answer old new more [] within apart = tt
tickets_from-within t answer old new more (test ∷ tests) within apart = (record { ticket = refl; answer = refl; covers = λ x has stays. covers x (filtered test new x has) }, tickets_from-within (t + 1) answer old new more tests within (λ x has. (apart x has).1))
  where
    covers : (x : Cached) → Contains new x × (test x ≡ true) → Contains (filter test old) x
    covers x (there, passes) = ⊎_elim (λ before. filter_passed test old x before passes) (λ own. absurd (let both : false ≡ true = sym (apart x own).0 ∙ passes in cc)) (Contains-append_cases old more x (within x there))

-- Syncs of what these tests pass are open behind the others, under the next tickets.
pub record StartsEach (tests : List (Cached → Bool)) (answer : Option ℕ) (old new : Held) : Type 0 where
  pub still : List CacheSync
  pub still_open : AreStillOpen none_goes old.cache.syncs still
  pub started : List CacheSync
  pub started_open : AreStillOpen none_goes (tickets_from old.writes.next_sync answer new.cache.kept.held tests) started
  pub are : new.cache.syncs ≡ still ++ started

StartsEach-then : (tests others : List (Cached → Bool)) (answer : Option ℕ) (more : List Cached) (old mid new : Held) → mid.writes.next_sync ≡ old.writes.next_sync + length tests → Within new.cache.kept.held (mid.cache.kept.held ++ more) → ((x : Cached) → Contains more x → AllByRecursion (λ test. test x ≡ false) tests) → StartsEach tests answer old mid → StartsEach others answer mid new → StartsEach (tests ++ others) answer old new
StartsEach-then tests others answer more old mid new next within apart first second =
    let (still, own, are, still_open, own_open) = AreStillOpen-split none_goes first.still first.started second.still (subst (λ ss. AreStillOpen none_goes ss second.still) first.are second.still_open) in
    record {
      still = still;
      still_open = then old.cache.syncs first.still still first.still_open still_open;
      started = own ++ second.started;
      started_open = subst (λ ss. AreStillOpen none_goes ss (own ++ second.started)) (sym (tickets_from-append old.writes.next_sync answer new.cache.kept.held tests others))
          (AreStillOpen-append none_goes (of_first new.cache.kept.held) own (tickets_from (old.writes.next_sync + length tests) answer new.cache.kept.held others) second.started
          (then (of_first new.cache.kept.held) (of_first mid.cache.kept.held) own (tickets_from-within old.writes.next_sync answer mid.cache.kept.held new.cache.kept.held more tests within apart) (then (of_first mid.cache.kept.held) first.started own first.started_open own_open))
          (subst (λ k. AreStillOpen none_goes (tickets_from k answer new.cache.kept.held others) second.started) next second.started_open));
      are = second.are ∙ (ap (λ ss. ss ++ second.started) are ∙ append_assoc still own second.started);
    }
  where
    then : (a b c : List CacheSync) → AreStillOpen none_goes a b → AreStillOpen none_goes b c → AreStillOpen none_goes a c
    then = AreStillOpen-then none_goes none_goes none_goes (λ x stays. stays) (λ x stays. stays)

    of_first : List Cached → List CacheSync
    of_first held = tickets_from old.writes.next_sync answer held tests

-- ONE AFTER ANOTHER

-- Entries of an epoch were put into the cache in one event, and syncs started, each of what its test passes. Of an epoch below the
-- lowest nothing is kept, and there is nothing to wait for.
pub record KeepsEach (epoch : ℕ) (put : List Cached) (tests : List (Cached → Bool)) (answer : Option ℕ) (old new : Held) : Type 0 where
  pub below : epoch < old.lowest → (new.writes.next_sync ≡ old.writes.next_sync) × (new.cache.kept ≡ old.cache.kept) × AreStillOpen none_goes old.cache.syncs new.cache.syncs
  pub done : old.cache.loaded ≡ true → old.lowest ≤ epoch → (new.writes.next_sync ≡ old.writes.next_sync + length tests) × PutsAll put old.cache.kept new.cache.kept × StartsEach tests answer old new
  pub loaded : new.cache.loaded ≡ old.cache.loaded
  pub same : new ≡ record old { cache = new.cache; writes = record old.writes { next_sync = new.writes.next_sync }; watches = new.watches }

-- one keep alone
pub KeepsEach-for : (epoch : ℕ) (put : List Cached) (covered : Cached → Bool) (answer ticket : Option ℕ) (old new : Held) → KeepsFor epoch put covered answer ticket old new → KeepsEach epoch put (covered ∷ []) answer old new
KeepsEach-for epoch put covered answer ticket old new keeps = record {
  below = λ low. (next ∙ ap (λ t. (ticketed t old.writes).next_sync) (keeps.below low).0, (keeps.below low).1, (keeps.below low).2);
  done = λ loaded from. let (given, puts, starts) = keeps.done loaded from in (
    next ∙ ap (λ t. (ticketed t old.writes).next_sync) given,
    puts,
    record {
      still = starts.still;
      still_open = starts.still_open;
      started = record { ticket = old.writes.next_sync; entries = starts.entries; answer = answer } ∷ [];
      started_open = (record { ticket = refl; answer = refl; covers = λ x has stays. let (there, passes) = filtered covered new.cache.kept.held x has in starts.covers x there passes }, tt);
      are = starts.are;
    },
  );
  loaded = keeps.loaded;
  same = keeps.same ∙ ap {A = Writing} (λ w. record old { cache = new.cache; writes = w; watches = new.watches }) (by ticket ∙ ap {A = ℕ} (λ k. record old.writes { next_sync = k }) (sym next));
}
  where
    next : new.writes.next_sync ≡ (ticketed ticket old.writes).next_sync
    next = ap (λ h. h.writes.next_sync) keeps.same

    by : (t : Option ℕ) → ticketed t old.writes ≡ record old.writes { next_sync = (ticketed t old.writes).next_sync }
    by None = refl
    by (Some t) = refl

-- nothing was kept
pub KeepsEach-none : (epoch : ℕ) (answer : Option ℕ) (old new : Held) → new ≡ record old { watches = new.watches } → KeepsEach epoch [] [] answer old new
KeepsEach-none epoch answer old new same = record {
  below = λ low. (next, kept, syncs);
  done = λ loaded from. (next ∙ plus_none old.writes.next_sync, kept, record { still = new.cache.syncs; still_open = syncs; started = []; started_open = tt; are = sym (append-nil new.cache.syncs) });
  loaded = ap (λ h. h.cache.loaded) same;
  same = same ∙ ap {A = Held} (λ h. record old { cache = h.cache; writes = record old.writes { next_sync = h.writes.next_sync }; watches = h.watches }) (sym same);
}
  where
    next : new.writes.next_sync ≡ old.writes.next_sync
    next = ap (λ h. h.writes.next_sync) same

    kept : new.cache.kept ≡ old.cache.kept
    kept = ap (λ h. h.cache.kept) same

    syncs : AreStillOpen none_goes old.cache.syncs new.cache.syncs
    syncs = subst (λ ss. AreStillOpen none_goes old.cache.syncs ss) (sym (ap (λ h. h.cache.syncs) same)) (AreStillOpen-refl none_goes old.cache.syncs)

    plus_none : (k : ℕ) → k ≡ k + 0
    plus_none k = omega arith

-- keeps one after another, of which a later one puts nothing that an earlier sync is to make sure
pub KeepsEach-then : (epoch : ℕ) (put more : List Cached) (tests others : List (Cached → Bool)) (answer : Option ℕ) (old mid new : Held) → ((x : Cached) → Contains more x → AllByRecursion (λ test. test x ≡ false) tests) → KeepsEach epoch put tests answer old mid → KeepsEach epoch more others answer mid new → KeepsEach epoch (put ++ more) (tests ++ others) answer old new
KeepsEach-then epoch put more tests others answer old mid new apart first second = record {
  below = λ low. let (next, kept, syncs) = first.below low in let (next', kept', syncs') = second.below (subst (λ k. epoch < k) (sym lowest) low) in (next' ∙ next, kept' ∙ kept, AreStillOpen-then none_goes none_goes none_goes (λ x stays. stays) (λ x stays. stays) old.cache.syncs mid.cache.syncs new.cache.syncs syncs syncs');
  done = λ loaded from. let (next, puts, starts) = first.done loaded from in let (next', puts', starts') = second.done (first.loaded ∙ loaded) (subst (λ k. k ≤ epoch) (sym lowest) from) in (
    next' ∙ (ap (λ k. k + length others) next ∙ (plus old.writes.next_sync (length tests) (length others) ∙ ap (λ k. old.writes.next_sync + k) (sym (length-append tests others)))),
    PutsAll-append put more old.cache.kept mid.cache.kept new.cache.kept puts puts',
    StartsEach-then tests others answer more old mid new next (PutsAll-held more mid.cache.kept new.cache.kept puts') apart starts starts',
  );
  loaded = second.loaded ∙ first.loaded;
  same = second.same ∙ ap {A = Held} (λ h. record h { cache = new.cache; writes = record h.writes { next_sync = new.writes.next_sync }; watches = new.watches }) first.same;
}
  where
    lowest : mid.lowest ≡ old.lowest
    lowest = ap (λ h. h.lowest) first.same

    plus : (a b c : ℕ) → a + b + c ≡ a + (b + c)
    plus a b c = omega arith

-- what passes a test that no entry passes is as it was
pub KeepsEach-others : (epoch : ℕ) (put : List Cached) (tests : List (Cached → Bool)) (answer : Option ℕ) (old new : Held) → KeepsEach epoch put tests answer old new → old.cache.loaded ≡ true → (passes : Cached → Bool) → ((x : Cached) → Contains put x → passes x ≡ false) → filter passes new.cache.kept.held ≡ filter passes old.cache.kept.held
KeepsEach-others epoch put tests answer old new keeps loaded passes fails = elim (cases_lt epoch old.lowest) [
  | inl low ↦ ap (λ k. filter passes k.held) (keeps.below low).1
  | inr from ↦ PutsAll-others passes put old.cache.kept new.cache.kept fails (keeps.done loaded from).1
]

-- WHAT IS KEPT FOR A CALLER

kept_value-is : (r : Round) (put : List Cached) (covered : Cached → Bool) (answer sync : Option ℕ) (old new : Held) → KeepsFor r.epoch put covered answer sync old new
    → old.cache.loaded ≡ true → kept_value sync ≡ started_value old.writes.next_sync old.lowest r
kept_value-is r put covered answer sync old new keeps loaded = elim (cases_lt r.epoch old.lowest) [
  | inl low ↦ ap kept_value (keeps.below low).0 ∙ sym (ap (λ c. cond c (kept_value None) (kept_value (Some old.writes.next_sync))) (is_low low))
  | inr from ↦ ap kept_value (keeps.done loaded from).0 ∙ sym (ap (λ c. cond c (kept_value None) (kept_value (Some old.writes.next_sync))) (not_low from))
]
  where
    is_low : r.epoch < old.lowest → nat_lt r.epoch old.lowest ≡ true
    is_low low = grind (arith, nat_tests)

    not_low : old.lowest ≤ r.epoch → nat_lt r.epoch old.lowest ≡ false
    not_low from = grind (arith, nat_tests)

pub told_kept : (r : Round) (put : List Cached) (covered : Cached → Bool) (t : ℕ) (old new : Held) (answered : List TicketAnswer) → KeepsAndTells r.epoch put covered t old new answered
    → old.cache.loaded ≡ true → answered ≡ to t (started_value old.writes.next_sync old.lowest r) ∷ []
told_kept r put covered t old new answered is loaded = is.told ∙ ap (λ v. to t v ∷ []) (kept_value-is r put covered (Some t) is.sync old new is.kept loaded)

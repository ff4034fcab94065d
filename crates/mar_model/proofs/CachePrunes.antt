-- Prunes of the cache, one after another.
use Rattle.std.proofs.Common.{◌≡◌, ◌⊎◌, inl, inr, ⊎_elim, ℕ, zero, suc, List, [], ◌∷◌, ◌++◌, map, filter, fold, max, not, nat_lt, Bool, true, false, cond, if◌then◌else◌, Option, Some, None, Contains, IsTrue, ◌||◌, refl, sym, ◌∙◌, ap, subst, arith, append_assoc, append-nil}
use Rattle.std.specs.List.{cons_option, list_any}
use Rattle.std.proofs.lemmas.Bool.Decides.{nat_tests}
use Rattle.std.proofs.lemmas.List.Elements.{Contains-append_cases, Contains-append_left, Contains-append_right, filter_map-append}
use Rattle.std.proofs.lemmas.List.Sums.{fold-append}
use Rattle.mar_types.specs.Round.{Round, round_lt}
use Rattle.mar_cert.specs.Finalization.{Finalization}
use Rattle.mar_store.specs.Changes.{Within, left_of}
use Rattle.mar_store.specs.Kept.{At, Kept}
use Rattle.mar_model.specs.Acks.{Outstanding}
use Rattle.mar_model.specs.AllEntries.{PrunesByAll}
use Rattle.mar_model.specs.Cache.{Witnessing, is_below, prunes_by, with_witness}
use Rattle.mar_model.specs.Cached.{Cached, cached_block, cached_finalization}
use Rattle.mar_model.specs.Chain.{Chain}
use Rattle.mar_model.specs.Event.{round_at}
use Rattle.mar_model.specs.Held.{Held, LeavesCache}
use Rattle.mar_model.specs.Lives.{later_round}
use Rattle.mar_model.specs.Moves.{PrunesCache, PrunesCacheBy, pruned_by, rounds_of}
use Rattle.mar_model.specs.Node.{Agrees, IsCacheOf, IsFinalized}
use Rattle.mar_model.proofs.Filtered.{all_found_within}
use Rattle.mar_model.proofs.OpenSyncs.{AreStillOpen-more, AreStillOpen-refl, AreStillOpen-then}
use Rattle.mar_model.specs.OpenSyncs.{AreStillOpen}

-- THE ROUNDS THAT PRUNE

-- the last witnessed round after these
abbrev pub last_after : Round → List Round → Round
last_after last rounds = fold (λ r s. later_round r (Some s)) last rounds

-- no prune was before
abbrev pub witnessing_from : Round → Witnessing
witnessing_from last = record { last = last; prunes = [] }

-- prunes at the front stay there
front_stays : (retention : ℕ) (last : Round) (front prunes : List Round) (rounds : List Round) → (fold (with_witness retention) (record { last = last; prunes = front ++ prunes }) rounds).prunes ≡ front ++ (fold (with_witness retention) (record { last = last; prunes = prunes }) rounds).prunes
front_stays retention last front prunes [] = refl
front_stays retention last front prunes (r ∷ rounds) = by (round_lt last r) (λ l ps. front_stays retention l front ps rounds)
  where
    after : Witnessing → List Round
    after w = (fold (with_witness retention) w rounds).prunes

    by : (b : Bool) → ((l : Round) (ps : List Round) → after (record { last = l; prunes = front ++ ps }) ≡ front ++ after (record { last = l; prunes = ps })) → after (if b then record { last = r; prunes = (front ++ prunes) ++ prunes_by retention last ∷ [] } else record { last = last; prunes = front ++ prunes }) ≡ front ++ after (if b then record { last = r; prunes = prunes ++ prunes_by retention last ∷ [] } else record { last = last; prunes = prunes })
    by true others = ap (λ ps. after (record { last = r; prunes = ps })) (append_assoc front prunes (prunes_by retention last ∷ [])) ∙ others r (prunes ++ prunes_by retention last ∷ [])
    by false others = others last prunes

-- the last one witnessed is the latest
pub last_after-is : (retention : ℕ) (w : Witnessing) (rounds : List Round) → (fold (with_witness retention) w rounds).last ≡ last_after w.last rounds
last_after-is retention w [] = refl
last_after-is retention w (r ∷ rounds) = by (round_lt w.last r) (λ v. last_after-is retention v rounds)
  where
    by : (b : Bool) → ((v : Witnessing) → (fold (with_witness retention) v rounds).last ≡ last_after v.last rounds) → (fold (with_witness retention) (if b then record { last = r; prunes = w.prunes ++ prunes_by retention w.last ∷ [] } else w) rounds).last ≡ last_after (if b then r else w.last) rounds
    by true others = others (record { last = r; prunes = w.prunes ++ prunes_by retention w.last ∷ [] })
    by false others = others w

-- what comes later prunes from the last one witnessed on
pub pruned_by-append : (retention : ℕ) (last : Round) (xs ys : List Round) → pruned_by retention last (xs ++ ys) ≡ pruned_by retention last xs ++ pruned_by retention (last_after last xs) ys
pruned_by-append retention last xs ys =
    ap (λ w. w.prunes) (fold-append (with_witness retention) (witnessing_from last) xs ys)
    ∙ (ap (λ ps. (fold (with_witness retention) (record { last = first.last; prunes = ps }) ys).prunes) (sym (append-nil first.prunes))
    ∙ (front_stays retention first.last first.prunes [] ys
    ∙ ap (λ r. first.prunes ++ pruned_by retention r ys) (last_after-is retention (witnessing_from last) xs)))
  where
    first : Witnessing
    first = fold (with_witness retention) (witnessing_from last) xs

-- WHAT THEY LEAVE

pub PrunesByAll-append : (xs ys : List Round) (a b c : Kept Cached) → PrunesByAll xs a b → PrunesByAll ys b c → PrunesByAll (xs ++ ys) a c
PrunesByAll-append [] ys a b c first second = subst (λ k. PrunesByAll ys k c) first second
PrunesByAll-append (r ∷ xs) ys a b c (mid, one, others) second = (mid, one, PrunesByAll-append xs ys mid b c others second)

filtered : {T : Type 0} (test : T → Bool) (xs : List T) (x : T) → Contains (filter test xs) x → Contains xs x
filtered test [] x has = has
filtered {T} test (y ∷ ys) x has = by (test y) has (filtered test ys x)
  where
    by : (b : Bool) → Contains (cond b (y ∷ filter test ys) (filter test ys)) x → (Contains (filter test ys) x → Contains ys x) → Contains (y ∷ ys) x
    by true (zero, lt, is) rest = (zero, omega arith, is)
    by true (suc k, lt, is) rest = let (j, under, same) = rest (k, omega (arith, lt), is) in (suc j, omega (arith, under), same)
    by false has' rest = let (j, under, same) = rest has' in (suc j, omega (arith, under), same)

-- nothing more is held
pub PrunesByAll-held : (rounds : List Round) (old new : Kept Cached) → PrunesByAll rounds old new → Within new.held old.held
PrunesByAll-held [] old new same x has = subst (λ k. Contains k.held x) same has
PrunesByAll-held (r ∷ rounds) old new (mid, one, others) x has = filtered (λ y. not (is_below r y)) old.held x (subst (λ xs. Contains xs x) one.held (PrunesByAll-held rounds mid new others x has))

-- nor may more be left
pub PrunesByAll-may : (rounds : List Round) (old new : Kept Cached) → PrunesByAll rounds old new → Within new.may old.may
PrunesByAll-may [] old new same x has = subst (λ k. Contains k.may x) same has
PrunesByAll-may (r ∷ rounds) old new (mid, one, others) x has = one.may x (PrunesByAll-may rounds mid new others x has)

-- what was sure is, unless one of them covers it
pub PrunesByAll-sure : (rounds : List Round) (old new : Kept Cached) → PrunesByAll rounds old new → (x : Cached) → Contains old.sure x → Contains new.sure x ⊎ IsTrue (list_any (λ p. is_below p x) rounds)
PrunesByAll-sure [] old new same x has = inl (subst (λ k. Contains k.sure x) (sym same) has)
PrunesByAll-sure (r ∷ rounds) old new (mid, one, others) x has = by (is_below r x) refl (PrunesByAll-sure rounds mid new others x)
  where
    later : (b : Bool) → IsTrue (list_any (λ p. is_below p x) rounds) → IsTrue (b || list_any (λ p. is_below p x) rounds)
    later true any = refl
    later false any = any

    by : (b : Bool) → is_below r x ≡ b → (Contains mid.sure x → Contains new.sure x ⊎ IsTrue (list_any (λ p. is_below p x) rounds)) → Contains new.sure x ⊎ IsTrue (is_below r x || list_any (λ p. is_below p x) rounds)
    by true is rest = inr (ap (λ c. c || list_any (λ p. is_below p x) rounds) is)
    by false is rest = ⊎_elim (λ stays. inl stays) (λ any. inr (later (is_below r x) any)) (rest (one.sure x has is))

-- the cache still agrees with the chain
pub IsCacheOf-pruned : (chain : Chain) (rounds : List Round) (old new : Kept Cached) → IsCacheOf chain old → PrunesByAll rounds old new → IsCacheOf chain new
IsCacheOf-pruned chain rounds old new of_chain prunes = record {
  finalizations = all_found_within cached_finalization (λ f. IsFinalized chain f.round f.payload) (new.held ++ new.may) (old.held ++ old.may) within of_chain.finalizations;
  blocks = all_found_within cached_block (Agrees chain) (new.held ++ new.may) (old.held ++ old.may) within of_chain.blocks;
}
  where
    within : (x : Cached) → Contains (new.held ++ new.may) x → Contains (old.held ++ old.may) x
    within x has = ⊎_elim (λ held. Contains-append_left old.held old.may x (PrunesByAll-held rounds old new prunes x held)) (λ may. Contains-append_right old.held old.may x (PrunesByAll-may rounds old new prunes x may)) (Contains-append_cases new.held new.may x has)

-- THE STORES OF A LIFE

-- where neither of two passes
pub not_first : (a b : Bool) → (a || b) ≡ false → a ≡ false
not_first true b is = absurd cc
not_first false b is = refl

pub not_second : (a b : Bool) → (a || b) ≡ false → b ≡ false
not_second true b is = absurd cc
not_second false b is = is

not_in_front : {T : Type 0} (test : T → Bool) (xs ys : List T) → list_any test (xs ++ ys) ≡ false → list_any test xs ≡ false
not_in_front test [] ys none = refl
not_in_front test (x ∷ xs) ys none = by (test x) none (not_in_front test xs ys)
  where
    by : (c : Bool) → (c || list_any test (xs ++ ys)) ≡ false → (list_any test (xs ++ ys) ≡ false → list_any test xs ≡ false) → (c || list_any test xs) ≡ false
    by true is rest = absurd cc
    by false is rest = rest is

not_behind : {T : Type 0} (test : T → Bool) (xs ys : List T) → list_any test (xs ++ ys) ≡ false → list_any test ys ≡ false
not_behind test [] ys none = none
not_behind test (x ∷ xs) ys none = not_behind test xs ys (not_second (test x) (list_any test (xs ++ ys)) none)

pub PrunesCacheBy-none : (h h' : Held) → h'.cache ≡ h.cache → h'.lowest ≡ h.lowest → h'.lowests ≡ h.lowests → PrunesCacheBy [] h h'
PrunesCacheBy-none h h' cache lowest lowests = record {
  prunes = λ loaded. ap (λ c. c.kept) cache;
  loaded = ap (λ c. c.loaded) cache;
  still_open = subst (λ c. AreStillOpen (λ x. false) h.cache.syncs c.syncs) (sym cache) (AreStillOpen-refl (λ x. false) h.cache.syncs);
  lowest = lowest;
  own_lowest = λ own. lowests ∙ (own ∙ ap (λ k. k ∷ []) (sym lowest));
}

-- other stores with the same cache
pub PrunesCacheBy-beside : (rounds : List Round) (old new other : Held) → other.cache ≡ new.cache → other.lowest ≡ new.lowest → other.lowests ≡ new.lowests → PrunesCacheBy rounds old new → PrunesCacheBy rounds old other
PrunesCacheBy-beside rounds old new other cache lowest lowests pruned = record {
  prunes = λ loaded. subst (λ k. PrunesByAll rounds old.cache.kept k.kept) (sym cache) (pruned.prunes loaded);
  loaded = ap (λ k. k.loaded) cache ∙ pruned.loaded;
  still_open = subst (λ k. AreStillOpen (λ x. list_any (λ r. is_below r x) rounds) old.cache.syncs k.syncs) (sym cache) pruned.still_open;
  lowest = lowest ∙ pruned.lowest;
  own_lowest = λ own. lowests ∙ (pruned.own_lowest own ∙ ap (λ k. k ∷ []) (sym lowest));
}

pub PrunesCacheBy-one : (r : Round) (a b : Held) → PrunesCache r a b → PrunesCacheBy (r ∷ []) a b
PrunesCacheBy-one r a b prunes = record {
  prunes = λ loaded. (b.cache.kept, prunes.prunes loaded, refl);
  loaded = prunes.loaded;
  still_open = AreStillOpen-more (is_below r) (λ x. is_below r x || false) (λ x stays. not_first (is_below r x) false stays) a.cache.syncs b.cache.syncs prunes.still_open;
  lowest = prunes.lowest;
  own_lowest = λ own. prunes.own_lowest;
}

pub PrunesCacheBy-then : (xs ys : List Round) (a b c : Held) → PrunesCacheBy xs a b → PrunesCacheBy ys b c → PrunesCacheBy (xs ++ ys) a c
PrunesCacheBy-then xs ys a b c first second = record {
  prunes = λ loaded. PrunesByAll-append xs ys a.cache.kept b.cache.kept c.cache.kept (first.prunes loaded) (second.prunes (first.loaded ∙ loaded));
  loaded = second.loaded ∙ first.loaded;
  still_open = AreStillOpen-then (λ x. list_any (λ r. is_below r x) xs) (λ x. list_any (λ r. is_below r x) ys) (λ x. list_any (λ r. is_below r x) (xs ++ ys)) (λ x stays. not_in_front (λ r. is_below r x) xs ys stays) (λ x stays. not_behind (λ r. is_below r x) xs ys stays) a.cache.syncs b.cache.syncs c.cache.syncs first.still_open second.still_open;
  lowest = second.lowest ∙ (ap (λ k. fold (λ k r. max k r.epoch) k ys) first.lowest ∙ sym (fold-append (λ k r. max k r.epoch) a.lowest xs ys));
  own_lowest = λ own. second.own_lowest (first.own_lowest own);
}

-- the rounds of the blocks that are processed later come later
pub rounds_of-append : (certs : List (At Finalization)) (xs ys : List Outstanding) → rounds_of certs (xs ++ ys) ≡ rounds_of certs xs ++ rounds_of certs ys
rounds_of-append certs xs ys = filter_map-append (λ o. round_at certs o.height) xs ys

-- the latest of these blocks' rounds
pub later_rounds-of : (certs : List (At Finalization)) (w : Round) (done : List Outstanding) → fold (λ r o. later_round r (round_at certs o.height)) w done ≡ last_after w (rounds_of certs done)
later_rounds-of certs w [] = refl
later_rounds-of certs w (o ∷ done) = by (round_at certs o.height) (λ r. later_rounds-of certs r done)
  where
    by : (r : Option Round) → ((v : Round) → fold (λ s x. later_round s (round_at certs x.height)) v done ≡ last_after v (rounds_of certs done)) → fold (λ s x. later_round s (round_at certs x.height)) (later_round w r) done ≡ last_after w (cons_option r (rounds_of certs done))
    by None others = others w
    by (Some r) others = others (later_round w (Some r))

-- the lowest epoch is the one before, or that of a prune
lowest_among : (lowest : ℕ) (rounds : List Round) → Contains (lowest ∷ map (λ r. r.epoch) rounds) (fold (λ k r. max k r.epoch) lowest rounds)
lowest_among lowest [] = (zero, omega arith, refl)
lowest_among lowest (r ∷ rounds) = by (lowest_among (max lowest r.epoch) rounds) (max_is (nat_lt lowest r.epoch) refl)
  where
    max_is : (b : Bool) → nat_lt lowest r.epoch ≡ b → (max lowest r.epoch ≡ lowest) ⊎ (max lowest r.epoch ≡ r.epoch)
    max_is true low = inr (grind (arith, nat_tests))
    max_is false low = inl (grind (arith, nat_tests))

    among : List ℕ
    among = lowest ∷ r.epoch ∷ map (λ s. s.epoch) rounds

    by : Contains (max lowest r.epoch ∷ map (λ s. s.epoch) rounds) (fold (λ k s. max k s.epoch) (max lowest r.epoch) rounds) → (max lowest r.epoch ≡ lowest) ⊎ (max lowest r.epoch ≡ r.epoch) → Contains among (fold (λ k s. max k s.epoch) (max lowest r.epoch) rounds)
    by (zero, lt, is) (inl before) = (zero, omega arith, sym before ∙ is)
    by (zero, lt, is) (inr of_round) = (suc zero, omega arith, sym of_round ∙ is)
    by (suc k, lt, is) _ = (suc (suc k), omega (arith, lt), is)

-- what they leave: no more than there was, and all that none of them covers
pub LeavesCache-pruned : (rounds : List Round) (old new : Held) → old.cache.loaded ≡ true → old.lowests ≡ old.lowest ∷ [] → PrunesCacheBy rounds old new → LeavesCache (left_of old.cache.kept) old.lowests [] rounds (left_of new.cache.kept) new.lowests
LeavesCache-pruned rounds old new loaded own prunes = record {
  sure = PrunesByAll-sure rounds old.cache.kept new.cache.kept (prunes.prunes loaded);
  may = λ x has. Contains-append_left old.cache.kept.may [] x (PrunesByAll-may rounds old.cache.kept new.cache.kept (prunes.prunes loaded) x has);
  lowest = λ k has. subst (λ ks. Contains (ks ++ map (λ r. r.epoch) rounds) k) (sym own) (subst (Contains (old.lowest ∷ map (λ r. r.epoch) rounds)) (one_of new.lowest k (subst (λ ks. Contains ks k) (prunes.own_lowest own) has)) (subst (Contains (old.lowest ∷ map (λ r. r.epoch) rounds)) (sym prunes.lowest) (lowest_among old.lowest rounds)));
}
  where
    one_of : (x y : ℕ) → Contains (x ∷ []) y → x ≡ y
    one_of x y (zero, lt, is) = is
    one_of x y (suc k, lt, is) = absurd (omega (arith, lt))

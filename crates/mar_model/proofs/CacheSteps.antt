-- An event that puts one entry, or none, and prunes by rounds advances the cache as its definition says.
use Rattle.std.proofs.Common.{◌≡◌, ◌≢◌, ◌⊎◌, inl, inr, ◌<◌, ◌==◌, ◌&&◌, ◌||◌, not, zero, List, [], ◌∷◌, ◌++◌, Bool, true, false, IsTrue, Contains, Some, cond, refl, ap, sym, subst, arith, ◌∙◌, ◌≤◌, ℕ, ap₂}
use Rattle.std.specs.Prelude.{fold}
use Rattle.std.specs.List.{filter_map, list_any}
use Rattle.std.proofs.lemmas.Bool.{eq-eqb}
use Rattle.std.proofs.lemmas.List.Elements.{Contains-append_cases, Contains-append_left, Contains-append_right, filter_map-append}
use Rattle.std.proofs.lemmas.List.{append-nil}
use Rattle.mar_types.specs.Round.{Round, round_eq, round_lt}
use Rattle.mar_cert.specs.Block.{Block}
use Rattle.mar_store.specs.Changes.{Within}
use Rattle.mar_store.specs.Kept.{Kept}
use Rattle.mar_model.specs.Cached.{Cached, certified_entry, epoch_of, finalization_entry, notarization_entry, notarized_entry, same_place, verified_entry, with_entry}
use Rattle.mar_model.specs.Cache.{AdvancesCache, OpensCacheSyncs, certified_from, entries_put, finished_covers, entries_with_puts, first_of, first_verified, is_below, is_certified_below, is_pruned, is_synced, is_synced_put, is_covered_put, lowest_after, same_archive, verified_in, witnessing_of}
use Rattle.mar_model.specs.Config.{Config}
use Rattle.mar_model.specs.Event.{Effect, Event}
use Rattle.mar_model.specs.Node.{Node}
use Rattle.mar_model.specs.AllEntries.{FirstsStay, PrunesByAll, PrunesEntries, PutsEntry, is_in_place, with_own_entry}
use Rattle.mar_model.proofs.CachePrunes.{PrunesByAll-held}
use Rattle.mar_model.proofs.EntryLists.{contains_none, filter_passed, filtered, firsts_stay, none_verified, one_of, passes_alike, rounds_same}

-- THE CALLS OF AN EVENT

abbrev pub is_certified : Cached → Bool
is_certified (certified_entry e b) = true
is_certified _ = false

-- an entry is put, unless its epoch is below the lowest
abbrev pub PutsOrPasses : ℕ → Cached → Kept Cached → Kept Cached → Type 0
PutsOrPasses lowest x old new = ((epoch_of x < lowest) × (new ≡ old)) ⊎ (lowest ≤ epoch_of x) × PutsEntry x old new

-- The calls of an event that puts one entry, and syncs its archive where the event waits for that, and then witnesses.
pub record PutsOne (config : Config) (n : Node) (e : Event) (fx : Effect) (n' : Node) (x : Cached) : Type 0 where
  pub entries : entries_put config n n'.cache.held e fx ≡ x ∷ []
  pub by_view : is_certified x ≡ false
  pub no_floor : certified_from n fx ≡ 0
  pub within : (y : Cached) → Contains n.cache.held y → n.lowest ≤ epoch_of y
  pub mid : Kept Cached
  pub put : PutsOrPasses n.lowest x n.cache mid
  pub covers : (y : Cached) → is_covered_put e x y ≡ same_place x y
  pub synced : is_synced_put e x ≡ true → n.lowest ≤ epoch_of x → (y : Cached) → IsTrue (same_archive x y) → Contains mid.held y → Contains mid.sure y
  pub prunes : PrunesByAll (witnessing_of config n e fx).prunes mid n'.cache

-- The calls of an event that puts nothing: a ticket that finishes makes sure what it covers, and rounds are witnessed.
pub record PutsNone (config : Config) (n : Node) (e : Event) (fx : Effect) (n' : Node) : Type 0 where
  pub entries : entries_put config n n'.cache.held e fx ≡ []
  pub no_floor : certified_from n fx ≡ 0
  pub mid : Kept Cached
  pub held : mid.held ≡ n.cache.held
  pub sure : Within n.cache.sure mid.sure
  pub finished : (y : Cached) → Contains (finished_covers n e) y → Contains mid.held y → Contains mid.sure y
  pub prunes : PrunesByAll (witnessing_of config n e fx).prunes mid n'.cache

-- What a node keeps of its cache beside the entries: the lowest epoch, which is what a crash leaves of it, the open tickets
-- and the last witnessed round.
pub record KeepsBeside (config : Config) (n : Node) (e : Event) (fx : Effect) (n' : Node) : Type 0 where
  pub lowest : n'.lowest ≡ lowest_after config n e fx
  pub lowests : n'.lowests ≡ n'.lowest ∷ []
  pub cache_syncs : OpensCacheSyncs config n e fx n'
  pub witnessed : n'.witnessed ≡ (witnessing_of config n e fx).last

-- What becomes of the entries over an event.
pub record KeepsEntries (config : Config) (n : Node) (e : Event) (fx : Effect) (n' : Node) : Type 0 where
  pub kept : (x : Cached) → Contains (entries_with_puts config n n'.cache.held e fx) x → Contains n'.cache.held x ⊎ (epoch_of x < n.lowest) ⊎ IsTrue (is_pruned config n e fx x)
  pub nothing_else : (x : Cached) → Contains n'.cache.held x → Contains (entries_with_puts config n n'.cache.held e fx) x
  pub stays_sure : (x : Cached) → Contains n.cache.sure x → Contains n'.cache.held x → Contains n'.cache.sure x
  pub stays : (x : Cached) → Contains n.cache.held x → Contains n'.cache.held x ⊎ IsTrue (is_pruned config n e fx x)
  pub first_stays : (r : Round) (b : Block) → first_verified (entries_with_puts config n n'.cache.held e fx) r ≡ Some b → Contains n'.cache.held (verified_entry r b) → first_verified n'.cache.held r ≡ Some b
  pub synced : (x : Cached) → IsTrue (is_synced e (entries_put config n n'.cache.held e fx) x) → Contains n'.cache.held x → Contains n'.cache.sure x
  pub finished : (x : Cached) → Contains (finished_covers n e) x → Contains n'.cache.held x → Contains n'.cache.sure x

pub advances_with : (config : Config) (n : Node) (e : Event) (fx : Effect) (n' : Node) → KeepsEntries config n e fx n' → KeepsBeside config n e fx n' → AdvancesCache config n e fx n'
advances_with config n e fx n' entries beside = record {
  kept = entries.kept;
  nothing_else = entries.nothing_else;
  stays_sure = entries.stays_sure;
  stays = entries.stays;
  first_stays = entries.first_stays;
  synced = entries.synced;
  finished = entries.finished;
  lowest = beside.lowest;
  lowests = λ k has. Contains-append_right n.lowests (n'.lowest ∷ []) k (subst (λ ks. Contains ks k) beside.lowests has);
  own_lowest = subst (λ ks. Contains ks n'.lowest) (sym beside.lowests) (zero, omega arith, refl);
  cache_syncs = beside.cache_syncs;
  witnessed = beside.witnessed;
}

-- IN ITS PLACE

-- what stands in the place of an entry by view is of its epoch
pub place_epoch : (x y : Cached) → is_certified x ≡ false → same_place x y ≡ true → epoch_of y ≡ epoch_of x
place_epoch (finalization_entry f) (finalization_entry g) by_view same = sym (ap (λ r. r.epoch) (rounds_same f.round g.round same))
place_epoch (notarization_entry f) (notarization_entry g) by_view same = sym (ap (λ r. r.epoch) (rounds_same f.round g.round same))
place_epoch (notarized_entry r b) (notarized_entry s c) by_view same = sym (ap (λ t. t.epoch) (rounds_same r s same))
place_epoch (verified_entry r b) (verified_entry s c) by_view same = sym (ap (λ t. t.epoch) (rounds_same r s (both (round_eq r s) _ same)))
  where
    both : (p q : Bool) → (p && q) ≡ true → p ≡ true
    both true q is = refl
    both false q is = absurd cc
place_epoch (certified_entry e b) y by_view same = absurd cc
place_epoch _ _ by_view same = absurd cc

place_in : (x y : Cached) → is_certified x ≡ false → is_in_place x y ≡ same_place x y
place_in x y by_view = by (same_place x y) refl
  where
    by : (c : Bool) → same_place x y ≡ c → (epoch_of y == epoch_of x && same_place x y) ≡ same_place x y
    by true same = ap (λ d. d && same_place x y) (eq-eqb (epoch_of y) (epoch_of x) (place_epoch x y by_view same))
    by false other = ap (λ d. epoch_of y == epoch_of x && d) other ∙ none (epoch_of y == epoch_of x) ∙ sym other
      where
        none : (d : Bool) → (d && false) ≡ false
        none true = refl
        none false = refl

pub own_is : (x : Cached) (held : List Cached) → is_certified x ≡ false → with_own_entry held x ≡ with_entry held x
own_is x held by_view = ap (λ c. cond c held (held ++ x ∷ [])) (passes_alike (is_in_place x) (same_place x) held (λ y has. place_in x y by_view))

pub with_cases : (x : Cached) (held : List Cached) (y : Cached) → Contains (with_entry held x) y → Contains held y ⊎ (y ≡ x)
with_cases x held y = by (list_any (same_place x) held)
  where
    by : (c : Bool) → Contains (cond c held (held ++ x ∷ [])) y → Contains held y ⊎ (y ≡ x)
    by true has = inl has
    by false has = elim (Contains-append_cases held (x ∷ []) y has) [ inl before ↦ inl before | inr new ↦ inr (one_of x y new) ]

pub with_more : (x : Cached) (held : List Cached) (y : Cached) → Contains held y → Contains (with_entry held x) y
with_more x held y has = by (list_any (same_place x) held)
  where
    by : (c : Bool) → Contains (cond c held (held ++ x ∷ [])) y
    by true = has
    by false = Contains-append_left held (x ∷ []) y has

-- what stands in its place stands in its archive
place_archive : (x y : Cached) → is_certified x ≡ false → same_place x y ≡ true → IsTrue (same_archive x y)
place_archive (finalization_entry f) (finalization_entry g) by_view same = eq-eqb f.round.epoch g.round.epoch (ap (λ r. r.epoch) (rounds_same f.round g.round same))
place_archive (notarization_entry f) (notarization_entry g) by_view same = eq-eqb f.round.epoch g.round.epoch (ap (λ r. r.epoch) (rounds_same f.round g.round same))
place_archive (notarized_entry r b) (notarized_entry s c) by_view same = eq-eqb r.epoch s.epoch (ap (λ t. t.epoch) (rounds_same r s same))
place_archive (verified_entry r b) (verified_entry s c) by_view same = eq-eqb r.epoch s.epoch (sym (place_epoch (verified_entry r b) (verified_entry s c) by_view same))
place_archive (certified_entry e b) y by_view same = absurd cc
place_archive _ _ by_view same = absurd cc

-- an entry of another epoch is no block that was verified at that round
pub without : (x : Cached) (held : List Cached) (r : Round) → epoch_of x ≢ r.epoch → first_verified (with_entry held x) r ≡ first_verified held r
without x held r other = by (list_any (same_place x) held)
  where
    by : (c : Bool) → first_verified (cond c held (held ++ x ∷ [])) r ≡ first_verified held r
    by true = refl
    by false = ap first_of (filter_map-append (verified_in r) held (x ∷ []) ∙ ap (λ ys. filter_map (verified_in r) held ++ ys) (none_verified r (x ∷ []) (λ y has same. other (sym (ap epoch_of (one_of x y has)) ∙ same))) ∙ append-nil (filter_map (verified_in r) held))

-- PRUNES, ONE AFTER ANOTHER

prune_firsts : (r : Round) (old new : Kept Cached) → PrunesEntries (is_below r) old new → FirstsStay old.held new.held
prune_firsts r old new prunes = subst (FirstsStay old.held) (sym prunes.held) (firsts_stay (λ x. not (is_below r x)) (λ s. not (round_lt s r)) (λ c s. refl) old.held)

not_true : (c : Bool) → not c ≡ true → c ≡ false
not_true true is = absurd cc
not_true false is = refl

pub prunes_sure : (rounds : List Round) (old new : Kept Cached) → PrunesByAll rounds old new → (y : Cached) → Contains old.sure y → Contains new.held y → Contains new.sure y
prunes_sure [] old new is y sure has = subst (λ k. Contains k.sure y) (sym is) sure
prunes_sure (r ∷ rounds) old new (mid, prunes, rest) y sure has = prunes_sure rounds mid new rest y (prunes.sure y sure (not_true (is_below r y) (filtered (λ x. not (is_below r x)) old.held y (subst (λ ys. Contains ys y) prunes.held (PrunesByAll-held rounds mid new rest y has))).1)) has

pub prunes_stay : (rounds : List Round) (old new : Kept Cached) → PrunesByAll rounds old new → (y : Cached) → Contains old.held y → Contains new.held y ⊎ (list_any (λ r. is_below r y) rounds ≡ true)
prunes_stay [] old new is y has = inl (subst (λ k. Contains k.held y) (sym is) has)
prunes_stay (r ∷ rounds) old new (mid, prunes, rest) y has = by (is_below r y) refl (λ stays. prunes_stay rounds mid new rest y (subst (λ ys. Contains ys y) (sym prunes.held) (filter_passed (λ x. not (is_below r x)) old.held y has (ap not stays))))
  where
    by : (c : Bool) → is_below r y ≡ c → (is_below r y ≡ false → Contains new.held y ⊎ (list_any (λ s. is_below s y) rounds ≡ true)) → Contains new.held y ⊎ ((is_below r y || list_any (λ s. is_below s y) rounds) ≡ true)
    by true is go = inr (ap (λ d. d || list_any (λ s. is_below s y) rounds) is)
    by false is go = elim (go is) [ inl held ↦ inl held | inr pruned ↦ inr (ap₂ (λ a b. a || b) is pruned) ]

pub prunes_firsts : (rounds : List Round) (old new : Kept Cached) → PrunesByAll rounds old new → FirstsStay old.held new.held
prunes_firsts [] old new is = subst (λ k. FirstsStay old.held k.held) (sym is) (λ r b first has. first)
prunes_firsts (s ∷ rounds) old new (mid, prunes, rest) = λ r b first has. prunes_firsts rounds mid new rest r b (prune_firsts s old mid prunes r b first (PrunesByAll-held rounds mid new rest (verified_entry r b) has)) has

-- AN EVENT THAT PUTS ONE ENTRY

module _ (config : Config) (n : Node) (e : Event) (fx : Effect) (n' : Node) (x : Cached) (does : PutsOne config n e fx n' x) where
  abbrev prunes : List Round
  prunes = (witnessing_of config n e fx).prunes

  puts_is : entries_with_puts config n n'.cache.held e fx ≡ with_entry n.cache.held x
  puts_is = ap (fold with_entry n.cache.held) does.entries

  pruned_is : (y : Cached) → list_any (λ r. is_below r y) prunes ≡ true → IsTrue (is_pruned config n e fx y)
  pruned_is y is = ap (λ d. d || is_certified_below (certified_from n fx) y) is

  in_mid : (y : Cached) → Contains n.cache.held y → Contains does.mid.held y
  in_mid y has = elim does.put [ inl passes ↦ subst (λ k. Contains k.held y) (sym passes.1) has | inr puts ↦ puts.1.held y (subst (λ ys. Contains ys y) (sym (own_is x n.cache.held does.by_view)) (with_more x n.cache.held y has)) ]

  from_mid : (y : Cached) → Contains does.mid.held y → Contains (with_entry n.cache.held x) y
  from_mid y has = elim does.put [ inl passes ↦ with_more x n.cache.held y (subst (λ k. Contains k.held y) passes.1 has) | inr puts ↦ subst (λ ys. Contains ys y) (own_is x n.cache.held does.by_view) (puts.1.only y has) ]

  after : (y : Cached) → Contains does.mid.held y → Contains n'.cache.held y ⊎ IsTrue (is_pruned config n e fx y)
  after y has = elim (prunes_stay prunes does.mid n'.cache does.prunes y has) [ inl held ↦ inl held | inr pruned ↦ inr (pruned_is y pruned) ]

  pub one_kept : (y : Cached) → Contains (entries_with_puts config n n'.cache.held e fx) y → Contains n'.cache.held y ⊎ (epoch_of y < n.lowest) ⊎ IsTrue (is_pruned config n e fx y)
  one_kept y has = elim does.put [
    | inl passes ↦ elim (with_cases x n.cache.held y put) [ inl before ↦ or_below (after y (in_mid y before)) | inr same ↦ inr (inl (let at = ap epoch_of same in let low = passes.0 in omega (arith, at, low))) ]
    | inr puts ↦ or_below (after y (puts.1.held y (subst (λ ys. Contains ys y) (sym (own_is x n.cache.held does.by_view)) put)))
  ]
    where
      put : Contains (with_entry n.cache.held x) y
      put = subst (λ ys. Contains ys y) puts_is has

      or_below : Contains n'.cache.held y ⊎ IsTrue (is_pruned config n e fx y) → Contains n'.cache.held y ⊎ (epoch_of y < n.lowest) ⊎ IsTrue (is_pruned config n e fx y)
      or_below (inl held) = inl held
      or_below (inr pruned) = inr (inr pruned)

  pub one_nothing_else : (y : Cached) → Contains n'.cache.held y → Contains (entries_with_puts config n n'.cache.held e fx) y
  one_nothing_else y has = subst (λ ys. Contains ys y) (sym puts_is) (from_mid y (PrunesByAll-held prunes does.mid n'.cache does.prunes y has))

  pub one_stays_sure : (y : Cached) → Contains n.cache.sure y → Contains n'.cache.held y → Contains n'.cache.sure y
  one_stays_sure y sure has = prunes_sure prunes does.mid n'.cache does.prunes y (elim does.put [ inl passes ↦ subst (λ k. Contains k.sure y) (sym passes.1) sure | inr puts ↦ puts.1.sure y sure ]) has

  pub one_stays : (y : Cached) → Contains n.cache.held y → Contains n'.cache.held y ⊎ IsTrue (is_pruned config n e fx y)
  one_stays y has = after y (in_mid y has)

  pub one_first_stays : (r : Round) (b : Block) → first_verified (entries_with_puts config n n'.cache.held e fx) r ≡ Some b → Contains n'.cache.held (verified_entry r b) → first_verified n'.cache.held r ≡ Some b
  one_first_stays r b first has = prunes_firsts prunes does.mid n'.cache does.prunes r b (elim does.put [ inl passes ↦ passed passes | inr puts ↦ puts.1.firsts r ∙ ap (λ ys. first_verified ys r) (own_is x n.cache.held does.by_view) ∙ put ]) has
    where
      put : first_verified (with_entry n.cache.held x) r ≡ Some b
      put = ap (λ ys. first_verified ys r) (sym puts_is) ∙ first

      passed : (epoch_of x < n.lowest) × (does.mid ≡ n.cache) → first_verified does.mid.held r ≡ Some b
      passed passes =
          let low = passes.0 in
          let over = does.within (verified_entry r b) (subst (λ k. Contains k.held (verified_entry r b)) passes.1 (PrunesByAll-held prunes does.mid n'.cache does.prunes (verified_entry r b) has)) in
          ap (λ k. first_verified k.held r) passes.1 ∙ sym (without x n.cache.held r (λ same. omega (arith, same, low, over))) ∙ put

  pub one_synced : (y : Cached) → IsTrue (is_synced e (entries_put config n n'.cache.held e fx) y) → Contains n'.cache.held y → Contains n'.cache.sure y
  one_synced y synced has = elim does.put [
    | inl passes ↦ absurd (let low = passes.0 in let over = does.within y (subst (λ k. Contains k.held y) passes.1 in_held) in omega (arith, low, over, here))
    | inr puts ↦ prunes_sure prunes does.mid n'.cache does.prunes y (does.synced tests.0 puts.0 y (place_archive x y does.by_view place) in_held) has
  ]
    where
      tests : (is_synced_put e x ≡ true) × (is_covered_put e x y ≡ true)
      tests = both_of (is_synced_put e x) (is_covered_put e x y) (subst (λ ys. IsTrue (is_synced e ys y)) does.entries synced)
        where
          both_of : (p q : Bool) → ((p && q) || false) ≡ true → (p ≡ true) × (q ≡ true)
          both_of true true is = (refl, refl)
          both_of true false is = absurd cc
          both_of false q is = absurd cc

      place : same_place x y ≡ true
      place = sym (does.covers y) ∙ tests.1

      here : epoch_of y ≡ epoch_of x
      here = place_epoch x y does.by_view place

      in_held : Contains does.mid.held y
      in_held = PrunesByAll-held prunes does.mid n'.cache does.prunes y has

pub advances_one : (config : Config) (n : Node) (e : Event) (fx : Effect) (n' : Node) (x : Cached) → PutsOne config n e fx n' x → finished_covers n e ≡ [] → KeepsBeside config n e fx n' → AdvancesCache config n e fx n'
advances_one config n e fx n' x does no_finish = advances_with config n e fx n' (record {
  kept = one_kept config n e fx n' x does;
  nothing_else = one_nothing_else config n e fx n' x does;
  stays_sure = one_stays_sure config n e fx n' x does;
  stays = one_stays config n e fx n' x does;
  first_stays = one_first_stays config n e fx n' x does;
  synced = one_synced config n e fx n' x does;
  finished = λ y covered has. contains_none y (subst (λ ys. Contains ys y) no_finish covered);
})

-- AN EVENT THAT PUTS NOTHING

pub advances_none : (config : Config) (n : Node) (e : Event) (fx : Effect) (n' : Node) → PutsNone config n e fx n' → KeepsBeside config n e fx n' → AdvancesCache config n e fx n'
advances_none config n e fx n' does = advances_with config n e fx n' (record {
  kept = λ y has. elim (after y (in_mid y (subst (λ ys. Contains ys y) puts_is has))) [ inl held ↦ inl held | inr pruned ↦ inr (inr pruned) ];
  nothing_else = λ y has. subst (λ ys. Contains ys y) (sym puts_is) (of_mid y (PrunesByAll-held prunes does.mid n'.cache does.prunes y has));
  stays_sure = λ y sure has. prunes_sure prunes does.mid n'.cache does.prunes y (does.sure y sure) has;
  stays = λ y has. after y (in_mid y has);
  first_stays = λ r b first has. prunes_firsts prunes does.mid n'.cache does.prunes r b (ap (λ ys. first_verified ys r) (does.held ∙ sym puts_is) ∙ first) has;
  synced = λ y synced has. absurd (let none : IsTrue (is_synced e [] y) = subst (λ ys. IsTrue (is_synced e ys y)) does.entries synced in cc);
  finished = λ y covered has. prunes_sure prunes does.mid n'.cache does.prunes y (does.finished y covered (PrunesByAll-held prunes does.mid n'.cache does.prunes y has)) has;
})
  where
    prunes : List Round
    prunes = (witnessing_of config n e fx).prunes

    puts_is : entries_with_puts config n n'.cache.held e fx ≡ n.cache.held
    puts_is = ap (fold with_entry n.cache.held) does.entries

    in_mid : (y : Cached) → Contains n.cache.held y → Contains does.mid.held y
    in_mid y has = subst (λ ys. Contains ys y) (sym does.held) has

    of_mid : (y : Cached) → Contains does.mid.held y → Contains n.cache.held y
    of_mid y has = subst (λ ys. Contains ys y) does.held has

    after : (y : Cached) → Contains does.mid.held y → Contains n'.cache.held y ⊎ IsTrue (is_pruned config n e fx y)
    after y has = elim (prunes_stay (witnessing_of config n e fx).prunes does.mid n'.cache does.prunes y has) [ inl held ↦ inl held | inr pruned ↦ inr (ap (λ d. d || is_certified_below (certified_from n fx) y) pruned) ]

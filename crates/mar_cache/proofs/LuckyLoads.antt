-- What luck keeps of each epoch is what it keeps of all of them as one list.
use Rattle.std.proofs.Common.{◌≡◌, ◌≢◌, inl, inr, ◌≤◌, ◌==◌, ◌&&◌, ℕ, zero, suc, List, [], ◌∷◌, ◌++◌, Bool, true, false, Contains, Option, Some, None, is_some, option_map, Result, Ok, Err, IfOk, IfSome, cond, filter, length, refl, ap, ap₂, sym, subst, arith, ◌∙◌}
use Rattle.std.proofs.lemmas.Bool.{cases_eq, eq-eqb, ne_eqb}
use Rattle.mar_store.specs.Changes.{Left, left_of}
use Rattle.mar_store.specs.Luck.{keeps_by}
use Rattle.mar_store.specs.Watch.{Follows}
use Rattle.mar_model.specs.AllEntries.{is_in_place}
use Rattle.mar_model.specs.Cache.{same_archive}
use Rattle.mar_model.specs.Cached.{Cached, certified_entry, epoch_of, finalization_entry, notarization_entry, notarized_entry, same_place, verified_entry, with_entry}
use Rattle.mar_model.specs.LuckyEntries.{count_beside, is_sure_in, lucky_behind, lucky_entries}
use Rattle.mar_epochs.specs.EpochStates.{EpochState, EpochStates, HasSome, KeepsOtherEpochs, MightBe, held_in, is_opened, may_in, opened, shut, sure_in}
use Rattle.mar_epochs.specs.Picks.{PicksEpoch, picks_by}
use Rattle.mar_cache.specs.AsOne.{greatest_highest, kept_of, left_of_ways, up_to}
use Rattle.mar_cache.specs.Bounds.{Bounds}
use Rattle.mar_cache.specs.Finds.{finds_of}
use Rattle.mar_cache.specs.Nested.{in_nothing, of_up_to}
use Rattle.mar_cache.specs.Shelved.{AllLieWithin, AreOf, LieWithin, OpensOrStays}
use Rattle.mar_cache.specs.Stages.{IsAtStage, is_fresh}
use Rattle.mar_cache.specs.declared.stage.Stage.{Stage}
use Rattle.mar_cache.proofs.EpochLists.{up_to_same}
use Rattle.mar_model.proofs.EntryLists.{one_of, passes_alike}
use Rattle.mar_cache.proofs.ListPuts.{placed}
use Rattle.mar_cache.proofs.StateLosses.{up_to_greatest}
use Rattle.mar_cache.proofs.StatePuts.{may_more, sure_more}
use Rattle.mar_cache.proofs.Views.{bare_or_some}
use Rattle.mar_epochs.proofs.Filtering.{contains_here, contains_more}

-- LISTS

-- entries of two epochs are of two archives
apart_archive : (x y : Cached) → epoch_of x ≢ epoch_of y → same_archive x y ≡ false
apart_archive (finalization_entry f) (finalization_entry g) other = ne_eqb f.round.epoch g.round.epoch other
apart_archive (notarization_entry f) (notarization_entry g) other = ne_eqb f.round.epoch g.round.epoch other
apart_archive (notarized_entry r b) (notarized_entry t c) other = ne_eqb r.epoch t.epoch other
apart_archive (verified_entry r b) (verified_entry t c) other = ne_eqb r.epoch t.epoch other
apart_archive (certified_entry e b) (certified_entry f c) other = ne_eqb e f other
apart_archive _ _ other = refl

none_beside : (x : Cached) (ys : List Cached) → ((y : Cached) → Contains ys y → same_archive x y ≡ false) → filter (same_archive x) ys ≡ []
none_beside x [] none = refl
none_beside x (y ∷ ys) none = ap (λ b. cond b (y ∷ filter (same_archive x) ys) (filter (same_archive x) ys)) (none y (contains_here y ys)) ∙ none_beside x ys (λ z has. none z (contains_more y ys z has))

module _ (keeps : ℕ → Bool) where
  -- What is kept of two lists, one behind the other: the second is numbered behind what isn't sure of the first.
  luck_behind : (P : Cached → Type 0) (sure before xs ys : List Cached) → ((y : Cached) → Contains before y → P y) → ((y : Cached) → Contains xs y → P y)
      → (between : List Cached) × ((y : Cached) → Contains between y → P y) × (lucky_behind keeps sure before (xs ++ ys) ≡ lucky_behind keeps sure before xs ++ lucky_behind keeps sure between ys)
  luck_behind P sure before [] ys earlier here = (before, earlier, refl)
  luck_behind P sure before (x ∷ xs) ys earlier here = by (is_sure_in sure x) (keeps (count_beside x before)) (luck_behind P sure before xs ys earlier later) (luck_behind P sure (x ∷ before) xs ys more later)
    where
      later : (y : Cached) → Contains xs y → P y
      later y has = here y (contains_more x xs y has)

      more : (y : Cached) → Contains (x ∷ before) y → P y
      more y (zero, less, is) = subst P is (here x (contains_here x xs))
      more y (suc i, less, is) = earlier y (i, omega (arith, less), is)

      by : (a l : Bool)
          → (between : List Cached) × ((y : Cached) → Contains between y → P y) × (lucky_behind keeps sure before (xs ++ ys) ≡ lucky_behind keeps sure before xs ++ lucky_behind keeps sure between ys)
          → (between : List Cached) × ((y : Cached) → Contains between y → P y) × (lucky_behind keeps sure (x ∷ before) (xs ++ ys) ≡ lucky_behind keeps sure (x ∷ before) xs ++ lucky_behind keeps sure between ys)
          → (between : List Cached) × ((y : Cached) → Contains between y → P y) × (cond a (x ∷ lucky_behind keeps sure before (xs ++ ys)) (cond l (x ∷ lucky_behind keeps sure (x ∷ before) (xs ++ ys)) (lucky_behind keeps sure (x ∷ before) (xs ++ ys)))
          ≡ cond a (x ∷ lucky_behind keeps sure before xs) (cond l (x ∷ lucky_behind keeps sure (x ∷ before) xs) (lucky_behind keeps sure (x ∷ before) xs)) ++ lucky_behind keeps sure between ys)
      by true l (between, of, is) other = (between, of, ap (λ zs. x ∷ zs) is)
      by false true other (between, of, is) = (between, of, ap (λ zs. x ∷ zs) is)
      by false false other (between, of, is) = (between, of, is)

  -- it rests on what is sure in their places, and on what stands before of their archives
  luck_same : (sure sure' before before' ys : List Cached) → ((x : Cached) → Contains ys x → is_sure_in sure x ≡ is_sure_in sure' x) → ((x : Cached) → Contains ys x → filter (same_archive x) before ≡ filter (same_archive x) before')
      → lucky_behind keeps sure before ys ≡ lucky_behind keeps sure' before' ys
  luck_same sure sure' before before' [] alike beside = refl
  luck_same sure sure' before before' (x ∷ ys) alike beside =
      let first = lucky_behind keeps sure before ys in
      let second = lucky_behind keeps sure (x ∷ before) ys in
      ap (λ a. cond a (x ∷ first) (cond (keeps (count_beside x before)) (x ∷ second) second)) (alike x (contains_here x ys))
      ∙ ap (λ zs. cond (is_sure_in sure' x) (x ∷ first) (cond (keeps (length zs)) (x ∷ second) second)) (beside x (contains_here x ys))
      ∙ ap₂ (λ zs ws. cond (is_sure_in sure' x) (x ∷ zs) (cond (keeps (count_beside x before')) (x ∷ ws) ws))
      (luck_same sure sure' before before' ys (λ y has. alike y (contains_more x ys y has)) (λ y has. beside y (contains_more x ys y has)))
      (luck_same sure sure' (x ∷ before) (x ∷ before') ys (λ y has. alike y (contains_more x ys y has)) (λ y has. ap (λ zs. cond (same_archive y x) (x ∷ zs) zs) (beside y (contains_more x ys y has))))

  module _ (sure may : ℕ → List Cached) (h : ℕ) (own_sure : (k : ℕ) (y : Cached) → Contains (sure k) y → epoch_of y ≡ k) (own_may : (k : ℕ) (y : Cached) → Contains (may k) y → epoch_of y ≡ k) where
    -- an entry is sure among all where it is in its epoch
    sure_alike : (k : ℕ) (x : Cached) → k ≤ h → epoch_of x ≡ k → is_sure_in (up_to sure h) x ≡ is_sure_in (sure k) x
    sure_alike k x within at =
        placed sure (λ j. cond (j == k) (with_entry (sure k) x) (sure j)) k h x own_sure at within (ap (λ b. cond b (with_entry (sure k) x) (sure k)) (eq-eqb k k refl)) (λ j other. ap (λ b. cond b (with_entry (sure k) x) (sure j)) (ne_eqb j k other))
        ∙ sym (passes_alike (is_in_place x) (same_place x) (sure k) (λ y has. ap (λ b. b && same_place x y) (eq-eqb (epoch_of y) (epoch_of x) (own_sure k y has ∙ sym at))))

    luck_to : (j : ℕ) → j ≤ h → lucky_behind keeps (up_to sure h) [] (up_to may j) ≡ up_to (λ k. lucky_behind keeps (sure k) [] (may k)) j
    luck_to zero within = luck_same (up_to sure h) (sure zero) [] [] (may zero) (λ x has. sure_alike zero x within (own_may zero x has)) (λ x has. refl)
    luck_to (suc j) within =
        let parts = luck_behind (λ y. epoch_of y ≤ j) (up_to sure h) [] (up_to may j) (may (suc j)) (λ y has. in_nothing y has) (λ y has. let (k, under, found) = of_up_to may j y has in omega (arith, under, own_may k y found)) in
        parts.2 ∙ ap₂ (λ xs ys. xs ++ ys) (luck_to j (omega (arith, within)))
        (luck_same (up_to sure h) (sure (suc j)) parts.0 [] (may (suc j)) (λ x has. sure_alike (suc j) x within (own_may (suc j) x has)) (λ x has. none_beside x parts.0 (λ y found. apart_archive x y (λ same. omega (arith, same, own_may (suc j) x has, parts.1 y found)))))

-- OPENINGS ONE AFTER ANOTHER

pub picks_itself : (picks : Option (ℕ → Bool)) (t : EpochState) → PicksEpoch picks t t
picks_itself picks (opened b) = tt
picks_itself picks (shut l) = tt

picks_then : (picks : Option (ℕ → Bool)) (t u v : EpochState) → OpensOrStays t u → PicksEpoch picks t u → OpensOrStays u v → PicksEpoch picks u v → PicksEpoch picks t v
picks_then picks (opened b) u v first picked second next = tt
picks_then picks (shut l) (opened b) v first picked (inl same) next = subst (PicksEpoch picks (shut l)) (sym same) picked
picks_then picks (shut l) (opened b) v first picked (inr same) next = subst (PicksEpoch picks (shut l)) (sym same) picked
picks_then picks (shut l) (shut m) v (inl same) picked second next = subst (λ w. PicksEpoch picks w v) same next
picks_then picks (shut l) (shut m) v (inr (b, found, is)) picked second next = absurd (let clash : false ≡ true = ap is_opened is in cc)

pub step_picks : (e : ℕ) (picks now : Option (ℕ → Bool)) (old mid new : EpochStates) → now ≡ picks → ((k : ℕ) → OpensOrStays (old k) (mid k)) → ((k : ℕ) → PicksEpoch picks (old k) (mid k)) → OpensOrStays (mid e) (new e) → PicksEpoch now (mid e) (new e) → KeepsOtherEpochs e mid new
    → (k : ℕ) → PicksEpoch picks (old k) (new k)
step_picks e picks now old mid new is opens before here picked others k = elim (cases_eq k e) [
  | inl same ↦ subst (λ j. PicksEpoch picks (old j) (new j)) (sym same) (picks_then picks (old e) (mid e) (new e) (opens e) (before e) here (subst (λ p. PicksEpoch p (mid e) (new e)) is picked))
  | inr other ↦ subst (PicksEpoch picks (old k)) (sym (others k other)) (before k)
]

-- the same of epochs as they were before they were listed
pub picks_from : {S L : Type 0} (states : S → EpochStates) (picks now : Option (ℕ → Bool)) (old mid : EpochStates) (r : Result S L) → now ≡ picks → ((k : ℕ) → mid k ≡ old k)
    → IfOk r (λ s. (k : ℕ) → PicksEpoch now (mid k) (states s k)) → IfOk r (λ s. (k : ℕ) → PicksEpoch picks (old k) (states s k))
picks_from states picks now old mid (Ok s) is same picked = λ k. subst (λ t. PicksEpoch picks t (states s k)) (same k) (subst (λ p. PicksEpoch p (mid k) (states s k)) is (picked k))
picks_from states picks now old mid (Err l) is same picked = tt

-- WHAT IS TAKEN UP

held_lucky : (keeps : ℕ → Bool) (k : ℕ) (t n : EpochState) → is_opened t ≡ false → (HasSome t → is_opened n ≡ true) → AreOf k (may_in t) → PicksEpoch (Some keeps) t n → held_in n ≡ lucky_behind keeps (sure_in t) [] (may_in t)
held_lucky keeps k (opened b) n closed some own picked = absurd cc
held_lucky keeps k (shut l) (opened b) closed some own picked = picked k own
held_lucky keeps k (shut l) (shut m) closed some own picked = elim (bare_or_some (shut l)) [
  | inl bare ↦ sym (ap (λ left. lucky_entries keeps left) bare)
  | inr has ↦ absurd (let clash : false ≡ true = some has in cc)
]

pub load_found : (picks : Option (ℕ → Bool)) (stage : Stage) (old new : EpochStates) (b c : Bounds) → LieWithin old b → c ≡ b → IsAtStage stage old → ((k : ℕ) → HasSome (old k) → is_opened (new k) ≡ true) → ((k : ℕ) → PicksEpoch picks (old k) (new k))
    → is_fresh stage ≡ true → IfSome (finds_of picks old b.highest) (λ found. (kept_of new c.highest).held ≡ found)
load_found None stage old new b c lie bounds staged opened_now picked fresh = tt
load_found (Some keeps) stage old new b c lie bounds staged opened_now picked fresh =
    ap (λ d. (kept_of new d.highest).held) bounds
    ∙ up_to_same (λ k. held_in (new k)) (λ k. lucky_behind keeps (sure_in (old k)) [] (may_in (old k))) b.highest (λ k within. held_lucky keeps k (old k) (new k) (staged.fresh fresh k) (opened_now k) (lie k).may (picked k))
    ∙ sym (luck_to keeps (λ k. sure_in (old k)) (λ k. may_in (old k)) b.highest (λ k. (lie k).sure) (λ k. (lie k).may) b.highest (omega arith))

-- A REOPENING

left_one : (ways : List EpochStates) (lefts : List Bounds) (new : EpochStates) (c : Bounds) → length ways ≡ 1 → AllLieWithin ways lefts → MightBe ways new → Contains lefts c → left_of (kept_of new c.highest) ≡ left_of_ways ways lefts
left_one [] lefts new c one within might among = absurd (omega (arith, one))
left_one (way ∷ other ∷ ways) lefts new c one within might among = absurd (omega (arith, one))
left_one (way ∷ []) lefts new c one within (way', here, same) among = ap₂ {C = Left Cached} (λ s m. record { sure = s; may = m })
    (up_to_same (λ k. sure_in (new k)) (λ k. sure_in (way k)) c.highest (λ k under. ap sure_in (is k)) ∙ sym (sure_more way c lie (greatest_highest lefts) (up_to_greatest lefts c among)))
    (up_to_same (λ k. may_in (new k)) (λ k. may_in (way k)) c.highest (λ k under. ap may_in (is k)) ∙ sym (may_more way c lie (greatest_highest lefts) (up_to_greatest lefts c among)))
  where
    is : (k : ℕ) → new k ≡ way k
    is k = same k ∙ ap (λ w. w k) (one_of way way' here)

    lie : LieWithin way c
    lie = within way (contains_here way []) c among

pub reopen_finds : (keeps : Option Follows) (picks : Option (ℕ → Bool)) (luck : ℕ) (ways : List EpochStates) (lefts : List Bounds) (new : EpochStates) (c : Bounds) → picks ≡ picks_by keeps luck → (is_some keeps ≡ true → length ways ≡ 1) → AllLieWithin ways lefts → MightBe ways new → Contains lefts c
    → finds_of picks new c.highest ≡ option_map (λ follows. lucky_entries (keeps_by follows luck) (left_of_ways ways lefts)) keeps
reopen_finds None picks luck ways lefts new c is one within might among = ap (λ p. finds_of p new c.highest) is
reopen_finds (Some follows) picks luck ways lefts new c is one within might among =
    ap (λ p. finds_of p new c.highest) is ∙ ap (λ left. Some (lucky_entries (keeps_by follows luck) left)) (left_one ways lefts new c (one refl) within might among)

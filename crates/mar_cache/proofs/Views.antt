-- A prune by view: older epochs are destroyed, one after another.
use Rattle.std.proofs.Common.{◌≡◌, ◌⊎◌, inl, inr, ◌≤◌, ◌<◌, ◌+◌, ◌==◌, ◌||◌, ◌&&◌, ℕ, List, [], ◌∷◌, ◌++◌, Bool, true, false, not, cond, Contains, get_or, length, nat_le, nat_lt, max, refl, ap, sym, ◌∙◌, subst, Result, Ok, Err, IfOk, IfErr, MatchResult, arith}
use Rattle.std.specs.List.{AllByRecursion}
use Rattle.std.proofs.lemmas.Bool.{cases_eq, eq-eqb, le-leb, leb-true, ltb-false}
use Rattle.std.proofs.lemmas.List.Elements.{Contains-append_right}
use Rattle.mar_types.specs.Round.{Round}
use Rattle.mar_store.specs.Changes.{Within}
use Rattle.mar_store.specs.Lost.{wreck_of}
use Rattle.mar_store.specs.declared.Lost.{Lost}
use Rattle.mar_epochs.specs.declared.Change.TheVariants.{PruneBelow}
use Rattle.mar_store.proofs.Lookups.{AllByRecursion-weaker}
use Rattle.mar_model.specs.Cached.{Cached}
use Rattle.mar_model.specs.Cache.{is_below}
use Rattle.mar_epochs.specs.EpochStates.{ChangesEpoch, DestroysOrNot, EpochState, EpochStates, HasSome, IsBare, IsLeftOrBare, IsNestedEpoch, KeepsOtherEpochs, LeavesEpoch, LosesEpoch, left_of_epoch, opened, shut}
use Rattle.mar_cache.specs.Shelved.{DropsOlder, LeavesEpochs, is_pruned_by, pruned_bounds}
use Rattle.mar_cache.specs.Bounds.{Bounds, LeavesBounds}
use Rattle.mar_epochs.proofs.Filtering.{contains_none, or_false_right}
use Rattle.mar_cache.proofs.Shelving.{index_default, leaves_itself}

-- nothing is left of an epoch, or something
pub bare_or_some : (t : EpochState) → IsBare t ⊎ HasSome t
bare_or_some (opened b) = inr tt
bare_or_some (shut l) = by l.sure refl l.may refl
  where
    by : (sure : List Cached) → l.sure ≡ sure → (may : List Cached) → l.may ≡ may → IsBare (shut l) ⊎ HasSome (shut l)
    by [] none [] none_may = inl (ap (λ s. record { sure = s; may = l.may }) none ∙ ap (λ m. record { sure = []; may = m }) none_may)
    by (x ∷ xs) some may is = inr (λ nothing. absurd (let e : x ∷ xs ≡ [] = sym some ∙ ap (λ k. k.sure) nothing in cc))
    by [] none (x ∷ xs) some = inr (λ nothing. absurd (let e : x ∷ xs ≡ [] = sym some ∙ ap (λ k. k.may) nothing in cc))

-- EPOCHS THAT ARE DESTROYED ONE AFTER ANOTHER

pub drops_same : (below : ℕ) (t u : EpochStates) → ((k : ℕ) → u k ≡ t k) → DropsOlder below t u
drops_same below t u same k = inl (same k)

pub drops_then : (below : ℕ) (t u v : EpochStates) → DropsOlder below t u → DropsOlder below u v → DropsOlder below t v
drops_then below t u v first second k = by (second k)
  where
    by : (v k ≡ u k) ⊎ ((k < below) × IsBare (v k)) → (v k ≡ t k) ⊎ ((k < below) × IsBare (v k))
    by (inr gone) = inr gone
    by (inl same) = elim (first k) [ inl before ↦ inl (same ∙ before) | inr gone ↦ inr (gone.0, subst IsBare (sym same) gone.1) ]

pub drop_one : (e below : ℕ) (old new : EpochStates) → e < below → IsBare (new e) → KeepsOtherEpochs e old new → DropsOlder below old new
drop_one e below old new less bare others k = by (cases_eq k e)
  where
    by : (k ≡ e) ⊎ (k ≡ e → ⊥) → (new k ≡ old k) ⊎ ((k < below) × IsBare (new k))
    by (inl same) = inr (subst (λ j. (j < below) × IsBare (new j)) (sym same) (less, bare))
    by (inr other) = inl (others k other)

pub above_same : (below : ℕ) (old new : EpochStates) → DropsOlder below old new → (k : ℕ) → below ≤ k → new k ≡ old k
above_same below old new drops k over = elim (drops k) [ inl same ↦ same | inr gone ↦ absurd (omega (arith, over, gone.0)) ]

pub still_bare : (below : ℕ) (u v : EpochStates) → DropsOlder below u v → (k : ℕ) → IsBare (u k) → IsBare (v k)
still_bare below u v drops k bare = elim (drops k) [ inl same ↦ subst IsBare (sym same) bare | inr gone ↦ gone.1 ]

-- the same of what is left

bare_left : (t : EpochState) → IsBare t → IsBare (left_of_epoch t)
bare_left (opened b) bare = absurd bare
bare_left (shut l) bare = bare

drops_left : (below : ℕ) (t u : EpochStates) → DropsOlder below t u → DropsOlder below (λ k. left_of_epoch (t k)) (λ k. left_of_epoch (u k))
drops_left below t u drops k = elim (drops k) [ inl same ↦ inl (ap left_of_epoch same) | inr gone ↦ inr (gone.0, bare_left (u k) gone.1) ]

pub fallen_drops : (below : ℕ) (old : EpochStates) (ways : List EpochStates) → AllByRecursion (λ left. (k : ℕ) → left k ≡ left_of_epoch (old k)) ways → AllByRecursion (DropsOlder below (λ k. left_of_epoch (old k))) ways
fallen_drops below old ways all = AllByRecursion-weaker _ _ (λ left same k. inl (same k)) ways all

pub loses_one : (e below : ℕ) (old : EpochStates) (ways : List EpochStates) → e < below → AllByRecursion (DestroysOrNot e old) ways → AllByRecursion (DropsOlder below (λ k. left_of_epoch (old k))) ways
loses_one e below old ways less all = AllByRecursion-weaker _ _ (λ left way k. by left way k (cases_eq k e)) ways all
  where
    by : (left : EpochStates) → DestroysOrNot e old left → (k : ℕ) → (k ≡ e) ⊎ (k ≡ e → ⊥) → (left k ≡ left_of_epoch (old k)) ⊎ ((k < below) × IsBare (left k))
    by left way k (inl same) = subst (λ j. (left j ≡ left_of_epoch (old j)) ⊎ ((j < below) × IsBare (left j))) (sym same) (elim way.here [ inl kept ↦ inl kept | inr bare ↦ inr (less, bare) ])
    by left way k (inr other) = inl (way.others k other)

pub drops_more : (below : ℕ) (old mid : EpochStates) (ways : List EpochStates) → DropsOlder below old mid → AllByRecursion (DropsOlder below (λ k. left_of_epoch (mid k))) ways → AllByRecursion (DropsOlder below (λ k. left_of_epoch (old k))) ways
drops_more below old mid ways drops all = AllByRecursion-weaker _ _ (λ left more. drops_then below (λ k. left_of_epoch (old k)) (λ k. left_of_epoch (mid k)) left (drops_left below old mid drops) more) ways all

pub bare_more : (states : EpochStates) (es : List ℕ) (place below : ℕ) → ((j : ℕ) → j < place → get_or es j 0 < below → IsBare (states (get_or es j 0))) → (get_or es place 0 < below → IsBare (states (get_or es place 0))) → (j : ℕ) → j < place + 1 → get_or es j 0 < below → IsBare (states (get_or es j 0))
bare_more states es place below before here j less under = by (cases_eq j place)
  where
    by : (j ≡ place) ⊎ (j ≡ place → ⊥) → IsBare (states (get_or es j 0))
    by (inl same) = subst (λ i. IsBare (states (get_or es i 0))) (sym same) (here (subst (λ i. get_or es i 0 < below) same under))
    by (inr other) = before j (omega (arith, less, other)) under

pub bare_all : (states : EpochStates) (es : List ℕ) (place below : ℕ) → length es ≤ place → ((j : ℕ) → j < place → get_or es j 0 < below → IsBare (states (get_or es j 0))) → (k : ℕ) → Contains es k → k < below → IsBare (states k)
bare_all states es place below over all k (j, less, is) under =
    let at : get_or es j 0 ≡ k = index_default es j 0 k less ∙ is in
    subst (λ e. IsBare (states e)) at (all j (omega (arith, over, less)) (subst (λ e. e < below) (sym at) under))

-- all epochs below are bare
pub older_bare : (old mid new : EpochStates) (below : ℕ) → ((k : ℕ) → mid k ≡ old k) → DropsOlder below mid new → ((k : ℕ) → HasSome (old k) → k < below → IsBare (new k)) → (k : ℕ) → k < below → IsBare (new k)
older_bare old mid new below same drops bare k under = by (bare_or_some (old k))
  where
    by : IsBare (old k) ⊎ HasSome (old k) → IsBare (new k)
    by (inr some) = bare k some under
    by (inl none) = still_bare below mid new drops k (subst IsBare (sym (same k)) none)

-- the same of epochs as they were before they were listed
pub drops_from : {S W : Type 0} (states : S → EpochStates) (ways : W → List EpochStates) (below : ℕ) (old mid : EpochStates) (r : Result S (Lost W)) → ((k : ℕ) → mid k ≡ old k)
    → MatchResult r (λ s. DropsOlder below mid (states s)) (λ l. AllByRecursion (DropsOlder below (λ k. left_of_epoch (mid k))) (ways (wreck_of l)))
    → MatchResult r (λ s. DropsOlder below old (states s)) (λ l. AllByRecursion (DropsOlder below (λ k. left_of_epoch (old k))) (ways (wreck_of l)))
drops_from states ways below old mid (Ok s) same drops = drops_then below old mid (states s) (drops_same below old mid same) drops
drops_from states ways below old mid (Err l) same drops = drops_more below old mid (ways (wreck_of l)) (drops_same below old mid same) drops

pub bare_if : {S L : Type 0} (states : S → EpochStates) (Q : L → Type 0) (below : ℕ) (old mid : EpochStates) (es : List ℕ) (r : Result S L) → ((k : ℕ) → mid k ≡ old k) → MatchResult r (λ s. DropsOlder below mid (states s)) Q
    → ((k : ℕ) → Contains es k → k < below → IfOk r (λ s. IsBare (states s k))) → ((k : ℕ) → HasSome (old k) → Contains es k) → IfOk r (λ s. (k : ℕ) → k < below → IsBare (states s k))
bare_if states Q below old mid es (Ok s) same drops bare found = λ k under. older_bare old mid (states s) below same drops (λ j some less. bare j (found j some) less) k under
bare_if states Q below old mid es (Err l) same drops bare found = tt

-- WHAT A PRUNE BY VIEW LEAVES

module _ (r : Round) (old : EpochStates) (nested : (k : ℕ) → IsNestedEpoch (old k)) where
  older_gone : (k : ℕ) → k < r.epoch → (x : Cached) → is_pruned_by r k x ≡ true
  older_gone k less x = ap (λ b. b || (k == r.epoch && is_below r x)) (lt-leb' k r.epoch less)
    where
      lt-leb' : (a b : ℕ) → a < b → nat_lt a b ≡ true
      lt-leb' a b less' = by (nat_lt a b) refl
        where
          by : (c : Bool) → nat_lt a b ≡ c → c ≡ true
          by true is = refl
          by false is = absurd (omega (arith, less', ltb-false a b is))

  bare_leaves : (k : ℕ) (t : EpochState) → k < r.epoch → IsBare t → LeavesEpoch [] (is_pruned_by r k) (old k) t
  bare_leaves k (opened b) less bare = absurd bare
  bare_leaves k (shut l) less bare = record {
    sure = λ x has stays. absurd (let clash : false ≡ true = sym stays ∙ older_gone k less x in cc);
    held = λ x has stays. absurd (let clash : false ≡ true = sym stays ∙ older_gone k less x in cc);
    may = λ x has. absurd (contains_none x (subst (λ m. Contains m.may x) bare has));
  }

  left_or_gone : (left : EpochStates) (k : ℕ) → (left k ≡ left_of_epoch (old k)) ⊎ ((k < r.epoch) × IsBare (left k)) → LeavesEpoch [] (is_pruned_by r k) (old k) (left k)
  left_or_gone left k (inl same) = subst (LeavesEpoch [] (is_pruned_by r k) (old k)) (sym same) (leaves_itself [] (is_pruned_by r k) (old k) (nested k))
  left_or_gone left k (inr gone) = bare_leaves k (left k) gone.0 gone.1

  pub view_leaves : (ways : List EpochStates) → AllByRecursion (DropsOlder r.epoch (λ k. left_of_epoch (old k))) ways → AllByRecursion (LeavesEpochs (λ k. []) (is_pruned_by r) old) ways
  view_leaves ways all = AllByRecursion-weaker _ _ (λ left drops k. left_or_gone left k (drops k)) ways all

  pub view_drops : (ways : List EpochStates) → AllByRecursion (DropsOlder r.epoch (λ k. left_of_epoch (old k))) ways → AllByRecursion (λ left. (k : ℕ) → k < r.epoch → IsLeftOrBare (old k) (left k)) ways
  view_drops ways all = AllByRecursion-weaker _ _ (λ left drops k less. elim (drops k) [ inl same ↦ inl same | inr gone ↦ inr gone.1 ]) ways all

  own_kept : (x : Cached) → is_pruned_by r r.epoch x ≡ false → not (not (is_below r x)) ≡ false
  own_kept x stays = by (is_below r x) (subst (λ b. (b && is_below r x) ≡ false) (eq-eqb r.epoch r.epoch refl) (or_false_right (nat_lt r.epoch r.epoch) (r.epoch == r.epoch && is_below r x) stays))
    where
      by : (b : Bool) → (true && b) ≡ false → not (not b) ≡ false
      by true is = absurd cc
      by false is = refl

  -- where the prune of the round's own epoch failed, after older ones were destroyed
  module _ (mid : EpochStates) (drops : DropsOlder r.epoch old mid) where
    elsewhere : (left : EpochStates) → LosesEpoch r.epoch (mid r.epoch) [] (λ x. not (not (is_below r x))) mid left → (k : ℕ) → (k ≡ r.epoch → ⊥) → (left k ≡ left_of_epoch (old k)) ⊎ ((k < r.epoch) × IsBare (left k))
    elsewhere left lost k other = elim (drops k) [ inl same ↦ inl (lost.others k other ∙ ap left_of_epoch same) | inr gone ↦ inr (gone.0, subst IsBare (sym (lost.others k other)) (bare_left (mid k) gone.1)) ]

    pub own_leaves : (ways : List EpochStates) → AllByRecursion (LosesEpoch r.epoch (mid r.epoch) [] (λ x. not (not (is_below r x))) mid) ways → AllByRecursion (LeavesEpochs (λ k. []) (is_pruned_by r) old) ways
    own_leaves ways all = AllByRecursion-weaker _ _ (λ left lost k. by left lost k (cases_eq k r.epoch)) ways all
      where
        by : (left : EpochStates) → LosesEpoch r.epoch (mid r.epoch) [] (λ x. not (not (is_below r x))) mid left → (k : ℕ) → (k ≡ r.epoch) ⊎ (k ≡ r.epoch → ⊥) → LeavesEpoch [] (is_pruned_by r k) (old k) (left k)
        by left lost k (inl is) = subst (λ j. LeavesEpoch [] (is_pruned_by r j) (old j) (left j)) (sym is) (subst (λ t. LeavesEpoch [] (is_pruned_by r r.epoch) t (left r.epoch)) (above_same r.epoch old mid drops r.epoch (omega arith)) (record {
          sure = λ x has stays. lost.here.sure x has (own_kept x stays);
          held = λ x has stays. lost.here.held x has (own_kept x stays);
          may = lost.here.may;
        }))
        by left lost k (inr other) = left_or_gone left k (elsewhere left lost k other)

    pub own_drops : (ways : List EpochStates) → AllByRecursion (LosesEpoch r.epoch (mid r.epoch) [] (λ x. not (not (is_below r x))) mid) ways → AllByRecursion (λ left. (k : ℕ) → k < r.epoch → IsLeftOrBare (old k) (left k)) ways
    own_drops ways all = AllByRecursion-weaker _ _ (λ left lost k less. elim (elsewhere left lost k (λ is. omega (arith, less, is))) [ inl same ↦ inl same | inr gone ↦ inr gone.1 ]) ways all

gt-leb : (a b : ℕ) → b < a → nat_le a b ≡ false
gt-leb a b less = by (nat_le a b) refl
  where
    by : (c : Bool) → nat_le a b ≡ c → c ≡ false
    by true is = absurd (omega (arith, less, leb-true a b is))
    by false is = refl

-- a round whose epoch isn't above the lowest leaves the bounds
pub pruned_stays : (r : Round) (b : Bounds) (e l : ℕ) → e ≡ r.epoch → l ≡ b.lowest → e ≤ l → b ≡ pruned_bounds r b
pruned_stays r b e l e_is l_is within = sym (ap (λ c. cond c b (record { lowest = r.epoch; highest = max b.highest r.epoch })) (le-leb r.epoch b.lowest (omega (arith, within, e_is, l_is))))

-- the bounds that a prune by view makes durable
pub pruned_is : (r : Round) (b : Bounds) (e l h m : ℕ) → e ≡ r.epoch → l ≡ b.lowest → h ≡ b.highest → m ≡ max h e → l < e → record { lowest = e; highest = m } ≡ pruned_bounds r b
pruned_is r b e l h m e_is l_is h_is m_is above = rw (m_is, e_is, h_is) (sym (ap (λ c. cond c b (record { lowest = r.epoch; highest = max b.highest r.epoch })) (gt-leb r.epoch b.lowest (omega (arith, above, e_is, l_is)))))

pub raises_pruned : {S W : Type 0} (current : S → Bounds) (left : S → List Bounds) (P : Lost W → Type 0) (b c : Bounds) (r : Result S (Lost W)) → b ≡ c → MatchResult r (λ s. (current s ≡ b) × (left s ≡ b ∷ [])) P → IfOk r (λ s. current s ≡ c)
raises_pruned current left P b c (Ok s) is done = done.0 ∙ is
raises_pruned current left P b c (Err l) is done = tt

pub leaves_pruned : {S W : Type 0} (P : S → Type 0) (left : W → List Bounds) (olds : List Bounds) (b c : Bounds) (r : Result S (Lost W)) → b ≡ c → MatchResult r P (λ l. LeavesBounds olds (b ∷ []) (left (wreck_of l))) → IfErr r (λ l. Within (left (wreck_of l)) (olds ++ c ∷ []))
leaves_pruned P left olds b c (Ok s) is done = tt
leaves_pruned P left olds b c (Err l) is done = subst (λ d. Within (left (wreck_of l)) (olds ++ d ∷ [])) is done.within

pub pruned_left : {X : Type 0} (olds : List X) (b c : X) (left : List X) → left ≡ b ∷ [] → b ≡ c → Within left (olds ++ c ∷ [])
pruned_left olds b c left is same z has = Contains-append_right olds (c ∷ []) z (subst (λ ys. Contains ys z) (is ∙ ap (λ w. w ∷ []) same) has)

-- the prune of the round's own epoch, after older ones were destroyed
module _ {E S W : Type 0} (plain : E → Cached) (r : Round) (old mid : EpochStates) (nested : (k : ℕ) → IsNestedEpoch (old k)) (drops : DropsOlder r.epoch old mid) (states : S → EpochStates) (ways : W → List EpochStates) (res : Result S (Lost W))
    (done : MatchResult res (λ s. ChangesEpoch plain (PruneBelow r) (mid r.epoch) (states s r.epoch) × KeepsOtherEpochs r.epoch mid (states s)) (λ l. AllByRecursion (LosesEpoch r.epoch (mid r.epoch) [] (λ x. not (not (is_below r x))) mid) (ways (wreck_of l)))) where
  pub view_own : IfOk res (λ s. ChangesEpoch plain (PruneBelow r) (old r.epoch) (states s r.epoch))
  view_own = by res done
    where
      by : (q : Result S (Lost W)) → MatchResult q (λ s. ChangesEpoch plain (PruneBelow r) (mid r.epoch) (states s r.epoch) × KeepsOtherEpochs r.epoch mid (states s)) (λ l. AllByRecursion (LosesEpoch r.epoch (mid r.epoch) [] (λ x. not (not (is_below r x))) mid) (ways (wreck_of l))) → IfOk q (λ s. ChangesEpoch plain (PruneBelow r) (old r.epoch) (states s r.epoch))
      by (Ok s) d = subst (λ t. ChangesEpoch plain (PruneBelow r) t (states s r.epoch)) (above_same r.epoch old mid drops r.epoch (omega arith)) d.0
      by (Err l) d = tt

  pub view_newer : IfOk res (λ s. (k : ℕ) → r.epoch < k → states s k ≡ old k)
  view_newer = by res done
    where
      by : (q : Result S (Lost W)) → MatchResult q (λ s. ChangesEpoch plain (PruneBelow r) (mid r.epoch) (states s r.epoch) × KeepsOtherEpochs r.epoch mid (states s)) (λ l. AllByRecursion (LosesEpoch r.epoch (mid r.epoch) [] (λ x. not (not (is_below r x))) mid) (ways (wreck_of l))) → IfOk q (λ s. (k : ℕ) → r.epoch < k → states s k ≡ old k)
      by (Ok s) d = λ k above. d.1 k (λ is. omega (arith, above, is)) ∙ above_same r.epoch old mid drops k (omega (arith, above))
      by (Err l) d = tt

  pub view_older : ((k : ℕ) → k < r.epoch → IsBare (mid k)) → IfOk res (λ s. (k : ℕ) → k < r.epoch → IsBare (states s k))
  view_older bare = by res done
    where
      by : (q : Result S (Lost W)) → MatchResult q (λ s. ChangesEpoch plain (PruneBelow r) (mid r.epoch) (states s r.epoch) × KeepsOtherEpochs r.epoch mid (states s)) (λ l. AllByRecursion (LosesEpoch r.epoch (mid r.epoch) [] (λ x. not (not (is_below r x))) mid) (ways (wreck_of l))) → IfOk q (λ s. (k : ℕ) → k < r.epoch → IsBare (states s k))
      by (Ok s) d = λ k under. subst IsBare (sym (d.1 k (λ is. omega (arith, under, is)))) (bare k under)
      by (Err l) d = tt

  pub view_ways : IfErr res (λ l. AllByRecursion (LeavesEpochs (λ k. []) (is_pruned_by r) old) (ways (wreck_of l)))
  view_ways = by res done
    where
      by : (q : Result S (Lost W)) → MatchResult q (λ s. ChangesEpoch plain (PruneBelow r) (mid r.epoch) (states s r.epoch) × KeepsOtherEpochs r.epoch mid (states s)) (λ l. AllByRecursion (LosesEpoch r.epoch (mid r.epoch) [] (λ x. not (not (is_below r x))) mid) (ways (wreck_of l))) → IfErr q (λ l. AllByRecursion (LeavesEpochs (λ k. []) (is_pruned_by r) old) (ways (wreck_of l)))
      by (Ok s) d = tt
      by (Err l) d = own_leaves r old nested mid drops (ways (wreck_of l)) d

  pub view_dropped : IfErr res (λ l. AllByRecursion (λ left. (k : ℕ) → k < r.epoch → IsLeftOrBare (old k) (left k)) (ways (wreck_of l)))
  view_dropped = by res done
    where
      by : (q : Result S (Lost W)) → MatchResult q (λ s. ChangesEpoch plain (PruneBelow r) (mid r.epoch) (states s r.epoch) × KeepsOtherEpochs r.epoch mid (states s)) (λ l. AllByRecursion (LosesEpoch r.epoch (mid r.epoch) [] (λ x. not (not (is_below r x))) mid) (ways (wreck_of l))) → IfErr q (λ l. AllByRecursion (λ left. (k : ℕ) → k < r.epoch → IsLeftOrBare (old k) (left k)) (ways (wreck_of l)))
      by (Ok s) d = tt
      by (Err l) d = own_drops r old nested mid drops (ways (wreck_of l)) d

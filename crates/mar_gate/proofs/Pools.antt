-- The open syncs of a pool, and the writes that they cover.
use Rattle.std.proofs.Common.{Bool, List, None, Option, Some, [], ap, arith, cond, false, length, map, max, refl, subst, suc, sym, true, zero, ℕ, ◌++◌, ◌+◌, ◌-◌, ◌<◌, ◌==◌, ◌||◌, ◌∙◌, ◌∷◌, ◌≡◌}
use Rattle.std.specs.Option.{unwrap_or}
use Rattle.std.proofs.lemmas.Option.{none-some}
use Rattle.std.proofs.lemmas.List.{length-append, length-drop, map-append}
use Rattle.std.proofs.lemmas.List.Kept.{AllPairs-filter}
use Rattle.std.proofs.lemmas.List.Quantifiers.{all_pairs_push}
use Rattle.std.specs.List.{AllByRecursion, find}
use Rattle.std.specs.Prelude.{filter, get_or, is_some, not, option_map}
use Rattle.mar_gate.proofs.Batches.{filter-map}
use Rattle.mar_gate.specs.Pool.{Pool, Pooled, pool_covered, pool_finished, pooled_at, syncs_of, writing_of}
use Rattle.mar_gate.specs.Writing.{IsOrdered, OpenSync, Writing, covered_to, is_open_sync, position_of, total_writes, with_finished, with_started, with_ticket, with_write, without_sync}

-- the open sync of a ticket, among entries that are seen through `see`
pub pooled_found : {A : Type 0} (see : A → Pooled) (t : ℕ) (xs : List A) → pooled_at (map see xs) t ≡ option_map see (find (λ x. (see x).sync.ticket == t) xs)
pooled_found see t [] = refl
pooled_found see t (x ∷ xs) =
    elim ((see x).sync.ticket == t) as (λ b. cond b (Some (see x)) (pooled_at (map see xs) t) ≡ option_map see (cond b (Some x) (find (λ y. (see y).sync.ticket == t) xs))) [
      | true ↦ refl
      | false ↦ pooled_found see t xs
    ]

-- a sync of a ticket is open where one is found
pub is_found : (t : ℕ) (ps : List Pooled) → is_some (pooled_at ps t) ≡ is_open_sync (syncs_of ps) t
is_found t [] = refl
is_found t (p ∷ ps) = by (p.sync.ticket == t) (pooled_at ps t) (is_open_sync (syncs_of ps) t) (is_found t ps)
  where
    by : (b : Bool) (found : Option Pooled) (is_there : Bool) → is_some found ≡ is_there → is_some (cond b (Some p) found) ≡ (b || is_there)
    by true found is_there is = refl
    by false found is_there is = is

-- a sync is open where one is found
pub opened_is : {A : Type 0} (see : A → Pooled) (t : ℕ) (ps : List Pooled) (found : Option A) → option_map see found ≡ pooled_at ps t → is_some found ≡ is_open_sync (syncs_of ps) t
opened_is {A = A} see t ps found is = by found ∙ (ap is_some is ∙ is_found t ps)
  where
    by : (o : Option A) → is_some o ≡ is_some (option_map see o)
    by None = refl
    by (Some x) = refl

-- what holds of all entries holds of the one that is found
pub found_all : {X : Type 0} (P : X → Type 0) (p : X → Bool) (xs : List X) (x : X) → AllByRecursion P xs → Some x ≡ find p xs → P x
found_all P p [] x all found = absurd (none-some _ (sym found))
found_all {X = X} P p (y ∷ xs) x all found = by (p y) (find p xs) (found_all P p xs x all.1) found
  where
    by : (b : Bool) (o : Option X) → (Some x ≡ o → P x) → Some x ≡ cond b (Some y) o → P x
    by true o leads here = subst P (ap (λ r. unwrap_or r x) (sym here)) all.0
    by false o leads further = leads further

pub all_weaker : {X : Type 0} (P Q : X → Type 0) → ((x : X) → P x → Q x) → (xs : List X) → AllByRecursion P xs → AllByRecursion Q xs
all_weaker P Q leads [] all = tt
all_weaker P Q leads (x ∷ xs) all = (leads x all.0, all_weaker P Q leads xs all.1)

pub all_filtered : {X : Type 0} (P : X → Type 0) (p : X → Bool) (xs : List X) → AllByRecursion P xs → AllByRecursion P (filter p xs)
all_filtered P p [] all = tt
all_filtered P p (x ∷ xs) all =
    elim (p x) as (λ b. AllByRecursion P (cond b (x ∷ filter p xs) (filter p xs))) [ true ↦ (all.0, all_filtered P p xs all.1) | false ↦ all_filtered P p xs all.1 ]

pub all_last : {X : Type 0} (P : X → Type 0) (xs : List X) (x : X) → AllByRecursion P xs → P x → AllByRecursion P (xs ++ x ∷ [])
all_last P [] x all here = (here, tt)
all_last P (y ∷ xs) x all here = (all.0, all_last P xs x all.1 here)

all_at : {X : Type 0} (P : X → Type 0) (xs : List X) → AllByRecursion P xs → (k : ℕ) (d : X) → k < length xs → P (get_or xs k d)
all_at P [] all k d below = absurd (omega arith)
all_at P (x ∷ xs) all zero d below = all.0
all_at P (x ∷ xs) all (suc k) d below = all_at P xs all.1 k d (omega arith)

pub ordered_write : (w : Writing) (h : ℕ) → IsOrdered w → IsOrdered (with_write h w)
ordered_write w h o = record {
  ascend = o.ascend;
  below = o.below;
  within = all_weaker _ _ (λ s fits. let more = length-append w.uncovered (h ∷ []) in omega (arith, fits, more)) w.syncs o.within;
}

ordered_started : (w : Writing) → IsOrdered w → IsOrdered (with_started w)
ordered_started w o = record {
  ascend = all_pairs_push (λ s r. s.ticket < r.ticket) w.syncs _ o.ascend (all_at (λ s. s.ticket < w.next_sync) w.syncs o.below);
  below = all_last _ w.syncs _ (all_weaker _ _ (λ s fits. omega (arith, fits)) w.syncs o.below) (omega arith);
  within = all_last _ w.syncs _ o.within (omega arith);
}

pub ordered_ticketed : (w : Writing) → IsOrdered w → IsOrdered (with_ticket w)
ordered_ticketed w o = record { ascend = o.ascend; below = all_weaker _ _ (λ s fits. omega (arith, fits)) w.syncs o.below; within = o.within }

pub ordered_covered : (w : Writing) (p : ℕ) → IsOrdered w → IsOrdered (covered_to p w)
ordered_covered w p o = record {
  ascend = o.ascend;
  below = o.below;
  within = all_weaker _ _ (λ s fits. let left = length-drop (max w.covered p - w.covered) w.uncovered in omega (arith, fits, left)) w.syncs o.within;
}

pub ordered_cleared : (w : Writing) → IsOrdered w → IsOrdered (record w { covered = total_writes w; uncovered = [] })
ordered_cleared w o = record {
  ascend = o.ascend;
  below = o.below;
  within = all_weaker _ _ (λ s fits. omega (arith, fits)) w.syncs o.within;
}

ordered_without : (w : Writing) (t : ℕ) → IsOrdered w → IsOrdered (record w { syncs = without_sync t w.syncs })
ordered_without w t o = record {
  ascend = AllPairs-filter (λ s r. s.ticket < r.ticket) _ w.syncs o.ascend;
  below = all_filtered _ _ w.syncs o.below;
  within = all_filtered _ _ w.syncs o.within;
}

-- where no sync of the ticket is open none finishes
nowhere : (t : ℕ) (ps : List Pooled) → pooled_at ps t ≡ None → position_of (syncs_of ps) t ≡ 0
nowhere t [] none = refl
nowhere t (q ∷ ps) none = by (q.sync.ticket == t) (pooled_at ps t) _ (nowhere t ps) none
  where
    by : (b : Bool) (found : Option Pooled) (position : ℕ) → (found ≡ None → position ≡ 0) → cond b (Some q) found ≡ None → cond b q.sync.position position ≡ 0
    by true found position leads none = absurd (none-some _ (sym none))
    by false found position leads none = leads none

all_stay : (t : ℕ) (ps : List Pooled) → pooled_at ps t ≡ None → filter (λ q. not (q.sync.ticket == t)) ps ≡ ps
all_stay t [] none = refl
all_stay t (q ∷ ps) none = by (q.sync.ticket == t) (pooled_at ps t) _ (all_stay t ps) none
  where
    by : (b : Bool) (found : Option Pooled) (kept : List Pooled) → (found ≡ None → kept ≡ ps) → cond b (Some q) found ≡ None → cond (not b) (q ∷ kept) kept ≡ q ∷ ps
    by true found kept leads none = absurd (none-some _ (sym none))
    by false found kept leads none = ap (λ rs. q ∷ rs) (leads none)

pub none_finishes : (t : ℕ) (p : Pool) → pooled_at p.pooled t ≡ None → p ≡ pool_finished t p
none_finishes t p none =
    let same : max p.covered 0 ≡ p.covered = omega arith in
    let nothing : p.covered - p.covered ≡ 0 = omega arith in
    rw (nowhere t p.pooled none, all_stay t p.pooled none, same, nothing) refl

-- the position of the open sync of a ticket
pub position_found : (t : ℕ) (ps : List Pooled) (q : Pooled) → Some q ≡ pooled_at ps t → position_of (syncs_of ps) t ≡ q.sync.position
position_found t [] q found = absurd (none-some _ (sym found))
position_found t (r ∷ ps) q found = by (r.sync.ticket == t) (pooled_at ps t) _ (position_found t ps q) found
  where
    by : (b : Bool) (found : Option Pooled) (position : ℕ) → (Some q ≡ found → position ≡ q.sync.position) → Some q ≡ cond b (Some r) found → cond b r.sync.position position ≡ q.sync.position
    by true found position leads here = ap (λ o. (unwrap_or o q).sync.position) (sym here)
    by false found position leads further = leads further

-- the sync of the ticket has finished once its writes are covered and it is taken out
pub finished : (t : ℕ) (p : Pool) (q : Pooled) → Some q ≡ pooled_at p.pooled t → record (pool_covered q.sync.position p) { pooled = filter (λ r. not (r.sync.ticket == t)) p.pooled } ≡ pool_finished t p
finished t p q found = rw (position_found t p.pooled q found) refl

-- without the archives' tickets that is a sync's finish
pub writing_finished : (t : ℕ) (p : Pool) → writing_of (pool_finished t p) ≡ with_finished t (writing_of p)
writing_finished t p = ap (λ (ss : List OpenSync). record (with_finished t (writing_of p)) { syncs = ss }) (sym (filter-map (λ s. not (s.ticket == t)) (λ q. q.sync) p.pooled))

-- and where none of the ticket is open nothing changes
pub nothing_finished : {A : Type 0} (see : A → Pooled) (t : ℕ) (p : Pool) (found : Option A) → option_map see found ≡ pooled_at p.pooled t → found ≡ None → writing_of p ≡ with_finished t (writing_of p)
nothing_finished see t p found is none = ap writing_of (none_finishes t p (sym is ∙ ap (option_map see) none)) ∙ writing_finished t p

-- the pool of entries that are seen through `see`
module _ {A : Type 0} (see : A → Pooled) (c : ℕ) (u : List ℕ) (n : ℕ) (xs : List A) where
  pub ordered_push : (x : A) → (see x).sync ≡ record { ticket = n; position = c + length u } → IsOrdered (record { covered = c; uncovered = u; syncs = map (λ p. p.sync) (map see xs); next_sync = n }) → IsOrdered (record { covered = c; uncovered = u; syncs = map (λ p. p.sync) (map see (xs ++ x ∷ [])); next_sync = n + 1 })
  ordered_push x is o = rw (map-append see xs (x ∷ []), map-append (λ p. p.sync) (map see xs) (see x ∷ []), is) (ordered_started _ o)

  pub ordered_retain : (t : ℕ) (kept : List A) → kept ≡ filter (λ x. not ((see x).sync.ticket == t)) xs → IsOrdered (record { covered = c; uncovered = u; syncs = map (λ p. p.sync) (map see xs); next_sync = n }) → IsOrdered (record { covered = c; uncovered = u; syncs = map (λ p. p.sync) (map see kept); next_sync = n })
  ordered_retain t kept is o = rw (is, ← filter-map (λ p. not (p.sync.ticket == t)) see xs, ← filter-map (λ s. not (s.ticket == t)) (λ p. p.sync) (map see xs)) (ordered_without _ t o)

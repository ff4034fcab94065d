-- What a metadata store's calls make of its journal and of the maps that a crash may leave.
use Rattle.std.proofs.Common.{Bool, Contains, List, None, Option, Some, [], ap, arith, cond, false, get_or, inl, inr, length, length-append, map, not, refl, subst, suc, sym, take, true, zero, ℕ, ◌*◌, ◌++◌, ◌+◌, ◌<◌, ◌==◌, ◌∙◌, ◌∷◌, ◌≡◌, ◌≤◌, ◌||◌, ◌⊎◌}
use Rattle.std.proofs.lemmas.Bool.Decides.{nat_tests}
use Rattle.std.proofs.lemmas.List.{append-nil, length-map, take_more}
use Rattle.std.specs.List.{AllByRecursion, list_any}
use Rattle.mar_types.specs.Varint.{varint}
use Rattle.mar_types.specs.VarintLemmas.{length-varint}
use Rattle.mar_store.specs.Changes.{Within}
use Rattle.mar_store.specs.Values.{LeavesValues, SetsValue, Values, no_values, others_of, with_key}
use Rattle.mar_journal.specs.Disk.{Elapses, LeavesOnly, Narrows}
use Rattle.mar_journal.specs.Format.{IsBatch, IsDamaged, IsJournal, Stands, body}
use Rattle.mar_journal.specs.Journal.{Adds, IsOldOrNew, IsSettled}
use Rattle.mar_journal.specs.MetaLemmas.{meta_one, meta_some}
use Rattle.mar_journal.specs.MetaRecords.{IsMeta, changed_by, meta_bytes, record_by, record_for, values_by, values_from}
use Rattle.mar_journal_stores.specs.MetaStore.{IsMetaFile, IsMetaLeft, IsMetaStore, failed_in, left_by_meta, values_in}
use Rattle.mar_journal.specs.declared.MetaRecord.{MetaRecord}
use Rattle.mar_journal.specs.declared.MetaRecord.TheVariants.{Remove, Set}
use Rattle.mar_journal.proofs.Frames.{stands_one, stands_whole}
use Rattle.mar_journal.proofs.Moments.{and_then, goes_on, stayed, weaker}

-- maps with the same value of each key are one
pub same_values : (v w : Values) → ((k : ℕ) → v k ≡ w k) → v ≡ w
same_values v w h = λ i k. h k i

pub values_more : (v : Values) (xs ys : List MetaRecord) → values_from v (xs ++ ys) ≡ values_from (values_from v xs) ys
values_more v [] ys = refl
values_more v (x ∷ xs) ys = values_more (changed_by x v) xs ys

one_change : (key k : ℕ) (value : Option ℕ) (v : Values) → changed_by (record_by key value) v k ≡ cond (k == key) value (v k)
one_change key k None v = refl
one_change key k (Some value) v = refl

-- the changed keys are as they are in the current map, each other as it was
after_changes : (current start : Values) (keys : List ℕ) (k : ℕ) → values_from start (map (record_for current) keys) k ≡ cond (list_any (λ x. x == k) keys) (current k) (start k)
after_changes current start [] k = refl
after_changes current start (key ∷ keys) k =
    after_changes current (changed_by (record_for current key) start) keys k ∙ ap (λ o. cond (list_any (λ x. x == k) keys) (current k) o) (one_change key k (current key) start) ∙ joined (list_any (λ x. x == k) keys)
  where
    joined : (b : Bool) → cond b (current k) (cond (k == key) (current key) (start k)) ≡ cond (key == k || b) (current k) (start k)
    joined true = by_first (key == k)
      where
        by_first : (a : Bool) → current k ≡ cond (a || true) (current k) (start k)
        by_first true = refl
        by_first false = refl
    joined false = grind (arith, nat_tests)

from_cond : (b : Bool) (x y z : Option ℕ) → (b ≡ false → y ≡ z) → cond b z y ≡ z
from_cond true x y z same = refl
from_cond false x y z same = same refl

-- a batch of the changed keys leaves the current map
pub batch_leaves : (records : List MetaRecord) (current synced : Values) (changed : List ℕ) → values_by records ≡ synced
    → ((k : ℕ) → list_any (λ x. x == k) changed ≡ false → current k ≡ synced k) → values_by (records ++ map (record_for current) changed) ≡ current
batch_leaves records current synced changed are kept =
    values_more no_values records (map (record_for current) changed) ∙ ap (λ v. values_from v (map (record_for current) changed)) are
    ∙ same_values _ _ (λ k. after_changes current synced changed k ∙ from_cond (list_any (λ x. x == k) changed) None (synced k) (current k) (λ none. sym (kept k none)))

pub first_left : (synced : Values) (failed : Option Values) (v : Values) → v ≡ synced → Contains (left_by_meta synced failed) v
first_left synced None v e = (0, omega arith, sym e)
first_left synced (Some failed) v e = (0, omega arith, sym e)

pub second_left : (synced failed v : Values) → v ≡ failed → Contains (left_by_meta synced (Some failed)) v
second_left synced failed v e = (1, omega arith, sym e)

any_append : (p : ℕ → Bool) (xs : List ℕ) (y : ℕ) → list_any p (xs ++ y ∷ []) ≡ false → (list_any p xs ≡ false) × (p y ≡ false)
any_append p [] y none = grind (arith, nat_tests)
any_append p (x ∷ xs) y none = first (p x) (any_append p xs y) none
  where
    first : (b : Bool) → (list_any p (xs ++ y ∷ []) ≡ false → (list_any p xs ≡ false) × (p y ≡ false)) → (b || list_any p (xs ++ y ∷ [])) ≡ false → ((b || list_any p xs) ≡ false) × (p y ≡ false)
    first true more none = absurd (cc)
    first false more none = more none

-- a key that isn't noted is another one, and wasn't noted
with_key_none : (key : ℕ) (keys : List ℕ) (k : ℕ) → list_any (λ x. x == k) (with_key key keys) ≡ false → ((k == key) ≡ false) × (list_any (λ x. x == k) keys ≡ false)
with_key_none key keys k none = by_case (list_any (λ x. x == key) keys) refl none
  where
    by_case : (b : Bool) → list_any (λ x. x == key) keys ≡ b → list_any (λ x. x == k) (cond b keys (keys ++ key ∷ [])) ≡ false → ((k == key) ≡ false) × (list_any (λ x. x == k) keys ≡ false)
    by_case true has none = (other (k == key) refl, none)
      where
        other : (b : Bool) → (k == key) ≡ b → b ≡ false
        other true is = let same : k ≡ key = grind (arith, nat_tests) in let none_too : list_any (λ x. x == key) keys ≡ false = subst (λ n. list_any (λ x. x == n) keys ≡ false) same none in cc
        other false is = refl
    by_case false lacks none = let both = any_append (λ x. x == k) keys key none in (let e = both.1 in grind (arith, nat_tests), both.0)

others_all : (key : ℕ) (keys : List ℕ) → list_any (λ x. x == key) keys ≡ false → others_of key keys ≡ keys
others_all key [] none = refl
others_all key (x ∷ xs) none = by_first (x == key) (others_all key xs) none
  where
    by_first : (b : Bool) → (list_any (λ y. y == key) xs ≡ false → others_of key xs ≡ xs) → (b || list_any (λ y. y == key) xs) ≡ false → cond (not b) (x ∷ others_of key xs) (others_of key xs) ≡ x ∷ xs
    by_first true more none = absurd (cc)
    by_first false more none = ap (λ l. x ∷ l) (more none)

few_with_key : (key : ℕ) (keys : List ℕ) → length keys ≤ 2048 → length (others_of key keys) < 2048 → length (with_key key keys) ≤ 2048
few_with_key key keys few room = by_case (list_any (λ x. x == key) keys) refl
  where
    by_case : (b : Bool) → list_any (λ x. x == key) keys ≡ b → length (cond b keys (keys ++ key ∷ [])) ≤ 2048
    by_case true has = few
    by_case false lacks = omega (arith, length-append keys (key ∷ []), ap length (others_all key keys lacks), room)

-- one record more
pub one_more_record : (records : List MetaRecord) (i : ℕ) (r : MetaRecord) (v w : Values) → i < length records → r ≡ get_or records i r → ((k : ℕ) → v k ≡ values_by (take i records) k) → ((k : ℕ) → w k ≡ changed_by r v k)
    → (k : ℕ) → w k ≡ values_by (take (i + 1) records) k
one_more_record records i r v w within is so_far changes k =
    changes k ∙ ap (λ u. changed_by r u k) (same_values v (values_by (take i records)) so_far) ∙ ap (λ (u : Values). u k) (sym (values_more no_values (take i records) (r ∷ [])))
    ∙ ap (λ l. values_by l k) (sym (take_more records i r within ∙ ap (λ x. take i records ++ x ∷ []) (sym is)))

length-meta : (rs : List MetaRecord) → length (body meta_bytes rs) ≤ 21 * length rs
length-meta [] = omega arith
length-meta (Set k v ∷ rs) = omega (arith, length-meta rs, length-append (2 ∷ (varint k ++ varint v)) (body meta_bytes rs), length-append (varint k) (varint v), length-varint k, length-varint v)
length-meta (Remove k ∷ rs) = omega (arith, length-meta rs, length-append (3 ∷ varint k) (body meta_bytes rs), length-varint k)

pub is_batch : (records : List MetaRecord) (keys : List ℕ) (v : Values) → records ≡ map (record_for v) keys → AllByRecursion IsMeta records → 0 < length keys → length keys ≤ 2048 → IsBatch meta_bytes IsMeta records
is_batch records keys v are valid some few =
    let size : length records ≡ length keys = ap length are ∙ length-map keys (record_for v) in
    record {
      some = omega (arith, size, some);
      few = omega (arith, size, few);
      valid = valid;
      short = omega (arith, size, few, length-meta records);
    }

-- what a sync that failed leaves of the maps
pub leaves_failed : (synced current : Values) → LeavesValues (synced ∷ []) (current ∷ []) (synced ∷ current ∷ [])
leaves_failed synced current = record {
  some = omega arith;
  synced = refl;
  kept = first_stays;
  within = λ x there. there;
}
  where
    first_stays : (x : Values) → Contains (synced ∷ []) x → Contains (synced ∷ current ∷ []) x
    first_stays x (zero, lt, e) = (0, omega arith, e)
    first_stays x (suc i, lt, e) = absurd (omega (arith, lt))

-- what a reopening that failed leaves of them
pub leaves_still : (synced : List (ℕ × ℕ)) (failed : Option (List (ℕ × ℕ))) → LeavesValues (left_by_meta (values_in synced) (failed_in failed)) [] (left_by_meta (values_in synced) (failed_in failed))
leaves_still synced failed = record {
  some = by_failed failed;
  synced = refl;
  kept = λ x there. there;
  within = λ x there. subst (λ l. Contains l x) (sym (append-nil (left_by_meta (values_in synced) (failed_in failed)))) there;
}
  where
    by_failed : (other : Option (List (ℕ × ℕ))) → 0 < length (left_by_meta (values_in synced) (failed_in other))
    by_failed None = omega arith
    by_failed (Some entries) = omega arith

module _ {D : Type 0} (seen : D → List ℕ) (may_leave : D → List ℕ → Type 0) where
  -- what a store leaves, whatever a sync was to write
  pub store_left : (disk : D) (end : ℕ) (current synced : Values) (changed : List ℕ) (failed : Option Values) → IsMetaStore seen may_leave disk end current synced changed
      → IsMetaLeft may_leave disk (left_by_meta synced failed)
  store_left disk end current synced changed failed s = λ c left. (
    s.records,
    inr (end, subst (IsJournal meta_bytes IsMeta s.records end) (sym (s.settled.only c left)) s.settled.journal),
    first_left synced failed (values_by s.records) s.values_are,
  )

  pub store_set : (disk : D) (end : ℕ) (current synced new : Values) (changed : List ℕ) (key : ℕ) (value : Option ℕ) → IsMetaStore seen may_leave disk end current synced changed
      → length (others_of key changed) < 2048 → SetsValue current key value new → (later : List ℕ) → later ≡ with_key key changed → IsMetaStore seen may_leave disk end new synced later
  store_set disk end current synced new changed key value s room sets later is = record {
    records = s.records;
    settled = s.settled;
    values_are = s.values_are;
    kept = λ k none. let both = with_key_none key changed k (subst (λ l. list_any (λ x. x == k) l ≡ false) is none) in sets k ∙ ap (λ b. cond b value (current k)) both.0 ∙ s.kept k both.1;
    few = subst (λ l. length l ≤ 2048) (sym is) (few_with_key key changed s.few room);
  }

  -- a store whose changes are all durable
  pub store_same : (disk : D) (end : ℕ) (current synced : Values) (changed : List ℕ) → IsMetaStore seen may_leave disk end current synced changed → changed ≡ [] → synced ≡ current
  store_same disk end current synced changed s none = same_values _ _ (λ k. sym (s.kept k (ap (list_any (λ x. x == k)) none)))

  pub store_synced : (disk later : D) (end new : ℕ) (current synced copy : Values) (changed : List ℕ) (batch : List MetaRecord) → (s : IsMetaStore seen may_leave disk end current synced changed)
      → batch ≡ map (record_for current) changed → copy ≡ current → IsSettled meta_bytes IsMeta seen may_leave (s.records ++ batch) new later → (none : List ℕ) → none ≡ []
      → IsMetaStore seen may_leave later new current copy none
  store_synced disk later end new current synced copy changed batch s are same settled none is = record {
    records = s.records ++ batch;
    settled = settled;
    values_are = ap (λ l. values_by (s.records ++ l)) are ∙ batch_leaves s.records current synced changed s.values_are s.kept ∙ sym same;
    kept = λ k lacks. ap (λ (v : Values). v k) (sym same);
    few = subst (λ l. length l ≤ 2048) (sym is) (omega arith);
  }

  -- a store that was opened
  pub store_opened : (disk : D) (end : ℕ) (current synced : Values) (records : List MetaRecord) → IsSettled meta_bytes IsMeta seen may_leave records end disk → current ≡ values_by records → synced ≡ values_by records
      → (none : List ℕ) → none ≡ [] → IsMetaStore seen may_leave disk end current synced none
  store_opened disk end current synced records settled are too none is = record {
    records = records;
    settled = settled;
    values_are = sym too;
    kept = λ k lacks. ap (λ (v : Values). v k) (are ∙ sym too);
    few = subst (λ l. length l ≤ 2048) (sym is) (omega arith);
  }

  -- what stands before a batch and behind it
  either_file : (end : ℕ) (disk : D) (current synced : Values) (changed : List ℕ) (batch : List MetaRecord) → (s : IsMetaStore seen may_leave disk end current synced changed) → batch ≡ map (record_for current) changed
      → (c : List ℕ) → Stands meta_bytes IsMeta s.records c ⊎ Stands meta_bytes IsMeta (s.records ++ batch) c → IsMetaFile (synced ∷ current ∷ []) c
  either_file end disk current synced changed batch s are c (inl old) = (s.records, old, first_left synced (Some current) (values_by s.records) s.values_are)
  either_file end disk current synced changed batch s are c (inr new) = (s.records ++ batch, new, second_left synced current (values_by (s.records ++ batch)) (ap (λ l. values_by (s.records ++ l)) are ∙ batch_leaves s.records current synced changed s.values_are s.kept))

  -- what an opening leaves of a file
  old_or_new : (disk : D) (left : List Values) → may_leave disk (seen disk) → IsMetaLeft may_leave disk left → (c : List ℕ) → IsOldOrNew (seen disk) (may_leave disk) c → IsMetaFile left c
  old_or_new disk left image is c (inl old) = is c old
  old_or_new disk left image is c (inr new) =
      let here = is (seen disk) image in
      let none : here.0 ≡ [] = stands_one meta_bytes IsMeta meta_one meta_some here.0 [] (seen disk) here.1 (inl (new.0, refl)) in
      ([], inl (new.1, refl), subst (λ l. Contains left (values_by l)) none here.2)

  module _ (moment : D → ℕ) (left_since : D → ℕ → List ℕ → Type 0) (counts_now : (d : D) (t : ℕ) (c : List ℕ) → t ≤ moment d → may_leave d c → left_since d t c) where
    -- what a sync leaves that failed
    pub sync_left : (disk later : D) (end : ℕ) (current synced : Values) (changed : List ℕ) (batch : List MetaRecord) → (s : IsMetaStore seen may_leave disk end current synced changed)
        → batch ≡ map (record_for current) changed → LeavesOnly moment left_since disk later (λ c. Stands meta_bytes IsMeta s.records c ⊎ Stands meta_bytes IsMeta (s.records ++ batch) c)
        → IsMetaLeft may_leave later (left_by_meta synced (Some current))
    sync_left disk later end current synced changed batch s are any = λ c left. either_file end disk current synced changed batch s are c (any.each c (counts_now later (moment disk) c any.later left))

    -- what an opening leaves that failed
    pub opening_left : (disk later : D) (left : List Values) → may_leave disk (seen disk) → IsMetaLeft may_leave disk left → LeavesOnly moment left_since disk later (IsOldOrNew (seen disk) (may_leave disk))
        → IsMetaLeft may_leave later left
    opening_left disk later left image is any = λ c now. old_or_new disk left image is c (any.each c (counts_now later (moment disk) c any.later now))

  -- what a sync writes
  pub adds_batch : (disk later : D) (end new : ℕ) (current synced : Values) (changed : List ℕ) (batch : List MetaRecord) → (s : IsMetaStore seen may_leave disk end current synced changed) → batch ≡ map (record_for current) changed
      → IsSettled meta_bytes IsMeta seen may_leave (s.records ++ batch) new later → Adds meta_bytes IsMeta seen may_leave (map (record_for current) changed) disk later
  adds_batch disk later end new current synced changed batch s are settled = record {
    records = s.records;
    end = end;
    settled = s.settled;
    later_end = new;
    added = subst (λ l. IsSettled meta_bytes IsMeta seen may_leave (s.records ++ l) new later) are settled;
  }

  pub adds_none : (disk : D) (end : ℕ) (current synced : Values) (changed : List ℕ) → IsMetaStore seen may_leave disk end current synced changed → changed ≡ [] → Adds meta_bytes IsMeta seen may_leave (map (record_for current) changed) disk disk
  adds_none disk end current synced changed s none = record {
    records = s.records;
    end = end;
    settled = s.settled;
    later_end = end;
    added = subst (λ l. IsSettled meta_bytes IsMeta seen may_leave l end disk) (sym (append-nil s.records) ∙ ap (λ l. s.records ++ map (record_for current) l) (sym none)) s.settled;
  }

  module _ (moment : D → ℕ) (left_since : D → ℕ → List ℕ → Type 0) where
    -- what a crash at any moment of a sync leaves
    pub sync_moments : (disk later : D) (end : ℕ) (current synced : Values) (changed : List ℕ) (batch : List MetaRecord) → (s : IsMetaStore seen may_leave disk end current synced changed)
        → batch ≡ map (record_for current) changed → LeavesOnly moment left_since disk later (λ c. Stands meta_bytes IsMeta s.records c ⊎ Stands meta_bytes IsMeta (s.records ++ batch) c)
        → LeavesOnly moment left_since disk later (IsMetaFile (synced ∷ current ∷ []))
    sync_moments disk later end current synced changed batch s are any =
        weaker moment left_since disk later (IsMetaFile (synced ∷ current ∷ [])) _ any (either_file end disk current synced changed batch s are)

    module _ (only_now : (d : D) (c : List ℕ) → left_since d (moment d) c → may_leave d c) where
      pub idle_moments : (disk : D) (end : ℕ) (current synced : Values) (changed : List ℕ) → IsMetaStore seen may_leave disk end current synced changed → LeavesOnly moment left_since disk disk (IsMetaFile (synced ∷ current ∷ []))
      idle_moments disk end current synced changed s = stayed moment left_since may_leave only_now disk (IsMetaFile (synced ∷ current ∷ [])) (store_left disk end current synced changed (Some current) s)

      pub wreck_moments : (disk : D) (left : List Values) → IsMetaLeft may_leave disk left → LeavesOnly moment left_since disk disk (IsMetaFile left)
      wreck_moments disk left is = stayed moment left_since may_leave only_now disk (IsMetaFile left) is

      -- of a crash that was played
      pub crash_moments : (wreck disk : D) (left : List Values) → IsMetaLeft may_leave wreck left → Narrows (may_leave wreck) (may_leave disk) → Elapses (moment wreck) (moment disk) (left_since wreck) (left_since disk) (may_leave disk)
          → LeavesOnly moment left_since wreck disk (IsMetaFile left)
      crash_moments wreck disk left is narrows time = goes_on moment left_since wreck wreck disk (IsMetaFile left) (may_leave disk) (wreck_moments wreck left is) time (λ c now. is c (narrows c now))

      -- of an opening behind it
      pub reopen_moments : (wreck disk later : D) (left : List Values) → IsMetaLeft may_leave wreck left → Narrows (may_leave wreck) (may_leave disk) → Elapses (moment wreck) (moment disk) (left_since wreck) (left_since disk) (may_leave disk)
          → may_leave disk (seen disk) → LeavesOnly moment left_since disk later (IsOldOrNew (seen disk) (may_leave disk)) → LeavesOnly moment left_since wreck later (IsMetaFile left)
      reopen_moments wreck disk later left is narrows time image any =
          and_then moment left_since wreck disk later (IsMetaFile left) (IsOldOrNew (seen disk) (may_leave disk)) (crash_moments wreck disk left is narrows time) any (old_or_new disk left image (λ c now. is c (narrows c now)))

  -- a file that stands for a map isn't damaged
  pub undamaged : (disk : D) (left : List Values) (at : ℕ) → may_leave disk (seen disk) → IsMetaLeft may_leave disk left → IsDamaged meta_bytes IsMeta at (seen disk) → ⊥
  undamaged disk left at image is damaged = let here = is (seen disk) image in stands_whole meta_bytes IsMeta meta_one meta_some here.0 at (seen disk) here.1 damaged

  -- what an opening finds is one of what may be left
  pub opening_finds : (disk : D) (left : List Values) (records : List MetaRecord) → may_leave disk (seen disk) → IsMetaLeft may_leave disk left → Stands meta_bytes IsMeta records (seen disk) → Contains left (values_by records)
  opening_finds disk left records image is stands =
      let here = is (seen disk) image in
      subst (λ l. Contains left (values_by l)) (stands_one meta_bytes IsMeta meta_one meta_some here.0 records (seen disk) here.1 stands) here.2

-- one call and those behind it
pub leaves_and_then : {D : Type 0} (moment : D → ℕ) (left_since : D → ℕ → List ℕ → Type 0) (old mid new : D) (left later all : List Values) → LeavesOnly moment left_since old mid (IsMetaFile left) → LeavesOnly moment left_since mid new (IsMetaFile later)
    → Within left all → Within later all → LeavesOnly moment left_since old new (IsMetaFile all)
leaves_and_then moment left_since old mid new left later all first second wider wider_too = and_then moment left_since old mid new _ _
    (weaker moment left_since old mid (IsMetaFile all) _ first (λ c is. (is.0, is.1, wider _ is.2))) second (λ c is. (is.0, is.1, wider_too _ is.2))

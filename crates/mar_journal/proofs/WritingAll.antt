-- Records that are written batch by batch.
use Rattle.std.proofs.Common.{List, [], ap, append_assoc, arith, drop, inl, inr, length, length-append, length-drop, length-take, min, refl, subst, suc, sym, take, zero, ℕ, ◌*◌, ◌++◌, ◌+◌, ◌-◌, ◌<◌, ◌∙◌, ◌∷◌, ◌≡◌, ◌≤◌, ◌⊎◌}
use Rattle.std.proofs.lemmas.List.{append-nil, drop-drop, take-append-drop, take_at, take_min}
use Rattle.std.specs.List.{AllByRecursion}
use Rattle.mar_journal.specs.Disk.{LeavesOnly}
use Rattle.mar_journal.specs.Format.{IsBatch, IsJournal, Stands, StandsUpto, body}
use Rattle.mar_journal.specs.Journal.{IsSettled}
use Rattle.mar_journal.specs.Records.{IsWritable}
use Rattle.mar_journal.proofs.Moments.{started}

-- a front and the front of the rest are a longer front
pub fronts : {T : Type 0} (m k : ℕ) (xs : List T) → take m xs ++ take k (drop m xs) ≡ take (m + k) xs
fronts {T} m k xs =
    sym (take_at (take m xs ++ take k (drop m xs)) (drop (m + k) xs) _ refl) ∙ ap (λ (l : List T). take (length (take m xs ++ take k (drop m xs))) l) whole ∙ by_length
  where
    whole : (take m xs ++ take k (drop m xs)) ++ drop (m + k) xs ≡ xs
    whole = append_assoc (take m xs) (take k (drop m xs)) (drop (m + k) xs) ∙ ap (λ (l : List T). take m xs ++ (take k (drop m xs) ++ l)) (sym (drop-drop k m xs)) ∙ ap (λ (l : List T). take m xs ++ l) (take-append-drop k (drop m xs)) ∙ take-append-drop m xs

    size : length (take m xs ++ take k (drop m xs)) ≡ min (m + k) (length xs)
    size = omega (arith, length-append (take m xs) (take k (drop m xs)), length-take m xs, length-take k (drop m xs), length-drop m xs)

    by_length : take (length (take m xs ++ take k (drop m xs))) xs ≡ take (m + k) xs
    by_length = ap (λ (n : ℕ). take n xs) size ∙ take_min (m + k) xs

pub all_take : {T : Type 0} (P : T → Type 0) (n : ℕ) (xs : List T) → AllByRecursion P xs → AllByRecursion P (take n xs)
all_take P zero xs all = tt
all_take P (suc n) [] all = tt
all_take P (suc n) (x ∷ xs) all = (all.0, all_take P n xs all.1)

pub all_drop : {T : Type 0} (P : T → Type 0) (n : ℕ) (xs : List T) → AllByRecursion P xs → AllByRecursion P (drop n xs)
all_drop P zero xs all = all
all_drop P (suc n) [] all = tt
all_drop P (suc n) (x ∷ xs) all = all_drop P n xs all.1

module _ {R : Type 0} (spelled : R → List ℕ) (Valid : R → Type 0) where
  all_valid : (rs : List R) → AllByRecursion (IsWritable spelled Valid) rs → AllByRecursion Valid rs
  all_valid [] all = tt
  all_valid (r ∷ rs) all = (all.0.valid, all_valid rs all.1)

  length-writable : (rs : List R) → AllByRecursion (IsWritable spelled Valid) rs → length (body spelled rs) ≤ 1048640 * length rs
  length-writable [] all = omega arith
  length-writable (r ∷ rs) all = omega (arith, all.0.small, length-writable rs all.1, length-append (spelled r) (body spelled rs))

  pub batch_here : (records : List R) (done n : ℕ) → AllByRecursion (IsWritable spelled Valid) records → done < length records → 0 < n → n ≤ 2048 → IsBatch spelled Valid (take n (drop done records))
  batch_here records done n all more some few =
      let here = all_take (IsWritable spelled Valid) n (drop done records) (all_drop (IsWritable spelled Valid) done records all) in
      let size : length (take n (drop done records)) ≡ min n (length records - done) = omega (arith, length-take n (drop done records), length-drop done records) in
      record {
        some = omega (arith, size, some, more);
        few = omega (arith, size, few);
        valid = all_valid _ here;
        short = omega (arith, size, few, length-writable _ here);
      }

  same_records : (before records : List R) (done n : ℕ) → (before ++ take done records) ++ take n (drop done records) ≡ before ++ take (done + n) records
  same_records before records done n = append_assoc before (take done records) (take n (drop done records)) ∙ ap (λ (l : List R). before ++ l) (fronts done n records)

  pub upto_either : (before records : List R) (done n : ℕ) → done + n ≤ length records → (c : List ℕ)
      → Stands spelled Valid (before ++ take done records) c ⊎ Stands spelled Valid ((before ++ take done records) ++ take n (drop done records)) c → StandsUpto spelled Valid before records c
  upto_either before records done n within c (inl is) = (done, omega (arith, within), is)
  upto_either before records done n within c (inr is) = (done + n, within, subst (λ l. Stands spelled Valid l c) (same_records before records done n) is)

  module _ {D : Type 0} (seen : D → List ℕ) (may_leave : D → List ℕ → Type 0) where
    pub settled_more : (before records : List R) (done n end : ℕ) (disk : D) → IsSettled spelled Valid seen may_leave ((before ++ take done records) ++ take n (drop done records)) end disk
        → IsSettled spelled Valid seen may_leave (before ++ take (done + n) records) end disk
    settled_more before records done n end disk s = subst (λ l. IsSettled spelled Valid seen may_leave l end disk) (same_records before records done n) s

    pub settled_none : (before : List R) (end : ℕ) (disk : D) → IsSettled spelled Valid seen may_leave before end disk → IsSettled spelled Valid seen may_leave (before ++ []) end disk
    settled_none before end disk s = subst (λ l. IsSettled spelled Valid seen may_leave l end disk) (sym (append-nil before)) s

    pub upto_first : (moment : D → ℕ) (left_since : D → ℕ → List ℕ → Type 0) (only_now : (d : D) (c : List ℕ) → left_since d (moment d) c → may_leave d c) (before records : List R) (end : ℕ) (disk : D)
        → IsSettled spelled Valid seen may_leave before end disk → LeavesOnly moment left_since disk disk (StandsUpto spelled Valid before records)
    upto_first moment left_since only_now before records end disk s =
        started moment left_since disk (StandsUpto spelled Valid before records) (λ c left. (
          0,
          omega arith,
          inr (end, subst (λ l. IsJournal spelled Valid l end c) (sym (append-nil before)) (subst (IsJournal spelled Valid before end) (sym (s.only c (only_now disk c left))) s.journal)),
        ))

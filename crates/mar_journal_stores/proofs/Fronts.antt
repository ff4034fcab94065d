-- What is behind a place of a list.
use Rattle.std.proofs.Common.{List, [], arith, drop, get_or, length, refl, suc, zero, ℕ, ⊎_elim, ◌-◌, ◌<◌, ◌≡◌, ◌≤◌, ◌∷◌}
use Rattle.std.specs.List.{AllByRecursion}
use Rattle.mar_journal_stores.specs.ArchiveStore.{IsFront}

pub all_past_end : {T : Type 0} (P : T → Type 0) (k : ℕ) (xs : List T) → length xs ≤ k → AllByRecursion P (drop k xs)
all_past_end P zero [] long = tt
all_past_end P zero (x ∷ xs) long = absurd (omega (arith, long))
all_past_end P (suc k) [] long = tt
all_past_end P (suc k) (x ∷ xs) long = all_past_end P k xs (omega (arith, long))

pub all_one_more : (P : ℕ → Type 0) (k : ℕ) (xs : List ℕ) → k < length xs → P (get_or xs k 0) → AllByRecursion P (drop (suc k) xs) → AllByRecursion P (drop k xs)
all_one_more P k [] within here all = absurd (omega (arith, within))
all_one_more P zero (x ∷ xs) within here all = (here, all)
all_one_more P (suc k) (x ∷ xs) within here all = all_one_more P k xs (omega (arith, within)) here all

-- where all are behind it there is no place before
pub none_before : (P : ℕ → Type 0) (k : ℕ) (xs : List ℕ) → k < length xs → AllByRecursion P xs → P (get_or xs k 0)
none_before P k [] within all = absurd (omega (arith, within))
none_before P zero (x ∷ xs) within all = all.0
none_before P (suc k) (x ∷ xs) within all = none_before P k xs (omega (arith, within)) all.1

-- a ticket below all marks has nothing written
pub none_written : (t : ℕ) (marks : List ℕ) (count : ℕ) → IsFront t marks count → AllByRecursion (λ n. t < n) marks → count ≡ 0
none_written t marks zero f all = refl
none_written t marks (suc k) f all =
    absurd (⊎_elim (λ none. omega (arith, none)) (λ below. omega (arith, below, none_before (λ n. t < n) (suc k - 1) marks (omega (arith, f.within)) all)) f.last)

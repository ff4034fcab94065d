-- An archive that is a journal: how what waits leads from the values on the disk to those that are held.
use Rattle.std.specs.Prelude.{Bool, Contains, List, None, Option, Some, [], drop, filter, fold, get_or, length, map, nat_le, nat_lt, not, suc, take, true, ℕ, ⊤, ◌++◌, ◌+◌, ◌-◌, ◌<◌, ◌∷◌, ◌≡◌, ◌≤◌, ◌⊎◌}
use Rattle.std.proofs.Common.{arith}
use Rattle.std.specs.List.{AllByRecursion}
use Rattle.mar_store.specs.Entries.{AreUpto, covered_by, next_number, seen}
use Rattle.mar_store.specs.Tickets.{last_number}
use Rattle.mar_store.specs.Changes.{IsNested, KeepsValues, Within, heights}
use Rattle.mar_store.specs.Kept.{At, EachHeightOnce, Kept, Reopens, value_at}
use Rattle.mar_store.specs.Nested.{front_within, kept_nested}
use Rattle.mar_store.specs.Ranges.{Range, ranges, with_height}
use Rattle.mar_store.specs.declared.Entry.{Entry}
use Rattle.mar_journal.specs.ArchiveRecords.{IsArchived, archive_bytes, kept_by, kept_from}
use Rattle.mar_journal.specs.Disk.{LeavesOnly}
use Rattle.mar_journal.specs.Format.{Stands}
use Rattle.mar_journal.specs.Journal.{IsSettled}
use Rattle.mar_journal.specs.Records.{IsWritable}
use Rattle.mar_journal.specs.declared.ArchiveRecord.{ArchiveRecord}

-- what a crash can leave: what was pruned since the last sync, and what is held
abbrev pub left_may : {T : Type 0} → List (Entry T) → List (Entry T) → List (At T)
left_may gone items = map seen gone ++ map seen items

-- of what was pruned, what stays aside where the ticket of a number has finished: what was pruned behind it
abbrev pub aside_after : {T : Type 0} → ℕ → List (Entry T) → List (Entry T)
aside_after t gone = filter (λ e. nat_lt t e.number) gone

-- what a crash can leave where that ticket has finished
abbrev pub left_after : {T : Type 0} → List (Entry T) → List (Entry T) → ℕ → List (At T)
left_after gone items t = left_may (aside_after t gone) items

-- A ticket that has finished leaves what was pruned aside as it was, or lets go what was pruned before it.
abbrev pub LeavesAside : {T : Type 0} → ℕ → List (Entry T) → List (Entry T) → Type 0
LeavesAside t gone aside = (aside ≡ gone) ⊎ (aside ≡ aside_after t gone)

-- Where a ticket makes more sure, it lets go what was pruned before it; else nothing goes.
pub record LetsGo {T : Type 0} (t before sure : ℕ) (gone aside : List (Entry T)) : Type 0 where
  pub goes : before < sure → aside ≡ aside_after t gone
  pub stays : before ≡ sure → aside ≡ gone

-- What a prune takes out stands aside behind what was pruned before, under one number.
pub record SetsAside {T : Type 0} (min number : ℕ) (items gone aside : List (Entry T)) : Type 0 where
  pub more : List (Entry T)
  pub behind : aside ≡ gone ++ more
  pub taken : map seen more ≡ map seen (filter (λ e. not (nat_le min e.index)) items)
  pub numbered : AllByRecursion (λ e. e.number ≡ number) more

-- the ranges that are there, or else those of what is held
abbrev pub ranges_or : List Range → Option (List Range) → List Range
ranges_or held None = held
ranges_or held (Some may) = may

-- These are the ranges of what a crash can leave.
abbrev pub AreLeftRanges : {T : Type 0} → Option (List Range) → List (Entry T) → List (Entry T) → Type 0
AreLeftRanges may gone items = ranges_or (ranges (heights (map seen items))) may ≡ ranges (heights (left_may gone items))

-- ranges with the indexes of what stays aside where the ticket of a number has finished
abbrev pub ranges_with : {T : Type 0} → List Range → ℕ → List (Entry T) → List Range
ranges_with held t gone = fold (λ rs h. with_height h rs) held (heights (map seen (aside_after t gone)))

-- entries of which so many are sure
abbrev pub archive_kept : {T : Type 0} → List (Entry T) → List (Entry T) → ℕ → Kept (At T)
archive_kept gone items synced = record { held = map seen items; sure = take synced (map seen items); may = left_may gone items }

-- Before a waiting record the file's values are ones that a reopening may find, all that a ticket below its mark covers is
-- among them, and none that such a ticket lets go.
pub record Waits {T : Type 0} (sure may : List (At T)) (after : ℕ → List (At T)) (items : List (Entry T)) (accepted mark : ℕ) (kept : List (At T)) : Type 0 where
  pub found : Reopens sure may kept
  pub beyond : (t : ℕ) → t < mark → (h : ℕ) (v : T) → value_at kept h ≡ Some v → Contains (after t) (record { height = h; value = v })
  pub covered : (t : ℕ) → t < mark → KeepsValues (covered_by items t) kept
  pub upto : mark ≤ accepted + 1
  pub last : mark ≤ last_number

-- So it is before each waiting record, and after all of them the file's values are those that are held.
abbrev pub Pending : {T : Type 0} → (T → List ℕ) → List (At T) → List (At T) → (ℕ → List (At T)) → List (Entry T) → ℕ → List (At T) → List (ArchiveRecord T) → List ℕ → Type 0
Pending name sure may after items accepted kept [] [] = kept ≡ map seen items
Pending name sure may after items accepted kept [] (n ∷ ns) = ⊥
Pending name sure may after items accepted kept (r ∷ rs) [] = ⊥
Pending name sure may after items accepted kept (r ∷ rs) (n ∷ ns) = Waits sure may after items accepted n kept × Pending name sure may after items accepted (kept_by name kept r) rs ns

-- Marks ascend, and none is above the number of puts that were accepted.
abbrev pub Ordered : ℕ → List ℕ → Type 0
Ordered accepted [] = ⊤
Ordered accepted (n ∷ ns) = (n ≤ accepted) × (n ≤ last_number) × AllByRecursion (λ m. n ≤ m) ns × Ordered accepted ns

-- the last of some marks, and 0 where there is none
abbrev pub last_mark : List ℕ → ℕ
last_mark marks = get_or marks (length marks - 1) 0

-- the number of the first ticket that covers the last of some entries
abbrev pub IsMarkOf : {T : Type 0} → List (Entry T) → ℕ → Type 0
IsMarkOf items mark = (front : List (Entry _)) (e : Entry _) → items ≡ front ++ e ∷ [] → mark ≡ next_number e.number

-- One record more waits. Its mark is above the number of each ticket that was given out before, so none of these writes it;
-- it isn't above the number of puts accepted since.
pub record IsMarked {R : Type 0} (given accepted : ℕ) (r : R) (waiting : List R) (marks : List ℕ) (after : List R) (ends : List ℕ) : Type 0 where
  pub mark : ℕ
  pub waits : after ≡ waiting ++ r ∷ []
  pub marked : ends ≡ marks ++ mark ∷ []
  pub above : (given < mark) ⊎ (mark ≡ last_number)
  pub upto : mark ≤ accepted

-- The journal's records and those that wait lead to what is held.
pub record IsBacked {T D : Type 0} (name spelled : T → List ℕ) (fits : ℕ → T → Bool) (seen_bytes : D → List ℕ) (may_leave : D → List ℕ → Type 0) (disk : D) (end : ℕ)
    (sure : List (At T)) (gone items : List (Entry T)) (accepted : ℕ) (waiting : List (ArchiveRecord T)) (marks : List ℕ) : Type 0 where
  pub records : List (ArchiveRecord T)
  pub settled : IsSettled (archive_bytes name spelled) (IsArchived fits spelled) seen_bytes may_leave records end disk
  pub pending : Pending name sure (left_may gone items) (left_after gone items) items accepted (kept_from name [] records) waiting marks
  pub good : AllByRecursion (IsWritable (archive_bytes name spelled) (IsArchived fits spelled)) waiting
  pub fit : AllByRecursion (λ x. fits x.height x.value ≡ true) (left_may gone items)
  pub aside : AreUpto accepted gone
  pub ordered : Ordered accepted marks

-- How many of the waiting records a ticket has written: all up to the last whose mark isn't above its number.
pub record IsFront (t : ℕ) (marks : List ℕ) (count : ℕ) : Type 0 where
  pub within : count ≤ length marks
  pub later : AllByRecursion (λ n. t < n) (drop count marks)
  pub last : (count ≡ 0) ⊎ (get_or marks (count - 1) 0 ≤ t)

-- the file stands for values that a reopening may find
abbrev pub IsArchiveFile : {T : Type 0} → (T → List ℕ) → (T → List ℕ) → (ℕ → T → Bool) → List (At T) → List (At T) → List ℕ → Type 0
IsArchiveFile name spelled fits sure may file = (records : List (ArchiveRecord _)) × Stands (archive_bytes name spelled) (IsArchived fits spelled) records file × Reopens sure may (kept_from name [] records)

-- Each image stands for values that a reopening may find.
pub record IsArchiveLeft {T D : Type 0} (name spelled : T → List ℕ) (fits : ℕ → T → Bool) (may_leave : D → List ℕ → Type 0) (disk : D) (sure may : List (At T)) : Type 0 where
  pub each : (c : List ℕ) → may_leave disk c → IsArchiveFile name spelled fits sure may c
  pub fit : AllByRecursion (λ x. fits x.height x.value ≡ true) may

-- At each moment since old a crash leaves a file of values that a reopening may find.
abbrev pub StaysFound : {T D : Type 0} → (T → List ℕ) → (T → List ℕ) → (ℕ → T → Bool) → (D → ℕ) → (D → ℕ → List ℕ → Type 0) → D → D → List (At T) → List (At T) → Type 0
StaysFound name spelled fits moment left_since old new sure may = ∥ LeavesOnly moment left_since old new (IsArchiveFile name spelled fits sure may) ∥₁

pub within_right : {X : Type 0} (xs ys : List X) → Within ys (xs ++ ys)
within_right [] ys x has = has
within_right (y ∷ xs) ys x has = let more = within_right xs ys x has in (suc more.0, omega (arith, more.1), more.2)

-- what is sure and what is held may be left
pub archive_within : {T : Type 0} (gone items : List (Entry T)) (n : ℕ) → Within (take n (map seen items)) (left_may gone items)
archive_within gone items n = λ x has. within_right (map seen gone) (map seen items) x (front_within n (map seen items) x has)

pub archive_nested : {T : Type 0} (gone items : List (Entry T)) (n : ℕ) → EachHeightOnce (map seen items) → IsNested (archive_kept gone items n)
archive_nested gone items n once = let inner = kept_nested items n once in record {
  once = once;
  sure_once = inner.sure_once;
  sure_held = inner.sure_held;
  held_may = within_right (map seen gone) (map seen items);
}

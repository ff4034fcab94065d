-- The calls of an archive that is a journal, by its entries.
use Rattle.std.proofs.Common.{Bool, Contains, List, None, Option, Some, [], ap, append_assoc, arith, cond, drop, filter, min, nat_le, bytes_eq, not, inl, inr, length, length-append, length-take, map, false, option_map, refl, subst, suc, sym, take, true, zero, ℕ, ◌&&◌, ◌++◌, ◌<◌, ◌==◌, ◌^◌, ◌∙◌, ◌∷◌, ◌≡◌, ◌≤◌}
use Rattle.std.proofs.Math.Logic.{∥∥₁_elim, ∥∥₁_map, ∥∥₁_map₂}
use Rattle.std.specs.Coded.{Coded, Coded-set, coded_bool, coded_option, le_prop}
use Rattle.std.proofs.lemmas.Bool.{and_from, eq-eqb, eqb-true, false≢true, true≢false}
use Rattle.std.proofs.lemmas.Slice.Eq.{bytes_eq-Decides}
use Rattle.std.specs.List.{AllByRecursion, AllByRecursion-prop}
use Rattle.std.proofs.lemmas.List.{length-map, map-append}
use Rattle.std.proofs.lemmas.List.Sums.{fold-append}
use Rattle.mar_store.specs.Changes.{Fails, Finishes, IsReopened, IsStillOr, KeepsValues, Left, Prunes, Puts, Within, heights, left_of}
use Rattle.mar_store.specs.Entries.{AreCounted, AreUpto, covered_by, is_covered, kept_of, next_number, seen}
use Rattle.mar_store.specs.Kept.{At, EachHeightOnce, Reopens, reopened_store, value_at}
use Rattle.mar_store.specs.Named.{is_taken}
use Rattle.mar_store.specs.Props.{AreUpto-prop}
use Rattle.mar_store.specs.RangeLemmas.{ranges_push}
use Rattle.mar_store.specs.Ranges.{Range, ranges, with_height}
use Rattle.mar_store.specs.declared.Entry.{Entry}
use Rattle.mar_store.specs.Tickets.{KeepsCovers, last_number}
use Rattle.mar_store.proofs.Lookups.{AllByRecursion-push, AllByRecursion-within, Contains-from_value, value_at-from_contains}
use Rattle.mar_store.proofs.Stores.{covers_pruned, filter_within, prunes}
use Rattle.mar_types.specs.Varint.{varint}
use Rattle.mar_types.specs.VarintLemmas.{length-varint}
use Rattle.mar_journal.specs.ArchiveRecords.{IsArchived, archive_bytes, kept_by, kept_from}
use Rattle.mar_journal_stores.specs.ArchiveStore.{AreLeftRanges, IsArchiveFile, IsArchiveLeft, IsBacked, IsMarkOf, IsMarked, LeavesAside, Ordered, SetsAside, StaysFound, archive_kept, aside_after, left_after, left_may, ranges_or, ranges_with, within_right}
use Rattle.mar_journal.specs.Disk.{Elapses, LeavesOnly, Narrows}
use Rattle.mar_journal.specs.Format.{IsBatch, IsDamaged, IsJournal, Stands, StandsUpto, joined}
use Rattle.mar_journal.specs.Journal.{Adds, IsOldOrNew, IsSettled}
use Rattle.mar_journal.specs.Records.{IsWritable}
use Rattle.mar_journal.specs.declared.ArchiveRecord.{ArchiveRecord}
use Rattle.mar_journal.specs.declared.ArchiveRecord.TheVariants.{Prune, Put}
use Rattle.mar_journal.proofs.Crash.{end_within}
use Rattle.mar_journal_stores.proofs.Marks.{Ordered-prop, covered_before, mark_above, mark_last, mark_upto, counted_above, counted_ordered, ordered_later, ordered_none, put_ordered}
use Rattle.mar_journal.proofs.Moments.{and_then, goes_on, stayed, weaker}
use Rattle.mar_journal_stores.proofs.Asides.{aside_seen, aside_stays, is_held, left_before, left_both, left_less, upto_later, upto_less, upto_set, within_both, within_left}
use Rattle.mar_journal_stores.proofs.SameRanges.{ranges_same}
use Rattle.mar_journal_stores.proofs.Replays.{CoversLess, backed_front, backed_left, backed_more, narrowed_left, old_or_new, opening_finds, opening_left, pending_long, pending_none, pending_same, pending_sure, reopens_held, reopens_weaker, undamaged, writing_left, writing_moments}

IsArchived-prop : {T : Type 0} (fits : ℕ → T → Bool) (spelled : T → List ℕ) (r : ArchiveRecord T) → IsProp (IsArchived fits spelled r)
IsArchived-prop fits spelled (Put index value) = λ a b i. (le_prop a.0 b.0 i, Coded-set coded_bool (fits index value) true a.1 b.1 i, le_prop a.2 b.2 i)
IsArchived-prop fits spelled (Prune min) = le_prop

IsWritable-prop : {T : Type 0} (name spelled : T → List ℕ) (fits : ℕ → T → Bool) (r : ArchiveRecord T) → IsProp (IsWritable (archive_bytes name spelled) (IsArchived fits spelled) r)
IsWritable-prop name spelled fits r = λ a b i. record { valid = IsArchived-prop fits spelled r a.valid b.valid i; small = le_prop a.small b.small i }

module _ {T D : Type 0} (name spelled : T → List ℕ) (fits : ℕ → T → Bool) (seen_bytes : D → List ℕ) (may_leave : D → List ℕ → Type 0) (disk : D) (end : ℕ) (gone items : List (Entry T)) (n accepted : ℕ) (waiting : List (ArchiveRecord T)) (marks : List ℕ) where
  abbrev sure : List (At T)
  sure = take n (map seen items)

  abbrev may : List (At T)
  may = left_may gone items

  abbrev Backed : Type 0
  Backed = IsBacked name spelled fits seen_bytes may_leave disk end sure gone items accepted waiting marks

  found_now : EachHeightOnce (map seen items) → Reopens sure may (map seen items)
  found_now once = reopens_held n (map seen items) may once (within_right (map seen gone) (map seen items))

  pub has_room : ∥ Backed ∥₁ → end < length (seen_bytes disk)
  has_room backed = ∥∥₁_elim backed le_prop (λ b. end_within (archive_bytes name spelled) (IsArchived fits spelled) b.records end (seen_bytes disk) b.settled.journal)

  pub are_good : ∥ Backed ∥₁ → AllByRecursion (IsWritable (archive_bytes name spelled) (IsArchived fits spelled)) waiting
  are_good backed = ∥∥₁_elim backed (AllByRecursion-prop _ (IsWritable-prop name spelled fits) waiting) (λ b. b.good)

  pub nothing_lost : EachHeightOnce (map seen items) → ∥ Backed ∥₁ → ∥ IsArchiveLeft name spelled fits may_leave disk sure may ∥₁
  nothing_lost once backed = ∥∥₁_map backed (λ b. backed_left name spelled fits seen_bytes may_leave disk end sure gone items accepted waiting marks b (found_now once))

  -- what a crash at any moment leaves where no call was made
  pub idle_moments : (moment : D → ℕ) (left_since : D → ℕ → List ℕ → Type 0) (only_now : (d : D) (c : List ℕ) → left_since d (moment d) c → may_leave d c) → EachHeightOnce (map seen items) → ∥ Backed ∥₁
      → StaysFound name spelled fits moment left_since disk disk sure may
  idle_moments moment left_since only_now once backed = ∥∥₁_map (nothing_lost once backed) (λ l. stayed moment left_since may_leave only_now disk _ l.each)

  -- each waiting record has a mark
  pub marked : ∥ Backed ∥₁ → length marks ≤ length waiting
  marked backed = ∥∥₁_elim backed le_prop (λ b. omega (arith, pending_long name sure may (left_after gone items) items accepted (kept_from name [] b.records) waiting marks b.pending))

  pub marked_all : ∥ Backed ∥₁ → length waiting ≤ length marks
  marked_all backed = ∥∥₁_elim backed le_prop (λ b. omega (arith, pending_long name sure may (left_after gone items) items accepted (kept_from name [] b.records) waiting marks b.pending))

  pub ordered_of : ∥ Backed ∥₁ → Ordered accepted marks
  ordered_of backed = ∥∥₁_elim backed (Ordered-prop accepted marks) (λ b. b.ordered)

  pub upto_of : ∥ Backed ∥₁ → AreUpto accepted gone
  upto_of backed = ∥∥₁_elim backed (AreUpto-prop accepted gone) (λ b. b.aside)

  -- of the first waiting records
  module _ (k : ℕ) where
    abbrev Written : D → ℕ → Type 0
    Written later new = (before : List (ArchiveRecord T)) → IsSettled (archive_bytes name spelled) (IsArchived fits spelled) seen_bytes may_leave before end disk
        → IsSettled (archive_bytes name spelled) (IsArchived fits spelled) seen_bytes may_leave (before ++ take k waiting) new later

    abbrev Unwritten : (D → ℕ) → (D → ℕ → List ℕ → Type 0) → D → Type 0
    Unwritten moment left_since later = (before : List (ArchiveRecord T)) → IsSettled (archive_bytes name spelled) (IsArchived fits spelled) seen_bytes may_leave before end disk
        → LeavesOnly moment left_since disk later (StandsUpto (archive_bytes name spelled) (IsArchived fits spelled) before (take k waiting))

    pub front_written : ∥ Backed ∥₁ → (later : D) (new : ℕ) → Written later new → (after : List (ArchiveRecord T)) (ends : List ℕ) → after ≡ drop k waiting → ends ≡ drop k marks
        → ∥ IsBacked name spelled fits seen_bytes may_leave later new sure gone items accepted after ends ∥₁
    front_written backed later new written after ends are marks_are =
        subst (λ l. ∥ IsBacked name spelled fits seen_bytes may_leave later new sure gone items accepted l ends ∥₁) (sym are)
        (subst (λ l. ∥ IsBacked name spelled fits seen_bytes may_leave later new sure gone items accepted (drop k waiting) l ∥₁) (sym marks_are)
        (∥∥₁_map backed (λ b. backed_front name spelled fits seen_bytes may_leave disk later end new sure gone items accepted waiting marks k b (written b.records b.settled))))

    -- they are behind what the file had
    pub wrote : ∥ Backed ∥₁ → (later : D) (new : ℕ) → Written later new → ∥ Adds (archive_bytes name spelled) (IsArchived fits spelled) seen_bytes may_leave (take k waiting) disk later ∥₁
    wrote backed later new written = ∥∥₁_map backed (λ b. record { records = b.records; end = end; settled = b.settled; later_end = new; added = written b.records b.settled })

    pub write_moments : (moment : D → ℕ) (left_since : D → ℕ → List ℕ → Type 0) → EachHeightOnce (map seen items) → ∥ Backed ∥₁ → (later : D) → Unwritten moment left_since later → StaysFound name spelled fits moment left_since disk later sure may
    write_moments moment left_since once backed later any =
        ∥∥₁_map backed (λ b. writing_moments name spelled fits seen_bytes may_leave moment left_since disk later end sure gone items accepted waiting marks k b (found_now once) (any b.records b.settled))

    pub part_written : (moment : D → ℕ) (left_since : D → ℕ → List ℕ → Type 0) (counts_now : (d : D) (t : ℕ) (c : List ℕ) → t ≤ moment d → may_leave d c → left_since d t c) → EachHeightOnce (map seen items) → ∥ Backed ∥₁ → (later : D)
        → Unwritten moment left_since later → ∥ IsArchiveLeft name spelled fits may_leave later sure may ∥₁
    part_written moment left_since counts_now once backed later any =
        ∥∥₁_map backed (λ b. writing_left name spelled fits seen_bytes may_leave moment left_since counts_now disk later end sure gone items accepted waiting marks k b (found_now once) (any b.records b.settled))

-- a put that is taken in has its mark
pub put_marked : {T : Type 0} (name : T → List ℕ) (items new : List (Entry T)) (index : ℕ) (item : T) (accepted later mark : ℕ) (waiting after : List (ArchiveRecord T)) (marks ends : List ℕ) → EachHeightOnce (map seen items) → is_taken name (map seen items) (record { height = index; value = item }) ≡ false
    → map seen new ≡ map seen items ++ record { height = index; value = item } ∷ [] → KeepsCovers accepted (covered_by items) (covered_by new) → AreCounted later new → IsMarkOf new mark → after ≡ waiting ++ Put index item ∷ [] → ends ≡ marks ++ mark ∷ []
    → IsMarked accepted later (Put index item) waiting marks after ends
put_marked name items new index item accepted later mark waiting after marks ends once free are covers counted mark_is waits marks_are = record {
  mark = mark;
  waits = waits;
  marked = marks_are;
  above = mark_above name items new _ accepted later mark once free are covers counted mark_is;
  upto = mark_upto name items new _ accepted later mark once free are covers counted mark_is;
}

-- a list with one value more or without it, by its length
pub free_by_length : {T : Type 0} (b : Bool) (old new : List T) (x : T) → new ≡ cond b old (old ++ x ∷ []) → (length new ≡ length old → ⊥) → b ≡ false
free_by_length true old new x is long = absurd (long (ap length is))
free_by_length false old new x is long = refl

pub taken_by_length : {T : Type 0} (b : Bool) (old new : List T) (x : T) → new ≡ cond b old (old ++ x ∷ []) → length new ≡ length old → b ≡ true
taken_by_length true old new x is long = refl
taken_by_length false old new x is long = absurd (omega (arith, long, ap length is, length-append old (x ∷ [])))

pub same_by_length : {T : Type 0} (b : Bool) (old new : List T) (x : T) → new ≡ cond b old (old ++ x ∷ []) → length new ≡ length old → new ≡ old
same_by_length true old new x is long = is
same_by_length false old new x is long = absurd (omega (arith, long, ap length is, length-append old (x ∷ [])))

pub more_by_length : {T : Type 0} (b : Bool) (old new : List T) (x : T) → new ≡ cond b old (old ++ x ∷ []) → (length new ≡ length old → ⊥) → new ≡ old ++ x ∷ []
more_by_length true old new x is long = absurd (long (ap length is))
more_by_length false old new x is long = is

pub same_by_still : {T : Type 0} (old left : Left (At T)) (x : At T) → IsStillOr old x left → length left.may ≡ length old.may → left ≡ old
same_by_still old left x (inl is) long = is
same_by_still old left x (inr is) long = absurd (omega (arith, long, ap length (ap (λ l. l.may) is), length-append old.may (x ∷ [])))

pub more_by_still : {T : Type 0} (old left : Left (At T)) (x : At T) → IsStillOr old x left → (length left.may ≡ length old.may → ⊥) → left ≡ record { sure = old.sure; may = old.may ++ x ∷ [] }
more_by_still old left x (inl is) long = absurd (long (ap length (ap (λ l. l.may) is)))
more_by_still old left x (inr is) long = is

within_append : {X : Type 0} (xs ys zs : List X) → Within xs zs → Within ys zs → Within (xs ++ ys) zs
within_append [] ys zs first second x has = second x has
within_append (y ∷ xs) ys zs first second x (zero, lt, e) = first x (zero, omega arith, e)
within_append (y ∷ xs) ys zs first second x (suc k, lt, e) = within_append xs ys zs (λ z has. first z (suc has.0, omega (arith, has.1), has.2)) second x (k, omega (arith, lt), e)

-- the ranges of one index more
pushed_ranges : {T : Type 0} (gone items new : List (Entry T)) (x : At T) → map seen new ≡ map seen items ++ x ∷ [] → with_height x.height (ranges (heights (left_may gone items))) ≡ ranges (heights (left_may gone new))
pushed_ranges gone items new x are =
    sym (ranges_push (heights (left_may gone items)) x.height)
    ∙ ap ranges (sym (map-append (λ y. y.height) (left_may gone items) (x ∷ [])) ∙ ap heights (append_assoc (map seen gone) (map seen items) (x ∷ []) ∙ ap (λ l. map seen gone ++ l) (sym are)))

pub grown_ranges : {T : Type 0} (gone items new : List (Entry T)) (x : At T) (may grown : Option (List Range)) → AreLeftRanges may gone items → grown ≡ option_map (with_height x.height) may → map seen new ≡ map seen items ++ x ∷ [] → AreLeftRanges grown gone new
grown_ranges gone items new x may grown is grows are = subst (λ g. AreLeftRanges g gone new) (sym grows) (by may is)
  where
    by : (m : Option (List Range)) → AreLeftRanges m gone items → AreLeftRanges (option_map (with_height x.height) m) gone new
    by None here = sym (pushed_ranges [] items new x are) ∙ ap (with_height x.height) here ∙ pushed_ranges gone items new x are
    by (Some set) here = ap (with_height x.height) here ∙ pushed_ranges gone items new x are

-- the ranges where a ticket has finished
pub ranges_let_go : {T : Type 0} (t : ℕ) (gone aside items new : List (Entry T)) (held : List Range) (may : Option (List Range)) → held ≡ ranges (heights (map seen items)) → aside ≡ aside_after t gone → ranges_or held may ≡ ranges_with held t gone
    → map seen new ≡ map seen items → AreLeftRanges may aside new
ranges_let_go t gone aside items new held may held_is less is are =
    ap (λ l. ranges_or (ranges (heights l)) may) are ∙ ap (λ r. ranges_or r may) (sym held_is) ∙ is ∙ ap (λ r. ranges_with r t gone) held_is
    ∙ sym (fold-append (λ rs h. with_height h rs) [] (heights (map seen items)) (heights (map seen (aside_after t gone)))) ∙ ap ranges (sym (map-append (λ y. y.height) (map seen items) (map seen (aside_after t gone))))
    ∙ ranges_same (map seen items ++ map seen (aside_after t gone)) (left_may (aside_after t gone) items) (swapped (map seen items) (map seen (aside_after t gone))) (swapped (map seen (aside_after t gone)) (map seen items))
    ∙ ap (λ l. ranges (heights (map seen l ++ map seen items))) (sym less) ∙ ap (λ l. ranges (heights (map seen aside ++ l))) (sym are)
  where
    swapped : {X : Type 0} (xs ys : List X) → Within (xs ++ ys) (ys ++ xs)
    swapped xs ys = within_append xs ys (ys ++ xs) (within_right ys xs) (within_left ys xs)

-- what is left beside what was pruned
pub left_with_gone : {T : Type 0} (gone items new : List (Entry T)) (n m : ℕ) (x : At T) → Fails (left_of (kept_of items n)) (x ∷ []) (left_of (kept_of new m))
    → Fails (left_of (archive_kept gone items n)) (x ∷ []) (left_of (archive_kept gone new m))
left_with_gone gone items new n m x f = record {
  sure = f.sure;
  may_kept = within_both (map seen gone) (map seen items) (map seen new) f.may_kept;
  may = λ y has. subst (λ l. Contains l y) (sym (append_assoc (map seen gone) (map seen items) (x ∷ []))) (within_both (map seen gone) (map seen new) (map seen items ++ x ∷ []) f.may y has);
}

pub still_with_gone : {T : Type 0} (gone items new : List (Entry T)) (n m : ℕ) → left_of (kept_of new m) ≡ left_of (kept_of items n) → left_of (archive_kept gone new m) ≡ left_of (archive_kept gone items n)
still_with_gone gone items new n m is = ap (λ l. record { sure = l.sure; may = map seen gone ++ l.may }) is

pub puts_with_gone : {T : Type 0} (gone items new : List (Entry T)) (n m : ℕ) (x : At T) (ignored : Bool) → Puts ignored (kept_of items n) x (kept_of new m) → Puts ignored (archive_kept gone items n) x (archive_kept gone new m)
puts_with_gone gone items new n m x ignored p = record {
  held = p.held;
  sure = p.sure;
  may_kept = within_both (map seen gone) (map seen items) (map seen new) p.may_kept;
  may = λ y has. subst (λ l. Contains l y) (sym (append_assoc (map seen gone) (map seen items) (x ∷ []))) (within_both (map seen gone) (map seen new) (map seen items ++ x ∷ []) p.may y has);
}

pub keeps_ranges : {T : Type 0} (gone items new : List (Entry T)) (may : Option (List Range)) → map seen new ≡ map seen items → AreLeftRanges may gone items → AreLeftRanges may gone new
keeps_ranges gone items new may same is = subst (λ l. ranges_or (ranges (heights l)) may ≡ ranges (heights (map seen gone ++ l))) (sym same) is

-- what may be left after a put
wider : {T : Type 0} (gone items new : List (Entry T)) (x : At T) → map seen new ≡ map seen items ++ x ∷ [] → Within (left_may gone items) (left_may gone new)
wider gone items new x are = within_both (map seen gone) (map seen items) (map seen new) (λ y has. subst (λ l. Contains l y) (sym are) (within_left (map seen items) (x ∷ []) y has))

fit_more : {T : Type 0} (fits : ℕ → T → Bool) (gone items new : List (Entry T)) (x : At T) → map seen new ≡ map seen items ++ x ∷ [] → fits x.height x.value ≡ true → AllByRecursion (λ y. fits y.height y.value ≡ true) (left_may gone items)
    → AllByRecursion (λ y. fits y.height y.value ≡ true) (left_may gone new)
fit_more fits gone items new x are fit all =
    subst (AllByRecursion (λ y. fits y.height y.value ≡ true)) (append_assoc (map seen gone) (map seen items) (x ∷ []) ∙ ap (λ l. map seen gone ++ l) (sym are)) (AllByRecursion-push (λ y. fits y.height y.value ≡ true) (left_may gone items) x all fit)

same_values : {T : Type 0} (less sure : List (At T)) → less ≡ sure → KeepsValues less sure
same_values less all_sure is = λ h v has. subst (λ l. value_at l h ≡ Some v) is has

-- the bytes of a put
length-put : {T : Type 0} (name spelled : T → List ℕ) (index : ℕ) (item : T) → length (name item) ≡ 32 → length (spelled item) ≤ 1048576 → length (archive_bytes name spelled (Put index item)) ≤ 1048640
length-put name spelled index item keyed small = omega (
  arith,
  keyed,
  small,
  length-varint index,
  length-varint (length (spelled item)),
  length-append (varint index) (name item ++ (varint (length (spelled item)) ++ spelled item)),
  length-append (name item) (varint (length (spelled item)) ++ spelled item),
  length-append (varint (length (spelled item))) (spelled item),
)

pub put_is_writable : {T : Type 0} (name spelled : T → List ℕ) (fits : ℕ → T → Bool) (index : ℕ) (item : T) → index < 2 ^ 64 → fits index item ≡ true → length (name item) ≡ 32 → length (spelled item) ≤ 1048576
    → IsWritable (archive_bytes name spelled) (IsArchived fits spelled) (Put index item)
put_is_writable name spelled fits index item index_fits fit keyed small = record { valid = (index_fits, fit, omega (arith, small)); small = length-put name spelled index item keyed small }

covers_less : {T : Type 0} (number : ℕ) (old new : List (Entry T)) → KeepsCovers number (covered_by old) (covered_by new) → CoversLess number old new
covers_less number old new covers t upto below h v is = subst (λ l. value_at l h ≡ Some v) (covers t upto below) is

-- what a ticket covers is held
covered_held : {T : Type 0} (items : List (Entry T)) (t : ℕ) → EachHeightOnce (map seen items) → KeepsValues (covered_by items t) (map seen items)
covered_held items t once h v is = value_at-from_contains (map seen items) (record { height = h; value = v }) once (filter_within (is_covered t) items _ (Contains-from_value (covered_by items t) h v is))

module _ {T D : Type 0} (name spelled : T → List ℕ) (fits : ℕ → T → Bool) (may_leave : D → List ℕ → Type 0) (disk : D) (gone items new : List (Entry T)) (n m : ℕ) where
  pub keeps_left : take m (map seen new) ≡ take n (map seen items) → map seen new ≡ map seen items → ∥ IsArchiveLeft name spelled fits may_leave disk (take n (map seen items)) (left_may gone items) ∥₁
      → ∥ IsArchiveLeft name spelled fits may_leave disk (take m (map seen new)) (left_may gone new) ∥₁
  keeps_left sure_is are left =
      subst (λ l. ∥ IsArchiveLeft name spelled fits may_leave disk l (left_may gone new) ∥₁) (sym sure_is) (subst (λ l. ∥ IsArchiveLeft name spelled fits may_leave disk (take n (map seen items)) (map seen gone ++ l) ∥₁) (sym are) left)

  pub more_left : (x : At T) → take m (map seen new) ≡ take n (map seen items) → map seen new ≡ map seen items ++ x ∷ [] → fits x.height x.value ≡ true
      → ∥ IsArchiveLeft name spelled fits may_leave disk (take n (map seen items)) (left_may gone items) ∥₁ → ∥ IsArchiveLeft name spelled fits may_leave disk (take m (map seen new)) (left_may gone new) ∥₁
  more_left x sure_is are fit left = ∥∥₁_map left (λ is. record {
    each = λ c now. let here = is.each c now in (
      here.0,
      here.1,
      reopens_weaker (take n (map seen items)) (left_may gone items) (take m (map seen new)) (left_may gone new) (kept_from name [] here.0) (same_values _ _ sure_is) (wider gone items new x are) here.2,
    );
    fit = fit_more fits gone items new x are fit is.fit;
  })

  module _ (seen_bytes : D → List ℕ) (end accepted later : ℕ) (waiting : List (ArchiveRecord T)) (marks : List ℕ) where
    abbrev Was : Type 0
    Was = IsBacked name spelled fits seen_bytes may_leave disk end (take n (map seen items)) gone items accepted waiting marks

    pub keeps_backed : take m (map seen new) ≡ take n (map seen items) → map seen new ≡ map seen items → accepted ≤ later → KeepsCovers accepted (covered_by items) (covered_by new) → ∥ Was ∥₁
        → ∥ IsBacked name spelled fits seen_bytes may_leave disk end (take m (map seen new)) gone new later waiting marks ∥₁
    keeps_backed sure_is are up covers backed = ∥∥₁_map backed (λ b. record {
      records = b.records;
      settled = b.settled;
      pending = pending_same name (take n (map seen items)) (left_may gone items) (take m (map seen new)) (left_may gone new) (left_after gone items) (left_after gone new) items new accepted later (kept_from name [] b.records) waiting marks (same_values _ _ sure_is)
          (within_both (map seen gone) (map seen items) (map seen new) (λ x has. subst (λ l. Contains l x) (sym are) has))
          (λ t upto below. within_both (map seen (aside_after t gone)) (map seen items) (map seen new) (λ x has. subst (λ l. Contains l x) (sym are) has)) up (covers_less accepted items new covers) are b.pending;
      good = b.good;
      fit = subst (λ l. AllByRecursion (λ y. fits y.height y.value ≡ true) (map seen gone ++ l)) (sym are) b.fit;
      aside = upto_later accepted later gone up b.aside;
      ordered = ordered_later accepted later marks up b.ordered;
    })

    pub put_backed : (index : ℕ) (item : T) (after : List (ArchiveRecord T)) (ends : List ℕ) (mark : ℕ) → EachHeightOnce (map seen items) → take m (map seen new) ≡ take n (map seen items) → map seen new ≡ map seen items ++ record { height = index; value = item } ∷ []
        → map seen new ≡ kept_by name (map seen items) (Put index item) → IsWritable (archive_bytes name spelled) (IsArchived fits spelled) (Put index item) → after ≡ waiting ++ Put index item ∷ [] → ends ≡ marks ++ mark ∷ []
        → accepted ≤ later → KeepsCovers accepted (covered_by items) (covered_by new) → is_taken name (map seen items) (record { height = index; value = item }) ≡ false → AreCounted later new → IsMarkOf new mark → ∥ Was ∥₁
        → ∥ IsBacked name spelled fits seen_bytes may_leave disk end (take m (map seen new)) gone new later after ends ∥₁
    put_backed index item after ends mark once sure_is are is_later good is marks_are up covers free counted mark_is backed = ∥∥₁_map backed (λ b. backed_more name spelled fits seen_bytes may_leave disk end (take n (map seen items)) (take m (map seen new)) gone items gone new accepted later waiting after marks ends
        (Put index item) mark b (same_values _ _ sure_is) (wider gone items new _ are) (λ t upto below. wider (aside_after t gone) items new _ are) up (covers_less accepted items new covers)
        (record {
          found = reopens_weaker (take n (map seen items)) (left_may gone items) (take m (map seen new)) (left_may gone new) (map seen items) (same_values _ _ sure_is) (wider gone items new _ are) (reopens_held n (map seen items) (left_may gone items) once (within_right (map seen gone) (map seen items)));
          beyond = λ t below h v is. wider (aside_after t gone) items new _ are _ (is_held (aside_after t gone) items h v is);
          covered = covered_before name items new _ accepted later mark once free are covers counted mark_is;
          upto = omega (arith, mark_upto name items new _ accepted later mark once free are covers counted mark_is);
          last = mark_last name items new _ accepted later mark once free are covers counted mark_is;
        })
        is_later good (fit_more fits gone items new _ are good.valid.1 b.fit) (upto_later accepted later gone up b.aside) is marks_are (put_ordered name items new _ accepted later mark once free are covers counted mark_is marks up b.ordered))

    -- where nothing waits, other values are sure
    pub sure_backed : (other : List (Entry T)) → waiting ≡ [] → map seen new ≡ map seen items → AllByRecursion (λ y. fits y.height y.value ≡ true) (left_may other new) → AreUpto later other → ∥ Was ∥₁
        → ∥ IsBacked name spelled fits seen_bytes may_leave disk end (take m (map seen new)) other new later waiting marks ∥₁
    sure_backed other none are fit upto backed = ∥∥₁_map backed (λ b. record {
      records = b.records;
      settled = b.settled;
      pending = pending_none name (take n (map seen items)) (left_may gone items) (take m (map seen new)) (left_may other new) (left_after gone items) (left_after other new) items new accepted later (kept_from name [] b.records) waiting marks none are b.pending;
      good = b.good;
      fit = fit;
      aside = upto;
      ordered = ordered_none later marks (pending_long name (take n (map seen items)) (left_may gone items) (left_after gone items) items accepted (kept_from name [] b.records) waiting marks b.pending ∙ ap length none);
    })

    pub fit_of_backed : ∥ Was ∥₁ → AllByRecursion (λ y. fits y.height y.value ≡ true) (left_may gone items)
    fit_of_backed backed = ∥∥₁_elim backed (AllByRecursion-prop _ (λ y. Coded-set coded_bool _ _) (left_may gone items)) (λ b. b.fit)

    -- Where only records above a ticket's number wait, what it covers is sure; it may let go what was pruned before it.
    pub covered_backed : (t : ℕ) (others : List (Entry T)) → new ≡ items → later ≡ accepted → LeavesAside t gone others → AllByRecursion (λ k. t < k) marks → Finishes (covered_by items t) (kept_of items n) (kept_of new m) → ∥ Was ∥₁
        → ∥ IsBacked name spelled fits seen_bytes may_leave disk end (take m (map seen new)) others new later waiting marks ∥₁
    covered_backed t others are same leaves above finishes backed =
        subst (λ l. ∥ IsBacked name spelled fits seen_bytes may_leave disk end (take m (map seen new)) others l later waiting marks ∥₁) (sym are)
        (subst (λ k. ∥ IsBacked name spelled fits seen_bytes may_leave disk end (take m (map seen new)) others items k waiting marks ∥₁) (sym same)
        (∥∥₁_map backed (λ b. record {
          records = b.records;
          settled = b.settled;
          pending = pending_sure name (take n (map seen items)) (left_may gone items) (take m (map seen new)) (left_may others items) (left_after gone items) (left_after others items) items accepted t (kept_from name [] b.records) waiting marks finishes.only
              (left_before t gone others items leaves) (left_both t gone others items leaves) above b.pending;
          good = b.good;
          fit = AllByRecursion-within (λ y. fits y.height y.value ≡ true) (left_may others items) (left_may gone items) (left_less t gone others items leaves) b.fit;
          aside = upto_less t gone others items leaves accepted b.aside;
          ordered = b.ordered;
        })))

-- Where a ticket lets go what was pruned before it, more is sure than was.
pub finishes_with_gone : {T : Type 0} (t : ℕ) (gone aside items new : List (Entry T)) (n m : ℕ) (more : List (At T)) → new ≡ items → n ≤ length items → m ≤ length items → LeavesAside t gone aside → (n ≡ m → aside ≡ gone) → Finishes more (kept_of items n) (kept_of new m)
    → Finishes more (archive_kept gone items n) (archive_kept aside new m)
finishes_with_gone {T} t gone aside items new n m more are within within_too leaves rests f = record {
  held = f.held;
  sure = f.sure;
  covered = f.covered;
  only = f.only;
  may = λ x has. left_less t gone aside items leaves x (subst (λ l. Contains (left_may aside l) x) are has);
  same = λ kept. whole (f.same kept);
}
  where
    whole : kept_of new m ≡ kept_of items n → archive_kept aside new m ≡ archive_kept gone items n
    whole is =
        let sizes : length (take m (map seen items)) ≡ length (take n (map seen items)) = ap length (subst (λ (l : List (Entry T)). take m (map seen l) ≡ take n (map seen items)) are (ap (λ k. k.sure) is)) in
        let counts : n ≡ m = omega (arith, sizes, length-take m (map seen items), length-take n (map seen items), length-map items seen, within, within_too) in
        ap (λ l. archive_kept l new m) (rests counts) ∙ ap (λ k. record { held = k.held; sure = k.sure; may = map seen gone ++ k.may }) is

by_parts : {T : Type 0} (y : Entry T) (items below above : List (Entry T)) (b : Bool) (x : At T) → (Contains (map seen items) x → Contains (map seen below ++ map seen above) x) → Contains (seen y ∷ map seen items) x
    → Contains (map seen (cond (not b) (y ∷ below) below) ++ map seen (cond b (y ∷ above) above)) x
by_parts y items below above false x more (zero, lt, e) = (zero, omega arith, e)
by_parts y items below above false x more (suc k, lt, e) = let there = more (k, omega (arith, lt), e) in (suc there.0, omega (arith, there.1), there.2)
by_parts y items below above true x more (zero, lt, e) = within_right (map seen below) (seen y ∷ map seen above) x (zero, omega arith, e)
by_parts y items below above true x more (suc k, lt, e) = within_both (map seen below) (map seen above) (seen y ∷ map seen above) (λ z has. (suc has.0, omega (arith, has.1), has.2)) x (more (k, omega (arith, lt), e))

-- Of what was held a prune sets aside what is below its bound.
within_parts : {T : Type 0} (p : Entry T → Bool) (items : List (Entry T)) → Within (map seen items) (map seen (filter (λ e. not (p e)) items) ++ map seen (filter p items))
within_parts p [] x (k, lt, e) = absurd (omega (arith, lt))
within_parts p (y ∷ items) x has = by_parts y items (filter (λ e. not (p e)) items) (filter p items) (p y) x (within_parts p items x) has

pub filter_seen : {T : Type 0} (min : ℕ) (items : List (Entry T)) → map seen (filter (λ e. nat_le min e.index) items) ≡ filter (λ x. nat_le min x.height) (map seen items)
filter_seen min [] = refl
filter_seen min (e ∷ items) = by_test (nat_le min e.index) (filter_seen min items)
  where
    by_test : (b : Bool) → map seen (filter (λ f. nat_le min f.index) items) ≡ filter (λ x. nat_le min x.height) (map seen items)
        → map seen (cond b (e ∷ filter (λ f. nat_le min f.index) items) (filter (λ f. nat_le min f.index) items)) ≡ cond b (seen e ∷ filter (λ x. nat_le min x.height) (map seen items)) (filter (λ x. nat_le min x.height) (map seen items))
    by_test true same = ap (λ l. seen e ∷ l) same
    by_test false same = same

module _ {T : Type 0} (min number : ℕ) (gone aside items new : List (Entry T)) (n m : ℕ) (once : EachHeightOnce (map seen items)) (new_is : new ≡ filter (λ e. nat_le min e.index) items) (m_is : m ≡ length (filter (λ e. nat_le min e.index) (take n items)))
    (aside_is : SetsAside min number items gone aside) where
  may_is : left_may aside new ≡ map seen gone ++ (map seen (filter (λ e. not (nat_le min e.index)) items) ++ map seen (filter (λ e. nat_le min e.index) items))
  may_is = ap (λ l. l ++ map seen new) (aside_seen min number items gone aside aside_is) ∙ ap (λ l. (map seen gone ++ map seen (filter (λ e. not (nat_le min e.index)) items)) ++ map seen l) new_is
      ∙ append_assoc (map seen gone) (map seen (filter (λ e. not (nat_le min e.index)) items)) (map seen (filter (λ e. nat_le min e.index) items))

  wider_prune : Within (left_may gone items) (left_may aside new)
  wider_prune = λ x has. subst (λ l. Contains l x) (sym may_is) (within_both (map seen gone) (map seen items) _ (within_parts (λ e. nat_le min e.index) items) x has)

  -- the same where a ticket has finished that was given out before
  goes_prune : (t : ℕ) → t < number → Within (left_after gone items t) (left_after aside new t)
  goes_prune t lt = λ x has. subst (λ l. Contains l x) (sym left_is) (within_both (map seen (aside_after t gone)) (map seen items) _ (within_parts (λ e. nat_le min e.index) items) x has)
    where
      left_is : left_after aside new t ≡ map seen (aside_after t gone) ++ (map seen (filter (λ e. not (nat_le min e.index)) items) ++ map seen (filter (λ e. nat_le min e.index) items))
      left_is = ap (λ l. l ++ map seen new) (aside_stays min number items gone aside aside_is t lt) ∙ ap (λ l. (map seen (aside_after t gone) ++ map seen (filter (λ e. not (nat_le min e.index)) items)) ++ map seen l) new_is
          ∙ append_assoc (map seen (aside_after t gone)) (map seen (filter (λ e. not (nat_le min e.index)) items)) (map seen (filter (λ e. nat_le min e.index) items))

  narrower_prune : Within (left_may aside new) (left_may gone items)
  narrower_prune = λ x has. within_both (map seen gone) _ (map seen items)
      (within_append (map seen (filter (λ e. not (nat_le min e.index)) items)) (map seen (filter (λ e. nat_le min e.index) items)) (map seen items) (filter_within (λ e. not (nat_le min e.index)) items) (filter_within (λ e. nat_le min e.index) items))
      x (subst (λ l. Contains l x) may_is has)

  inner : Prunes min (kept_of items n) (kept_of new m)
  inner = prunes min items new n m once new_is m_is

  pub prunes_with_gone : Prunes min (archive_kept gone items n) (archive_kept aside new m)
  prunes_with_gone = record {
    held = inner.held;
    sure = inner.sure;
    may_from = λ x has above. wider_prune x has;
    may = narrower_prune;
  }

  -- a prune leaves the ranges of what may be left
  pub prune_ranges : (set : List Range) → set ≡ ranges (heights (left_may gone items)) → set ≡ ranges (heights (left_may aside new))
  prune_ranges set is = is ∙ ranges_same (left_may gone items) (left_may aside new) wider_prune narrower_prune

  pub prune_backed : {D : Type 0} (name spelled : T → List ℕ) (fits : ℕ → T → Bool) (seen_bytes : D → List ℕ) (may_leave : D → List ℕ → Type 0) (disk : D) (end accepted later : ℕ) (waiting after : List (ArchiveRecord T)) (marks ends : List ℕ) → min < 2 ^ 64
      → after ≡ waiting ++ Prune min ∷ [] → ends ≡ marks ++ number ∷ [] → later ≡ next_number accepted → number ≡ next_number accepted → accepted ≤ last_number
      → ∥ IsBacked name spelled fits seen_bytes may_leave disk end (take n (map seen items)) gone items accepted waiting marks ∥₁
      → ∥ IsBacked name spelled fits seen_bytes may_leave disk end (take m (map seen new)) aside new later after ends ∥₁
  prune_backed name spelled fits seen_bytes may_leave disk end accepted later waiting after marks ends min_fits is marks_are later_is mark_is within backed = ∥∥₁_map backed (λ b. backed_more name spelled fits seen_bytes may_leave disk end (take n (map seen items)) (take m (map seen new)) gone items aside new accepted later waiting after
      marks ends (Prune min) number b inner.sure.only wider_prune (λ t upto below. goes_prune t (omega (arith, upto, below, mark_is))) (omega (arith, later_is, within)) covers
      (record {
        found = reopens_weaker (take n (map seen items)) (left_may gone items) (take m (map seen new)) (left_may aside new) (map seen items) inner.sure.only wider_prune (reopens_held n (map seen items) (left_may gone items) once (within_right (map seen gone) (map seen items)));
        beyond = λ t below h v has. goes_prune t below _ (is_held (aside_after t gone) items h v has);
        covered = λ t below h v has. covered_held items t once h v (covers t (omega (arith, below, mark_is)) (omega (arith, below, mark_is)) h v has);
        upto = omega (arith, later_is, mark_is);
        last = omega (arith, mark_is);
      })
      (ap (map seen) new_is ∙ filter_seen min items)
      (record { valid = min_fits; small = omega (arith, length-varint min) })
      (AllByRecursion-within (λ y. fits y.height y.value ≡ true) (left_may aside new) (left_may gone items) narrower_prune b.fit)
      (upto_set min number items gone aside aside_is accepted later (omega (arith, later_is, within)) (omega (arith, later_is, mark_is)) b.aside)
      is
      marks_are
      (counted_ordered accepted later number marks later_is mark_is within b.ordered))
    where
      covers : CoversLess accepted items new
      covers t within below = (covers_pruned min accepted items new once new_is t within).only

-- no ticket that was given out before a prune writes it
pub prune_marked : {T : Type 0} (min accepted later mark : ℕ) (waiting after : List (ArchiveRecord T)) (marks ends : List ℕ) → after ≡ waiting ++ Prune min ∷ [] → ends ≡ marks ++ mark ∷ [] → later ≡ next_number accepted → mark ≡ next_number accepted → IsMarked accepted later (Prune min) waiting marks after ends
prune_marked min accepted later mark waiting after marks ends waits marks_are later_is mark_is = record { mark = mark; waits = waits; marked = marks_are; above = counted_above accepted mark mark_is; upto = omega (arith, later_is, mark_is) }

-- what was left is left, whatever was to be written
pub fails_left : {T : Type 0} (gone items aside new : List (Entry T)) (n m : ℕ) (more : List (At T)) → aside ≡ gone → new ≡ items → m ≡ n → Fails (left_of (archive_kept gone items n)) more (left_of (archive_kept aside new m))
fails_left gone items aside new n m more gone_is are same = rw (gone_is, are, same) (record { sure = refl; may_kept = λ x has. has; may = λ x has. within_left (left_may gone items) more x has })

-- the records of a journal are good ones
all_append : {X : Type 0} (P : X → Type 0) (xs ys : List X) → AllByRecursion P xs → AllByRecursion P ys → AllByRecursion P (xs ++ ys)
all_append P [] ys first second = second
all_append P (x ∷ xs) ys first second = (first.0, all_append P xs ys first.1 second)

all_joined : {R : Type 0} (spelled : R → List ℕ) (Valid : R → Type 0) (batches : List (List R)) → AllByRecursion (IsBatch spelled Valid) batches → AllByRecursion Valid (joined batches)
all_joined spelled Valid [] all = tt
all_joined spelled Valid (b ∷ batches) all = all_append Valid b (joined batches) (all.0).valid (all_joined spelled Valid batches all.1)

pub journal_valid : {R : Type 0} (spelled : R → List ℕ) (Valid : R → Type 0) (records : List R) (end : ℕ) (file : List ℕ) → IsJournal spelled Valid records end file → AllByRecursion Valid records
journal_valid spelled Valid records end file j = subst (AllByRecursion Valid) j.records_are (all_joined spelled Valid j.batches j.good)

nothing-prop : IsProp ⊥
nothing-prop a b = absurd a

-- The place of a value, by a test that only it passes.
found_place : {X : Type 0} (test : X → Bool) (x : X) (xs : List X) → AllByRecursion (λ y. test y ≡ true → y ≡ x) xs → (AllByRecursion (λ y. test y ≡ false) xs → ⊥) → Contains xs x
found_place test x [] all any = absurd (any tt)
found_place {X} test x (y ∷ ys) all any = by (test y) refl (found_place test x ys all.1)
  where
    by : (b : Bool) → test y ≡ b → ((AllByRecursion (λ z. test z ≡ false) ys → ⊥) → Contains ys x) → Contains (y ∷ ys) x
    by true is further = (zero, omega arith, all.0 is)
    by false is further = let more = further (λ none. any (is, none)) in (suc more.0, omega (arith, more.1), more.2)

none_contained : {X : Type 0} (test : X → Bool) (x : X) (xs : List X) → test x ≡ true → Contains xs x → AllByRecursion (λ y. test y ≡ false) xs → ⊥
none_contained test x [] is (k, lt, e) none = omega (arith, lt)
none_contained test x (y ∷ ys) is (zero, lt, e) none = absurd (by (test y) none.0 (ap test e ∙ is))
  where
    by : (b : Bool) → b ≡ false → b ≡ true → ⊥
    by true is other = true≢false is
    by false is other = false≢true other
none_contained test x (y ∷ ys) is (suc k, lt, e) none = none_contained test x ys is (k, omega (arith, lt), e) none.1

all_contained : {X : Type 0} (P : X → Type 0) (xs : List X) (x : X) → AllByRecursion P xs → Contains xs x → P x
all_contained P [] x all (k, lt, e) = absurd (omega (arith, lt))
all_contained P (y ∷ ys) x all (zero, lt, e) = subst P e all.0
all_contained P (y ∷ ys) x all (suc k, lt, e) = all_contained P ys x all.1 (k, omega (arith, lt), e)

all_from : {X : Type 0} (P Q : X → Type 0) (xs : List X) → ((x : X) → P x → Q x) → AllByRecursion P xs → AllByRecursion Q xs
all_from P Q [] leads all = tt
all_from P Q (x ∷ xs) leads all = (leads x all.0, all_from P Q xs leads all.1)

module _ {T : Type 0} (coded : Coded T) (spelled : T → List ℕ) (fits : ℕ → T → Bool) (one : (index : ℕ) (v w : T) → fits index v ≡ true → fits index w ≡ true → spelled v ≡ spelled w → v ≡ w) (sure may found : List (At T)) where
  -- the height and the bytes of a value
  abbrev is_at : ℕ → T → At T → Bool
  is_at h v y = (y.height == h) && bytes_eq (spelled y.value) (spelled v)

  is_at_self : (h : ℕ) (v : T) → is_at h v (record { height = h; value = v }) ≡ true
  is_at_self h v = and_from (h == h) (bytes_eq (spelled v) (spelled v)) (eq-eqb h h refl) ((bytes_eq-Decides (spelled v) (spelled v)).1 refl)

  tells : (h : ℕ) (v : T) → fits h v ≡ true → (y : At T) → fits y.height y.value ≡ true → is_at h v y ≡ true → y ≡ record { height = h; value = v }
  tells h v fit y here is =
      let both = parts (y.height == h) (bytes_eq (spelled y.value) (spelled v)) is in
      let height : y.height ≡ h = eqb-true y.height h both.0 in
      let value : y.value ≡ v = one h y.value v (subst (λ k. fits k y.value ≡ true) height here) fit ((bytes_eq-Decides (spelled y.value) (spelled v)).0 both.1) in
      λ i. record { height = height i; value = value i }
    where
      parts : (a b : Bool) → (a && b) ≡ true → (a ≡ true) × (b ≡ true)
      parts true b is = (refl, is)
      parts false b is = absurd (false≢true is)

  -- what may be found, from its truncation
  pub is_found : EachHeightOnce found → AllByRecursion (λ y. fits y.height y.value ≡ true) may → ∥ Reopens sure may found ∥₁ → Reopens sure may found
  is_found once fit some = record {
    with_sure = λ h v is. ∥∥₁_elim some (Coded-set (coded_option coded) (value_at found h) (Some v)) (λ r. r.with_sure h v is);
    within_may = λ h v is.
        let here : fits h v ≡ true = ∥∥₁_elim some (Coded-set coded_bool (fits h v) true) (λ r. all_contained (λ y. fits y.height y.value ≡ true) may _ fit (r.within_may h v is)) in
        found_place (is_at h v) (record { height = h; value = v }) may (all_from (λ y. fits y.height y.value ≡ true) (λ y. is_at h v y ≡ true → y ≡ record { height = h; value = v }) may (λ y y_fits. tells h v here y y_fits) fit)
        (λ none. ∥∥₁_elim some nothing-prop (λ r. none_contained (is_at h v) (record { height = h; value = v }) may (is_at_self h v) (r.within_may h v is) none));
    once = once;
  }

module _ {T D : Type 0} (name spelled : T → List ℕ) (fits : ℕ → T → Bool) (seen_bytes : D → List ℕ) (may_leave : D → List ℕ → Type 0) (moment : D → ℕ) (left_since : D → ℕ → List ℕ → Type 0) (counts_now : (d : D) (t : ℕ) (c : List ℕ) → t ≤ moment d → may_leave d c → left_since d t c)
    (keyed : (index : ℕ) (v : T) → fits index v ≡ true → length (name v) ≡ 32) (one : (index : ℕ) (v w : T) → fits index v ≡ true → fits index w ≡ true → spelled v ≡ spelled w → v ≡ w) (first disk later : D) (gone items : List (Entry T)) (n : ℕ) (narrows : Narrows (may_leave first) (may_leave disk))
    (left : ∥ IsArchiveLeft name spelled fits may_leave first (take n (map seen items)) (left_may gone items) ∥₁) where
  -- what a crash leaves
  pub crash_left : ∥ IsArchiveLeft name spelled fits may_leave disk (take n (map seen items)) (left_may gone items) ∥₁
  crash_left = ∥∥₁_map left (λ l. narrowed_left name spelled fits seen_bytes may_leave first disk (take n (map seen items)) (left_may gone items) narrows l)

  -- what an opening leaves that failed
  pub unopened_left : may_leave disk (seen_bytes disk) → LeavesOnly moment left_since disk later (IsOldOrNew (seen_bytes disk) (may_leave disk)) → ∥ IsArchiveLeft name spelled fits may_leave later (take n (map seen items)) (left_may gone items) ∥₁
  unopened_left image any = ∥∥₁_map crash_left (λ l. opening_left name spelled fits seen_bytes may_leave moment left_since counts_now 32 keyed one disk later (take n (map seen items)) (left_may gone items) image l any)

  module _ (only_now : (d : D) (c : List ℕ) → left_since d (moment d) c → may_leave d c) where
    -- what a crash at any moment leaves where no call was made
    pub still_moments : StaysFound name spelled fits moment left_since first first (take n (map seen items)) (left_may gone items)
    still_moments = ∥∥₁_map left (λ l. stayed moment left_since may_leave only_now first _ l.each)

    module _ (time : Elapses (moment first) (moment disk) (left_since first) (left_since disk) (may_leave disk)) where
      played : IsArchiveLeft name spelled fits may_leave first (take n (map seen items)) (left_may gone items) → LeavesOnly moment left_since first disk (IsArchiveFile name spelled fits (take n (map seen items)) (left_may gone items))
      played l = goes_on moment left_since first first disk _ (may_leave disk) (stayed moment left_since may_leave only_now first _ l.each) time (λ c now. l.each c (narrows c now))

      -- of a crash that was played
      pub crash_moments : StaysFound name spelled fits moment left_since first disk (take n (map seen items)) (left_may gone items)
      crash_moments = ∥∥₁_map left played

      -- of an opening behind it
      pub reopen_moments : may_leave disk (seen_bytes disk) → LeavesOnly moment left_since disk later (IsOldOrNew (seen_bytes disk) (may_leave disk)) → StaysFound name spelled fits moment left_since first later (take n (map seen items)) (left_may gone items)
      reopen_moments image any = ∥∥₁_map left (λ l. and_then moment left_since first disk later _ _ (played l) any
          (old_or_new name spelled fits seen_bytes may_leave moment left_since counts_now 32 keyed one disk (take n (map seen items)) (left_may gone items) image (narrowed_left name spelled fits seen_bytes may_leave first disk (take n (map seen items)) (left_may gone items) narrows l)))

  pub not_damaged : (at : ℕ) → may_leave disk (seen_bytes disk) → IsDamaged (archive_bytes name spelled) (IsArchived fits spelled) at (seen_bytes disk) → ⊥
  not_damaged at image damaged = ∥∥₁_elim crash_left nothing-prop (λ l. undamaged name spelled fits seen_bytes may_leave moment left_since counts_now 32 keyed one disk (take n (map seen items)) (left_may gone items) at image l damaged)

  fit_of_left : AllByRecursion (λ y. fits y.height y.value ≡ true) (left_may gone items)
  fit_of_left = ∥∥₁_elim left (AllByRecursion-prop _ (λ y. Coded-set coded_bool _ _) (left_may gone items)) (λ l. l.fit)

  module _ (coded : Coded T) (image : may_leave disk (seen_bytes disk)) (records : List (ArchiveRecord T)) (stands : Stands (archive_bytes name spelled) (IsArchived fits spelled) records (seen_bytes disk)) (new : List (Entry T)) (m : ℕ)
      (once : EachHeightOnce (map seen new)) (held : map seen new ≡ kept_from name [] records) (all_sure : take m (map seen new) ≡ map seen new) where
    pub reopened : IsReopened (left_of (archive_kept gone items n)) (archive_kept [] new m)
    reopened = record {
      found = map seen new;
      found_may = is_found coded spelled fits one (take n (map seen items)) (left_may gone items) (map seen new) once fit_of_left
          (∥∥₁_map crash_left (λ l. subst (Reopens (take n (map seen items)) (left_may gone items)) (sym held) (opening_finds name spelled fits seen_bytes may_leave moment left_since counts_now 32 keyed one disk (take n (map seen items)) (left_may gone items) records image l stands)));
      is = ap (λ l. record { held = map seen new; sure = l; may = map seen new }) all_sure;
    }

    pub reopened_backed : (end accepted : ℕ) → IsSettled (archive_bytes name spelled) (IsArchived fits spelled) seen_bytes may_leave records end later → AllByRecursion (λ y. fits y.height y.value ≡ true) (map seen new)
        → ∥ IsBacked name spelled fits seen_bytes may_leave later end (take m (map seen new)) [] new accepted [] [] ∥₁
    reopened_backed end accepted settled fit = ∣ record { records = records; settled = settled; pending = sym held; good = tt; fit = fit; aside = tt; ordered = tt } ∣₁

-- a store just opened
pub opened_backed : {T D : Type 0} (name spelled : T → List ℕ) (fits : ℕ → T → Bool) (seen_bytes : D → List ℕ) (may_leave : D → List ℕ → Type 0) (later : D) (records : List (ArchiveRecord T)) (new : List (Entry T)) (m end accepted : ℕ) → map seen new ≡ kept_from name [] records
    → IsSettled (archive_bytes name spelled) (IsArchived fits spelled) seen_bytes may_leave records end later → AllByRecursion (λ y. fits y.height y.value ≡ true) (map seen new)
    → ∥ IsBacked name spelled fits seen_bytes may_leave later end (take m (map seen new)) [] new accepted [] [] ∥₁
opened_backed name spelled fits seen_bytes may_leave later records new m end accepted held settled fit = ∣ record { records = records; settled = settled; pending = sym held; good = tt; fit = fit; aside = tt; ordered = tt } ∣₁

pub opened_kept : {T : Type 0} (new : List (Entry T)) (m : ℕ) (kept : List (At T)) → map seen new ≡ kept → take m (map seen new) ≡ map seen new → archive_kept [] new m ≡ reopened_store kept
opened_kept new m kept held all_sure = ap (λ l. record { held = map seen new; sure = l; may = map seen new }) all_sure ∙ ap reopened_store held

-- one call and those behind it
pub stays_and_then : {T D : Type 0} (name spelled : T → List ℕ) (fits : ℕ → T → Bool) (moment : D → ℕ) (left_since : D → ℕ → List ℕ → Type 0) (old mid new : D) (sure may less more still all : List (At T))
    → StaysFound name spelled fits moment left_since old mid sure may → StaysFound name spelled fits moment left_since mid new less more → KeepsValues still sure → KeepsValues still less → Within may all → Within more all
    → StaysFound name spelled fits moment left_since old new still all
stays_and_then name spelled fits moment left_since old mid new sure may less more still all first second fewer fewer_too wider wider_too = ∥∥₁_map₂ first second (λ f s. and_then moment left_since old mid new _ _
    (weaker moment left_since old mid (IsArchiveFile name spelled fits still all) _ f (λ c is. (is.0, is.1, reopens_weaker sure may still all _ fewer wider is.2))) s
    (λ c is. (is.0, is.1, reopens_weaker less more still all _ fewer_too wider_too is.2)))

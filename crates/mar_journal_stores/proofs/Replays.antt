-- How what waits leads from the values on the disk to those that are held, and what a crash leaves of them.
use Rattle.std.proofs.Common.{Bool, List, Some, [], ap, arith, drop, inl, inr, length, length-take, map, max, refl, subst, suc, sym, take, true, zero, ℕ, ⊎_elim, ◌++◌, ◌<◌, ◌∙◌, ◌∷◌, ◌≡◌, ◌≤◌, ◌⊎◌}
use Rattle.std.proofs.lemmas.List.{take-take}
use Rattle.std.specs.List.{AllByRecursion}
use Rattle.mar_store.specs.Changes.{KeepsValues, Within}
use Rattle.mar_store.specs.Entries.{AreUpto, covered_by, seen}
use Rattle.mar_store.specs.Kept.{At, EachHeightOnce, Reopens, value_at}
use Rattle.mar_store.specs.Tickets.{last_number}
use Rattle.mar_store.specs.declared.Entry.{Entry}
use Rattle.mar_store.specs.Nested.{front_kept}
use Rattle.mar_store.proofs.Lookups.{AllByRecursion-push, Contains-from_value}
use Rattle.mar_journal.specs.ArchiveLemmas.{archive_one, archive_some}
use Rattle.mar_journal.specs.ArchiveRecords.{IsArchived, archive_bytes, kept_by, kept_from}
use Rattle.mar_journal_stores.specs.ArchiveStore.{IsArchiveFile, IsArchiveLeft, IsBacked, Ordered, Pending, Waits, left_after, left_may}
use Rattle.mar_journal.specs.Disk.{LeavesOnly, Narrows}
use Rattle.mar_journal.specs.Format.{IsDamaged, IsJournal, Stands, StandsUpto}
use Rattle.mar_journal.specs.Journal.{IsOldOrNew, IsSettled}
use Rattle.mar_journal.specs.Records.{IsWritable}
use Rattle.mar_journal.specs.declared.ArchiveRecord.{ArchiveRecord}
use Rattle.mar_journal.proofs.Frames.{stands_one, stands_whole}
use Rattle.mar_journal_stores.proofs.Marks.{ordered_drop}
use Rattle.mar_journal.proofs.Moments.{weaker}
use Rattle.mar_journal.proofs.WritingAll.{all_drop}

-- no ticket up to this number covers more
abbrev pub CoversLess : {T : Type 0} → ℕ → List (Entry T) → List (Entry T) → Type 0
CoversLess number old new = (t : ℕ) → t ≤ number → t < last_number → KeepsValues (covered_by new t) (covered_by old t)

-- what a reopening may find where less is sure and more may be left
pub reopens_weaker : {T : Type 0} (sure may less more m : List (At T)) → KeepsValues less sure → Within may more → Reopens sure may m → Reopens less more m
reopens_weaker sure may less more m fewer wider r = record {
  with_sure = λ h v is. r.with_sure h v (fewer h v is);
  within_may = λ h v is. wider _ (r.within_may h v is);
  once = r.once;
}

-- what is held may be found
pub reopens_held : {T : Type 0} (n : ℕ) (held may : List (At T)) → EachHeightOnce held → Within held may → Reopens (take n held) may held
reopens_held n held may once within = record {
  with_sure = front_kept n held;
  within_may = λ h v is. within _ (Contains-from_value held h v is);
  once = once;
}

pub kept_more : {T : Type 0} (name : T → List ℕ) (xs : List (At T)) (rs ss : List (ArchiveRecord T)) → kept_from name xs (rs ++ ss) ≡ kept_from name (kept_from name xs rs) ss
kept_more name xs [] ss = refl
kept_more name xs (r ∷ rs) ss = kept_more name (kept_by name xs r) rs ss

-- tickets up to this number let go no more
abbrev pub LetsGoLess : {T : Type 0} → ℕ → (ℕ → List (At T)) → (ℕ → List (At T)) → Type 0
LetsGoLess number old new = (t : ℕ) → t ≤ number → t < last_number → Within (old t) (new t)

-- a record that waits, where less is sure, more may be left, and tickets cover no more and let go no more
waits_weaker : {T : Type 0} (sure may less more : List (At T)) (after later_after : ℕ → List (At T)) (items new : List (Entry T)) (accepted later mark : ℕ) (kept : List (At T)) → KeepsValues less sure → Within may more → LetsGoLess accepted after later_after
    → accepted ≤ later → CoversLess accepted items new → Waits sure may after items accepted mark kept → Waits less more later_after new later mark kept
waits_weaker sure may less more after later_after items new accepted later mark kept fewer wider goes up covers w = record {
  found = reopens_weaker sure may less more kept fewer wider w.found;
  beyond = λ t below h v is. goes t (omega (arith, below, w.upto)) (omega (arith, below, w.last)) _ (w.beyond t below h v is);
  covered = λ t below h v is. w.covered t below h v (covers t (omega (arith, below, w.upto)) (omega (arith, below, w.last)) h v is);
  upto = omega (arith, w.upto, up);
  last = w.last;
}

module _ {T : Type 0} (name : T → List ℕ) where
  pub pending_end : (sure may : List (At T)) (after : ℕ → List (At T)) (items : List (Entry T)) (accepted : ℕ) (kept : List (At T)) (rs : List (ArchiveRecord T)) (ns : List ℕ) → Pending name sure may after items accepted kept rs ns → kept_from name kept rs ≡ map seen items
  pending_end sure may after items accepted kept [] [] p = p
  pending_end sure may after items accepted kept [] (n ∷ ns) p = absurd p
  pending_end sure may after items accepted kept (r ∷ rs) [] p = absurd p
  pending_end sure may after items accepted kept (r ∷ rs) (n ∷ ns) p = pending_end sure may after items accepted (kept_by name kept r) rs ns p.1

  -- each waiting record has a mark
  pub pending_long : (sure may : List (At T)) (after : ℕ → List (At T)) (items : List (Entry T)) (accepted : ℕ) (kept : List (At T)) (rs : List (ArchiveRecord T)) (ns : List ℕ) → Pending name sure may after items accepted kept rs ns → length ns ≡ length rs
  pending_long sure may after items accepted kept [] [] p = refl
  pending_long sure may after items accepted kept [] (n ∷ ns) p = absurd p
  pending_long sure may after items accepted kept (r ∷ rs) [] p = absurd p
  pending_long sure may after items accepted kept (r ∷ rs) (n ∷ ns) p = ap (λ k. suc k) (pending_long sure may after items accepted (kept_by name kept r) rs ns p.1)

  -- after so many of the waiting records
  pub pending_at : (sure may : List (At T)) (after : ℕ → List (At T)) (items : List (Entry T)) (accepted : ℕ) (kept : List (At T)) (rs : List (ArchiveRecord T)) (ns : List ℕ) → Pending name sure may after items accepted kept rs ns → Reopens sure may (map seen items) → (k : ℕ)
      → Reopens sure may (kept_from name kept (take k rs))
  pending_at sure may after items accepted kept [] [] p last zero = subst (Reopens sure may) (sym p) last
  pending_at sure may after items accepted kept [] [] p last (suc k) = subst (Reopens sure may) (sym p) last
  pending_at sure may after items accepted kept [] (n ∷ ns) p last k = absurd p
  pending_at sure may after items accepted kept (r ∷ rs) [] p last k = absurd p
  pending_at sure may after items accepted kept (r ∷ rs) (n ∷ ns) p last zero = (p.0).found
  pending_at sure may after items accepted kept (r ∷ rs) (n ∷ ns) p last (suc k) = pending_at sure may after items accepted (kept_by name kept r) rs ns p.1 last k

  -- where so many are written
  pub pending_drop : (sure may : List (At T)) (after : ℕ → List (At T)) (items : List (Entry T)) (accepted : ℕ) (kept : List (At T)) (rs : List (ArchiveRecord T)) (ns : List ℕ) (k : ℕ) → Pending name sure may after items accepted kept rs ns
      → Pending name sure may after items accepted (kept_from name kept (take k rs)) (drop k rs) (drop k ns)
  pending_drop sure may after items accepted kept rs ns zero p = p
  pending_drop sure may after items accepted kept [] [] (suc k) p = p
  pending_drop sure may after items accepted kept [] (n ∷ ns) (suc k) p = absurd p
  pending_drop sure may after items accepted kept (r ∷ rs) [] (suc k) p = absurd p
  pending_drop sure may after items accepted kept (r ∷ rs) (n ∷ ns) (suc k) p = pending_drop sure may after items accepted (kept_by name kept r) rs ns k p.1

  -- one record more
  pub pending_push : (sure may less more : List (At T)) (after later_after : ℕ → List (At T)) (items new : List (Entry T)) (accepted later : ℕ) (kept : List (At T)) (rs : List (ArchiveRecord T)) (ns : List ℕ) (r : ArchiveRecord T) (mark : ℕ)
      → KeepsValues less sure → Within may more → LetsGoLess accepted after later_after → accepted ≤ later → CoversLess accepted items new → Waits less more later_after new later mark (map seen items) → map seen new ≡ kept_by name (map seen items) r
      → Pending name sure may after items accepted kept rs ns → Pending name less more later_after new later kept (rs ++ r ∷ []) (ns ++ mark ∷ [])
  pending_push sure may less more after later_after items new accepted later kept [] [] r mark fewer wider goes up covers here is p = (subst (Waits less more later_after new later mark) (sym p) here, ap (λ l. kept_by name l r) p ∙ sym is)
  pending_push sure may less more after later_after items new accepted later kept [] (n ∷ ns) r mark fewer wider goes up covers here is p = absurd p
  pending_push sure may less more after later_after items new accepted later kept (q ∷ rs) [] r mark fewer wider goes up covers here is p = absurd p
  pending_push sure may less more after later_after items new accepted later kept (q ∷ rs) (n ∷ ns) r mark fewer wider goes up covers here is p = (
    waits_weaker sure may less more after later_after items new accepted later n kept fewer wider goes up covers p.0,
    pending_push sure may less more after later_after items new accepted later (kept_by name kept q) rs ns r mark fewer wider goes up covers here is p.1,
  )

  -- the same records wait, of other entries with the same values
  pub pending_same : (sure may less more : List (At T)) (after later_after : ℕ → List (At T)) (items new : List (Entry T)) (accepted later : ℕ) (kept : List (At T)) (rs : List (ArchiveRecord T)) (ns : List ℕ)
      → KeepsValues less sure → Within may more → LetsGoLess accepted after later_after → accepted ≤ later → CoversLess accepted items new → map seen new ≡ map seen items
      → Pending name sure may after items accepted kept rs ns → Pending name less more later_after new later kept rs ns
  pending_same sure may less more after later_after items new accepted later kept [] [] fewer wider goes up covers are p = p ∙ sym are
  pending_same sure may less more after later_after items new accepted later kept [] (n ∷ ns) fewer wider goes up covers are p = absurd p
  pending_same sure may less more after later_after items new accepted later kept (r ∷ rs) [] fewer wider goes up covers are p = absurd p
  pending_same sure may less more after later_after items new accepted later kept (r ∷ rs) (n ∷ ns) fewer wider goes up covers are p = (
    waits_weaker sure may less more after later_after items new accepted later n kept fewer wider goes up covers p.0,
    pending_same sure may less more after later_after items new accepted later (kept_by name kept r) rs ns fewer wider goes up covers are p.1,
  )

  -- nothing waits
  pub pending_none : (sure may less more : List (At T)) (after later_after : ℕ → List (At T)) (items new : List (Entry T)) (accepted later : ℕ) (kept : List (At T)) (rs : List (ArchiveRecord T)) (ns : List ℕ) → rs ≡ [] → map seen new ≡ map seen items
      → Pending name sure may after items accepted kept rs ns → Pending name less more later_after new later kept rs ns
  pending_none sure may less more after later_after items new accepted later kept [] [] none are p = p ∙ sym are
  pending_none sure may less more after later_after items new accepted later kept [] (n ∷ ns) none are p = absurd p
  pending_none sure may less more after later_after items new accepted later kept (r ∷ rs) ns none are p = absurd (omega (arith, ap length none))

  -- Where only records above a ticket's number wait, what it covers is sure, and what it lets go isn't left.
  pub pending_sure : (sure may less more : List (At T)) (after later_after : ℕ → List (At T)) (items : List (Entry T)) (accepted t : ℕ) (kept : List (At T)) (rs : List (ArchiveRecord T)) (ns : List ℕ)
      → ((h : ℕ) (v : T) → value_at less h ≡ Some v → (value_at sure h ≡ Some v) ⊎ (value_at (covered_by items t) h ≡ Some v)) → Within (after t) more → ((s : ℕ) → Within (after (max s t)) (later_after s)) → AllByRecursion (λ n. t < n) ns
      → Pending name sure may after items accepted kept rs ns → Pending name less more later_after items accepted kept rs ns
  pending_sure sure may less more after later_after items accepted t kept [] [] covers goes goes_on above p = p
  pending_sure sure may less more after later_after items accepted t kept [] (n ∷ ns) covers goes goes_on above p = absurd p
  pending_sure sure may less more after later_after items accepted t kept (r ∷ rs) [] covers goes goes_on above p = absurd p
  pending_sure sure may less more after later_after items accepted t kept (r ∷ rs) (n ∷ ns) covers goes goes_on above p = (
    record {
      found = record {
        with_sure = λ h v is. ⊎_elim ((p.0).found.with_sure h v) ((p.0).covered t above.0 h v) (covers h v is);
        within_may = λ h v is. goes _ ((p.0).beyond t above.0 h v is);
        once = (p.0).found.once;
      };
      beyond = λ s below h v is. goes_on s _ ((p.0).beyond (max s t) (omega (arith, below, above.0)) h v is);
      covered = (p.0).covered;
      upto = (p.0).upto;
      last = (p.0).last;
    },
    pending_sure sure may less more after later_after items accepted t (kept_by name kept r) rs ns covers goes goes_on above.1 p.1,
  )

module _ {T D : Type 0} (name spelled : T → List ℕ) (fits : ℕ → T → Bool) (seen_bytes : D → List ℕ) (may_leave : D → List ℕ → Type 0) where
  abbrev bytes : ArchiveRecord T → List ℕ
  bytes r = archive_bytes name spelled r

  abbrev Valid : ArchiveRecord T → Type 0
  Valid r = IsArchived fits spelled r

  -- what a store leaves of which no call failed
  pub backed_left : (disk : D) (end : ℕ) (sure : List (At T)) (gone items : List (Entry T)) (accepted : ℕ) (waiting : List (ArchiveRecord T)) (marks : List ℕ) → IsBacked name spelled fits seen_bytes may_leave disk end sure gone items accepted waiting marks
      → Reopens sure (left_may gone items) (map seen items) → IsArchiveLeft name spelled fits may_leave disk sure (left_may gone items)
  backed_left disk end sure gone items accepted waiting marks b last = record {
    each = λ c left. (
      b.records,
      inr (end, subst (IsJournal bytes Valid b.records end) (sym (b.settled.only c left)) b.settled.journal),
      pending_at name sure (left_may gone items) (left_after gone items) items accepted (kept_from name [] b.records) waiting marks b.pending last 0,
    );
    fit = b.fit;
  }

  -- a store of which the first waiting records are written
  pub backed_front : (disk later : D) (end new : ℕ) (sure : List (At T)) (gone items : List (Entry T)) (accepted : ℕ) (waiting : List (ArchiveRecord T)) (marks : List ℕ) (k : ℕ) → (b : IsBacked name spelled fits seen_bytes may_leave disk end sure gone items accepted waiting marks)
      → IsSettled bytes Valid seen_bytes may_leave (b.records ++ take k waiting) new later → IsBacked name spelled fits seen_bytes may_leave later new sure gone items accepted (drop k waiting) (drop k marks)
  backed_front disk later end new sure gone items accepted waiting marks k b settled = record {
    records = b.records ++ take k waiting;
    settled = settled;
    pending = subst (λ l. Pending name sure (left_may gone items) (left_after gone items) items accepted l (drop k waiting) (drop k marks)) (sym (kept_more name [] b.records (take k waiting))) (pending_drop name sure (left_may gone items) (left_after gone items) items accepted (kept_from name [] b.records) waiting marks k b.pending);
    good = all_drop (IsWritable bytes Valid) k waiting b.good;
    fit = b.fit;
    aside = b.aside;
    ordered = ordered_drop accepted k marks b.ordered;
  }

  -- one record more waits
  pub backed_more : (disk : D) (end : ℕ) (sure less : List (At T)) (gone items aside new : List (Entry T)) (accepted later : ℕ) (waiting after : List (ArchiveRecord T)) (marks ends : List ℕ) (r : ArchiveRecord T) (mark : ℕ)
      → IsBacked name spelled fits seen_bytes may_leave disk end sure gone items accepted waiting marks → KeepsValues less sure → Within (left_may gone items) (left_may aside new) → LetsGoLess accepted (left_after gone items) (left_after aside new)
      → accepted ≤ later → CoversLess accepted items new → Waits less (left_may aside new) (left_after aside new) new later mark (map seen items) → map seen new ≡ kept_by name (map seen items) r → IsWritable bytes Valid r
      → AllByRecursion (λ x. fits x.height x.value ≡ true) (left_may aside new) → AreUpto later aside → after ≡ waiting ++ r ∷ [] → ends ≡ marks ++ mark ∷ [] → Ordered later (marks ++ mark ∷ [])
      → IsBacked name spelled fits seen_bytes may_leave disk end less aside new later after ends
  backed_more disk end sure less gone items aside new accepted later waiting after marks ends r mark b fewer wider goes up covers here is good fit upto are marks_are ordered = record {
    records = b.records;
    settled = b.settled;
    pending = subst (λ l. Pending name less (left_may aside new) (left_after aside new) new later (kept_from name [] b.records) l ends) (sym are)
        (subst (Pending name less (left_may aside new) (left_after aside new) new later (kept_from name [] b.records) (waiting ++ r ∷ [])) (sym marks_are)
        (pending_push name sure (left_may gone items) less (left_may aside new) (left_after gone items) (left_after aside new) items new accepted later (kept_from name [] b.records) waiting marks r mark fewer wider goes up covers here is b.pending));
    good = subst (AllByRecursion (IsWritable bytes Valid)) (sym are) (AllByRecursion-push (IsWritable bytes Valid) waiting r b.good good);
    fit = fit;
    aside = upto;
    ordered = subst (Ordered later) (sym marks_are) ordered;
  }

  -- what a front of the waiting records leaves
  upto_file : (disk : D) (end : ℕ) (sure : List (At T)) (gone items : List (Entry T)) (accepted : ℕ) (waiting : List (ArchiveRecord T)) (marks : List ℕ) (k : ℕ) → (b : IsBacked name spelled fits seen_bytes may_leave disk end sure gone items accepted waiting marks)
      → Reopens sure (left_may gone items) (map seen items) → (c : List ℕ) → StandsUpto bytes Valid b.records (take k waiting) c → IsArchiveFile name spelled fits sure (left_may gone items) c
  upto_file disk end sure gone items accepted waiting marks k b last c upto =
      let same : take upto.0 (take k waiting) ≡ take upto.0 waiting = take-take upto.0 k waiting (omega (arith, upto.1, length-take k waiting)) in (
        b.records ++ take upto.0 waiting,
        subst (λ l. Stands bytes Valid (b.records ++ l) c) same upto.2,
        subst (Reopens sure (left_may gone items)) (sym (kept_more name [] b.records (take upto.0 waiting))) (pending_at name sure (left_may gone items) (left_after gone items) items accepted (kept_from name [] b.records) waiting marks b.pending last upto.0),
      )

  -- what a crash at any moment of a writing leaves
  pub writing_moments : (moment : D → ℕ) (left_since : D → ℕ → List ℕ → Type 0) (disk later : D) (end : ℕ) (sure : List (At T)) (gone items : List (Entry T)) (accepted : ℕ) (waiting : List (ArchiveRecord T)) (marks : List ℕ) (k : ℕ)
      → (b : IsBacked name spelled fits seen_bytes may_leave disk end sure gone items accepted waiting marks) → Reopens sure (left_may gone items) (map seen items) → LeavesOnly moment left_since disk later (StandsUpto bytes Valid b.records (take k waiting))
      → LeavesOnly moment left_since disk later (IsArchiveFile name spelled fits sure (left_may gone items))
  writing_moments moment left_since disk later end sure gone items accepted waiting marks k b last any = weaker moment left_since disk later _ _ any (upto_file disk end sure gone items accepted waiting marks k b last)

  module _ (moment : D → ℕ) (left_since : D → ℕ → List ℕ → Type 0) (counts_now : (d : D) (t : ℕ) (c : List ℕ) → t ≤ moment d → may_leave d c → left_since d t c) where
    -- what a writing leaves that failed
    pub writing_left : (disk later : D) (end : ℕ) (sure : List (At T)) (gone items : List (Entry T)) (accepted : ℕ) (waiting : List (ArchiveRecord T)) (marks : List ℕ) (k : ℕ) → (b : IsBacked name spelled fits seen_bytes may_leave disk end sure gone items accepted waiting marks)
        → Reopens sure (left_may gone items) (map seen items) → LeavesOnly moment left_since disk later (StandsUpto bytes Valid b.records (take k waiting)) → IsArchiveLeft name spelled fits may_leave later sure (left_may gone items)
    writing_left disk later end sure gone items accepted waiting marks k b last any = record {
      each = λ c left. upto_file disk end sure gone items accepted waiting marks k b last c (any.each c (counts_now later (moment disk) c any.later left));
      fit = b.fit;
    }

    module _ (key_size : ℕ) (keyed : (index : ℕ) (v : T) → fits index v ≡ true → length (name v) ≡ key_size) (one : (index : ℕ) (v w : T) → fits index v ≡ true → fits index w ≡ true → spelled v ≡ spelled w → v ≡ w) where
      same_records : (rs ss : List (ArchiveRecord T)) (c : List ℕ) → Stands bytes Valid rs c → Stands bytes Valid ss c → rs ≡ ss
      same_records rs ss c is other = stands_one bytes Valid (archive_one name spelled fits key_size keyed one) (archive_some name spelled) rs ss c is other

      -- what an opening leaves of a file
      pub old_or_new : (disk : D) (sure may : List (At T)) → may_leave disk (seen_bytes disk) → IsArchiveLeft name spelled fits may_leave disk sure may → (c : List ℕ) → IsOldOrNew (seen_bytes disk) (may_leave disk) c → IsArchiveFile name spelled fits sure may c
      old_or_new disk sure may image is c (inl old) = is.each c old
      old_or_new disk sure may image is c (inr new) =
          let here = is.each (seen_bytes disk) image in
          let none : here.0 ≡ [] = same_records here.0 [] (seen_bytes disk) here.1 (inl (new.0, refl)) in
          ([], inl (new.1, refl), subst (λ l. Reopens sure may (kept_from name [] l)) none here.2)

      -- a file that stands for values isn't damaged
      pub undamaged : (disk : D) (sure may : List (At T)) (at : ℕ) → may_leave disk (seen_bytes disk) → IsArchiveLeft name spelled fits may_leave disk sure may → IsDamaged bytes Valid at (seen_bytes disk) → ⊥
      undamaged disk sure may at image is damaged =
          let here = is.each (seen_bytes disk) image in stands_whole bytes Valid (archive_one name spelled fits key_size keyed one) (archive_some name spelled) here.0 at (seen_bytes disk) here.1 damaged

      -- what an opening leaves that failed
      pub opening_left : (disk later : D) (sure may : List (At T)) → may_leave disk (seen_bytes disk) → IsArchiveLeft name spelled fits may_leave disk sure may → LeavesOnly moment left_since disk later (IsOldOrNew (seen_bytes disk) (may_leave disk))
          → IsArchiveLeft name spelled fits may_leave later sure may
      opening_left disk later sure may image is any = record {
        each = λ c now. old_or_new disk sure may image is c (any.each c (counts_now later (moment disk) c any.later now));
        fit = is.fit;
      }

      -- what an opening finds
      pub opening_finds : (disk : D) (sure may : List (At T)) (records : List (ArchiveRecord T)) → may_leave disk (seen_bytes disk) → IsArchiveLeft name spelled fits may_leave disk sure may → Stands bytes Valid records (seen_bytes disk)
          → Reopens sure may (kept_from name [] records)
      opening_finds disk sure may records image is stands =
          let here = is.each (seen_bytes disk) image in
          subst (λ l. Reopens sure may (kept_from name [] l)) (same_records here.0 records (seen_bytes disk) here.1 stands) here.2

  -- what a crash leaves of what may be left
  pub narrowed_left : (disk later : D) (sure may : List (At T)) → Narrows (may_leave disk) (may_leave later) → IsArchiveLeft name spelled fits may_leave disk sure may → IsArchiveLeft name spelled fits may_leave later sure may
  narrowed_left disk later sure may narrows is = record { each = λ c now. is.each c (narrows c now); fit = is.fit }

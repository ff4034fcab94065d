-- What puts, syncs, prunes and a reopening make of logged entries.
use Rattle.std.proofs.Common.{◌≡◌, ◌⊎◌, inl, inr, ◌||◌, ◌&&◌, ◌==◌, ◌≤◌, ◌<◌, ℕ, zero, suc, List, [], ◌∷◌, ◌++◌, Bool, true, false, Contains, cond, refl, ap, sym, ◌∙◌, subst, filter, map, nat_lt, min, ◌+◌, ◌≢◌, arith, append-nil}
use Rattle.std.specs.List.{list_all, list_any}
use Rattle.std.proofs.lemmas.Bool.{cases_eq, eq-eqb, eqb-true, le-ltb, lt-ltb, ltb-true, ne_eqb}
use Rattle.std.proofs.lemmas.List.{map_push}
use Rattle.std.proofs.lemmas.List.Folds.{list_all-map}
use Rattle.std.proofs.lemmas.List.Elements.{Contains-append_left, filter-append}
use Rattle.mar_key.specs.Fronts.{filter-map}
use Rattle.mar_store.specs.Changes.{Within, left_of}
use Rattle.mar_store.specs.Luck.{is_lucky}
use Rattle.mar_store.specs.Tickets.{last_number}
use Rattle.mar_store.proofs.Lookups.{AllByRecursion-push, AllByRecursion-weaker}
use Rattle.mar_model.specs.Cached.{Cached, EachPlaceOnce, same_place}
use Rattle.mar_model.specs.Sections.{is_in}
use Rattle.mar_epochs.specs.EntryLogs.{AreNumbered, Logged, book_of, covered_in, drawn, drawn_in_all, entries, is_covered, is_drawn, is_numbered, kept_in, log_of, logged_of, sure_entries, with_draw, with_mark, count_next}
use Rattle.mar_epochs.specs.declared.logged_entry.LoggedEntry.{LoggedEntry}
use Rattle.mar_epochs.specs.EpochArchives.{ChangesArchives, FindsArchives, KeepsCovered, LosesArchives, held_after, is_kept, newly_sure}
use Rattle.mar_model.specs.declared.Section.{Section}
use Rattle.mar_model.specs.declared.Section.TheVariants.{Certified, Finalizations, Notarizations, Notarized, Verified}
use Rattle.mar_epochs.specs.declared.change.Change.{Change}
use Rattle.mar_epochs.specs.declared.change.Change.TheVariants.{Put}
use Rattle.mar_epochs.specs.Laws.{covers_last, filter_within}
use Rattle.mar_epochs.proofs.Filtering.{contains_more, contains_none, filter_agree, filter_all, filter_both, filter_either, filter_more, filter_twice, or_left, or_right}
use Rattle.mar_epochs.proofs.Places.{filter_places, push_place}

-- A PUT

-- what is put at the end isn't sure
abbrev pub logged : ℕ → Cached → Logged
logged number x = record { number = number; is_sure = false; entry = x }

pub entries_push : (fs : List Logged) (n : ℕ) (x : Cached) → entries (fs ++ logged n x ∷ []) ≡ entries fs ++ x ∷ []
entries_push fs n x = map_push (λ f. f.entry) fs (logged n x)

pub sure_push : (fs : List Logged) (n : ℕ) (x : Cached) → sure_entries (fs ++ logged n x ∷ []) ≡ sure_entries fs
sure_push fs n x = ap entries (filter-append (λ f. f.is_sure) fs (logged n x ∷ []) ∙ append-nil (filter (λ f. f.is_sure) fs))

-- WHAT TICKETS COVER

covered_marked : (s s' : Section) (n t : ℕ) (fs : List Logged) → covered_in (map (with_mark s' n) fs) s t ≡ covered_in fs s t
covered_marked s s' n t [] = refl
covered_marked s s' n t (f ∷ fs) = by (is_covered s t f) (covered_marked s s' n t fs)
  where
    by : (b : Bool) → covered_in (map (with_mark s' n) fs) s t ≡ covered_in fs s t
        → entries (cond b (with_mark s' n f ∷ filter (is_covered s t) (map (with_mark s' n) fs)) (filter (is_covered s t) (map (with_mark s' n) fs))) ≡ entries (cond b (f ∷ filter (is_covered s t) fs) (filter (is_covered s t) fs))
    by true rest = ap (λ ys. f.entry ∷ ys) rest
    by false rest = rest

pub marks_covered : {E : Type 0} (change : Change E) (s' : Section) (n number : ℕ) (fs new : List Logged) → new ≡ map (with_mark s' n) fs → ((x : Cached) → is_kept change x ≡ true) → KeepsCovered change number (covered_in fs) (covered_in new)
marks_covered change s' n number fs new is keeps s t below less = ap (λ ys. covered_in ys s t) is ∙ covered_marked s s' n t fs ∙ sym (filter_agree (is_kept change) (λ x. true) keeps (covered_in fs s t) ∙ filter_all (covered_in fs s t))

pub prunes_covered : {E : Type 0} (change : Change E) (number : ℕ) (fs new : List Logged) → new ≡ filter (λ f. is_kept change f.entry) fs → KeepsCovered change number (covered_in fs) (covered_in new)
prunes_covered change number fs new is s t below less = ap (λ ys. covered_in ys s t) is ∙ ap entries (filter_twice (is_covered s t) (λ f. is_kept change f.entry) fs) ∙ sym (filter-map (is_kept change) (λ f. f.entry) (filter (is_covered s t) fs))

not_and : (a b : Bool) → b ≡ false → (a && b) ≡ false
not_and true b is = is
not_and false b is = refl

not_or : (a b : Bool) → a ≡ false → b ≡ false → (a || b) ≡ false
not_or true b is other = absurd cc
not_or false b is other = other

-- what is put after a ticket was made isn't covered by it
uncovered : (n : ℕ) (x : Cached) (s : Section) (t : ℕ) → t ≤ n → t ≢ last_number → is_covered s t (logged n x) ≡ false
uncovered n x s t below less = not_and (is_in s x) (nat_lt n t || t == last_number) (not_or (nat_lt n t) (t == last_number) (le-ltb n t below) (ne_eqb t last_number less))

covered_push : (fs : List Logged) (n : ℕ) (x : Cached) (s : Section) (t : ℕ) → t ≤ n → t ≢ last_number → covered_in (fs ++ logged n x ∷ []) s t ≡ covered_in fs s t
covered_push fs n x s t below less =
    ap entries (filter-append (is_covered s t) fs (logged n x ∷ []) ∙ ap (λ b. filter (is_covered s t) fs ++ cond b (logged n x ∷ []) []) (uncovered n x s t below less) ∙ append-nil (filter (is_covered s t) fs))

pub put_covered : {E : Type 0} (entry : E) (x : Cached) (fs new : List Logged) (n : ℕ) → new ≡ cond (list_any (same_place x) (entries fs)) fs (fs ++ logged n x ∷ []) → KeepsCovered (Put entry) n (covered_in fs) (covered_in new)
put_covered entry x fs new n is s t below less = ap (λ ys. covered_in ys s t) is ∙ by (list_any (same_place x) (entries fs)) ∙ sym (filter_all (covered_in fs s t))
  where
    by : (b : Bool) → covered_in (cond b fs (fs ++ logged n x ∷ [])) s t ≡ covered_in fs s t
    by true = refl
    by false = covered_push fs n x s t below less

-- A put fits where no entry of its place is held, and else changes nothing.
module _ {E : Type 0} (plain : E → Cached) (entry : E) (fs new : List Logged) (n m : ℕ) (up : n ≤ m) where
  put_ignored : new ≡ fs → list_any (same_place (plain entry)) (entries fs) ≡ true → ChangesArchives plain (Put entry) (book_of n fs) (book_of m new)
  put_ignored is taken = record {
    held = ap entries is ∙ sym (ap (λ b. cond b (entries fs) (entries fs ++ plain entry ∷ [])) taken);
    sure = λ y sure keeps. subst (λ ys. Contains ys y) (ap sure_entries (sym is)) sure;
    made_sure = λ y has. contains_none y has;
    only = λ y sure. inl (subst (λ ys. Contains ys y) (ap sure_entries is) sure);
    may = λ y has. Contains-append_left (entries fs) (plain entry ∷ []) y (subst (λ ys. Contains ys y) (ap entries is) has);
    number = up;
    covers = put_covered entry (plain entry) fs new n (is ∙ sym (ap (λ b. cond b fs (fs ++ logged n (plain entry) ∷ [])) taken));
    last = covers_last new;
  }

  put_behind : new ≡ fs ++ logged n (plain entry) ∷ [] → list_any (same_place (plain entry)) (entries fs) ≡ false → ChangesArchives plain (Put entry) (book_of n fs) (book_of m new)
  put_behind is free = record {
    held = all ∙ sym (ap (λ b. cond b (entries fs) (entries fs ++ plain entry ∷ [])) free);
    sure = λ y sure keeps. subst (λ ys. Contains ys y) (sym none) sure;
    made_sure = λ y has. contains_none y has;
    only = λ y sure. inl (subst (λ ys. Contains ys y) none sure);
    may = λ y has. subst (λ ys. Contains ys y) all has;
    number = up;
    covers = put_covered entry (plain entry) fs new n (is ∙ sym (ap (λ b. cond b fs (fs ++ logged n (plain entry) ∷ [])) free));
    last = covers_last new;
  }
    where
      all : entries new ≡ entries fs ++ plain entry ∷ []
      all = ap entries is ∙ entries_push fs n (plain entry)

      none : sure_entries new ≡ sure_entries fs
      none = ap sure_entries is ∙ sure_push fs n (plain entry)

  pub puts : new ≡ cond (list_any (same_place (plain entry)) (entries fs)) fs (fs ++ logged n (plain entry) ∷ []) → ChangesArchives plain (Put entry) (book_of n fs) (book_of m new)
  puts is = by (list_any (same_place (plain entry)) (entries fs)) refl is
    where
      by : (b : Bool) → list_any (same_place (plain entry)) (entries fs) ≡ b → new ≡ cond b fs (fs ++ logged n (plain entry) ∷ []) → ChangesArchives plain (Put entry) (book_of n fs) (book_of m new)
      by true taken is' = put_ignored is' taken
      by false free is' = put_behind is' free

-- a change that does nothing
pub does_nothing : {E : Type 0} (plain : E → Cached) (change : Change E) (number : ℕ) (fs : List Logged) → ((held : List Cached) → held_after plain change held ≡ held) → newly_sure number (covered_in fs) change (entries fs) ≡ [] → ((x : Cached) → is_kept change x ≡ true) → ChangesArchives plain change (book_of number fs) (book_of number fs)
does_nothing plain change number fs same makes keeps = record {
  held = sym (same (entries fs));
  sure = λ y sure kept. sure;
  made_sure = λ y has. contains_none y (subst (λ ys. Contains ys y) makes has);
  only = λ y sure. inl sure;
  may = λ y has. Contains-append_left (entries fs) _ y has;
  number = omega arith;
  covers = λ s t below less. sym (filter_agree (is_kept change) (λ x. true) keeps (covered_in fs s t) ∙ filter_all (covered_in fs s t));
  last = covers_last fs;
}

-- a call that did nothing
pub loses_nothing : {E : Type 0} (plain : E → Cached) (change : Change E) (fs : List Logged) → LosesArchives plain change (kept_in fs) (left_of (kept_in fs))
loses_nothing plain change fs = record {
  sure = λ y has kept. has;
  only = λ y has. has;
  stays = λ y has kept. has;
  may = λ y has. Contains-append_left (entries fs) _ y has;
}

pub loses_same : {E : Type 0} (plain : E → Cached) (change : Change E) (fs new : List Logged) → new ≡ fs → LosesArchives plain change (kept_in fs) (left_of (kept_in new))
loses_same plain change fs new is = rw is (loses_nothing plain change fs)

-- A SYNC

pub entries_marked : (s : Section) (n : ℕ) (fs : List Logged) → entries (map (with_mark s n) fs) ≡ entries fs
entries_marked s n [] = refl
entries_marked s n (f ∷ fs) = ap (λ ys. f.entry ∷ ys) (entries_marked s n fs)

sure_marked : (s : Section) (n : ℕ) (fs : List Logged) → sure_entries (map (with_mark s n) fs) ≡ entries (filter (λ f. f.is_sure || is_covered s n f) fs)
sure_marked s n [] = refl
sure_marked s n (f ∷ fs) = by (f.is_sure || is_covered s n f) (sure_marked s n fs)
  where
    by : (b : Bool) → sure_entries (map (with_mark s n) fs) ≡ entries (filter (λ f. f.is_sure || is_covered s n f) fs)
        → entries (cond b (with_mark s n f ∷ filter (λ f. f.is_sure) (map (with_mark s n) fs)) (filter (λ f. f.is_sure) (map (with_mark s n) fs)))
        ≡ entries (cond b (f ∷ filter (λ f. f.is_sure || is_covered s n f) fs) (filter (λ f. f.is_sure || is_covered s n f) fs))
    by true rest = ap (λ ys. f.entry ∷ ys) rest
    by false rest = rest

module _ {E : Type 0} (plain : E → Cached) (change : Change E) (s : Section) (n number : ℕ) (fs new : List Logged) (is : new ≡ map (with_mark s n) fs) where
  same_entries : entries new ≡ entries fs
  same_entries = ap entries is ∙ entries_marked s n fs

  sure_with : sure_entries new ≡ entries (filter (λ f. f.is_sure || is_covered s n f) fs)
  sure_with = ap sure_entries is ∙ sure_marked s n fs

  pub marks : ((held : List Cached) → held_after plain change held ≡ held) → newly_sure number (covered_in fs) change (entries fs) ≡ covered_in fs s n → ((x : Cached) → is_kept change x ≡ true) → ChangesArchives plain change (book_of number fs) (book_of number new)
  marks same makes keeps = record {
    held = same_entries ∙ sym (same (entries fs));
    sure = λ y sure keeps'. subst (λ ys. Contains ys y) (sym sure_with) (filter_more (λ f. f.entry) (λ f. f.is_sure) (λ f. f.is_sure || is_covered s n f) (λ f. or_left f.is_sure (is_covered s n f)) fs y sure);
    made_sure = λ y has. subst (λ ys. Contains ys y) (sym sure_with) (filter_more (λ f. f.entry) (is_covered s n) (λ f. f.is_sure || is_covered s n f) (λ f. or_right f.is_sure (is_covered s n f)) fs y (subst (λ ys. Contains ys y) makes has));
    only = λ y sure. subst (λ ys. Contains (sure_entries fs) y ⊎ Contains ys y) (sym makes) (filter_either (λ f. f.entry) (λ f. f.is_sure) (is_covered s n) fs y (subst (λ ys. Contains ys y) sure_with sure));
    may = λ y has. Contains-append_left (entries fs) _ y (subst (λ ys. Contains ys y) same_entries has);
    number = omega arith;
    covers = marks_covered change s n number fs new is keeps;
    last = covers_last new;
  }

pub mark_once : (s : Section) (n : ℕ) (fs new : List Logged) → new ≡ map (with_mark s n) fs → EachPlaceOnce (entries fs) → EachPlaceOnce (entries new)
mark_once s n fs new is once = subst EachPlaceOnce (sym (ap entries is ∙ entries_marked s n fs)) once

-- A PRUNE

module _ {E : Type 0} (plain : E → Cached) (change : Change E) (number : ℕ) (fs new : List Logged) (is : new ≡ filter (λ f. is_kept change f.entry) fs) where
  entries_left : entries new ≡ filter (is_kept change) (entries fs)
  entries_left = ap entries is ∙ sym (filter-map (is_kept change) (λ f. f.entry) fs)

  sure_left : sure_entries new ≡ entries (filter (λ f. is_kept change f.entry) (filter (λ f. f.is_sure) fs))
  sure_left = ap sure_entries is ∙ ap entries (filter_twice (λ f. f.is_sure) (λ f. is_kept change f.entry) fs)

  pub prunes : ((held : List Cached) → held_after plain change held ≡ filter (is_kept change) held) → newly_sure number (covered_in fs) change (entries fs) ≡ [] → ChangesArchives plain change (book_of number fs) (book_of number new)
  prunes keeps makes = record {
    held = entries_left ∙ sym (keeps (entries fs));
    sure = λ y sure kept. subst (λ ys. Contains ys y) (sym (ap sure_entries is)) (filter_both (λ f. f.entry) (λ f. f.is_sure) (is_kept change) fs y sure kept);
    made_sure = λ y has. contains_none y (subst (λ ys. Contains ys y) makes has);
    only = λ y sure. inl (filter_within (λ f. f.entry) (λ f. is_kept change f.entry) (filter (λ f. f.is_sure) fs) y (subst (λ ys. Contains ys y) sure_left sure));
    may = λ y has. Contains-append_left (entries fs) _ y (filter_within (λ f. f.entry) (λ f. is_kept change f.entry) fs y (subst (λ ys. Contains ys y) (ap entries is) has));
    number = omega arith;
    covers = prunes_covered change number fs new is;
    last = covers_last new;
  }

  held_left : (y : Cached) → Contains (entries fs) y → is_kept change y ≡ true → Contains (entries new) y
  held_left y has kept =
      let all = filter_both (λ f. f.entry) (λ f. true) (is_kept change) fs y (subst (λ ys. Contains (entries ys) y) (sym (filter_all fs)) has) kept in
      subst (λ ys. Contains (entries ys) y) (filter_all (filter (λ f. is_kept change f.entry) fs) ∙ sym is) all

  -- where it failed behind the prune
  pub loses_pruned : LosesArchives plain change (kept_in fs) (left_of (kept_in new))
  loses_pruned = record {
    sure = λ y sure kept. subst (λ ys. Contains ys y) (sym (ap sure_entries is)) (filter_both (λ f. f.entry) (λ f. f.is_sure) (is_kept change) fs y sure kept);
    only = λ y sure. filter_within (λ f. f.entry) (λ f. is_kept change f.entry) (filter (λ f. f.is_sure) fs) y (subst (λ ys. Contains ys y) sure_left sure);
    stays = held_left;
    may = λ y has. Contains-append_left (entries fs) _ y (filter_within (λ f. f.entry) (λ f. is_kept change f.entry) fs y (subst (λ ys. Contains ys y) (ap entries is) has));
  }

pub filter_once : (p : Logged → Bool) (fs new : List Logged) → new ≡ filter p fs → EachPlaceOnce (entries fs) → EachPlaceOnce (entries new)
filter_once p fs new is once = subst (λ ys. EachPlaceOnce (entries ys)) (sym is) (filter_places (λ f. f.entry) p fs once)

-- NUMBERS

later : (n : ℕ) (f : Logged) → n ≤ last_number → is_numbered n f ≡ true → is_numbered (min (n + 1) last_number) f ≡ true
later n f small was = by (cases_eq n last_number)
  where
    by : (n ≡ last_number) ⊎ (n ≢ last_number) → is_numbered (min (n + 1) last_number) f ≡ true
    by (inl end) = or_right (nat_lt f.number (min (n + 1) last_number)) (min (n + 1) last_number == last_number) (eq-eqb _ _ (omega (arith, end)))
    by (inr other) = or_left (nat_lt f.number (min (n + 1) last_number)) (min (n + 1) last_number == last_number) (lt-ltb _ _ (omega (arith, small, other, before (nat_lt f.number n) (n == last_number) refl refl was)))
      where
        before : (a b : Bool) → nat_lt f.number n ≡ a → (n == last_number) ≡ b → (a || b) ≡ true → f.number < n
        before true b less same is = ltb-true f.number n less
        before false true less same is = absurd (other (eqb-true n last_number same))
        before false false less same is = absurd cc

own : (n : ℕ) (x : Cached) → n ≤ last_number → is_numbered (min (n + 1) last_number) (logged n x) ≡ true
own n x small = by (cases_eq n last_number)
  where
    by : (n ≡ last_number) ⊎ (n ≢ last_number) → is_numbered (min (n + 1) last_number) (logged n x) ≡ true
    by (inl end) = or_right (nat_lt n (min (n + 1) last_number)) (min (n + 1) last_number == last_number) (eq-eqb _ _ (omega (arith, end)))
    by (inr other) = or_left (nat_lt n (min (n + 1) last_number)) (min (n + 1) last_number == last_number) (lt-ltb _ _ (omega (arith, small, other)))

pub push_once : (fs new : List Logged) (n : ℕ) (x : Cached) → new ≡ fs ++ logged n x ∷ [] → list_any (same_place x) (entries fs) ≡ false → EachPlaceOnce (entries fs) → EachPlaceOnce (entries new)
push_once fs new n x is free once = subst EachPlaceOnce (sym (ap entries is ∙ entries_push fs n x)) (push_place (entries fs) x once free)

pub push_numbered : (fs new : List Logged) (n m : ℕ) (x : Cached) → n ≤ last_number → new ≡ fs ++ logged n x ∷ [] → m ≡ min (n + 1) last_number → AreNumbered n fs → AreNumbered m new
push_numbered fs new n m x small is next all = rw (is, next) (AllByRecursion-push (λ f. is_numbered (min (n + 1) last_number) f ≡ true) fs (logged n x) (AllByRecursion-weaker (λ f. is_numbered n f ≡ true) (λ f. is_numbered (min (n + 1) last_number) f ≡ true) (λ f. later n f small) fs all) (own n x small))

pub marked_numbered : (s : Section) (t n : ℕ) (fs : List Logged) → AreNumbered n fs → AreNumbered n (map (with_mark s t) fs)
marked_numbered s t n [] all = tt
marked_numbered s t n (f ∷ fs) all = (all.0, marked_numbered s t n fs all.1)

pub filter_numbered : (p : Logged → Bool) (n : ℕ) (fs : List Logged) → AreNumbered n fs → AreNumbered n (filter p fs)
filter_numbered p n [] all = tt
filter_numbered p n (f ∷ fs) all = by (p f) (filter_numbered p n fs all.1)
  where
    by : (b : Bool) → AreNumbered n (filter p fs) → AreNumbered n (cond b (f ∷ filter p fs) (filter p fs))
    by true rest = (all.0, rest)
    by false rest = rest

-- a ticket made now covers all that an archive holds
pub covered_now : (n : ℕ) (fs : List Logged) (s : Section) → AreNumbered n fs → covered_in fs s n ≡ filter (is_in s) (entries fs)
covered_now n fs s all = ap entries (same fs all) ∙ sym (filter-map (is_in s) (λ f. f.entry) fs)
  where
    both : (a b : Bool) → b ≡ true → (a && b) ≡ a
    both true b is = is
    both false b is = refl

    same : (fs : List Logged) → AreNumbered n fs → filter (is_covered s n) fs ≡ filter (λ f. is_in s f.entry) fs
    same [] all' = refl
    same (f ∷ fs) all' = ap (λ b. cond b (f ∷ filter (is_covered s n) fs) (filter (is_covered s n) fs)) (both (is_in s f.entry) (is_numbered n f) all'.0) ∙ ap (λ ys. cond (is_in s f.entry) (f ∷ ys) ys) (same fs all'.1)

-- A REOPENING

entries_drawn : (s : Section) (half k : ℕ) (fs : List Logged) → entries (drawn s half k fs) ≡ entries fs
entries_drawn s half k [] = refl
entries_drawn s half k (f ∷ fs) = ap (λ ys. f.entry ∷ ys) (entries_drawn s half (count_next s k f) fs)

drawn_numbered : (s : Section) (half k n : ℕ) (fs : List Logged) → AreNumbered n fs → AreNumbered n (drawn s half k fs)
drawn_numbered s half k n [] all = tt
drawn_numbered s half k n (f ∷ fs) all = (all.0, drawn_numbered s half (count_next s k f) n fs all.1)

sure_drawn : (s : Section) (half k : ℕ) (fs : List Logged) → Within (sure_entries fs) (sure_entries (drawn s half k fs))
sure_drawn s half k [] y has = has
sure_drawn s half k (f ∷ fs) y has = by f.is_sure (is_drawn s f && is_lucky half k) (sure_drawn s half (count_next s k f) fs y) has
  where
    by : (b c : Bool) → (Contains (sure_entries fs) y → Contains (sure_entries (drawn s half (count_next s k f) fs)) y) → Contains (entries (cond b (f ∷ filter (λ g. g.is_sure) fs) (filter (λ g. g.is_sure) fs))) y
        → Contains (entries (cond (b || c) (with_draw s half k f ∷ filter (λ g. g.is_sure) (drawn s half (count_next s k f) fs)) (filter (λ g. g.is_sure) (drawn s half (count_next s k f) fs)))) y
    by true c rest (zero, lt, is) = (zero, omega arith, is)
    by true c rest (suc i, lt, is) = contains_more f.entry _ y (rest (i, omega arith, is))
    by false true rest has' = contains_more f.entry _ y (rest has')
    by false false rest has' = rest has'

-- where all are sure, a reopening finds them as they are
drawn_sure : (s : Section) (half k : ℕ) (fs : List Logged) → list_all (λ f. f.is_sure) fs ≡ true → drawn s half k fs ≡ fs
drawn_sure s half k [] sure = refl
drawn_sure s half k (f ∷ fs) sure = by f.number f.is_sure f.entry (λ k' rest. drawn_sure s half k' fs rest) sure
  where
    by : (n : ℕ) (b : Bool) (x : Cached) → ((k' : ℕ) → list_all (λ g. g.is_sure) fs ≡ true → drawn s half k' fs ≡ fs) → (b && list_all (λ g. g.is_sure) fs) ≡ true
        → drawn s half k (record { number = n; is_sure = b; entry = x } ∷ fs) ≡ record { number = n; is_sure = b; entry = x } ∷ fs
    by n true x go rest = ap (λ ys. record { number = n; is_sure = true; entry = x } ∷ ys) (go k rest)
    by n false x go rest = absurd cc

kept_sure : (fs : List Logged) → list_all (λ f. f.is_sure) fs ≡ true → filter (λ f. f.is_sure) fs ≡ fs
kept_sure [] sure = refl
kept_sure (f ∷ fs) sure = by f.is_sure (kept_sure fs) sure
  where
    by : (b : Bool) → (list_all (λ g. g.is_sure) fs ≡ true → filter (λ g. g.is_sure) fs ≡ fs) → (b && list_all (λ g. g.is_sure) fs) ≡ true → cond b (f ∷ filter (λ g. g.is_sure) fs) (filter (λ g. g.is_sure) fs) ≡ f ∷ fs
    by true go rest = ap (λ ys. f ∷ ys) (go rest)
    by false go rest = absurd cc

settled_sure : (half : ℕ) (fs : List Logged) → list_all (λ f. f.is_sure) fs ≡ true → filter (λ f. f.is_sure) (drawn_in_all half fs) ≡ fs
settled_sure half fs sure = ap (filter (λ f. f.is_sure)) same ∙ kept_sure fs sure
  where
    same : drawn_in_all half fs ≡ fs
    same = ap (λ ys. drawn Finalizations half 0 (drawn Notarizations half 0 (drawn Certified half 0 (drawn Notarized half 0 ys)))) (drawn_sure Verified half 0 fs sure)
        ∙ ap (λ ys. drawn Finalizations half 0 (drawn Notarizations half 0 (drawn Certified half 0 ys))) (drawn_sure Notarized half 0 fs sure)
        ∙ ap (λ ys. drawn Finalizations half 0 (drawn Notarizations half 0 ys)) (drawn_sure Certified half 0 fs sure)
        ∙ ap (drawn Finalizations half 0) (drawn_sure Notarizations half 0 fs sure)
        ∙ drawn_sure Finalizations half 0 fs sure

pub found_same : {E : Type 0} (plain : E → Cached) (half : ℕ) (items : List (LoggedEntry E)) → list_all (λ e. e.is_sure) items ≡ true → log_of plain items ≡ filter (λ f. f.is_sure) (drawn_in_all half (log_of plain items))
found_same plain half items sure = sym (settled_sure half (log_of plain items) (list_all-map (λ f. f.is_sure) (logged_of plain) items ∙ sure))

twice_same : (p : Logged → Bool) (fs : List Logged) → filter p (filter p fs) ≡ filter p fs
twice_same p [] = refl
twice_same p (f ∷ fs) = by (p f) refl (twice_same p fs)
  where
    by : (b : Bool) → p f ≡ b → filter p (filter p fs) ≡ filter p fs → filter p (cond b (f ∷ filter p fs) (filter p fs)) ≡ cond b (f ∷ filter p fs) (filter p fs)
    by true is rest = rw is (ap (λ ys. f ∷ ys) rest)
    by false is rest = rest

module _ (half : ℕ) (fs : List Logged) where
  abbrev first : List Logged
  first = drawn Verified half 0 fs

  abbrev second : List Logged
  second = drawn Notarized half 0 first

  abbrev third : List Logged
  third = drawn Certified half 0 second

  abbrev fourth : List Logged
  fourth = drawn Notarizations half 0 third

  entries_all : entries (drawn_in_all half fs) ≡ entries fs
  entries_all = entries_drawn Finalizations half 0 fourth ∙ entries_drawn Notarizations half 0 third ∙ entries_drawn Certified half 0 second ∙ entries_drawn Notarized half 0 first ∙ entries_drawn Verified half 0 fs

  sure_all : Within (sure_entries fs) (sure_entries (drawn_in_all half fs))
  sure_all y has = sure_drawn Finalizations half 0 fourth y (sure_drawn Notarizations half 0 third y (sure_drawn Certified half 0 second y (sure_drawn Notarized half 0 first y (sure_drawn Verified half 0 fs y has))))

  pub settled_numbered : (n : ℕ) → AreNumbered n fs → AreNumbered n (filter (λ f. f.is_sure) (drawn_in_all half fs))
  settled_numbered n all = filter_numbered (λ f. f.is_sure) n (drawn_in_all half fs) (drawn_numbered Finalizations half 0 n fourth (drawn_numbered Notarizations half 0 n third (drawn_numbered Certified half 0 n second (drawn_numbered Notarized half 0 n first (drawn_numbered Verified half 0 n fs all)))))

  settled_once : EachPlaceOnce (entries fs) → EachPlaceOnce (sure_entries (drawn_in_all half fs))
  settled_once once = filter_places (λ f. f.entry) (λ f. f.is_sure) (drawn_in_all half fs) (subst EachPlaceOnce (sym entries_all) once)

  pub finds : (new : List Logged) → new ≡ filter (λ f. f.is_sure) (drawn_in_all half fs) → EachPlaceOnce (entries fs) → FindsArchives (left_of (kept_in fs)) (kept_in new)
  finds new is once = record {
    found = sure_entries (drawn_in_all half fs);
    reopens = record {
      with_sure = sure_all;
      within_may = λ y has. subst (λ ys. Contains ys y) entries_all (filter_within (λ f. f.entry) (λ f. f.is_sure) (drawn_in_all half fs) y has);
      once = settled_once once;
    };
    is = ap kept_in is ∙ ap (λ ys. record { held = sure_entries (drawn_in_all half fs); sure = entries ys; may = sure_entries (drawn_in_all half fs) }) (twice_same (λ f. f.is_sure) (drawn_in_all half fs));
  }

  pub finds_once : (new : List Logged) → new ≡ filter (λ f. f.is_sure) (drawn_in_all half fs) → EachPlaceOnce (entries fs) → EachPlaceOnce (entries new)
  finds_once new is once = subst (λ ys. EachPlaceOnce (entries ys)) (sym is) (settled_once once)

-- The marks of what waits: they ascend, and tell which tickets write a record.
use Rattle.std.proofs.Common.{Bool, Contains, List, None, Some, [], ap, append-nil, arith, cond, drop, false, filter, get_or, inl, inr, length, length-append, map, nat_lt, refl, subst, suc, sym, take, true, zero, ℕ, ⊎_elim, ◌++◌, ◌+◌, ◌-◌, ◌==◌, ◌<◌, ◌∙◌, ◌∷◌, ◌≡◌, ◌≤◌, ◌⊎◌}
use Rattle.std.proofs.lemmas.Bool.{cases_lt, eq-eqb, eqb-true, lt-ltb, ltb-false, ltb-true, ne_eqb, or_cases, or_from, or_left, or_parts, or_right}
use Rattle.std.proofs.lemmas.List.{length-map, map-append, take_all}
use Rattle.std.proofs.lemmas.List.Elements.{Contains-append_right, filter-append}
use Rattle.std.specs.Coded.{le_prop}
use Rattle.std.specs.List.{AllByRecursion, AllByRecursion-prop}
use Rattle.mar_store.specs.Changes.{KeepsValues}
use Rattle.mar_store.specs.Entries.{AreCounted, covered_by, is_covered, next_number, seen}
use Rattle.mar_store.specs.Kept.{At, EachHeightOnce, value_at}
use Rattle.mar_store.specs.Named.{is_taken}
use Rattle.mar_store.specs.Tickets.{KeepsCovers, last_number}
use Rattle.mar_store.specs.declared.Entry.{Entry}
use Rattle.mar_store.proofs.Lookups.{AllByRecursion-append_right, AllByRecursion-push, AllByRecursion-weaker, value_at-from_contains}
use Rattle.mar_store.proofs.NamesOnce.{free_index}
use Rattle.mar_store.proofs.Stores.{filter_kept, filter_pass, filter_within}
use Rattle.mar_journal_stores.specs.ArchiveStore.{IsFront, IsMarkOf, Ordered, last_mark}
use Rattle.mar_journal_stores.proofs.Fronts.{none_before}

pub Ordered-prop : (accepted : ℕ) (ns : List ℕ) → IsProp (Ordered accepted ns)
Ordered-prop accepted [] = λ a b i. tt
Ordered-prop accepted (n ∷ ns) = λ a b i. (le_prop a.0 b.0 i, le_prop a.1 b.1 i, AllByRecursion-prop (λ m. n ≤ m) (λ m. le_prop) ns a.2 b.2 i, Ordered-prop accepted ns a.3 b.3 i)

pub ordered_later : (accepted later : ℕ) (ns : List ℕ) → accepted ≤ later → Ordered accepted ns → Ordered later ns
ordered_later accepted later [] up o = tt
ordered_later accepted later (n ∷ ns) up o = (omega (arith, up, o.0), o.1, o.2, ordered_later accepted later ns up o.3)

pub ordered_drop : (accepted k : ℕ) (ns : List ℕ) → Ordered accepted ns → Ordered accepted (drop k ns)
ordered_drop accepted zero ns o = o
ordered_drop accepted (suc k) [] o = tt
ordered_drop accepted (suc k) (n ∷ ns) o = ordered_drop accepted k ns o.3

pub ordered_push : (accepted mark : ℕ) (ns : List ℕ) → AllByRecursion (λ n. n ≤ mark) ns → mark ≤ accepted → mark ≤ last_number → Ordered accepted ns → Ordered accepted (ns ++ mark ∷ [])
ordered_push accepted mark [] below upto last o = (upto, last, tt, tt)
ordered_push accepted mark (n ∷ ns) below upto last o = (o.0, o.1, AllByRecursion-push (λ m. n ≤ m) ns mark o.2 below.0, ordered_push accepted mark ns below.1 upto last o.3)

-- all marks are up to a number that the accepted ones are up to
pub all_upto : (accepted b : ℕ) (ns : List ℕ) → accepted ≤ b → Ordered accepted ns → AllByRecursion (λ n. n ≤ b) ns
all_upto accepted b [] up o = tt
all_upto accepted b (n ∷ ns) up o = (omega (arith, up, o.0), all_upto accepted b ns up o.3)

pub all_numbers : (accepted : ℕ) (ns : List ℕ) → Ordered accepted ns → AllByRecursion (λ n. n ≤ last_number) ns
all_numbers accepted [] o = tt
all_numbers accepted (n ∷ ns) o = (o.1, all_numbers accepted ns o.3)

front_all : (accepted t k : ℕ) (ns : List ℕ) → Ordered accepted ns → k < length ns → get_or ns k 0 ≤ t → AllByRecursion (λ n. n ≤ t) (take (suc k) ns)
front_all accepted t k [] o within is = absurd (omega (arith, within))
front_all accepted t zero (n ∷ ns) o within is = (is, tt)
front_all accepted t (suc k) (n ∷ ns) o within is =
    let here : k < length ns = omega (arith, within) in
    (omega (arith, is, none_before (λ m. n ≤ m) k ns here o.2), front_all accepted t k ns o.3 here is)

-- of marks in order a ticket writes just those up to its number
pub front_exact : (accepted t : ℕ) (ns : List ℕ) (count : ℕ) → Ordered accepted ns → IsFront t ns count → AllByRecursion (λ n. n ≤ t) (take count ns)
front_exact accepted t ns zero o f = tt
front_exact accepted t ns (suc k) o f =
    ⊎_elim (λ none. absurd (omega (arith, none))) (λ below. front_all accepted t k ns o (omega (arith, f.within)) (let same : suc k - 1 ≡ k = omega arith in subst (λ j. get_or ns j 0 ≤ t) same below)) f.last

-- the last of marks in order is the greatest
pub last_most : (accepted b : ℕ) (ns : List ℕ) → Ordered accepted ns → last_mark ns ≤ b → AllByRecursion (λ n. n ≤ b) ns
last_most accepted b [] o is = tt
last_most accepted b (n ∷ ns) o is =
    subst (AllByRecursion (λ m. m ≤ b)) (take_all (suc (length ns)) (n ∷ ns) (omega arith))
    (front_all accepted b (length ns) (n ∷ ns) o (omega arith) (let same : suc (length ns) - 1 ≡ length ns = omega arith in subst (λ j. get_or (n ∷ ns) j 0 ≤ b) same is))

pub last_upto : (b : ℕ) (ns : List ℕ) → AllByRecursion (λ n. n ≤ b) ns → last_mark ns ≤ b
last_upto b [] all = omega arith
last_upto b (n ∷ ns) all = none_before (λ m. m ≤ b) (length (n ∷ ns) - 1) (n ∷ ns) (omega arith) all

pub ordered_none : (accepted : ℕ) (ns : List ℕ) → length ns ≡ 0 → Ordered accepted ns
ordered_none accepted [] none = tt
ordered_none accepted (n ∷ ns) none = absurd (omega (arith, none))

-- THE MARK OF A PRUNE

-- it is counted itself, so that it is above the marks before it
pub counted_ordered : (accepted later mark : ℕ) (ns : List ℕ) → later ≡ next_number accepted → mark ≡ next_number accepted → accepted ≤ last_number → Ordered accepted ns → Ordered later (ns ++ mark ∷ [])
counted_ordered accepted later mark ns later_is mark_is within o =
    ordered_push later mark ns (all_upto accepted mark ns (omega (arith, mark_is, within)) o) (omega (arith, later_is, mark_is)) (omega (arith, mark_is)) (ordered_later accepted later ns (omega (arith, later_is, within)) o)

pub counted_above : (accepted mark : ℕ) → mark ≡ next_number accepted → (accepted < mark) ⊎ (mark ≡ last_number)
counted_above accepted mark is = elim (cases_lt accepted last_number) [
  | inl lt ↦ inl (omega (arith, is, lt))
  | inr le ↦ inr (omega (arith, is, le))
]

-- the last entry
pub at_end : {X : Type 0} (front : List X) (e d : X) (xs : List X) (i : ℕ) → xs ≡ front ++ e ∷ [] → i + 1 ≡ length xs → get_or xs i d ≡ e
at_end [] e d xs zero is long = rw is refl
at_end [] e d xs (suc i) is long = absurd (omega (arith, long, ap length is))
at_end (x ∷ front) e d xs zero is long = absurd (omega (arith, long, ap length is, length-append (x ∷ front) (e ∷ [])))
at_end (x ∷ front) e d xs (suc i) is long = rw is (at_end front e d (front ++ e ∷ []) i refl (omega (arith, long, ap length is, length-append (x ∷ front) (e ∷ []), length-append front (e ∷ []))))

-- Entries of which one was put behind others.
pub record IsPushed {T : Type 0} (items new : List (Entry T)) (x : At T) : Type 0 where
  pub front : List (Entry T)
  pub last : Entry T
  pub new_is : new ≡ front ++ last ∷ []
  pub front_is : map seen front ≡ map seen items
  pub last_is : seen last ≡ x

pub pushed : {T : Type 0} (items new : List (Entry T)) (x : At T) → map seen new ≡ map seen items ++ x ∷ [] → IsPushed items new x
pushed [] [] x are = absurd (omega (arith, ap length are))
pushed [] (e ∷ []) x are = record { front = []; last = e; new_is = refl; front_is = refl; last_is = head_of are }
  where
    head_of : {X : Type 0} {a b : X} {xs ys : List X} → a ∷ xs ≡ b ∷ ys → a ≡ b
    head_of e = cc
pushed [] (e ∷ f ∷ new) x are = absurd (omega (arith, ap length are, length-map new seen))
pushed (y ∷ items) [] x are = absurd (omega (arith, ap length are))
pushed {T} (y ∷ items) (e ∷ new) x are =
    let more = pushed items new x (tail_of are) in
    record { front = e ∷ more.front; last = more.last; new_is = ap (λ l. e ∷ l) more.new_is; front_is = ap (λ z. z ∷ map seen more.front) (head_of are) ∙ ap (λ l. seen y ∷ l) more.front_is; last_is = more.last_is }
  where
    head_of : {X : Type 0} {a b : X} {xs ys : List X} → a ∷ xs ≡ b ∷ ys → a ≡ b
    head_of e = cc

    tail_of : {X : Type 0} {a b : X} {xs ys : List X} → a ∷ xs ≡ b ∷ ys → xs ≡ ys
    tail_of e = cc

-- THE MARK OF A PUT

-- a ticket covers an entry put behind others, or it covers just what it covers of those
covered_push : {T : Type 0} (t : ℕ) (front : List (Entry T)) (e : Entry T) → covered_by (front ++ e ∷ []) t ≡ covered_by front t ++ map seen (filter (is_covered t) (e ∷ []))
covered_push t front e = ap (map seen) (filter-append (is_covered t) front (e ∷ [])) ∙ map-append seen (filter (is_covered t) front) (filter (is_covered t) (e ∷ []))

-- below its number it isn't covered
not_yet : {T : Type 0} (t : ℕ) (e : Entry T) → t < next_number e.number → is_covered t e ≡ false
not_yet t e lt = or_from (nat_lt e.number t) (t == last_number) (less (nat_lt e.number t) refl) (ne_eqb t last_number (λ same. absurd (omega (arith, same, lt))))
  where
    less : (b : Bool) → nat_lt e.number t ≡ b → b ≡ false
    less true is = absurd (omega (arith, ltb-true e.number t is, lt))
    less false is = refl

-- a ticket that doesn't cover it has a lower number
yet_above : {T : Type 0} (t : ℕ) (e : Entry T) → is_covered t e ≡ false → t < last_number → t < next_number e.number
yet_above t e other lt = omega (arith, ltb-false e.number t (or_parts (nat_lt e.number t) (t == last_number) other).0, lt)

module _ {T : Type 0} (name : T → List ℕ) (items new : List (Entry T)) (x : At T) (accepted later mark : ℕ) (once : EachHeightOnce (map seen items)) (free : is_taken name (map seen items) x ≡ false) (are : map seen new ≡ map seen items ++ x ∷ [])
    (covers : KeepsCovers accepted (covered_by items) (covered_by new)) (counted : AreCounted later new) (mark_is : IsMarkOf new mark) where
  parts : IsPushed items new x
  parts = pushed items new x are

  mark_next : mark ≡ next_number parts.last.number
  mark_next = mark_is parts.front parts.last parts.new_is

  -- what the tickets below its mark cover was held before
  pub covered_before : (t : ℕ) → t < mark → KeepsValues (covered_by new t) (map seen items)
  covered_before t below h v is =
      let none : is_covered t parts.last ≡ false = not_yet t parts.last (omega (arith, below, mark_next)) in
      let same : covered_by new t ≡ covered_by parts.front t = ap (λ l. covered_by l t) parts.new_is ∙ covered_push t parts.front parts.last ∙ rw (none, append-nil) refl in
      subst (λ l. value_at l h ≡ Some v) parts.front_is
      (filter_kept (is_covered t) parts.front (subst EachHeightOnce (sym parts.front_is) once) h v (subst (λ l. value_at l h ≡ Some v) same is))

  -- no ticket that was given out before covers it
  not_given : (t : ℕ) → t ≤ accepted → t < last_number → is_covered t parts.last ≡ false
  not_given t upto lt = by (is_covered t parts.last) refl
    where
      there : is_covered t parts.last ≡ true → Contains (map seen items) x
      there is =
          let held : covered_by new t ≡ covered_by parts.front t ++ x ∷ [] = ap (λ l. covered_by l t) parts.new_is ∙ covered_push t parts.front parts.last ∙ rw (is, parts.last_is) refl in
          filter_within (is_covered t) items x (subst (λ l. Contains l x) (sym held ∙ covers t upto lt) (Contains-append_right (covered_by parts.front t) (x ∷ []) x (zero, omega arith, refl)))

      by : (b : Bool) → is_covered t parts.last ≡ b → b ≡ false
      by false is = refl
      by true is = absurd (both (value_at-from_contains (map seen items) x once (there is)) (free_index name (map seen items) x free))
        where
          both : value_at (map seen items) x.height ≡ Some x.value → value_at (map seen items) x.height ≡ None → ⊥
          both some none = cc

  -- so its mark is above all their numbers, where these can go on
  pub mark_above : (accepted < mark) ⊎ (mark ≡ last_number)
  mark_above = by (cases_lt accepted last_number)
    where
      by : (accepted < last_number) ⊎ (last_number ≤ accepted) → (accepted < mark) ⊎ (mark ≡ last_number)
      by (inl lt) = inl (omega (arith, yet_above accepted parts.last (not_given accepted (omega arith) lt) lt, mark_next))
      by (inr le) = inr (omega (arith, yet_above (last_number - 1) parts.last (not_given (last_number - 1) (omega (arith, le)) (omega arith)) (omega arith), mark_next))

  pub mark_last : mark ≤ last_number
  mark_last = omega (arith, mark_next)

  pub mark_upto : mark ≤ later
  mark_upto = by (or_cases (nat_lt parts.last.number later) (later == last_number) (last_counted parts.front parts.last (subst (AreCounted later) parts.new_is counted)))
    where
      last_counted : (front : List (Entry T)) (e : Entry T) → AreCounted later (front ++ e ∷ []) → is_covered later e ≡ true
      last_counted front e all = (AllByRecursion-append_right (λ f. is_covered later f ≡ true) front (e ∷ []) all).0

      by : (nat_lt parts.last.number later ≡ true) ⊎ ((later == last_number) ≡ true) → mark ≤ later
      by (inl less) = omega (arith, ltb-true parts.last.number later less, mark_next)
      by (inr same) = omega (arith, eqb-true later last_number same, mark_next)

  pub put_ordered : (marks : List ℕ) → accepted ≤ later → Ordered accepted marks → Ordered later (marks ++ mark ∷ [])
  put_ordered marks up o = ordered_push later mark marks below mark_upto mark_last (ordered_later accepted later marks up o)
    where
      below : AllByRecursion (λ n. n ≤ mark) marks
      below = ⊎_elim (λ above. all_upto accepted mark marks (omega (arith, above)) o) (λ same. subst (λ m. AllByRecursion (λ n. n ≤ m) marks) (sym same) (all_numbers accepted marks o)) mark_above

-- THE NUMBER OF A TICKET

filter_short : {X : Type 0} (p : X → Bool) (xs : List X) → length (filter p xs) ≤ length xs
filter_short p [] = omega arith
filter_short {X} p (x ∷ xs) = by (p x) (filter_short p xs)
  where
    by : (b : Bool) → length (filter p xs) ≤ length xs → length (cond b (x ∷ filter p xs) (filter p xs)) ≤ length (x ∷ xs)
    by true le = omega (arith, le)
    by false le = omega (arith, le)

all_by_length : {X : Type 0} (p : X → Bool) (xs : List X) → length (filter p xs) ≡ length xs → AllByRecursion (λ x. p x ≡ true) xs
all_by_length p [] is = tt
all_by_length {X} p (x ∷ xs) is = by (p x) refl (all_by_length p xs) is
  where
    by : (b : Bool) → p x ≡ b → (length (filter p xs) ≡ length xs → AllByRecursion (λ y. p y ≡ true) xs) → length (cond b (x ∷ filter p xs) (filter p xs)) ≡ length (x ∷ xs) → (p x ≡ true) × AllByRecursion (λ y. p y ≡ true) xs
    by true here more long = (here, more (omega (arith, long)))
    by false here more long = absurd (omega (arith, long, filter_short p xs))

covered_higher : {T : Type 0} (t m : ℕ) (e : Entry T) → t ≤ m → m ≤ last_number → is_covered t e ≡ true → is_covered m e ≡ true
covered_higher t m e up small is = by (or_cases (nat_lt e.number t) (t == last_number) is)
  where
    by : (nat_lt e.number t ≡ true) ⊎ ((t == last_number) ≡ true) → is_covered m e ≡ true
    by (inl less) = or_left (nat_lt e.number m) (m == last_number) (lt-ltb e.number m (omega (arith, ltb-true e.number t less, up)))
    by (inr same) = or_right (nat_lt e.number m) (m == last_number) (eq-eqb m last_number (omega (arith, eqb-true t last_number same, up, small)))

-- where a ticket covers all that is held, a higher one does too
pub covers_all : {T : Type 0} (items : List (Entry T)) (t m : ℕ) → t ≤ m → m ≤ last_number → covered_by items t ≡ map seen items → covered_by items m ≡ map seen items
covers_all items t m up small is = ap (map seen) (filter_pass (is_covered m) items (AllByRecursion-weaker _ _ (λ e. covered_higher t m e up small) items (all_by_length (is_covered t) items (sym (length-map (filter (is_covered t) items) seen) ∙ ap length is ∙ length-map items seen))))

-- A ticket has written what waited as it was given out, and nothing that came later.
pub parted : (t count : ℕ) (before later : List ℕ) → AllByRecursion (λ n. n ≤ t) before → AllByRecursion (λ n. t < n) later → AllByRecursion (λ n. n ≤ t) (take count (before ++ later)) → AllByRecursion (λ n. t < n) (drop count (before ++ later)) → count ≤ length (before ++ later) → count ≡ length before
parted t zero [] later old new front rest within = refl
parted t zero (n ∷ before) later old new front rest within = absurd (omega (arith, old.0, rest.0))
parted t (suc k) [] [] old new front rest within = absurd (omega (arith, within))
parted t (suc k) [] (n ∷ later) old new front rest within = absurd (omega (arith, new.0, front.0))
parted t (suc k) (n ∷ before) later old new front rest within = ap suc (parted t k before later old.1 new front.1 rest (omega (arith, within)))

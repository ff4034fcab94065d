-- Messages that wait, by their turns.
use Rattle.std.proofs.Common.{Bool, List, None, Option, Some, [], ap, arith, cond, false, filter, if◌then◌else◌, not, refl, subst, sym, true, true≢false, ℕ, ◌++◌, ◌<◌, ◌==◌, ◌||◌, ◌∙◌, ◌∷◌, ◌≡◌, ◌≤◌}
use Rattle.std.proofs.lemmas.Bool.Decides.{nat_tests}
use Rattle.std.specs.BTreeMap.{BTreeMap, get, insert_entry, is_at}
use Rattle.std.specs.BTreeSet.{BTreeSet, contains}
use Rattle.std.specs.List.{AllByRecursion}
use Rattle.std.specs.Map.{lookup, remove_entry, set_value}
use Rattle.std.specs.Ordering.{is_gt, match_ordering, nat_cmp}
use Rattle.std.specs.declared.cmp.Ordering.TheVariants.{Greater}
use Rattle.std.specs.Prelude.{IfSome, nat_le, nat_lt}
use Rattle.mar_model.specs.Messages.{Queued, hint_finalized}
use Rattle.mar_inbox.specs.Policy.{hint_of, is_hint, is_stale, passes, read_of, told, with_hint, with_hint_targets, with_targets}
use Rattle.mar_inbox.specs.Turns.{HasNoneBelow, HasNoneUpTo, HintsAbove, IsHinted, IsIndexed, IsRead, IsRising, Leaves, ReadsFrom, read_cmp, seen, stale_one, without_stale}

-- LISTS

module _ {T : Type 0} where
  pub all_push : (P : T → Type 0) (xs : List T) (x : T) → AllByRecursion P xs → P x → AllByRecursion P (xs ++ x ∷ [])
  all_push P [] x all p = (p, tt)
  all_push P (y ∷ ys) x all p = (all.0, all_push P ys x all.1 p)

  -- what holds of each that the premise holds of
  pub all_so : (P Q : T → Type 0) (xs : List T) → ((x : T) → P x → Q x) → AllByRecursion P xs → AllByRecursion Q xs
  all_so P Q [] so all = tt
  all_so P Q (x ∷ xs) so all = (so x all.0, all_so P Q xs so all.1)

  pub all_both : (P Q : T → Type 0) (xs : List T) → AllByRecursion P xs → AllByRecursion Q xs → AllByRecursion (λ x. P x × Q x) xs
  all_both P Q [] p q = tt
  all_both P Q (x ∷ xs) p q = ((p.0, q.0), all_both P Q xs p.1 q.1)

-- ONE MORE

module _ {X : Type 0} where
  pub rising_push : (es : List (ℕ × X)) (next : ℕ) (m : X) → IsRising es → AllByRecursion (λ e. e.0 < next) es → IsRising (es ++ (next, m) ∷ [])
  rising_push [] next m rising below = (tt, tt)
  rising_push (e ∷ es) next m rising below = (all_push (λ x. e.0 < x.0) es (next, m) rising.0 below.0, rising_push es next m rising.1 below.1)

  pub insert_last : (es : List (ℕ × X)) (next : ℕ) (m : X) → AllByRecursion (λ e. e.0 < next) es → insert_entry nat_cmp es next m ≡ es ++ (next, m) ∷ []
  insert_last [] next m below = refl
  insert_last (e ∷ es) next m below =
      let above : nat_cmp next e.0 ≡ Greater = greater next e.0 below.0 in
      ap (λ o. match_ordering o ((next, m) ∷ e ∷ es) ((e.0, m) ∷ es) (e ∷ insert_entry nat_cmp es next m)) above ∙ ap (λ xs. e ∷ xs) (insert_last es next m below.1)
    where
      greater : (a b : ℕ) → b < a → nat_cmp a b ≡ Greater
      greater a b above = grind (arith, nat_tests)

-- AT A TURN

same_turn : (t k : ℕ) → is_at (nat_cmp t) k ≡ true → t ≡ k
same_turn t k at = grind (arith, nat_tests)

other_turn : (t k : ℕ) → t < k → is_at (nat_cmp t) k ≡ false
other_turn t k below = grind (arith, nat_tests)

module _ {X : Type 0} where
  pub none_at : (t : ℕ) (es : List (ℕ × X)) → AllByRecursion (λ x. t < x.0) es → AllByRecursion (λ e. is_at (nat_cmp t) e.0 ≡ false) es
  none_at t es above = all_so (λ x. t < x.0) (λ e. is_at (nat_cmp t) e.0 ≡ false) es (λ x below. other_turn t x.0 below) above

  -- who is at a turn is found there
  pub found_at : (t : ℕ) (es : List (ℕ × X)) → IsRising es → AllByRecursion (λ e. is_at (nat_cmp t) e.0 ≡ true → lookup (is_at (nat_cmp t)) es ≡ Some e.1) es
  found_at t [] rising = tt
  found_at t (e ∷ es) rising = by (is_at (nat_cmp t) e.0) refl (found_at t es rising.1)
    where
      by : (b : Bool) → is_at (nat_cmp t) e.0 ≡ b → AllByRecursion (λ x. is_at (nat_cmp t) x.0 ≡ true → lookup (is_at (nat_cmp t)) es ≡ Some x.1) es
          → (is_at (nat_cmp t) e.0 ≡ true → cond b (Some e.1) (lookup (is_at (nat_cmp t)) es) ≡ Some e.1)
          × AllByRecursion (λ x. is_at (nat_cmp t) x.0 ≡ true → cond b (Some e.1) (lookup (is_at (nat_cmp t)) es) ≡ Some x.1) es
      by true at rest = (
        λ _. refl,
        all_so (λ x. is_at (nat_cmp t) x.0 ≡ false) (λ x. is_at (nat_cmp t) x.0 ≡ true → Some e.1 ≡ Some x.1) es (λ x no so. absurd (true≢false (sym so ∙ no)))
            (none_at t es (subst (λ k. AllByRecursion (λ x. k < x.0) es) (sym (same_turn t e.0 at)) rising.0)),
      )
      by false other rest = (λ so. absurd (true≢false (sym so ∙ other)), rest)

  pub removed_all : (P : ℕ × X → Type 0) (test : ℕ → Bool) (es : List (ℕ × X)) → AllByRecursion P es → AllByRecursion P (remove_entry test es)
  removed_all P test [] all = tt
  removed_all P test (e ∷ es) all = by (test e.0) (removed_all P test es all.1)
    where
      by : (b : Bool) → AllByRecursion P (remove_entry test es) → AllByRecursion P (cond b es (e ∷ remove_entry test es))
      by true rest = all.1
      by false rest = (all.0, rest)

  pub removed_rising : (test : ℕ → Bool) (es : List (ℕ × X)) → IsRising es → IsRising (remove_entry test es)
  removed_rising test [] rising = tt
  removed_rising test (e ∷ es) rising = by (test e.0) (removed_rising test es rising.1)
    where
      by : (b : Bool) → IsRising (remove_entry test es) → IsRising (cond b es (e ∷ remove_entry test es))
      by true rest = rising.1
      by false rest = (removed_all (λ x. e.0 < x.0) test es rising.0, rest)

  -- nobody is left at a turn that was removed
  pub removed_none : (t : ℕ) (es : List (ℕ × X)) → IsRising es → AllByRecursion (λ e. is_at (nat_cmp t) e.0 ≡ false) (remove_entry (is_at (nat_cmp t)) es)
  removed_none t [] rising = tt
  removed_none t (e ∷ es) rising = by (is_at (nat_cmp t) e.0) refl (removed_none t es rising.1)
    where
      by : (b : Bool) → is_at (nat_cmp t) e.0 ≡ b → AllByRecursion (λ e. is_at (nat_cmp t) e.0 ≡ false) (remove_entry (is_at (nat_cmp t)) es)
          → AllByRecursion (λ e. is_at (nat_cmp t) e.0 ≡ false) (cond b es (e ∷ remove_entry (is_at (nat_cmp t)) es))
      by true at rest = none_at t es (subst (λ k. AllByRecursion (λ x. k < x.0) es) (sym (same_turn t e.0 at)) rising.0)
      by false other rest = (other, rest)

-- A PRUNE

module _ {X : Type 0} (plain : X → Queued) (p : ℕ) where
  abbrev pub fresh : Queued → Bool
  fresh q = not (is_stale p q.message)

  removed_fresh : (test : ℕ → Bool) (es : List (ℕ × X)) (m : X) → lookup test es ≡ Some m → is_stale p (plain m).message ≡ true → filter fresh (seen plain (remove_entry test es)) ≡ filter fresh (seen plain es)
  removed_fresh test [] m found stale = absurd (none_is found)
    where
      none_is : {m : X} → None ≡ Some m → ⊥
      none_is e = cc
  removed_fresh test (e ∷ es) m found stale = by (test e.0) found (removed_fresh test es m)
    where
      by : (b : Bool) → cond b (Some e.1) (lookup test es) ≡ Some m → (lookup test es ≡ Some m → is_stale p (plain m).message ≡ true → filter fresh (seen plain (remove_entry test es)) ≡ filter fresh (seen plain es))
          → filter fresh (seen plain (cond b es (e ∷ remove_entry test es))) ≡ filter fresh (seen plain (e ∷ es))
      by true this rest =
          let is : e.1 ≡ m = some_same this in
          let dropped : fresh (plain e.1) ≡ false = ap (λ x. fresh (plain x)) is ∙ ap not stale in
          sym (ap (λ b. cond b (plain e.1 ∷ filter fresh (seen plain es)) (filter fresh (seen plain es))) dropped)
        where
          some_same : {x y : X} → Some x ≡ Some y → x ≡ y
          some_same e = cc
      by false other rest = ap (λ xs. cond (fresh (plain e.1)) (plain e.1 ∷ xs) xs) (rest other stale)

  -- what stays is what a prune leaves, in the same order; whoever is at the turn is not dropped by it
  pub record Drops (turn : ℕ) (old new : List (ℕ × X)) : Type 0 where
    pub same : filter fresh (seen plain new) ≡ filter fresh (seen plain old)
    pub rising : IsRising new
    pub at : AllByRecursion (λ e. is_at (nat_cmp turn) e.0 ≡ true → is_stale p (plain e.1).message ≡ false) new

  pub drops : (turn : ℕ) (es : List (ℕ × X)) → IsRising es → Drops turn es (without_stale plain p turn es)
  drops turn es rising = by (lookup (is_at (nat_cmp turn)) es) refl
    where
      by_stale : (m : X) → lookup (is_at (nat_cmp turn)) es ≡ Some m → (b : Bool) → is_stale p (plain m).message ≡ b
          → Drops turn es (if b then remove_entry (is_at (nat_cmp turn)) es else es)
      by_stale m found true stale = record {
        same = removed_fresh (is_at (nat_cmp turn)) es m found stale;
        rising = removed_rising (is_at (nat_cmp turn)) es rising;
        at = all_so (λ e. is_at (nat_cmp turn) e.0 ≡ false) (λ e. is_at (nat_cmp turn) e.0 ≡ true → is_stale p (plain e.1).message ≡ false) _ (λ e no so. absurd (true≢false (sym so ∙ no))) (removed_none turn es rising);
      }
      by_stale m found false fresh_one = record {
        same = refl;
        rising = rising;
        at = all_so (λ e. is_at (nat_cmp turn) e.0 ≡ true → lookup (is_at (nat_cmp turn)) es ≡ Some e.1) (λ e. is_at (nat_cmp turn) e.0 ≡ true → is_stale p (plain e.1).message ≡ false) es
            (λ e is so. ap (λ x. is_stale p (plain x).message) (some_same (sym (is so) ∙ found)) ∙ fresh_one) (found_at turn es rising);
      }
        where
          some_same : {x y : X} → Some x ≡ Some y → x ≡ y
          some_same e = cc

      by : (o : Option X) → lookup (is_at (nat_cmp turn)) es ≡ o
          → Drops turn es (if stale_one plain p o then remove_entry (is_at (nat_cmp turn)) es else es)
      by None nobody = record {
        same = refl;
        rising = rising;
        at = all_so (λ e. is_at (nat_cmp turn) e.0 ≡ true → lookup (is_at (nat_cmp turn)) es ≡ Some e.1) (λ e. is_at (nat_cmp turn) e.0 ≡ true → is_stale p (plain e.1).message ≡ false) es
            (λ e is so. absurd (none_is (sym nobody ∙ is so))) (found_at turn es rising);
      }
        where
          none_is : {x : X} → None ≡ Some x → ⊥
          none_is e = cc
      by (Some m) found = by_stale m found (is_stale p (plain m).message) refl

  pub drops_kept : (P : ℕ × X → Type 0) (turn : ℕ) (es : List (ℕ × X)) → AllByRecursion P es → AllByRecursion P (without_stale plain p turn es)
  drops_kept P turn es all = by (lookup (is_at (nat_cmp turn)) es)
    where
      by_stale : (b : Bool) → AllByRecursion P (if b then remove_entry (is_at (nat_cmp turn)) es else es)
      by_stale true = removed_all P (is_at (nat_cmp turn)) es all
      by_stale false = all

      by : (o : Option X) → AllByRecursion P (if stale_one plain p o then remove_entry (is_at (nat_cmp turn)) es else es)
      by None = all
      by (Some m) = by_stale (is_stale p (plain m).message)

  -- where none is stale, all stay
  pub all_fresh : (es : List (ℕ × X)) → AllByRecursion (λ e. is_stale p (plain e.1).message ≡ false) es → filter fresh (seen plain es) ≡ seen plain es
  all_fresh [] all = refl
  all_fresh (e ∷ es) all = ap (λ b. cond (not b) (plain e.1 ∷ filter fresh (seen plain es)) (filter fresh (seen plain es))) all.0 ∙ ap (λ xs. plain e.1 ∷ xs) (all_fresh es all.1)

-- THE INDEX, AS MESSAGES GO

some_turn : {a b : ℕ} → Some a ≡ Some b → a ≡ b
some_turn e = cc

none_some : {a : ℕ} → None ≡ Some a → ⊥
none_some e = cc

own_turn : (t : ℕ) → is_at (nat_cmp t) t ≡ true
own_turn t = grind (arith, nat_tests)

same_read : (h t k u : ℕ) → is_at (read_cmp (h, t)) (k, u) ≡ true → (h ≡ k) × (t ≡ u)
same_read h t k u at = (grind (arith, nat_tests), grind (arith, nat_tests))

module _ {X : Type 0} (plain : X → Queued) where
  hint_is : (o : Option ℕ) (q : Queued) (h : ℕ) → o ≡ hint_of q.message → o ≡ Some h → hint_of q.message ≡ Some h
  hint_is o q h is some = sym is ∙ some

  -- a place that a hint leaves, and where none such a hint stands any more
  pub hinted_without : (hints without : BTreeMap ℕ ℕ) (h t : ℕ) (es : List (ℕ × X))
      → ((k : ℕ) → get nat_cmp without k ≡ cond (is_at (nat_cmp h) k) None (get nat_cmp hints k)) → get nat_cmp hints h ≡ Some t
      → AllByRecursion (λ e. is_at (nat_cmp t) e.0 ≡ true → hint_of (plain e.1).message ≡ Some h → ⊥) es
      → AllByRecursion (IsHinted plain hints) es → AllByRecursion (IsHinted plain without) es
  hinted_without hints without h t es goes stood none all =
      all_so (λ e. (is_at (nat_cmp t) e.0 ≡ true → hint_of (plain e.1).message ≡ Some h → ⊥) × IsHinted plain hints e) (IsHinted plain without) es one
      (all_both (λ e. is_at (nat_cmp t) e.0 ≡ true → hint_of (plain e.1).message ≡ Some h → ⊥) (IsHinted plain hints) es none all)
    where
      one : (e : ℕ × X) → (is_at (nat_cmp t) e.0 ≡ true → hint_of (plain e.1).message ≡ Some h → ⊥) × IsHinted plain hints e → IsHinted plain without e
      one e both = by (hint_of (plain e.1).message) both.0 both.1
        where
          at : (k : ℕ) → ((is_at (nat_cmp t) e.0 ≡ true) → Some k ≡ Some h → ⊥) → get nat_cmp hints k ≡ Some e.0 → (b : Bool) → is_at (nat_cmp h) k ≡ b → cond b None (get nat_cmp hints k) ≡ Some e.0
          at k nobody stands false other = stands
          at k nobody stands true this =
              let is : h ≡ k = same_turn h k this in
              let turn : t ≡ e.0 = some_turn (sym stood ∙ (ap (get nat_cmp hints) is ∙ stands)) in
              absurd (nobody (subst (λ u. is_at (nat_cmp t) u ≡ true) turn (own_turn t)) (ap Some (sym is)))

          by : (o : Option ℕ) → (is_at (nat_cmp t) e.0 ≡ true → o ≡ Some h → ⊥) → IfSome o (λ k. get nat_cmp hints k ≡ Some e.0) → IfSome o (λ k. get nat_cmp without k ≡ Some e.0)
          by None nobody stands = tt
          by (Some k) nobody stands = goes k ∙ at k nobody stands (is_at (nat_cmp h) k) refl

  -- the same of a read
  pub read_without : (reads without : BTreeSet (ℕ × ℕ)) (h t : ℕ) (es : List (ℕ × X))
      → ((k : ℕ × ℕ) → contains read_cmp without k ≡ cond (is_at (read_cmp (h, t)) k) false (contains read_cmp reads k))
      → AllByRecursion (λ e. is_at (nat_cmp t) e.0 ≡ true → read_of (plain e.1).message ≡ Some h → ⊥) es
      → AllByRecursion (IsRead plain reads) es → AllByRecursion (IsRead plain without) es
  read_without reads without h t es goes none all =
      all_so (λ e. (is_at (nat_cmp t) e.0 ≡ true → read_of (plain e.1).message ≡ Some h → ⊥) × IsRead plain reads e) (IsRead plain without) es one
      (all_both (λ e. is_at (nat_cmp t) e.0 ≡ true → read_of (plain e.1).message ≡ Some h → ⊥) (IsRead plain reads) es none all)
    where
      one : (e : ℕ × X) → (is_at (nat_cmp t) e.0 ≡ true → read_of (plain e.1).message ≡ Some h → ⊥) × IsRead plain reads e → IsRead plain without e
      one e both = by (read_of (plain e.1).message) both.0 both.1
        where
          at : (k : ℕ) → (is_at (nat_cmp t) e.0 ≡ true → Some k ≡ Some h → ⊥) → contains read_cmp reads (k, e.0) ≡ true → (b : Bool) → is_at (read_cmp (h, t)) (k, e.0) ≡ b
              → cond b false (contains read_cmp reads (k, e.0)) ≡ true
          at k nobody among false other = among
          at k nobody among true this =
              let is = same_read h t k e.0 this in
              absurd (nobody (subst (λ u. is_at (nat_cmp t) u ≡ true) is.1 (own_turn t)) (ap Some (sym is.0)))

          by : (o : Option ℕ) → (is_at (nat_cmp t) e.0 ≡ true → o ≡ Some h → ⊥) → IfSome o (λ k. contains read_cmp reads (k, e.0) ≡ true) → IfSome o (λ k. contains read_cmp without (k, e.0) ≡ true)
          by None nobody among = tt
          by (Some k) nobody among = goes (k, e.0) ∙ at k nobody among (is_at (read_cmp (h, t)) (k, e.0)) refl

  -- a hint or a read that a prune drops is none of those that it doesn't
  stale_hint : (p h : ℕ) (q : Queued) → h ≤ p → hint_of q.message ≡ Some h → is_stale p q.message ≡ true
  stale_hint p h q below is = rw is (or_true (passes (λ k. nat_lt k p) (read_of q.message)) (nat_le h p) (le_is h p below))
    where
      or_true : (a b : Bool) → b ≡ true → (a || b) ≡ true
      or_true true b e = refl
      or_true false b e = e

      le_is : (a b : ℕ) → a ≤ b → nat_le a b ≡ true
      le_is a b le = grind (arith, nat_tests)

  stale_read : (p h : ℕ) (q : Queued) → h < p → read_of q.message ≡ Some h → is_stale p q.message ≡ true
  stale_read p h q below is = rw (is, lt_is h p below) refl
    where
      lt_is : (a b : ℕ) → a < b → nat_lt a b ≡ true
      lt_is a b lt = grind (arith, nat_tests)

  pub no_stale_hint : (p h t : ℕ) (es : List (ℕ × X)) → h ≤ p → AllByRecursion (λ e. is_at (nat_cmp t) e.0 ≡ true → is_stale p (plain e.1).message ≡ false) es
      → AllByRecursion (λ e. is_at (nat_cmp t) e.0 ≡ true → hint_of (plain e.1).message ≡ Some h → ⊥) es
  no_stale_hint p h t es below all =
      all_so (λ e. is_at (nat_cmp t) e.0 ≡ true → is_stale p (plain e.1).message ≡ false) (λ e. is_at (nat_cmp t) e.0 ≡ true → hint_of (plain e.1).message ≡ Some h → ⊥) es
      (λ e no at is. true≢false (sym (stale_hint p h (plain e.1) below is) ∙ no at)) all

  pub no_stale_read : (p h t : ℕ) (es : List (ℕ × X)) → h < p → AllByRecursion (λ e. is_at (nat_cmp t) e.0 ≡ true → is_stale p (plain e.1).message ≡ false) es
      → AllByRecursion (λ e. is_at (nat_cmp t) e.0 ≡ true → read_of (plain e.1).message ≡ Some h → ⊥) es
  no_stale_read p h t es below all =
      all_so (λ e. is_at (nat_cmp t) e.0 ≡ true → is_stale p (plain e.1).message ≡ false) (λ e. is_at (nat_cmp t) e.0 ≡ true → read_of (plain e.1).message ≡ Some h → ⊥) es
      (λ e no at is. true≢false (sym (stale_read p h (plain e.1) below is) ∙ no at)) all

-- SEVERAL DROPS

module _ {X : Type 0} (plain : X → Queued) (p : ℕ) where
  pub leaves_all : (es : List (ℕ × X)) → Leaves plain p es es
  leaves_all es = record { same = refl; rising = λ r. r; below = λ n b. b; hinted = λ hints h. h; read = λ reads r. r; hints_above = λ a. a }

  pub leaves_fewer : (old es : List (ℕ × X)) (turn : ℕ) → IsRising es → Leaves plain p old es → Leaves plain p old (without_stale plain p turn es)
  leaves_fewer old es turn rising leaves = record {
    same = (drops plain p turn es rising).same ∙ leaves.same;
    rising = λ r. (drops plain p turn es rising).rising;
    below = λ n b. drops_kept plain p (λ e. e.0 < n) turn es (leaves.below n b);
    hinted = λ hints h. drops_kept plain p (IsHinted plain hints) turn es (leaves.hinted hints h);
    read = λ reads r. drops_kept plain p (IsRead plain reads) turn es (leaves.read reads r);
    hints_above = λ a. drops_kept plain p (HintsAbove plain p) turn es (leaves.hints_above a);
  }

  pub leaves_both : (old es new : List (ℕ × X)) → Leaves plain p old es → Leaves plain p es new → Leaves plain p old new
  leaves_both old es new a b = record {
    same = b.same ∙ a.same;
    rising = λ r. b.rising (a.rising r);
    below = λ n h. b.below n (a.below n h);
    hinted = λ hints h. b.hinted hints (a.hinted hints h);
    read = λ reads h. b.read reads (a.read reads h);
    hints_above = λ h. b.hints_above (a.hints_above h);
  }

  -- a hint is dropped with its place
  pub hint_dropped : (es : List (ℕ × X)) (hints without : BTreeMap ℕ ℕ) (h turn : ℕ) → IsRising es → h ≤ p → get nat_cmp hints h ≡ Some turn
      → ((k : ℕ) → get nat_cmp without k ≡ cond (is_at (nat_cmp h) k) None (get nat_cmp hints k))
      → AllByRecursion (IsHinted plain hints) es → AllByRecursion (IsHinted plain without) (without_stale plain p turn es)
  hint_dropped es hints without h turn rising below stood goes all =
      hinted_without plain hints without h turn (without_stale plain p turn es) goes stood
      (no_stale_hint plain p h turn (without_stale plain p turn es) below (drops plain p turn es rising).at)
      (drops_kept plain p (IsHinted plain hints) turn es all)

  pub read_dropped : (es : List (ℕ × X)) (reads without : BTreeSet (ℕ × ℕ)) (h turn : ℕ) → IsRising es → h < p
      → ((k : ℕ × ℕ) → contains read_cmp without k ≡ cond (is_at (read_cmp (h, turn)) k) false (contains read_cmp reads k))
      → AllByRecursion (IsRead plain reads) es → AllByRecursion (IsRead plain without) (without_stale plain p turn es)
  read_dropped es reads without h turn rising below goes all =
      read_without plain reads without h turn (without_stale plain p turn es) goes
      (no_stale_read plain p h turn (without_stale plain p turn es) below (drops plain p turn es rising).at)
      (drops_kept plain p (IsRead plain reads) turn es all)

  -- where no place is left at or below, none hints so
  pub hints_above : (es : List (ℕ × X)) (hints : BTreeMap ℕ ℕ) → HasNoneUpTo p hints → AllByRecursion (IsHinted plain hints) es → AllByRecursion (HintsAbove plain p) es
  hints_above es hints none all = all_so (IsHinted plain hints) (HintsAbove plain p) es (λ e. by e (hint_of (plain e.1).message)) all
    where
      by : (e : ℕ × X) (o : Option ℕ) → IfSome o (λ h. get nat_cmp hints h ≡ Some e.0) → IfSome o (λ h. p < h)
      by e None stands = tt
      by e (Some h) stands = none h e.0 stands

  pub reads_from : (es : List (ℕ × X)) (reads : BTreeSet (ℕ × ℕ)) → HasNoneBelow p reads → AllByRecursion (IsRead plain reads) es → AllByRecursion (ReadsFrom plain p) es
  reads_from es reads none all = all_so (IsRead plain reads) (ReadsFrom plain p) es (λ e. by e (read_of (plain e.1).message)) all
    where
      by : (e : ℕ × X) (o : Option ℕ) → IfSome o (λ h. contains read_cmp reads (h, e.0) ≡ true) → IfSome o (λ h. p ≤ h)
      by e None among = tt
      by e (Some h) among = none h e.0 among

  -- what is left then is what a prune leaves
  pub pruned : (old es : List (ℕ × X)) → Leaves plain p old es → AllByRecursion (HintsAbove plain p) es → AllByRecursion (ReadsFrom plain p) es
      → seen plain es ≡ filter (λ q. not (is_stale p q.message)) (seen plain old)
  pruned old es leaves hints reads =
      sym (all_fresh plain p es (all_so (λ e. HintsAbove plain p e × ReadsFrom plain p e) (λ e. is_stale p (plain e.1).message ≡ false) es
      (λ e both. by (read_of (plain e.1).message) (hint_of (plain e.1).message) both.1 both.0) (all_both (HintsAbove plain p) (ReadsFrom plain p) es hints reads)))
      ∙ leaves.same
    where
      not_lt : (a b : ℕ) → b ≤ a → nat_lt a b ≡ false
      not_lt a b le = grind (arith, nat_tests)

      not_le : (a b : ℕ) → b < a → nat_le a b ≡ false
      not_le a b lt = grind (arith, nat_tests)

      by : (r h : Option ℕ) → IfSome r (λ k. p ≤ k) → IfSome h (λ k. p < k) → (passes (λ k. nat_lt k p) r || passes (λ k. nat_le k p) h) ≡ false
      by None None from above = refl
      by None (Some k) from above = not_le k p above
      by (Some k) None from above = rw (not_lt k p from) refl
      by (Some k) (Some j) from above = rw (not_lt k p from) (not_le j p above)

-- the least read is no higher than any
pub least_read : (p h t k u : ℕ) → is_gt (read_cmp (h, t) (k, u)) ≡ false → p ≤ h → p ≤ k
least_read p h t k u least from = grind (arith, nat_tests)

-- IN PLACE

module _ {X : Type 0} where
  -- what holds of each holds with another in the place of one
  pub set_all : (P : ℕ × X → Type 0) (test : ℕ → Bool) (es : List (ℕ × X)) (m w : X) → lookup test es ≡ Some m → ((k : ℕ) → P (k, m) → P (k, w)) → AllByRecursion P es → AllByRecursion P (set_value test es w)
  set_all P test [] m w found so all = tt
  set_all P test (e ∷ es) m w found so all = by (test e.0) found (λ rest. set_all P test es m w rest so all.1)
    where
      some_same : {x y : X} → Some x ≡ Some y → x ≡ y
      some_same e = cc

      by : (b : Bool) → cond b (Some e.1) (lookup test es) ≡ Some m → (lookup test es ≡ Some m → AllByRecursion P (set_value test es w)) → AllByRecursion P (cond b ((e.0, w) ∷ es) (e ∷ set_value test es w))
      by true this rest = (so e.0 (subst (λ x. P (e.0, x)) (some_same this) all.0), all.1)
      by false other rest = (all.0, rest other)

  pub set_rising : (test : ℕ → Bool) (es : List (ℕ × X)) (m w : X) → lookup test es ≡ Some m → IsRising es → IsRising (set_value test es w)
  set_rising test [] m w found rising = tt
  set_rising test (e ∷ es) m w found rising = by (test e.0) found (λ rest. set_rising test es m w rest rising.1)
    where
      by : (b : Bool) → cond b (Some e.1) (lookup test es) ≡ Some m → (lookup test es ≡ Some m → IsRising (set_value test es w)) → IsRising (cond b ((e.0, w) ∷ es) (e ∷ set_value test es w))
      by true this rest = rising
      by false other rest = (set_all (λ x. e.0 < x.0) test es m w other (λ k h. h) rising.0, rest other)

module _ {X : Type 0} (plain : X → Queued) where
  pub set_indexed : (test : ℕ → Bool) (es : List (ℕ × X)) (m w : X) (next : ℕ) (hints : BTreeMap ℕ ℕ) (reads : BTreeSet (ℕ × ℕ)) → lookup test es ≡ Some m
      → hint_of (plain w).message ≡ hint_of (plain m).message → read_of (plain w).message ≡ read_of (plain m).message
      → IsIndexed plain es next hints reads → IsIndexed plain (set_value test es w) next hints reads
  set_indexed test es m w next hints reads found hint read i = record {
    rising = set_rising test es m w found i.rising;
    below = set_all (λ e. e.0 < next) test es m w found (λ k h. h) i.below;
    hinted = set_all (IsHinted plain hints) test es m w found (λ k. subst (λ o. IfSome o (λ h. get nat_cmp hints h ≡ Some k)) (sym hint)) i.hinted;
    read = set_all (IsRead plain reads) test es m w found (λ k. subst (λ o. IfSome o (λ h. contains read_cmp reads (h, k) ≡ true)) (sym read)) i.read;
  }

  -- one that says the same
  pub set_same : (test : ℕ → Bool) (es : List (ℕ × X)) (m w : X) → lookup test es ≡ Some m → plain w ≡ plain m → seen plain (set_value test es w) ≡ seen plain es
  set_same test [] m w found same = refl
  set_same test (e ∷ es) m w found same = by (test e.0) found (λ rest. set_same test es m w rest same)
    where
      some_same : {x y : X} → Some x ≡ Some y → x ≡ y
      some_same e = cc

      by : (b : Bool) → cond b (Some e.1) (lookup test es) ≡ Some m → (lookup test es ≡ Some m → seen plain (set_value test es w) ≡ seen plain es)
          → seen plain (cond b ((e.0, w) ∷ es) (e ∷ set_value test es w)) ≡ plain e.1 ∷ seen plain es
      by true this rest = ap (λ q. q ∷ seen plain es) (same ∙ ap plain (sym (some_same this)))
      by false other rest = ap (λ qs. plain e.1 ∷ qs) (rest other)

  -- a hint that takes in another
  pub set_hint : (t h : ℕ) (peers : List ℕ) (es : List (ℕ × X)) (m w : X) → lookup (is_at (nat_cmp t)) es ≡ Some m
      → AllByRecursion (λ e. is_at (nat_cmp t) e.0 ≡ is_hint h (plain e.1)) es → plain w ≡ with_hint_targets peers (plain m)
      → seen plain (set_value (is_at (nat_cmp t)) es w) ≡ with_hint h peers (seen plain es)
  set_hint t h peers [] m w found all is = absurd (none_is found)
    where
      none_is : {x : X} → None ≡ Some x → ⊥
      none_is e = cc
  set_hint t h peers (e ∷ es) m w found all is = by (is_at (nat_cmp t) e.0) (sym all.0) found (λ rest. set_hint t h peers es m w rest all.1 is)
    where
      some_same : {x y : X} → Some x ≡ Some y → x ≡ y
      some_same e = cc

      by : (b : Bool) → is_hint h (plain e.1) ≡ b → cond b (Some e.1) (lookup (is_at (nat_cmp t)) es) ≡ Some m
          → (lookup (is_at (nat_cmp t)) es ≡ Some m → seen plain (set_value (is_at (nat_cmp t)) es w) ≡ with_hint h peers (seen plain es))
          → seen plain (cond b ((e.0, w) ∷ es) (e ∷ set_value (is_at (nat_cmp t)) es w)) ≡ (if is_hint h (plain e.1) then with_hint_targets peers (plain e.1) ∷ seen plain es else plain e.1 ∷ with_hint h peers (seen plain es))
      by true this found rest = rw this (ap (λ q. q ∷ seen plain es) (is ∙ ap (λ x. with_hint_targets peers (plain x)) (sym (some_same found))))
      by false other found rest = rw other (ap (λ qs. plain e.1 ∷ qs) (rest found))

  -- the first hint of its height
  pub new_hint : (h : ℕ) (peers : List ℕ) (qs : List Queued) → AllByRecursion (λ q. is_hint h q ≡ false) qs → with_hint h peers qs ≡ qs ++ told (hint_finalized h (with_targets [] peers)) ∷ []
  new_hint h peers [] all = refl
  new_hint h peers (q ∷ qs) all = rw all.0 (ap (λ xs. q ∷ xs) (new_hint h peers qs all.1))

  pub seen_all : (P : Queued → Type 0) (es : List (ℕ × X)) → AllByRecursion (λ e. P (plain e.1)) es → AllByRecursion P (seen plain es)
  seen_all P [] all = tt
  seen_all P (e ∷ es) all = (all.0, seen_all P es all.1)

  pub seen_push : (es : List (ℕ × X)) (t : ℕ) (m : X) → seen plain (es ++ (t, m) ∷ []) ≡ seen plain es ++ plain m ∷ []
  seen_push [] t m = refl
  seen_push (e ∷ es) t m = ap (λ xs. plain e.1 ∷ xs) (seen_push es t m)

  -- the last one in its place
  pub set_last : (es : List (ℕ × X)) (t : ℕ) (m w : X) → AllByRecursion (λ e. e.0 < t) es → set_value (is_at (nat_cmp t)) (es ++ (t, m) ∷ []) w ≡ es ++ (t, w) ∷ []
  set_last [] t m w below = ap (λ b. cond b ((t, w) ∷ []) ((t, m) ∷ [])) (own_turn t)
  set_last (e ∷ es) t m w below = ap (λ b. cond b ((e.0, w) ∷ (es ++ (t, m) ∷ [])) (e ∷ set_value (is_at (nat_cmp t)) (es ++ (t, m) ∷ []) w)) (before t e.0 below.0) ∙ ap (λ xs. e ∷ xs) (set_last es t m w below.1)
    where
      before : (a b : ℕ) → b < a → is_at (nat_cmp a) b ≡ false
      before a b lt = grind (arith, nat_tests)

  pub lookup_last : (es : List (ℕ × X)) (t : ℕ) (m : X) → AllByRecursion (λ e. e.0 < t) es → lookup (is_at (nat_cmp t)) (es ++ (t, m) ∷ []) ≡ Some m
  lookup_last [] t m below = ap (λ b. cond b (Some m) None) (own_turn t)
  lookup_last (e ∷ es) t m below = ap (λ b. cond b (Some e.1) (lookup (is_at (nat_cmp t)) (es ++ (t, m) ∷ []))) (before t e.0 below.0) ∙ lookup_last es t m below.1
    where
      before : (a b : ℕ) → b < a → is_at (nat_cmp a) b ≡ false
      before a b lt = grind (arith, nat_tests)

  -- WHERE A HINT STANDS

  -- a hint of this height is at the turn that its height tells
  hint_turn : (hints : BTreeMap ℕ ℕ) (h : ℕ) (e : ℕ × X) → IsHinted plain hints e → is_hint h (plain e.1) ≡ true → get nat_cmp hints h ≡ Some e.0
  hint_turn hints h e stands is = by (hint_of (plain e.1).message) stands is
    where
      same : (k : ℕ) → k == h ≡ true → k ≡ h
      same k so = grind (arith, nat_tests)

      by : (o : Option ℕ) → IfSome o (λ k. get nat_cmp hints k ≡ Some e.0) → passes (λ k. k == h) o ≡ true → get nat_cmp hints h ≡ Some e.0
      by None at so = absurd (true≢false (sym so))
      by (Some k) at so = subst (λ j. get nat_cmp hints j ≡ Some e.0) (same k so) at

  if_hint : (b : Bool) → (b ≡ true → ⊥) → b ≡ false
  if_hint true not_so = absurd (not_so refl)
  if_hint false not_so = refl

  -- its height tells of none
  pub no_hint_told : (hints : BTreeMap ℕ ℕ) (h : ℕ) (es : List (ℕ × X)) → get nat_cmp hints h ≡ None → AllByRecursion (IsHinted plain hints) es → AllByRecursion (λ e. is_hint h (plain e.1) ≡ false) es
  no_hint_told hints h es none all =
      all_so (IsHinted plain hints) (λ e. is_hint h (plain e.1) ≡ false) es (λ e stands. if_hint _ (λ so. none_some (sym none ∙ hint_turn hints h e stands so))) all

  -- at the turn that it tells stands none
  pub no_hint_there : (hints : BTreeMap ℕ ℕ) (h t : ℕ) (es : List (ℕ × X)) → get nat_cmp hints h ≡ Some t → IsRising es
      → ((m : X) → lookup (is_at (nat_cmp t)) es ≡ Some m → is_hint h (plain m) ≡ false)
      → AllByRecursion (IsHinted plain hints) es → AllByRecursion (λ e. is_hint h (plain e.1) ≡ false) es
  no_hint_there hints h t es told_at rising other all =
      all_so (λ e. IsHinted plain hints e × (is_at (nat_cmp t) e.0 ≡ true → lookup (is_at (nat_cmp t)) es ≡ Some e.1)) (λ e. is_hint h (plain e.1) ≡ false) es
      (λ e both. if_hint _ (λ so.
      let turn : t ≡ e.0 = some_turn (sym told_at ∙ hint_turn hints h e both.0 so) in
      true≢false (sym so ∙ other e.1 (both.1 (subst (λ u. is_at (nat_cmp t) u ≡ true) turn (own_turn t))))))
      (all_both (IsHinted plain hints) (λ e. is_at (nat_cmp t) e.0 ≡ true → lookup (is_at (nat_cmp t)) es ≡ Some e.1) es all (found_at t es rising))

  -- it stands there, and nowhere else
  pub hint_there : (hints : BTreeMap ℕ ℕ) (h t : ℕ) (m : X) (es : List (ℕ × X)) → get nat_cmp hints h ≡ Some t → IsRising es → lookup (is_at (nat_cmp t)) es ≡ Some m → is_hint h (plain m) ≡ true
      → AllByRecursion (IsHinted plain hints) es → AllByRecursion (λ e. is_at (nat_cmp t) e.0 ≡ is_hint h (plain e.1)) es
  hint_there hints h t m es told_at rising found so all =
      all_so (λ e. IsHinted plain hints e × (is_at (nat_cmp t) e.0 ≡ true → lookup (is_at (nat_cmp t)) es ≡ Some e.1)) (λ e. is_at (nat_cmp t) e.0 ≡ is_hint h (plain e.1)) es
      (λ e both. by e both.0 both.1 (is_at (nat_cmp t) e.0) refl)
      (all_both (IsHinted plain hints) (λ e. is_at (nat_cmp t) e.0 ≡ true → lookup (is_at (nat_cmp t)) es ≡ Some e.1) es all (found_at t es rising))
    where
      some_same : {x y : X} → Some x ≡ Some y → x ≡ y
      some_same e = cc

      by : (e : ℕ × X) → IsHinted plain hints e → (is_at (nat_cmp t) e.0 ≡ true → lookup (is_at (nat_cmp t)) es ≡ Some e.1) → (b : Bool) → is_at (nat_cmp t) e.0 ≡ b → is_at (nat_cmp t) e.0 ≡ is_hint h (plain e.1)
      by e stands there true at = at ∙ sym (ap (λ x. is_hint h (plain x)) (some_same (sym (there at) ∙ found)) ∙ so)
      by e stands there false off = off ∙ sym (if_hint (is_hint h (plain e.1)) (λ is.
          let turn : t ≡ e.0 = some_turn (sym told_at ∙ hint_turn hints h e stands is) in
          true≢false (sym (subst (λ u. is_at (nat_cmp t) u ≡ true) turn (own_turn t)) ∙ off)))

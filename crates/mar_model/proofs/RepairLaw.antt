-- The law of repair: where a walk ended, what was asked for is what the law says of the blocks that are held then.
use Rattle.std.proofs.Common.{◌≡◌, ◌⊎◌, inl, inr, ⊎_elim, ◌∷◌, [], List, ◌++◌, length, map, take, option_and_then, option_map, is_some, Contains, IsTrue, IsFalse, Option, None, Some, Bool, true, false, if◌then◌else◌, ◌==◌, ℕ, zero, suc, ◌+◌, ◌-◌, ◌<◌, ◌≤◌, arith, refl, sym, ◌∙◌, ap, subst}
use Rattle.std.specs.List.{AllByRecursion}
use Rattle.std.proofs.lemmas.Bool.{cases_lt}
use Rattle.std.proofs.lemmas.Bool.Decides.{nat_tests}
use Rattle.std.proofs.lemmas.List.Elements.{Contains-append_left, Contains-append_right}
use Rattle.mar_cert.specs.Block.{Block}
use Rattle.mar_cert.specs.Finalization.{Finalization}
use Rattle.mar_key.specs.Keys.{Call}
use Rattle.mar_store.specs.Changes.{heights}
use Rattle.mar_store.specs.Gaps.{BeginsNext, missing_from, missing_items, next_start}
use Rattle.mar_store.specs.Kept.{At, has_height, value_at}
use Rattle.mar_store.specs.Ranges.{ranges}
use Rattle.mar_store.proofs.GapHeights.{start_none, start_some}
use Rattle.mar_store.proofs.Lookups.{AllByRecursion-append, AllByRecursion-value_at, Contains-from_value, has_height-from_contains, value-from_has_height}
use Rattle.mar_store.proofs.MissingHeights.{missing_all, missing_ascend, missing_only}
use Rattle.mar_model.specs.Repair.{EndsFills, Search, fetch_asks, fill_of, gap_asks, height_fetch, look_up, of_height, parent_fetch, parent_of, parent_wanted, upper_end}
use Rattle.mar_model.specs.Requests.{AsksHeight, AsksParentOf, IsGapIn, IsLowGapIn, IsRepairAskOf, IsUpperEndIn}
use Rattle.mar_model.specs.Stored.{is_held}
use Rattle.mar_model.proofs.Lowest.{Apart-pairs, lowest-all, lowest-only}
use Rattle.mar_model.proofs.Newest.{contains_height, entry_of}

-- HEIGHTS

held_in : {T : Type 0} (held : List (At T)) (h : ℕ) → IsTrue (has_height held h) → Contains (heights held) h
held_in held h has = let (v, is) = value-from_has_height held h has in contains_height held _ (Contains-from_value held h v is)

in_held : {T : Type 0} (held : List (At T)) (h : ℕ) → Contains (heights held) h → IsTrue (has_height held h)
in_held held h there = let (x, has, at) = entry_of held h there in subst (λ k. IsTrue (has_height held k)) at (has_height-from_contains held x has)

both : (b : Bool) → IsFalse b → IsTrue b → ⊥
both b off on = let no : false ≡ true = sym off ∙ on in cc

module _ (held : List (At Block)) (from : ℕ) where
  abbrev missing : List ℕ
  missing = missing_from (ranges (heights held)) from

  gap_missing : (h : ℕ) → IsGapIn held from h → Contains missing h
  gap_missing h (above, lacks, k, below, there) = missing_all (heights held) from h (record { from = above; lacks = λ has. both (has_height held h) lacks (in_held held h has); above = k; held = held_in held k there; below = below })

  unheld : (h : ℕ) → (Contains (heights held) h → ⊥) → IsFalse (has_height held h)
  unheld h lacks = by (has_height held h) refl
    where
      by : (b : Bool) → has_height held h ≡ b → b ≡ false
      by true is = absurd (lacks (held_in held h is))
      by false is = refl

  missing_gap : (h : ℕ) → Contains missing h → IsGapIn held from h
  missing_gap h has = let is = missing_only (heights held) from h has in (is.from, unheld h is.lacks, is.above, is.below, in_held held is.above is.held)

  -- the lowest missing heights are asked for
  pub heights_asked : (most h : ℕ) (below : List ℕ) → IsGapIn held from h → ((k : ℕ) → IsGapIn held from k → k < h → Contains below k) → length below < most → Contains (missing_items (ranges (heights held)) from most) h
  heights_asked most h below gap all few = lowest-all from most h missing below (missing_ascend (heights held) from) (gap_missing h gap) (λ k there lower. all k (missing_gap k there) lower) few

  -- and no others
  pub heights_low : (most h : ℕ) → Contains (missing_items (ranges (heights held)) from most) h → IsLowGapIn most held from h
  heights_low most h has = (
    missing_gap h (taken most missing h has),
    λ below apart each. lowest-only from most h missing below (missing_ascend (heights held) from) has (Apart-pairs below apart) (λ k there. (gap_missing k (among below each k there).0, (among below each k there).1)),
  )
    where
      taken : (m : ℕ) (xs : List ℕ) (x : ℕ) → Contains (take m xs) x → Contains xs x
      taken zero [] x (k, low, is) = absurd (omega arith)
      taken zero (y ∷ xs) x (k, low, is) = absurd (omega arith)
      taken (suc m) [] x (k, low, is) = absurd (omega arith)
      taken (suc m) (y ∷ xs) x (zero, low, is) = (zero, omega arith, is)
      taken (suc m) (y ∷ xs) x (suc k, low, is) = let rest = taken m xs x (k, omega arith, is) in (suc rest.0, (let a = rest.1 in omega arith), rest.2)

      among : (xs : List ℕ) → AllByRecursion (λ k. IsGapIn held from k × (k < h)) xs → (k : ℕ) → Contains xs k → IsGapIn held from k × (k < h)
      among [] each k (i, low, is) = absurd (omega arith)
      among (x ∷ xs) each k (zero, low, is) = subst (λ j. IsGapIn held from j × (j < h)) is each.0
      among (x ∷ xs) each k (suc i, low, is) = among xs each.1 k (i, omega arith, is)

  -- THE UPPER END

  -- below the first height whose forerunner is missing all that is held goes down without a hole
  run_down : (s : ℕ) → BeginsNext (heights held) from s → (h d : ℕ) → from ≤ h → h + d < s → IsTrue (has_height held (h + d)) → IsTrue (has_height held h)
  run_down s begins h zero above below has = subst (λ k. IsTrue (has_height held k)) (plain h) has
    where
      plain : (k : ℕ) → k + 0 ≡ k
      plain k = omega arith
  run_down s begins h (suc d) above below has = run_down s begins h d above (omega arith)
      (in_held held (h + d) (subst (Contains (heights held)) (before h d) (begins.first (h + suc d) (omega arith) below (held_in held (h + suc d) has))))
    where
      before : (k j : ℕ) → k + suc j - 1 ≡ k + j
      before k j = omega arith

  -- right above the lowest gap stands the next start
  pub upper_gap : (s : ℕ) → next_start (ranges (heights held)) from ≡ Some s → IsGapIn held from (s - 1)
  upper_gap s is =
      let begins = start_some (heights held) from s is in
      let above : from < s = begins.above in
      (omega arith, unheld (s - 1) begins.begins, s, omega arith, in_held held s begins.held)

  pub upper_clear : (s : ℕ) → next_start (ranges (heights held)) from ≡ Some s → (h k : ℕ) → IsGapIn held from h → h < k → k < s → IsFalse (has_height held k)
  upper_clear s is h k gap above below = by (has_height held k) refl
    where
      begins : BeginsNext (heights held) from s
      begins = start_some (heights held) from s is

      parted : (a b : ℕ) → a < b → a + (b - a) ≡ b
      parted a b lt = omega arith

      by : (b : Bool) → has_height held k ≡ b → b ≡ false
      by true has = absurd (both (has_height held h) gap.1 (run_down s begins h (k - h) gap.0 (subst (λ j. j < s) (sym (parted h k above)) below) (subst (λ j. IsTrue (has_height held j)) (sym (parted h k above)) has)))
      by false has = refl

  pub upper_end_is : (s : ℕ) (b : Block) → next_start (ranges (heights held)) from ≡ Some s → value_at held s ≡ Some b → b.height ≡ s → IsUpperEndIn held from b
  upper_end_is s b is at own = subst (λ k. IsGapIn held from (k - 1) × (value_at held k ≡ Some b) × ((h j : ℕ) → IsGapIn held from h → h < j → j < k → IsFalse (has_height held j))) (sym own)
      (upper_gap s is, at, upper_clear s is)

  -- and whatever stands there is the upper end
  pub upper_end_found : (b : Block) → IsUpperEndIn held from b → upper_end from held ≡ Some b
  upper_end_found b (gap, at, clear) = by (next_start (ranges (heights held)) from) refl
    where
      there : Contains (heights held) b.height
      there = held_in held b.height (ap is_some at)

      lacks : Contains (heights held) (b.height - 1) → ⊥
      lacks has = both (has_height held (b.height - 1)) gap.1 (in_held held (b.height - 1) has)

      positive : (h : ℕ) → h ≡ b.height → (Contains (heights held) (h - 1) → ⊥) → 0 < h
      positive zero is none = absurd (none (subst (Contains (heights held)) (sym is) there))
      positive (suc h) is none = omega arith

      higher : from < b.height
      higher = let a : 0 < b.height = positive b.height refl lacks in let low : from ≤ b.height - 1 = gap.0 in omega arith

      by : (o : Option ℕ) → next_start (ranges (heights held)) from ≡ o → option_and_then (value_at held) o ≡ Some b
      by None none = absurd (lacks (start_none (heights held) from none b.height higher there))
      by (Some s) some = subst (λ k. value_at held k ≡ Some b) (sym same) at
        where
          begins : BeginsNext (heights held) from s
          begins = start_some (heights held) from s some

          not_above : b.height < s → ⊥
          not_above below = lacks (begins.first b.height higher below there)

          not_below : s < b.height → ⊥
          not_below above = both (has_height held s) (clear (s - 1) s (upper_gap s some) (let a : from < s = begins.above in omega arith) above) (in_held held s begins.held)

          same : s ≡ b.height
          same = equal s b.height not_above not_below
            where
              equal : (x y : ℕ) → (y < x → ⊥) → (x < y → ⊥) → x ≡ y
              equal x y not_less not_more = ⊎_elim (λ lt. absurd (not_more lt)) (λ ge. ⊎_elim (λ lt. absurd (not_less lt)) (λ le. omega (arith, ge, le)) (cases y x)) (cases x y)
                where
                  cases : (p q : ℕ) → (p < q) ⊎ (q ≤ p)
                  cases p q = cases_lt p q

-- WHERE A WALK ENDED

module _ (s : Search) (held : List (At Block)) (certs : List (At Finalization)) (most : ℕ) (own : AllByRecursion (λ x. x.value.height ≡ x.height) held)
    (ends : EndsFills s held) (apart : (b : Block) → fill_of s held ≡ Some b → is_held held b ≡ false) where
  abbrev find : List ℕ → Option Block
  find = look_up s held

  none_filled : fill_of s held ≡ None
  none_filled = ⊎_elim (λ none. none) (λ (b, is, put). absurd (let no : false ≡ true = sym (apart b is) ∙ put in cc)) ends

  -- the parent that the upper end names is asked for, or has another height
  pub parent_asked : (more : List Call) (b : Block) → IsUpperEndIn held s.from b → AsksParentOf find (gap_asks s most held ++ more) b
  parent_asked more b upper = by (find b.parent_commitment) refl
    where
      wanted : parent_wanted s.from held ≡ Some (parent_of b)
      wanted = ap (option_map parent_of) (upper_end_found held s.from b upper)

      not_filled : of_height (b.height - 1) (find b.parent_commitment) ≡ None
      not_filled = ap (option_and_then (λ w. of_height w.height (find w.value))) (sym wanted) ∙ none_filled

      positive : 0 < b.height
      positive = by_height b.height refl
        where
          by_height : (h : ℕ) → b.height ≡ h → 0 < h
          by_height zero is = absurd (both (has_height held b.height) (subst (λ k. IsFalse (has_height held k)) (ap (λ k. k - 1) is ∙ sym is) upper.0.1) (ap is_some upper.1))
          by_height (suc h) is = omega arith

      by : (o : Option Block) → find b.parent_commitment ≡ o → AsksParentOf find (gap_asks s most held ++ more) b
      by None is = inl (
        is,
        Contains-append_left (gap_asks s most held) more _ (Contains-append_left (fetch_asks s held (parent_wanted s.from held)) _ _
            (subst (λ w. Contains (fetch_asks s held w) (parent_fetch (parent_of b))) (sym wanted) (subst (λ o. Contains (if is_some o then [] else parent_fetch (parent_of b) ∷ []) (parent_fetch (parent_of b))) (sym is) (zero, omega arith, refl)))),
      )
      by (Some p) is = inr (p, is, λ at. absurd (filled (p.height == b.height - 1) refl at))
        where
          filled : (c : Bool) → (p.height == b.height - 1) ≡ c → p.height + 1 ≡ b.height → ⊥
          filled true same at = let no : ◌≡◌ {A = Option Block} (Some p) None = ap (λ c. if c then Some p else None) (sym same) ∙ (ap (of_height (b.height - 1)) (sym is) ∙ not_filled) in cc
          filled false other at = grind (arith, nat_tests)

  -- each ask is one of these
  pub gap_only : AllByRecursion (IsRepairAskOf most find held certs s.from) (gap_asks s most held)
  gap_only = AllByRecursion-append (IsRepairAskOf most find held certs s.from) (fetch_asks s held (parent_wanted s.from held)) _ (parents (next_start (ranges (heights held)) s.from) refl)
      (each_height (missing_items (ranges (heights held)) s.from most) (λ h has. heights_low held s.from most h has))
    where
      each_height : (hs : List ℕ) → ((h : ℕ) → Contains hs h → IsLowGapIn most held s.from h) → AllByRecursion (IsRepairAskOf most find held certs s.from) (map height_fetch hs)
      each_height [] low = tt
      each_height (h ∷ hs) low = ((refl, refl, low h (zero, omega arith, refl)), each_height hs (λ k has. low k (suc has.0, (let a = has.1 in omega arith), has.2)))

      of_upper : (k : ℕ) (b : Block) → next_start (ranges (heights held)) s.from ≡ Some k → value_at held k ≡ Some b → (o : Option Block) → find b.parent_commitment ≡ o
          → AllByRecursion (IsRepairAskOf most find held certs s.from) (if is_some o then [] else parent_fetch (parent_of b) ∷ [])
      of_upper k b is at (Some p) found = tt
      of_upper k b is at None found =
          let at_own : b.height ≡ k = AllByRecursion-value_at (λ x. x.value.height ≡ x.height) held k b own at in
          let begins = start_some (heights held) s.from k is in
          let above : s.from < k = begins.above in
          ((refl, b.height - 1, refl, (found, inl (b, upper_end_is held s.from k b is at at_own, refl, omega arith))), tt)

      at_start : (k : ℕ) → next_start (ranges (heights held)) s.from ≡ Some k → (o : Option Block) → value_at held k ≡ o → AllByRecursion (IsRepairAskOf most find held certs s.from) (fetch_asks s held (option_map parent_of o))
      at_start k is None at = tt
      at_start k is (Some b) at = of_upper k b is at (find b.parent_commitment) refl

      parents : (o : Option ℕ) → next_start (ranges (heights held)) s.from ≡ o → AllByRecursion (IsRepairAskOf most find held certs s.from) (fetch_asks s held (option_map parent_of (option_and_then (value_at held) o)))
      parents None is = tt
      parents (Some k) is = at_start k is (value_at held k) refl

  -- the lowest missing heights are asked for
  pub gap_heights : (more : List Call) (h : ℕ) (below : List ℕ) → IsGapIn held s.from h → ((k : ℕ) → IsGapIn held s.from k → k < h → Contains below k) → length below < most → AsksHeight (gap_asks s most held ++ more) h
  gap_heights more h below gap all few = Contains-append_left (gap_asks s most held) more _ (Contains-append_right (fetch_asks s held (parent_wanted s.from held)) _ _
      (mapped (missing_items (ranges (heights held)) s.from most) h (heights_asked held s.from most h below gap all few)))
    where
      mapped : (hs : List ℕ) (k : ℕ) → Contains hs k → Contains (map height_fetch hs) (height_fetch k)
      mapped [] k (i, low, is) = absurd (omega arith)
      mapped (x ∷ hs) k (zero, low, is) = (zero, omega arith, ap height_fetch is)
      mapped (x ∷ hs) k (suc i, low, is) = let rest = mapped hs k (i, omega arith, is) in (suc rest.0, (let a = rest.1 in omega arith), rest.2)

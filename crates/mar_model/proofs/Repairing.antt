-- What a pass of repair asks for is what the law says of what is held after it.
use Rattle.std.proofs.Common.{◌≡◌, ◌⊎◌, inl, inr, ⊎_elim, ◌∷◌, [], List, ◌++◌, map, option_map, is_some, Contains, IsTrue, Option, None, Some, Bool, true, false, cond, if◌then◌else◌, ◌&&◌, ◌==◌, nat_lt, count_by, length, take, ℕ, zero, suc, ◌+◌, ◌<◌, ◌≤◌, arith, refl, sym, ◌∙◌, ap, subst}
use Rattle.std.specs.List.{AllByRecursion}
use Rattle.std.proofs.lemmas.Bool.{and_parts}
use Rattle.std.proofs.lemmas.Bool.Decides.{nat_tests}
use Rattle.std.proofs.lemmas.List.{length-map}
use Rattle.std.proofs.lemmas.List.Elements.{Contains-append_left, Contains-append_right}
use Rattle.std.proofs.lemmas.List.Sums.{count_by-le-length, sum_by-append}
use Rattle.std.proofs.lemmas.Option.{same_Some}
use Rattle.mar_cert.specs.Block.{Block}
use Rattle.mar_cert.specs.Finalization.{Finalization}
use Rattle.mar_key.specs.Keys.{Call, block_key, fetch, finalized_by_height}
use Rattle.mar_key.specs.Processed.{Processed, height_of}
use Rattle.mar_store.specs.Changes.{KeepsValues, heights}
use Rattle.mar_store.specs.Gaps.{missing_from, missing_items}
use Rattle.mar_store.specs.Kept.{At, has_height, value_at}
use Rattle.mar_store.specs.Named.{last_index}
use Rattle.mar_store.specs.Ranges.{ranges}
use Rattle.mar_store.proofs.Lookups.{AllByRecursion-append, AllByRecursion-contains, Contains-from_value, has_height-from_value, value-from_has_height}
use Rattle.mar_model.specs.Cached.{Cached}
use Rattle.mar_model.specs.Repair.{AreFills, EndsFills, Search, certified_alone, fetch_asks, fill_of, gap_asks, height_fetch, is_above_last, look_up, of_height, parent_fetch, parent_wanted, payload_wanted, with_fill, with_fills, with_found, with_newest_fill}
use Rattle.mar_model.specs.Requests.{AsksParentOf, IsRepairAskOf, IsRepaired, is_height_fetch}
use Rattle.mar_model.specs.Stored.{entry_at, is_held, newest}
use Rattle.mar_model.proofs.RepairLaw.{gap_heights, gap_only, parent_asked}
use Rattle.mar_model.proofs.RepairWalk.{AreOwnHeights, with_fill-has, with_fills-below, with_fills-keeps, with_fills-own, with_fills-unfound, with_fill-own}
use Rattle.mar_model.proofs.Tips.{at_last, below_last}

-- how many heights are asked for

counted-append : (xs ys : List Call) → count_by is_height_fetch (xs ++ ys) ≡ count_by is_height_fetch xs + count_by is_height_fetch ys
counted-append xs ys = sum_by-append (λ c. cond (is_height_fetch c) 1 0) xs ys

counted-wanted : (s : Search) (held : List (At Block)) (w : Option (At (List ℕ))) → count_by is_height_fetch (fetch_asks s held w) ≡ 0
counted-wanted s held None = refl
counted-wanted s held (Some w) = by (is_some (look_up s held w.value))
  where
    by : (b : Bool) → count_by is_height_fetch (if b then [] else parent_fetch w ∷ []) ≡ 0
    by true = refl
    by false = refl

taken-few : (m : ℕ) (xs : List ℕ) → length (take m xs) ≤ m
taken-few zero [] = omega arith
taken-few zero (x ∷ xs) = omega arith
taken-few (suc m) [] = omega arith
taken-few (suc m) (x ∷ xs) = let few : length (take m xs) ≤ m = taken-few m xs in omega arith

swapped : (xs ys : List Call) (c : Call) → Contains (ys ++ xs) c → Contains (xs ++ ys) c
swapped xs ys c has = ⊎_elim (λ there. Contains-append_right xs ys c there) (λ there. Contains-append_left xs ys c there) (Contains-cases ys xs c has)
  where
    Contains-cases : (us vs : List Call) (d : Call) → Contains (us ++ vs) d → Contains us d ⊎ Contains vs d
    Contains-cases [] vs d there = inr there
    Contains-cases (u ∷ us) vs d (zero, low, is) = inl (zero, omega arith, is)
    Contains-cases (u ∷ us) vs d (suc k, low, is) = ⊎_elim (λ here. let a = here.1 in inl (suc here.0, omega arith, here.2)) (λ far. inr far) (Contains-cases us vs d (k, omega arith, is))

-- the newest certificate stands at the greatest height
pub newest-is : (certs : List (At Finalization)) (x : At Finalization) → newest certs ≡ Some x → (value_at certs x.height ≡ Some x.value) × ((h : ℕ) → IsTrue (has_height certs h) → h ≤ x.height)
newest-is certs x is = by (last_index certs) refl is
  where
    at : (k : ℕ) → last_index certs ≡ Some k → (o : Option Finalization) → value_at certs k ≡ o → option_map (λ v. record { height = k; value = v }) o ≡ Some x
        → (value_at certs x.height ≡ Some x.value) × ((h : ℕ) → IsTrue (has_height certs h) → h ≤ x.height)
    at k last None there one = absurd cc
    at k last (Some f) there one = subst (λ (y : At Finalization). (value_at certs y.height ≡ Some y.value) × ((h : ℕ) → IsTrue (has_height certs h) → h ≤ y.height)) (same_Some (record { height = k; value = f }) x one)
        (there, λ h has. let (v, held_at) = value-from_has_height certs h has in AllByRecursion-contains (λ (y : At Finalization). y.height ≤ k) certs _ (below_last certs k last) (Contains-from_value certs h v held_at))

    by : (o : Option ℕ) → last_index certs ≡ o → entry_at certs o ≡ Some x → (value_at certs x.height ≡ Some x.value) × ((h : ℕ) → IsTrue (has_height certs h) → h ≤ x.height)
    by None last one = absurd cc
    by (Some k) last one = at k last (value_at certs k) refl one

some-newest : (certs : List (At Finalization)) (h : ℕ) → IsTrue (has_height certs h) → (x : At Finalization) × (newest certs ≡ Some x)
some-newest certs h has = by (last_index certs) refl
  where
    nothing : (xs : List (At Finalization)) → last_index xs ≡ None → IsTrue (has_height xs h) → ⊥
    nothing [] is there = let no : false ≡ true = there in cc
    nothing (y ∷ xs) is there = cc

    by : (o : Option ℕ) → last_index certs ≡ o → (x : At Finalization) × (entry_at certs o ≡ Some x)
    by None last = absurd (nothing certs last has)
    by (Some k) last = let (v, is) = at_last certs k last in (record { height = k; value = v }, ap (option_map (λ f. record { height = k; value = f })) is)

above-last : (held : List (At Block)) (h : ℕ) → is_above_last (last_index held) h ≡ true → (k : ℕ) → IsTrue (has_height held k) → k < h
above-last held h is k has = by (last_index held) refl is
  where
    nothing : (xs : List (At Block)) → last_index xs ≡ None → IsTrue (has_height xs k) → ⊥
    nothing [] none there = let no : false ≡ true = there in cc
    nothing (y ∷ xs) none there = cc

    by : (o : Option ℕ) → last_index held ≡ o → is_above_last o h ≡ true → k < h
    by None last above = absurd (nothing held last has)
    by (Some l) last above =
        let (v, held_at) = value-from_has_height held k has in
        let low : k ≤ l = AllByRecursion-contains (λ (y : At Block). y.height ≤ l) held _ (below_last held l last) (Contains-from_value held k v held_at) in
        grind (arith, nat_tests)

not-above-last : (held : List (At Block)) (h : ℕ) → is_above_last (last_index held) h ≡ false → (k : ℕ) × IsTrue (has_height held k) × (h ≤ k)
not-above-last held h is = by (last_index held) refl is
  where
    by : (o : Option ℕ) → last_index held ≡ o → is_above_last o h ≡ false → (k : ℕ) × IsTrue (has_height held k) × (h ≤ k)
    by None last above = absurd (let no : true ≡ false = above in cc)
    by (Some l) last above = let (v, there) = at_last held l last in (l, ap is_some there, grind (arith, nat_tests))

module _ (inner : List ℕ → List ℕ) (buffer : List Block) (cached : List Cached) (processed : Option Processed) (held : List (At Block)) (certs : List (At Finalization)) (most : ℕ) (fills : List Block) where
  abbrev s : Search
  s = record { inner = inner; buffer = buffer; cached = cached; from = height_of processed + 1 }

  abbrev alone : Option (At Finalization)
  alone = certified_alone processed held (newest certs)

  abbrev begins : List (At Block)
  begins = with_newest_fill s held alone

  abbrev after : List (At Block)
  after = with_fills begins fills

  abbrev asks : List Call
  asks = fetch_asks s held (payload_wanted alone) ++ gap_asks s most after

  -- a certificate that is alone is the newest, above what is processed and held
  pub record IsAlone (x : At Finalization) : Type 0 where
    pub is_newest : newest certs ≡ Some x
    pub unprocessed : height_of processed < x.height
    pub above : (k : ℕ) → IsTrue (has_height held k) → k < x.height

  lt_of : (a b : ℕ) → nat_lt a b ≡ true → a < b
  lt_of a b is = grind (arith, nat_tests)

  pub alone-is : (x : At Finalization) → alone ≡ Some x → IsAlone x
  alone-is x is = by (newest certs) refl is
    where
      tested : (y : At Finalization) → newest certs ≡ Some y → (c : Bool) → (nat_lt (height_of processed) y.height && is_above_last (last_index held) y.height) ≡ c → (if c then Some y else None) ≡ Some x → IsAlone x
      tested y there true test one = subst IsAlone (same_Some y x one) (let (low, high) = and_parts (nat_lt (height_of processed) y.height) _ test in record {
        is_newest = there;
        unprocessed = lt_of (height_of processed) y.height low;
        above = above-last held y.height high;
      })
      tested y there false test one = absurd cc

      by : (o : Option (At Finalization)) → newest certs ≡ o → certified_alone processed held o ≡ Some x → IsAlone x
      by None there one = absurd cc
      by (Some y) there one = tested y there (nat_lt (height_of processed) y.height && is_above_last (last_index held) y.height) refl one

  -- where none is, some block is held as high as the newest one that isn't processed
  none-alone : alone ≡ None → (x : At Finalization) → newest certs ≡ Some x → height_of processed < x.height → (k : ℕ) × IsTrue (has_height held k) × (x.height ≤ k)
  none-alone none x there unprocessed = by (is_above_last (last_index held) x.height) refl (ap (certified_alone processed held) (sym there) ∙ none)
    where
      low : nat_lt (height_of processed) x.height ≡ true
      low = grind (arith, nat_tests)

      by : (c : Bool) → is_above_last (last_index held) x.height ≡ c → certified_alone processed held (Some x) ≡ None → (k : ℕ) × IsTrue (has_height held k) × (x.height ≤ k)
      by true is alone_none = absurd (let no : ◌≡◌ {A = Option (At Finalization)} (Some x) None = ap (λ c. if c then Some x else None) (sym (ap (λ c. c && is_above_last (last_index held) x.height) low ∙ is)) ∙ alone_none in cc)
      by false is alone_none = not-above-last held x.height is

  module _ (own : AreOwnHeights held) (are : AreFills s begins fills) (ends : EndsFills s after) (apart : (b : Block) → fill_of s after ≡ Some b → is_held after b ≡ false)
      (named : (x : At Finalization) (b : Block) → alone ≡ Some x → look_up s held x.value.payload ≡ Some b → (b.height ≡ x.height) × (is_held held b ≡ false))
      (now : List (At Finalization)) (kept : KeepsValues certs now) (come : (h : ℕ) → IsTrue (has_height now h) → IsTrue (has_height certs h) ⊎ IsTrue (has_height after h)) where
    begins_own : AreOwnHeights begins
    begins_own = by alone
      where
        found : (h : ℕ) (o : Option Block) → AreOwnHeights (with_found held (of_height h o))
        found h None = own
        found h (Some b) = of_test (b.height == h)
          where
            of_test : (c : Bool) → AreOwnHeights (with_found held (if c then Some b else None))
            of_test true = with_fill-own held b own
            of_test false = own

        by : (o : Option (At Finalization)) → AreOwnHeights (with_newest_fill s held o)
        by None = own
        by (Some x) = found x.height (look_up s held x.value.payload)

    after_own : AreOwnHeights after
    after_own = with_fills-own begins fills begins_own

    -- where the newest certificate's block isn't at hand, the walk begins with what was held
    begins_held : (x : At Finalization) → alone ≡ Some x → look_up s held x.value.payload ≡ None → begins ≡ held
    begins_held x is none = ap (with_newest_fill s held) is ∙ ap (λ o. with_found held (of_height x.height o)) none

    newest_only : (o : Option (At Finalization)) → alone ≡ o → AllByRecursion (IsRepairAskOf most (look_up s after) after now s.from) (fetch_asks s held (payload_wanted o))
    newest_only None is = tt
    newest_only (Some x) is = by (look_up s held x.value.payload) refl
      where
        lone : IsAlone x
        lone = alone-is x is

        by : (o : Option Block) → look_up s held x.value.payload ≡ o → AllByRecursion (IsRepairAskOf most (look_up s after) after now s.from)
            (if is_some o then [] else parent_fetch (record { height = x.height; value = x.value.payload }) ∷ [])
        by (Some b) found = tt
        by None found = (
          (
            refl,
            x.height,
            refl,
            (
              with_fills-unfound s begins fills x.value.payload are (subst (λ bs. look_up s bs x.value.payload ≡ None) (sym (begins_held x is found)) found),
              inr (x.value, kept x.height x.value (newest-is certs x lone.is_newest).0, refl, λ k has. with_fills-below s begins fills x.height begins_own are (subst (λ bs. (j : ℕ) → IsTrue (has_height bs j) → j < x.height) (sym (begins_held x is found)) lone.above) k has),
            ),
          ),
          tt,
        )

    newest_asked : (o : Option (At Finalization)) → alone ≡ o → (h : ℕ) (f : Finalization) → value_at now h ≡ Some f → height_of processed < h → ((k : ℕ) → IsTrue (has_height now k) → k ≤ h) → ((k : ℕ) → IsTrue (has_height after k) → k ≤ h)
        → IsTrue (has_height after h) ⊎ Contains asks (fetch (block_key f.payload) (finalized_by_height h) None)
    newest_asked o is h f at unprocessed top high = ⊎_elim (of_before o is) (λ there. inl there) (come h (has_height-from_value now h f at))
      where
        -- it was the newest before, too
        x : IsTrue (has_height certs h) → At Finalization
        x before = (some-newest certs h before).0

        x_is : (before : IsTrue (has_height certs h)) → newest certs ≡ Some (x before)
        x_is before = (some-newest certs h before).1

        same : (before : IsTrue (has_height certs h)) → (x before).height ≡ h
        same before =
            let y = x before in
            let there = kept y.height y.value (newest-is certs y (x_is before)).0 in
            let a : h ≤ y.height = (newest-is certs y (x_is before)).1 h before in
            let b : y.height ≤ h = top y.height (has_height-from_value now y.height y.value there) in
            omega arith

        value_of : (g : Finalization) → ◌≡◌ {A = Option Finalization} (Some g) (Some f) → g ≡ f
        value_of g e = cc

        value : (before : IsTrue (has_height certs h)) → (x before).value ≡ f
        value before = value_of (x before).value (sym (kept (x before).height (x before).value (newest-is certs (x before) (x_is before)).0) ∙ (ap (value_at now) (same before) ∙ at))

        of_before : (p : Option (At Finalization)) → alone ≡ p → IsTrue (has_height certs h) → IsTrue (has_height after h) ⊎ Contains asks (fetch (block_key f.payload) (finalized_by_height h) None)
        of_before None none before =
            let (k, there, above) = none-alone none (x before) (x_is before) (let a : (x before).height ≡ h = same before in omega arith) in
            inl (subst (λ j. IsTrue (has_height after j)) (let a : (x before).height ≡ h = same before in let b : k ≤ h = high k (with_fills-keeps begins fills k (begins_keeps k there)) in omega arith) (with_fills-keeps begins fills k (begins_keeps k there)))
          where
            begins_keeps : (j : ℕ) → IsTrue (has_height held j) → IsTrue (has_height begins j)
            begins_keeps j has = subst (λ (o : Option (At Finalization)). IsTrue (has_height (with_newest_fill s held o) j)) (sym none) has
        of_before (Some y) some before = found (look_up s held y.value.payload) refl
          where
            lone : IsAlone y
            lone = alone-is y some

            y_x : y ≡ x before
            y_x = inside (sym lone.is_newest ∙ x_is before)
              where
                inside : ◌≡◌ {A = Option (At Finalization)} (Some y) (Some (x before)) → y ≡ x before
                inside e = cc

            y_height : y.height ≡ h
            y_height = ap (λ (z : At Finalization). z.height) y_x ∙ same before

            found : (b : Option Block) → look_up s held y.value.payload ≡ b → IsTrue (has_height after h) ⊎ Contains asks (fetch (block_key f.payload) (finalized_by_height h) None)
            found None none = inr (subst (λ c. Contains asks c) (ap (λ (z : At Finalization). fetch (block_key z.value.payload) (finalized_by_height z.height) None) y_x ∙ (ap (λ k. fetch (block_key (x before).value.payload) (finalized_by_height k) None) (same before) ∙ ap (λ (g : Finalization). fetch (block_key g.payload) (finalized_by_height h) None) (value before)))
                (Contains-append_left (fetch_asks s held (payload_wanted alone)) (gap_asks s most after) _ (subst (λ o. Contains (fetch_asks s held (payload_wanted o)) (parent_fetch (record { height = y.height; value = y.value.payload }))) (sym some)
                (subst (λ o. Contains (if is_some o then [] else parent_fetch (record { height = y.height; value = y.value.payload }) ∷ []) (parent_fetch (record { height = y.height; value = y.value.payload }))) (sym none) (zero, omega arith, refl)))))
            found (Some b) there = inl (subst (λ k. IsTrue (has_height after k)) (own_height ∙ y_height) (with_fills-keeps begins fills b.height (subst (λ bs. IsTrue (has_height bs b.height)) (sym begins_with) (with_fill-has held b (named y b some there).1))))
              where
                own_height : b.height ≡ y.height
                own_height = (named y b some there).0

                tested : (c : Bool) → (b.height == y.height) ≡ c → (if c then Some b else None) ≡ Some b
                tested true is = refl
                tested false is = absurd (let same_heights : b.height ≡ y.height = own_height in grind (arith, nat_tests))

                begins_with : begins ≡ with_fill held b
                begins_with = ap (with_newest_fill s held) some ∙ (ap (λ o. with_found held (of_height y.height o)) there ∙ ap (with_found held) (tested (b.height == y.height) refl))

    few_heights : count_by is_height_fetch asks ≤ most
    few_heights =
        let all : count_by is_height_fetch asks ≡ count_by is_height_fetch (fetch_asks s held (payload_wanted alone)) + count_by is_height_fetch (gap_asks s most after) = counted-append (fetch_asks s held (payload_wanted alone)) (gap_asks s most after) in
        let gaps : count_by is_height_fetch (gap_asks s most after) ≡ count_by is_height_fetch (fetch_asks s after (parent_wanted s.from after)) + count_by is_height_fetch (map height_fetch (missing_items (ranges (heights after)) s.from most)) = counted-append (fetch_asks s after (parent_wanted s.from after)) _ in
        let one : count_by is_height_fetch (fetch_asks s held (payload_wanted alone)) ≡ 0 = counted-wanted s held (payload_wanted alone) in
        let two : count_by is_height_fetch (fetch_asks s after (parent_wanted s.from after)) ≡ 0 = counted-wanted s after (parent_wanted s.from after) in
        let three : count_by is_height_fetch (map height_fetch (missing_items (ranges (heights after)) s.from most)) ≤ length (map height_fetch (missing_items (ranges (heights after)) s.from most)) = count_by-le-length is_height_fetch _ in
        let four : length (map height_fetch (missing_items (ranges (heights after)) s.from most)) ≡ length (missing_items (ranges (heights after)) s.from most) = length-map (missing_items (ranges (heights after)) s.from most) height_fetch in
        let few : length (missing_items (ranges (heights after)) s.from most) ≤ most = taken-few most (missing_from (ranges (heights after)) s.from) in
        omega arith

    behind : (b : Block) → AsksParentOf (look_up s after) (gap_asks s most after ++ fetch_asks s held (payload_wanted alone)) b → AsksParentOf (look_up s after) asks b
    behind b (inl (none, has)) = inl (none, swapped (fetch_asks s held (payload_wanted alone)) (gap_asks s most after) _ has)
    behind b (inr other) = inr other

    -- THE LAW OF REPAIR
    pub pass-repaired : IsRepaired most (look_up s after) (height_of processed) after now asks
    pass-repaired = record {
      heights = λ h below gap all few. swapped (fetch_asks s held (payload_wanted alone)) (gap_asks s most after) _ (gap_heights s after now most after_own ends apart (fetch_asks s held (payload_wanted alone)) h below gap all few);
      at_most = few_heights;
      only = AllByRecursion-append (IsRepairAskOf most (look_up s after) after now s.from) (fetch_asks s held (payload_wanted alone)) (gap_asks s most after) (newest_only alone refl) (gap_only s after now most after_own ends apart);
      parent = λ b upper. behind b (parent_asked s after now most after_own ends apart (fetch_asks s held (payload_wanted alone)) b upper);
      newest_block = newest_asked alone refl;
    }

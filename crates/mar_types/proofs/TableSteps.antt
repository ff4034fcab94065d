-- Where a height stands among epochs of any sizes, and what a walk over a table knows.
use Rattle.std.proofs.Common.{◌≡◌, ℕ, zero, suc, ◌+◌, ◌-◌, ◌*◌, ◌/◌, ◌^◌, ◌≤◌, ◌<◌, min, add-one, arith, div-le_self, div-mul-le_self}
use Rattle.std.proofs.Common.{Bool, true, false, if◌then◌else◌, List, length, take, Some, None, refl, sym, ◌∙◌, ap, subst, inl, inr, ◌⊎◌}
use Rattle.std.specs.Prelude.{slice_index}
use Rattle.std.proofs.Math.Nat.{lt-div-mul-add, min-eq_left, min-eq_right}
use Rattle.std.proofs.lemmas.Bool.{cases_lt, le-leb, lt-leb}
use Rattle.mar_types.specs.Epochs.{IsPartition, Span, containing, is_in_span}
use Rattle.mar_types.specs.TableLemmas.{is_there, kept_positive, kept_size, lies}
use Rattle.mar_types.specs.Tables.{first_of, sized_epochs, table_epochs, table_size}
use Rattle.mar_types.proofs.Partitions.{found, not_found, within}

-- WHERE A HEIGHT STANDS

-- later epochs begin at later heights
first_grows : (size : ℕ → ℕ) (e k : ℕ) → first_of size e ≤ first_of size (e + k)
first_grows size e zero = let q : e + zero ≡ e = omega arith in rw q (omega arith)
first_grows size e (suc k) = let q : e + suc k ≡ suc (e + k) = omega arith in let h = first_grows size e k in rw q (omega (arith, h))

first_at_most : (size : ℕ → ℕ) (e f : ℕ) → e ≤ f → first_of size e ≤ first_of size f
first_at_most size e f le = let q : f ≡ e + (f - e) = omega arith in rw q (first_grows size e (f - e))

in_span : (s : Span) (h : ℕ) → s.first ≤ h → h ≤ s.last → is_in_span (Some s) h ≡ true
in_span s h from to = rw (le-leb _ _ from, le-leb _ _ to) refl

-- the height stands between the epoch's first height and the next one's
module _ (size : ℕ → ℕ) (p : IsPartition (sized_epochs size)) (e h : ℕ) (from : first_of size e ≤ h) (to : h < first_of size (e + 1)) where
  -- so that epoch contains it, where it is there
  pub stands_in : (s : Span) → sized_epochs size e ≡ Some s → containing (sized_epochs size) h ≡ Some e
  stands_in s there =
      let a = lies size e s there in
      let next : first_of size (e + 1) ≡ first_of size (suc e) = ap (first_of size) (add-one e) in
      found (sized_epochs size) p e h (rw there (in_span s h (omega (arith, from, a.first)) (omega (arith, to, a.last, next))))

  -- and no other has it
  only_there : (f : ℕ) (s : Span) → sized_epochs size f ≡ Some s → s.first ≤ h → h ≤ s.last → f ≡ e
  only_there f s there low high = by (cases_lt f e) (cases_lt e f)
    where
      by : (f < e) ⊎ (e ≤ f) → (e < f) ⊎ (f ≤ e) → f ≡ e
      by (inl less) x =
          let a = lies size f s there in
          let some : 1 ≤ s.last = p.above_zero f s there in
          let below : first_of size (suc f) ≤ first_of size e = first_at_most size (suc f) e (omega arith) in
          absurd (omega (arith, from, high, some, below, a.last))
      by (inr x) (inl more) =
          let a = lies size f s there in
          let above : first_of size (e + 1) ≤ first_of size f = first_at_most size (e + 1) f (omega arith) in
          absurd (omega (arith, to, low, above, a.first))
      by (inr x) (inr y) = omega (arith, x, y)

  pub stands_out : sized_epochs size e ≡ None → containing (sized_epochs size) h ≡ None
  stands_out gone = not_found (sized_epochs size) h (λ f. by f (is_in_span (sized_epochs size f) h) refl)
    where
      clash : (s : Span) → sized_epochs size e ≡ Some s → ⊥
      clash s a = cc

      by : (f : ℕ) (b : Bool) → is_in_span (sized_epochs size f) h ≡ b → is_in_span (sized_epochs size f) h ≡ false
      by f false t = t
      by f true t =
          let u = within (sized_epochs size) f h t in
          absurd (clash u.span (subst (λ k. sized_epochs size k ≡ Some u.span) (only_there f u.span u.there u.from u.to) u.there))

-- A WALK OVER A TABLE

-- a table that is kept as the first lengths of more
module _ (xs : List ℕ) (count : ℕ) (some : 0 < count) (held : count ≤ length xs) where
  abbrev size : ℕ → ℕ
  size = table_size (take count xs)

  -- an epoch past the table has its last length
  size_past : (e : ℕ) → count - 1 ≤ e → size e ≡ slice_index xs (count - 1)
  size_past e past = kept_size xs count some held e ∙ ap (slice_index xs) (min-eq_right past)

  -- each epoch begins so many heights behind the last one of the table
  first_past : (k : ℕ) → first_of size (count - 1 + k) ≡ first_of size (count - 1) + k * slice_index xs (count - 1)
  first_past zero = let q : count - 1 + zero ≡ count - 1 = omega arith in rw q (omega arith)
  first_past (suc k) =
      let q : count - 1 + suc k ≡ suc (count - 1 + k) = omega arith in
      let last = size_past (count - 1 + k) (omega arith) in
      let before = first_past k in
      let more : suc k * slice_index xs (count - 1) ≡ k * slice_index xs (count - 1) + slice_index xs (count - 1) = omega arith in
      rw q (omega (arith, last, before, more))

  -- an epoch's bounds, by the nearest place of the table and the length there
  module _ (e p n : ℕ) (place : p ≡ min e (count - 1)) (long : n ≡ slice_index xs p) (some_long : 0 < n) where
    size_is : size e ≡ n
    size_is = kept_size xs count some held e ∙ ap (slice_index xs) (sym place) ∙ sym long

    abbrev first_by : ℕ → ℕ → ℕ
    first_by place length = first_of size place + (e - place) * length

    first_is : first_of size e ≡ first_by p n
    first_is = by (cases_lt e count)
      where
        by : (e < count) ⊎ (count ≤ e) → first_of size e ≡ first_by p n
        by (inl inside) =
            let q : p ≡ e = place ∙ min-eq_left (omega arith) in
            let zeros : e - p ≡ 0 = omega (arith, q) in
            let none : (e - p) * n ≡ 0 * n = ap (λ k. k * n) zeros in
            let same : first_of size p ≡ first_of size e = ap (first_of size) q in
            omega (arith, none, same)
        by (inr past) =
            let q : p ≡ count - 1 = place ∙ min-eq_right (omega arith) in
            let at : e ≡ count - 1 + (e - (count - 1)) = omega arith in
            let there : first_by p (slice_index xs p) ≡ first_by (count - 1) (slice_index xs (count - 1)) = ap (λ k. first_by k (slice_index xs k)) q in
            ap (first_of size) at ∙ first_past (e - (count - 1)) ∙ sym there ∙ ap (first_by p) (sym long)

    abbrev span : ℕ → ℕ → Span
    span first last = record { first = first; last = last }

    pub none_at : (first_by p n + (n - 1) < 2 ^ 64 → ⊥) → None ≡ table_epochs (take count xs) e
    none_at over = by (cases_lt (first_by p n + (n - 1)) (2 ^ 64))
      where
        by : (first_by p n + (n - 1) < 2 ^ 64) ⊎ (2 ^ 64 ≤ first_by p n + (n - 1)) → None ≡ table_epochs (take count xs) e
        by (inl less) = absurd (over less)
        by (inr past) =
            let gone = lt-leb _ _ (omega (arith, first_is, size_is, past, some_long)) in
            sym (ap (λ b. if b then Some (span (first_of size e) (first_of size e + size e - 1)) else None) gone)

    pub some_at : (first last : ℕ) → first ≡ first_by p n → last ≡ first + (n - 1) → last < 2 ^ 64 → Some (span first last) ≡ table_epochs (take count xs) e
    some_at first last begins ends fits = sym (is_there size e inside ∙ ap (λ x. Some (span x (first_of size e + size e - 1))) a ∙ ap (λ x. Some (span first x)) b)
      where
        a : first_of size e ≡ first
        a = first_is ∙ sym begins

        b : first_of size e + size e - 1 ≡ last
        b = omega (arith, a, size_is, ends, some_long)

        inside : first_of size (suc e) ≤ 2 ^ 64
        inside = omega (arith, a, size_is, ends, fits, some_long)

  -- past the table the height says how many last lengths lie below it
  module _ (h start p n : ℕ) (place : p ≡ count - 1) (long : n ≡ slice_index xs (count - 1)) (starts : start ≡ first_of size p) (low : start ≤ h) where
    module _ (positive : (i : ℕ) → i < count → 0 < slice_index xs i) where
      start_is : start ≡ first_of size (count - 1)
      start_is = starts ∙ ap (first_of size) place

      past_is : (k : ℕ) → first_of size (count - 1 + k) ≡ start + k * n
      past_is k = first_past k ∙ ap (λ m. m + k * slice_index xs (count - 1)) (sym start_is) ∙ ap (λ m. start + k * m) (sym long)

      above_number : (e : ℕ) → e ≤ first_of size e
      above_number zero = omega arith
      above_number (suc e) = let more = kept_positive xs count some held positive e in let before = above_number e in omega (arith, more, before)

      pub number_fits : count - 1 + (h - start) / n ≤ h
      number_fits = let few = div-le_self (h - start) n in let above = above_number (count - 1) in omega (arith, few, above, start_is, low)

      pub past_begun : first_of size (count - 1 + (h - start) / n) ≤ h
      past_begun = let below = div-mul-le_self (h - start) n in let is = past_is ((h - start) / n) in omega (arith, below, is, low)

      some_long : 0 < n
      some_long = let last = positive (count - 1) (omega (arith, some)) in omega (arith, last, long)

      pub past_goes_on : h < first_of size (count - 1 + (h - start) / n + 1)
      past_goes_on =
          let q : count - 1 + (h - start) / n + 1 ≡ count - 1 + ((h - start) / n + 1) = omega arith in
          let over : h - start < (h - start) / n * n + n = lt-div-mul-add some_long in
          let more : ((h - start) / n + 1) * n ≡ (h - start) / n * n + n = omega arith in
          let is = past_is ((h - start) / n + 1) in
          rw q (omega (arith, over, more, is))

-- What a reopening keeps of logged entries is what luck keeps of what is left: the draws of the five archives, one after another,
-- make sure what one walk over all entries does.
use Rattle.std.proofs.Common.{◌≡◌, inl, inr, ◌+◌, ◌/◌, ◌%◌, ◌^◌, ◌==◌, ◌&&◌, ◌||◌, ℕ, zero, suc, List, [], ◌∷◌, Bool, true, false, not, Contains, cond, filter, length, refl, ap, ap₂, sym, arith, ◌∙◌}
use Rattle.std.specs.List.{list_any}
use Rattle.std.specs.Prelude.{bytes_eq}
use Rattle.std.proofs.lemmas.Bool.{cases_eq, eq-eqb, eqb-true, ne_eqb}
use Rattle.std.proofs.lemmas.Slice.Eq.{bytes_eq-Decides}
use Rattle.mar_types.specs.Round.{Round, round_eq}
use Rattle.mar_store.specs.Changes.{left_of}
use Rattle.mar_store.specs.Luck.{is_lucky}
use Rattle.mar_model.specs.AllEntries.{is_in_place}
use Rattle.mar_model.specs.Cache.{same_archive}
use Rattle.mar_model.specs.Cached.{Cached, EachPlaceOnce, certified_entry, epoch_of, finalization_entry, notarization_entry, notarized_entry, same_place, verified_entry}
use Rattle.mar_model.specs.LuckyEntries.{count_beside, is_sure_in, lucky_behind, lucky_entries}
use Rattle.mar_model.specs.Sections.{is_in, rank, section_of}
use Rattle.mar_model.specs.declared.Section.{Section}
use Rattle.mar_model.specs.declared.Section.TheVariants.{Certified, Finalizations, Notarizations, Notarized, Verified}
use Rattle.mar_epochs.specs.EntryLogs.{Logged, drawn, drawn_in_all, entries, kept_in, sure_entries}
use Rattle.mar_epochs.proofs.Filtering.{contains_here, contains_more, contains_none, none_of_filter, or_false_left, or_false_right}

-- ONE WALK

-- how many there are of an archive
abbrev count_in : Section → List Cached → ℕ
count_in s xs = length (filter (is_in s) xs)

abbrev logged : ℕ → Bool → Cached → Logged
logged n b x = record { number = n; is_sure = b; entry = x }

-- Each entry made sure, where the test passes it, whose number is lucky: how many of its archive that weren't sure stood before it.
abbrev marked : (Cached → Bool) → ℕ → List Cached → List Logged → List Logged
marked test half before [] = []
marked test half before (f ∷ fs) = logged f.number (f.is_sure || (test f.entry && is_lucky half (count_in (section_of f.entry) before))) f.entry ∷ marked test half (cond f.is_sure before (f.entry ∷ before)) fs

-- where the test passes none, nothing changes
unmarked : (half : ℕ) (before : List Cached) (fs : List Logged) → marked (λ x. false) half before fs ≡ fs
unmarked half before [] = refl
unmarked half before (f ∷ fs) = ap₂ (λ b ys. logged f.number b f.entry ∷ ys) (same f.is_sure) (unmarked half (cond f.is_sure before (f.entry ∷ before)) fs)
  where
    same : (b : Bool) → (b || false) ≡ b
    same true = refl
    same false = refl

-- a lucky number is lucky modulo 32 too
lucky_again : (half n k : ℕ) → k ≡ n % 32 → is_lucky half k ≡ is_lucky half n
lucky_again half n k is = ap (λ i. half / 2 ^ i % 2 == 1) (let e : k % 32 ≡ n % 32 = omega (arith, is) in e)

count_more : (n k : ℕ) → k ≡ n % 32 → (k + 1) % 32 ≡ suc n % 32
count_more n k is = omega (arith, is)

-- A DRAW OF ONE MORE ARCHIVE

module _ (s : Section) (half : ℕ) (test : Cached → Bool) (apart : (x : Cached) → is_in s x ≡ true → test x ≡ false) where
  abbrev more : Cached → Bool
  more x = test x || is_in s x

  -- One entry that isn't sure, by whether it is of that archive, passes the test, and has a lucky number.
  one : (n k k' : ℕ) (x : Cached) (ms ns : List Logged) (c p l l' : Bool) → (c ≡ true → p ≡ false) → (c ≡ true → l' ≡ l) → (c ≡ true → drawn s half k' ms ≡ ns) → (c ≡ false → drawn s half k ms ≡ ns)
      → ◌≡◌ {A = List Logged} (logged n ((p && l) || ((not (p && l) && c) && l')) x ∷ drawn s half (cond (not (p && l) && c) k' k) ms) (logged n ((p || c) && l) x ∷ ns)
  one n k k' x ms ns true true l l' fits luck goes stays = let clash : true ≡ false = fits refl in absurd cc
  one n k k' x ms ns true false l l' fits luck goes stays = ap₂ (λ b ys. logged n b x ∷ ys) (luck refl) (goes refl)
  one n k k' x ms ns false true true l' fits luck goes stays = ap (λ ys. logged n true x ∷ ys) (stays refl)
  one n k k' x ms ns false true false l' fits luck goes stays = ap (λ ys. logged n false x ∷ ys) (stays refl)
  one n k k' x ms ns false false l l' fits luck goes stays = ap (λ ys. logged n false x ∷ ys) (stays refl)

  -- an entry of that archive is the next one of it
  counted : (x : Cached) (before : List Cached) → is_in s x ≡ true → count_in (section_of x) before ≡ count_in s before
  counted x before is = ap (λ r. length (filter (λ y. rank (section_of y) == r) before)) (eqb-true (rank (section_of x)) (rank s) is)

  draws : (k : ℕ) (before : List Cached) (fs : List Logged) → k ≡ count_in s before % 32 → drawn s half k (marked test half before fs) ≡ marked more half before fs
  draws k before [] at = refl
  draws k before (f ∷ fs) at = by f.number f.is_sure f.entry (λ j earlier is. draws j earlier fs is)
    where
      by : (n : ℕ) (b : Bool) (x : Cached) → ((j : ℕ) (earlier : List Cached) → j ≡ count_in s earlier % 32 → drawn s half j (marked test half earlier fs) ≡ marked more half earlier fs) → drawn s half k (marked test half before (logged n b x ∷ fs)) ≡ marked more half before (logged n b x ∷ fs)
      by n true x rest = ap (λ ys. logged n true x ∷ ys) (rest k before at)
      by n false x rest = one n k ((k + 1) % 32) x (marked test half (x ∷ before) fs) (marked more half (x ∷ before) fs) (is_in s x) (test x) (is_lucky half (count_in (section_of x) before)) (is_lucky half k) (apart x)
          (λ is. lucky_again half (count_in s before) k at ∙ ap (is_lucky half) (sym (counted x before is)))
          (λ is. rest ((k + 1) % 32) (x ∷ before) (count_more (count_in s before) k at ∙ ap (λ c. length (cond c (x ∷ filter (is_in s) before) (filter (is_in s) before)) % 32) (sym is)))
          (λ is. rest k (x ∷ before) (at ∙ ap (λ c. length (cond c (x ∷ filter (is_in s) before) (filter (is_in s) before)) % 32) (sym is)))

-- ALL FIVE

abbrev none_yet : Cached → Bool
none_yet x = false

abbrev with_verified : Cached → Bool
with_verified x = none_yet x || is_in Verified x

abbrev with_notarized : Cached → Bool
with_notarized x = with_verified x || is_in Notarized x

abbrev with_certified : Cached → Bool
with_certified x = with_notarized x || is_in Certified x

abbrev with_notarizations : Cached → Bool
with_notarizations x = with_certified x || is_in Notarizations x

abbrev with_all : Cached → Bool
with_all x = with_notarizations x || is_in Finalizations x

not_verified : (x : Cached) → is_in Notarized x ≡ true → with_verified x ≡ false
not_verified (notarized_entry r b) is = refl
not_verified _ is = absurd cc

not_notarized : (x : Cached) → is_in Certified x ≡ true → with_notarized x ≡ false
not_notarized (certified_entry e b) is = refl
not_notarized _ is = absurd cc

not_certified : (x : Cached) → is_in Notarizations x ≡ true → with_certified x ≡ false
not_certified (notarization_entry f) is = refl
not_certified _ is = absurd cc

not_notarizations : (x : Cached) → is_in Finalizations x ≡ true → with_notarizations x ≡ false
not_notarizations (finalization_entry f) is = refl
not_notarizations _ is = absurd cc

each_drawn : (x : Cached) → with_all x ≡ true
each_drawn (finalization_entry f) = refl
each_drawn (verified_entry r b) = refl
each_drawn (notarized_entry r b) = refl
each_drawn (certified_entry e b) = refl
each_drawn (notarization_entry f) = refl

all_drawn : (half : ℕ) (fs : List Logged) → drawn_in_all half fs ≡ marked with_all half [] fs
all_drawn half fs =
    ap (drawn_in_all half) (sym (unmarked half [] fs))
    ∙ ap (λ ys. drawn Finalizations half 0 (drawn Notarizations half 0 (drawn Certified half 0 (drawn Notarized half 0 ys)))) (draws Verified half none_yet (λ x is. refl) 0 [] fs refl)
    ∙ ap (λ ys. drawn Finalizations half 0 (drawn Notarizations half 0 (drawn Certified half 0 ys))) (draws Notarized half with_verified not_verified 0 [] fs refl)
    ∙ ap (λ ys. drawn Finalizations half 0 (drawn Notarizations half 0 ys)) (draws Certified half with_notarized not_notarized 0 [] fs refl)
    ∙ ap (drawn Finalizations half 0) (draws Notarizations half with_certified not_certified 0 [] fs refl)
    ∙ draws Finalizations half with_notarizations not_notarizations 0 [] fs refl

-- WHAT IS SURE

eqb_sym : (a b : ℕ) → (a == b) ≡ (b == a)
eqb_sym a b = elim (cases_eq a b) [ inl same ↦ eq-eqb a b same ∙ sym (eq-eqb b a (sym same)) | inr other ↦ ne_eqb a b other ∙ sym (ne_eqb b a (λ same. other (sym same))) ]

bytes_sym : (a b : List ℕ) → bytes_eq a b ≡ bytes_eq b a
bytes_sym a b = by (bytes_eq a b) refl (bytes_eq b a) refl
  where
    by : (p : Bool) → bytes_eq a b ≡ p → (q : Bool) → bytes_eq b a ≡ q → p ≡ q
    by true is true is' = refl
    by false is false is' = refl
    by true is false is' = let one' : bytes_eq b a ≡ true = (bytes_eq-Decides b a).1 (sym ((bytes_eq-Decides a b).0 is)) in let clash : true ≡ false = sym one' ∙ is' in absurd cc
    by false is true is' = let one' : bytes_eq a b ≡ true = (bytes_eq-Decides a b).1 (sym ((bytes_eq-Decides b a).0 is')) in let clash : true ≡ false = sym one' ∙ is in absurd cc

round_sym : (r t : Round) → round_eq r t ≡ round_eq t r
round_sym r t = ap₂ (λ a b. a && b) (eqb_sym r.epoch t.epoch) (eqb_sym r.view t.view)

place_sym : (x y : Cached) → same_place x y ≡ same_place y x
place_sym (finalization_entry f) (finalization_entry g) = round_sym f.round g.round
place_sym (notarization_entry f) (notarization_entry g) = round_sym f.round g.round
place_sym (notarized_entry r b) (notarized_entry t c) = round_sym r t
place_sym (verified_entry r b) (verified_entry t c) = ap₂ (λ p q. p && q) (round_sym r t) (bytes_sym b.digest c.digest)
place_sym (certified_entry e b) (certified_entry f c) = ap₂ (λ p q. p && q) (eqb_sym b.height c.height) (bytes_sym b.digest c.digest)
place_sym _ _ = refl

and_both : (p q : Bool) → p ≡ true → q ≡ true → (p && q) ≡ true
and_both true q is is' = is'
and_both false q is is' = absurd cc

round_itself : (r : Round) → round_eq r r ≡ true
round_itself r = and_both (r.epoch == r.epoch) (r.view == r.view) (eq-eqb r.epoch r.epoch refl) (eq-eqb r.view r.view refl)

bytes_itself : (b : List ℕ) → bytes_eq b b ≡ true
bytes_itself b = (bytes_eq-Decides b b).1 refl

pub place_itself : (x : Cached) → same_place x x ≡ true
place_itself (finalization_entry f) = round_itself f.round
place_itself (notarization_entry f) = round_itself f.round
place_itself (notarized_entry r b) = round_itself r
place_itself (verified_entry r b) = and_both (round_eq r r) (bytes_eq b.digest b.digest) (round_itself r) (bytes_itself b.digest)
place_itself (certified_entry e b) = and_both (b.height == b.height) (bytes_eq b.digest b.digest) (eq-eqb b.height b.height refl) (bytes_itself b.digest)

and_false : (p q : Bool) → q ≡ false → (p && q) ≡ false
and_false true q is = is
and_false false q is = refl

none_in_place : (x : Cached) (xs : List Cached) → list_any (same_place x) xs ≡ false → list_any (is_in_place x) xs ≡ false
none_in_place x [] none = refl
none_in_place x (y ∷ ys) none = ap₂ (λ a b. a || b) (and_false (epoch_of y == epoch_of x) (same_place x y) (or_false_left (same_place x y) (list_any (same_place x) ys) none)) (none_in_place x ys (or_false_right (same_place x y) (list_any (same_place x) ys) none))

none_at : (test : Cached → Bool) (fs : List Logged) (f : Logged) → list_any test (entries fs) ≡ false → Contains fs f → test f.entry ≡ false
none_at test [] f none has = contains_none f has
none_at test (g ∷ fs) f none (zero, less, is) = ap (λ h. test h.entry) (sym is) ∙ or_false_left (test g.entry) (list_any test (entries fs)) none
none_at test (g ∷ fs) f none (suc i, less, is) = none_at test fs f (or_false_right (test g.entry) (list_any test (entries fs)) none) (i, omega (arith, less), is)

-- where no two stand in one place, one stands in an entry's place that is sure where it is itself
sure_agrees : (fs : List Logged) → EachPlaceOnce (entries fs) → (f : Logged) → Contains fs f → is_sure_in (sure_entries fs) f.entry ≡ f.is_sure
sure_agrees [] once f has = contains_none f has
sure_agrees (g ∷ fs) once f (zero, less, is) = ap (λ h. is_sure_in (sure_entries (g ∷ fs)) h.entry) (sym is) ∙ by g.is_sure ∙ ap (λ h. h.is_sure) is
  where
    here : is_in_place g.entry g.entry ≡ true
    here = and_both (epoch_of g.entry == epoch_of g.entry) (same_place g.entry g.entry) (eq-eqb (epoch_of g.entry) (epoch_of g.entry) refl) (place_itself g.entry)

    by : (b : Bool) → is_sure_in (entries (cond b (g ∷ filter (λ h. h.is_sure) fs) (filter (λ h. h.is_sure) fs))) g.entry ≡ b
    by true = ap (λ p. p || is_sure_in (sure_entries fs) g.entry) here
    by false = none_of_filter (λ h. h.entry) (λ h. h.is_sure) (is_in_place g.entry) fs (none_in_place g.entry (entries fs) once.0)
sure_agrees (g ∷ fs) once f (suc i, less, is) = by g.is_sure ∙ sure_agrees fs once.1 f (i, omega (arith, less), is)
  where
    apart : is_in_place f.entry g.entry ≡ false
    apart = and_false (epoch_of g.entry == epoch_of f.entry) (same_place f.entry g.entry) (place_sym f.entry g.entry ∙ none_at (same_place g.entry) fs f once.0 (i, omega (arith, less), is))

    by : (b : Bool) → is_sure_in (entries (cond b (g ∷ filter (λ h. h.is_sure) fs) (filter (λ h. h.is_sure) fs))) f.entry ≡ is_sure_in (sure_entries fs) f.entry
    by true = ap (λ p. p || is_sure_in (sure_entries fs) f.entry) apart
    by false = refl

-- WHAT LUCK KEEPS

-- of one epoch an archive has what stands in the same archive
in_archive : (x y : Cached) → epoch_of x ≡ epoch_of y → is_in (section_of x) y ≡ same_archive x y
in_archive (finalization_entry f) (finalization_entry g) same = sym (eq-eqb f.round.epoch g.round.epoch same)
in_archive (notarization_entry f) (notarization_entry g) same = sym (eq-eqb f.round.epoch g.round.epoch same)
in_archive (notarized_entry r b) (notarized_entry t c) same = sym (eq-eqb r.epoch t.epoch same)
in_archive (verified_entry r b) (verified_entry t c) same = sym (eq-eqb r.epoch t.epoch same)
in_archive (certified_entry e b) (certified_entry f c) same = sym (eq-eqb e f same)
in_archive _ _ same = refl

numbered : (x : Cached) (e : ℕ) (ys : List Cached) → epoch_of x ≡ e → ((y : Cached) → Contains ys y → epoch_of y ≡ e) → filter (is_in (section_of x)) ys ≡ filter (same_archive x) ys
numbered x e [] own all = refl
numbered x e (y ∷ ys) own all = ap₂ (λ b zs. cond b (y ∷ zs) zs) (in_archive x y (own ∙ sym (all y (contains_here y ys)))) (numbered x e ys own (λ z has. all z (contains_more y ys z has)))

module _ (half : ℕ) (sure : List Cached) (e : ℕ) where
  -- an entry that isn't sure is kept where its number is lucky
  kept_one : (n : ℕ) (x : Cached) (a p l l' : Bool) (ms : List Logged) (zs more : List Cached) → a ≡ false → p ≡ true → l ≡ l' → entries (filter (λ f. f.is_sure) ms) ≡ zs
      → entries (cond (p && l) (logged n (p && l) x ∷ filter (λ f. f.is_sure) ms) (filter (λ f. f.is_sure) ms)) ≡ cond a more (cond l' (x ∷ zs) zs)
  kept_one n x true p l l' ms zs more none passes same kept = absurd cc
  kept_one n x false false l l' ms zs more none passes same kept = absurd cc
  kept_one n x false true true true ms zs more none passes same kept = ap (λ ys. x ∷ ys) kept
  kept_one n x false true false false ms zs more none passes same kept = kept
  kept_one n x false true true false ms zs more none passes same kept = absurd cc
  kept_one n x false true false true ms zs more none passes same kept = absurd cc

  marks_lucky : (before : List Cached) (fs : List Logged) → ((x : Cached) → Contains before x → epoch_of x ≡ e) → ((f : Logged) → Contains fs f → (is_sure_in sure f.entry ≡ f.is_sure) × (epoch_of f.entry ≡ e))
      → entries (filter (λ f. f.is_sure) (marked with_all half before fs)) ≡ lucky_behind (is_lucky half) sure before (entries fs)
  marks_lucky before [] own all = refl
  marks_lucky before (f ∷ fs) own all = by f.number f.is_sure f.entry (all f (contains_here f fs)).0 (all f (contains_here f fs)).1 (λ earlier own'. marks_lucky earlier fs own' (λ g has. all g (contains_more f fs g has)))
    where
      by : (n : ℕ) (b : Bool) (x : Cached) → is_sure_in sure x ≡ b → epoch_of x ≡ e
          → ((earlier : List Cached) → ((y : Cached) → Contains earlier y → epoch_of y ≡ e) → entries (filter (λ g. g.is_sure) (marked with_all half earlier fs)) ≡ lucky_behind (is_lucky half) sure earlier (entries fs))
          → entries (filter (λ g. g.is_sure) (marked with_all half before (logged n b x ∷ fs))) ≡ lucky_behind (is_lucky half) sure before (x ∷ entries fs)
      by n true x is at rest = ap (λ ys. x ∷ ys) (rest before own) ∙ ap (λ c. cond c (x ∷ lucky_behind (is_lucky half) sure before (entries fs)) (cond (is_lucky half (count_beside x before)) (x ∷ lucky_behind (is_lucky half) sure (x ∷ before) (entries fs)) (lucky_behind (is_lucky half) sure (x ∷ before) (entries fs)))) (sym is)
      by n false x is at rest = kept_one n x (is_sure_in sure x) (with_all x) (is_lucky half (count_in (section_of x) before)) (is_lucky half (count_beside x before)) (marked with_all half (x ∷ before) fs) (lucky_behind (is_lucky half) sure (x ∷ before) (entries fs)) (x ∷ lucky_behind (is_lucky half) sure before (entries fs)) is (each_drawn x)
          (ap (λ ys. is_lucky half (length ys)) (numbered x e before at own)) (rest (x ∷ before) own_more)
        where
          own_more : (y : Cached) → Contains (x ∷ before) y → epoch_of y ≡ e
          own_more y (zero, less, same) = ap epoch_of (sym same) ∙ at
          own_more y (suc i, less, same) = own y (i, omega (arith, less), same)

pub picked : (half : ℕ) (fs new : List Logged) → new ≡ filter (λ f. f.is_sure) (drawn_in_all half fs) → EachPlaceOnce (entries fs) → (e : ℕ) → ((x : Cached) → Contains (entries fs) x → epoch_of x ≡ e) → entries new ≡ lucky_entries (is_lucky half) (left_of (kept_in fs))
picked half fs new is once e own = ap entries (is ∙ ap (filter (λ f. f.is_sure)) (all_drawn half fs)) ∙ marks_lucky half (sure_entries fs) e [] fs (λ x has. contains_none x has) (λ f has. (sure_agrees fs once f has, own f.entry (contains_entry fs f has)))
  where
    contains_entry : (gs : List Logged) (g : Logged) → Contains gs g → Contains (entries gs) g.entry
    contains_entry [] g has = contains_none g has
    contains_entry (h ∷ gs) g (zero, less, is') = (zero, omega arith, ap (λ j. j.entry) is')
    contains_entry (h ∷ gs) g (suc i, less, is') = contains_more h.entry (entries gs) g.entry (contains_entry gs g (i, omega (arith, less), is'))

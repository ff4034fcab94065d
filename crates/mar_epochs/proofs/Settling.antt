-- A ticket is finished of which all is sure: nothing changes.
use Rattle.std.proofs.Common.{◌≡◌, ◌∙◌, ◌||◌, ℕ, zero, suc, List, [], ◌∷◌, Bool, true, false, Contains, cond, refl, sym, ap, ap₂, subst, filter, map, arith}
use Rattle.std.specs.List.{list_any}
use Rattle.mar_store.specs.Changes.{Within}
use Rattle.mar_model.specs.Cached.{Cached, EachPlaceOnce, same_place}
use Rattle.mar_model.specs.declared.Section.{Section}
use Rattle.mar_epochs.specs.EntryLogs.{Logged, book_of, covered_in, entries, is_covered, sure_entries, with_mark}
use Rattle.mar_epochs.specs.Laws.{filter_within}
use Rattle.mar_epochs.proofs.Filtering.{contains_here, contains_more, contains_none, or_left, or_right}
use Rattle.mar_epochs.proofs.LuckyDraws.{place_itself}

placed : (xs : List Cached) (x : Cached) → Contains xs x → list_any (same_place x) xs ≡ true
placed [] x has = contains_none x has
placed (y ∷ ys) x (zero, less, is) = or_left (same_place x y) (list_any (same_place x) ys) (ap (same_place x) is ∙ place_itself x)
placed (y ∷ ys) x (suc k, less, is) = or_right (same_place x y) (list_any (same_place x) ys) (placed ys x (k, omega (arith, less), is))

not_twice : (xs : List Cached) (x : Cached) → list_any (same_place x) xs ≡ false → Contains xs x → ⊥
not_twice xs x none has = let clash : true ≡ false = sym (placed xs x has) ∙ none in cc

pub marks_nothing : (s : Section) (n : ℕ) (fs : List Logged) → EachPlaceOnce (entries fs) → Within (covered_in fs s n) (sure_entries fs) → map (with_mark s n) fs ≡ fs
marks_nothing s n [] once sure = refl
marks_nothing s n (f ∷ fs) once sure = ap₂ (λ b gs. record f { is_sure = b } ∷ gs) (stays f.is_sure refl (is_covered s n f) refl) (marks_nothing s n fs once.1 behind)
  where
    rest : List Logged
    rest = filter (is_covered s n) fs

    stays : (b : Bool) → f.is_sure ≡ b → (c : Bool) → is_covered s n f ≡ c → (b || c) ≡ b
    stays true is c covered = refl
    stays false is false covered = refl
    stays false is true covered = absurd (not_twice (entries fs) f.entry once.0 (filter_within (λ g. g.entry) (λ g. g.is_sure) fs f.entry (subst (λ b. Contains (entries (cond b (f ∷ filter (λ g. g.is_sure) fs) (filter (λ g. g.is_sure) fs))) f.entry) is (sure f.entry (subst (λ c. Contains (entries (cond c (f ∷ rest) rest)) f.entry) (sym covered) (contains_here f.entry (entries rest)))))))

    up : (y : Cached) (c : Bool) → Contains (entries rest) y → Contains (entries (cond c (f ∷ rest) rest)) y
    up y true has = contains_more f.entry (entries rest) y has
    up y false has = has

    down : (y : Cached) → Contains (entries rest) y → (b : Bool) → Contains (entries (cond b (f ∷ filter (λ g. g.is_sure) fs) (filter (λ g. g.is_sure) fs))) y → Contains (sure_entries fs) y
    down y has true (zero, less, is) = absurd (not_twice (entries fs) f.entry once.0 (subst (Contains (entries fs)) (sym is) (filter_within (λ g. g.entry) (is_covered s n) fs y has)))
    down y has true (suc k, less, is) = (k, omega (arith, less), is)
    down y has false there = there

    behind : Within (covered_in fs s n) (sure_entries fs)
    behind y has = down y has f.is_sure (sure y (up y (is_covered s n f) has))

pub settles : (s : Section) (t number number' : ℕ) (fs new : List Logged) → EachPlaceOnce (entries fs) → new ≡ map (with_mark s t) fs → number' ≡ number → Within (covered_in fs s t) (sure_entries fs) → book_of number' new ≡ book_of number fs
settles s t number number' fs new once is same sure = ap₂ book_of same (is ∙ marks_nothing s t fs once sure)

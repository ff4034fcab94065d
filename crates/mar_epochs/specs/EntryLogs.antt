-- Entries in the order of their puts, each with its number and whether it is sure.
use Rattle.std.specs.Prelude.{Bool, List, [], filter, if◌then◌else◌, map, nat_lt, not, true, ℕ, ◌%◌, ◌&&◌, ◌+◌, ◌==◌, ◌||◌, ◌∷◌, ◌≡◌}
use Rattle.std.specs.List.{AllByRecursion}
use Rattle.mar_store.specs.Kept.{Kept}
use Rattle.mar_store.specs.Luck.{is_lucky}
use Rattle.mar_store.specs.Tickets.{last_number}
use Rattle.mar_model.specs.Cached.{Cached}
use Rattle.mar_model.specs.Sections.{is_in}
use Rattle.mar_epochs.specs.EpochArchives.{Book}
use Rattle.mar_model.specs.declared.Section.{Section}
use Rattle.mar_model.specs.declared.Section.TheVariants.{Certified, Finalizations, Notarizations, Notarized, Verified}
use Rattle.mar_epochs.specs.declared.logged_entry.LoggedEntry.{LoggedEntry}

pub record Logged : Type 0 where
  pub number : ℕ
  pub is_sure : Bool
  pub entry : Cached

abbrev pub logged_of : {E : Type 0} → (E → Cached) → LoggedEntry E → Logged
logged_of plain f = record { number = f.number; is_sure = f.is_sure; entry = plain f.entry }

abbrev pub log_of : {E : Type 0} → (E → Cached) → List (LoggedEntry E) → List Logged
log_of plain items = map (logged_of plain) items

abbrev pub entries : List Logged → List Cached
entries fs = map (λ f. f.entry) fs

abbrev pub sure_entries : List Logged → List Cached
sure_entries fs = entries (filter (λ f. f.is_sure) fs)

abbrev pub kept_in : List Logged → Kept Cached
kept_in fs = record { held = entries fs; sure = sure_entries fs; may = entries fs }

-- put before the ticket of that number was made; the last number covers all
abbrev pub is_numbered : ℕ → Logged → Bool
is_numbered n f = nat_lt f.number n || n == last_number

abbrev pub is_covered : Section → ℕ → Logged → Bool
is_covered s n f = is_in s f.entry && is_numbered n f

abbrev pub covered_in : List Logged → Section → ℕ → List Cached
covered_in fs s n = entries (filter (is_covered s n) fs)

-- what is seen of archives of these entries, whose next one gets this number
abbrev pub book_of : ℕ → List Logged → Book
book_of n fs = record { kept = kept_in fs; number = n; covers = covered_in fs }

-- the ticket of this number covers all
abbrev pub AreNumbered : ℕ → List Logged → Type 0
AreNumbered n fs = AllByRecursion (λ f. is_numbered n f ≡ true) fs

-- sure where the ticket covers it
abbrev pub with_mark : Section → ℕ → Logged → Logged
with_mark s n f = record f { is_sure = f.is_sure || is_covered s n f }

-- Of an archive's entries that aren't sure, those are made sure whose bit of luck is set. The bits go from 0 to 31, and then
-- again from 0 on.
abbrev pub is_drawn : Section → Logged → Bool
is_drawn s f = not f.is_sure && is_in s f.entry

abbrev pub count_next : Section → ℕ → Logged → ℕ
count_next s k f = if is_drawn s f then (k + 1) % 32 else k

abbrev pub with_draw : Section → ℕ → ℕ → Logged → Logged
with_draw s half k f = record f { is_sure = f.is_sure || (is_drawn s f && is_lucky half k) }

abbrev pub drawn : Section → ℕ → ℕ → List Logged → List Logged
drawn s half k [] = []
drawn s half k (f ∷ fs) = with_draw s half k f ∷ drawn s half (count_next s k f) fs

abbrev pub drawn_in_all : ℕ → List Logged → List Logged
drawn_in_all half fs = drawn Finalizations half 0 (drawn Notarizations half 0 (drawn Certified half 0 (drawn Notarized half 0 (drawn Verified half 0 fs))))

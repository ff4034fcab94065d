-- Blocks that were handed over and are not yet drained, with their marks.
use Rattle.std.specs.Prelude.{Bool, List, None, Option, Some, [], false, if◌then◌else◌, map, true, ℕ, ◌&&◌, ◌+◌, ◌<◌, ◌==◌, ◌^◌, ◌∷◌}

-- whether it was acknowledged or dropped
pub data Mark : Type 0 where
  mark_waiting : Mark
  mark_given : Mark
  mark_dropped : Mark

-- a block that was handed over and is not yet drained
pub record Outstanding : Type 0 where
  pub ticket : ℕ
  pub height : ℕ
  pub mark : Mark

-- Acknowledgements: the mark is set on the unmarked ticket, then the given ones are drained from the front.
abbrev pub is_given : Mark → Bool
is_given mark_waiting = false
is_given mark_given = true
is_given mark_dropped = false

abbrev pub is_unmarked : ℕ → Outstanding → Bool
is_unmarked ticket a = a.ticket == ticket && is_waiting a.mark
  where
    is_waiting : Mark → Bool
    is_waiting mark_waiting = true
    is_waiting mark_given = false
    is_waiting mark_dropped = false

-- the entry with this mark, where it is the unmarked one of the ticket
abbrev pub marked_entry : ℕ → Mark → Outstanding → Outstanding
marked_entry ticket mark a = if is_unmarked ticket a then record a { mark = mark } else a

-- the unmarked block of this ticket is marked
abbrev pub with_mark : ℕ → Mark → List Outstanding → List Outstanding
with_mark ticket mark out = map (marked_entry ticket mark) out

-- the given ones before the first that is not
abbrev pub given_front : List Outstanding → List Outstanding
given_front [] = []
given_front (a ∷ out) = if is_given a.mark then a ∷ given_front out else []

-- what is left once these are drained
abbrev pub after_given : List Outstanding → List Outstanding
after_given [] = []
after_given (a ∷ out) = if is_given a.mark then after_given out else a ∷ out

-- the oldest entry, where it is given, and where it is dropped
abbrev pub given_oldest : List Outstanding → Option Outstanding
given_oldest [] = None
given_oldest (a ∷ out) = if is_given a.mark then Some a else None

abbrev pub is_dropped : Mark → Bool
is_dropped mark_waiting = false
is_dropped mark_given = false
is_dropped mark_dropped = true

abbrev pub dropped_oldest : List Outstanding → Option Outstanding
dropped_oldest [] = None
dropped_oldest (a ∷ out) = if is_dropped a.mark then Some a else None

-- the entries without the oldest, where it is given
abbrev pub after_oldest : List Outstanding → List Outstanding
after_oldest [] = []
after_oldest (a ∷ out) = if is_given a.mark then out else a ∷ out

-- what contracts see of the acknowledgements that are waited for: the entries, oldest first, and the most there may be
pub record Acks : Type 0 where
  pub entries : List Outstanding
  pub max : ℕ

-- the height above the newest entry's, or this one where there is none
abbrev pub height_after : ℕ → List Outstanding → ℕ
height_after start [] = start
height_after start (a ∷ out) = height_after (a.height + 1) out

-- there is a height above the entry's
abbrev pub HasNextHeight : Outstanding → Type 0
HasNextHeight a = a.height + 1 < 2 ^ 64

-- What is read of the text that one line of a script writes, and the line that sums a run up.
use Rattle.std.specs.Borrow.{Bor}
use Rattle.std.specs.List.{count_by, slice_get, slice_split}
use Rattle.std.specs.Option.{is_some, option_or}
use Rattle.std.specs.Prelude.{List, None, Option, Some, [], bytes_eq, codes, decimal, drop, if◌then◌else◌, length, map, option_and_then, take, ℕ, ◌++◌, ◌==◌, ◌∷◌, ◌≡◌}
use Rattle.mar_types.specs.Varint.{IsNumber}
use Rattle.mar_gen.specs.declared.output.Owed.{Owed}
use Rattle.mar_gen.specs.declared.output.Owed.TheVariants.{Ack, Sync}

-- a text cut at each of these bytes
abbrev pub pieces : ℕ → List ℕ → List (List ℕ)
pieces byte text = slice_split (λ b. b == byte) text

abbrev pub seen : List (Bor (List ℕ)) → List (List ℕ)
seen texts = map (λ t. t.now) texts

-- what stands behind this front, where the text has it
abbrev pub behind : List ℕ → List ℕ → Option (List ℕ)
behind front text = if bytes_eq (take (length front) text) front then Some (drop (length front) text) else None

-- what stands behind this front in the first text that has it
abbrev pub first_behind : List ℕ → List (List ℕ) → Option (List ℕ)
first_behind front [] = None
first_behind front (t ∷ texts) = option_or (behind front t) (first_behind front texts)

-- the words of a line, none where there is no line
abbrev pub words_of : Option (List ℕ) → List (List ℕ)
words_of None = []
words_of (Some line) = pieces 32 line

-- the words behind `node ` in the line that shows the node
abbrev pub node_words : List ℕ → List (List ℕ)
node_words text = words_of (first_behind (codes "node ") (pieces 10 text))

-- what a field holds before the first `:`, which is its first ticket
abbrev pub HasFirst : Option (List ℕ) → ℕ → Type 0
HasFirst value t = option_and_then (λ text. slice_get (pieces 58 text) 0) value ≡ Some (decimal t)

abbrev pub HasNone : Option (List ℕ) → Type 0
HasNone value = (t : ℕ) → IsNumber t → HasFirst value t → ⊥

-- What a node waits for by the words of its line: that its first open sync finishes; where no sync is open, that its
-- first outstanding block is acknowledged.
abbrev pub IsOwed : List (List ℕ) → Option Owed → Type 0
IsOwed words (Some (Sync t)) = HasFirst (first_behind (codes "s=") words) t × IsNumber t
IsOwed words (Some (Ack t)) = HasNone (first_behind (codes "s=") words) × HasFirst (first_behind (codes "o=") words) t × IsNumber t
IsOwed words None = HasNone (first_behind (codes "s=") words) × HasNone (first_behind (codes "o=") words)

-- how many lines of the text hand a block over
abbrev pub blocks_in : List ℕ → ℕ
blocks_in text = count_by (λ line. is_some (behind (codes "block ") line)) (pieces 10 text)

abbrev pub or_dash : Option (List ℕ) → List ℕ
or_dash None = codes "-"
or_dash (Some shown) = shown

-- the processed height as the words of the node's line show it
abbrev pub processed_in : List (List ℕ) → List ℕ
processed_in words = or_dash (first_behind (codes "p=") words)

-- `gen SEED N delivered D processed P lives L`, before P and behind it
abbrev pub summary_front : ℕ → ℕ → ℕ → List ℕ
summary_front seed n delivered = codes "gen " ++ (decimal seed ++ (codes " " ++ (decimal n ++ (codes " delivered " ++ (decimal delivered ++ codes " processed ")))))

abbrev pub summary_back : ℕ → List ℕ
summary_back lives = codes " lives " ++ (decimal lives ++ 10 ∷ [])

-- the line that sums a run up
abbrev pub summary : ℕ → ℕ → ℕ → List ℕ → ℕ → List ℕ
summary seed n delivered processed lives = summary_front seed n delivered ++ processed ++ summary_back lives

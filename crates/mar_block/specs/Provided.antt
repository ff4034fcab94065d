-- A provider of parents in memory: what its tickets were asked for and what came.
use Rattle.std.specs.Prelude.{List, None, Option, Some, if◌then◌else◌, is_none, is_some, option_map, slice_get, ℕ, ◌&&◌}
use Rattle.mar_cert.specs.Block.{Block as PlainBlock}
use Rattle.mar_block.specs.declared.mem_provider.Row.{Row}
use Rattle.mar_block.specs.declared.mem_provider.Row.TheVariants.{Asked, Came}

-- the block whose parent a ticket asks for, while its answer wasn't fetched
abbrev pub asked_by : {B : Type 0} → (B → PlainBlock) → Option (Row B) → Option PlainBlock
asked_by plain (Some (Asked child)) = Some (plain child)
asked_by plain (Some (Came child block)) = Some (plain child)
asked_by plain _ = None

-- of the row of a ticket
abbrev pub asked_at : {B : Type 0} → (B → PlainBlock) → List (Row B) → ℕ → Option PlainBlock
asked_at plain rows ticket = asked_by plain (slice_get rows ticket)

-- the answer that waits to be fetched
abbrev pub came_by : {B : Type 0} → (B → PlainBlock) → Option (Row B) → Option (Option PlainBlock)
came_by plain (Some (Came child block)) = Some (option_map plain block)
came_by plain _ = None

abbrev pub came_at : {B : Type 0} → (B → PlainBlock) → List (Row B) → ℕ → Option (Option PlainBlock)
came_at plain rows ticket = came_by plain (slice_get rows ticket)

-- what came in a row once an answer was given for it: one that was asked under and waits takes it
abbrev pub came_in : {B : Type 0} → (B → PlainBlock) → Row B → Option B → Option (Option PlainBlock)
came_in plain row answer = if is_some (asked_by plain (Some row)) && is_none (came_by plain (Some row))
    then Some (option_map plain answer)
    else came_by plain (Some row)

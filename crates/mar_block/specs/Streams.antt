-- A stream that asks a provider for each parent.
use Rattle.std.specs.Prelude.{Bool, List, None, Option, Some, [], false, is_none, is_some, map, option_map, true, if◌then◌else◌, ℕ, ⊤, ◌&&◌, ◌==◌, ◌∷◌, ◌≡◌}
use Rattle.mar_cert.specs.Block.{Block as PlainBlock}
use Rattle.mar_block.specs.Links.{Coming, IsDirectParent, Shown, block_comes, end_comes, is_direct_parent, pending_comes, shown_first}
use Rattle.mar_block.specs.declared.polled.Polled.{Polled}
use Rattle.mar_block.specs.declared.polled.Polled.TheVariants.{Block, End, NotContiguous, Pending}
use Rattle.mar_block.specs.declared.block_provider.Fetched.{Fetched}
use Rattle.mar_block.specs.declared.block_provider.Fetched.TheVariants as fetched
use Rattle.mar_block.specs.declared.ancestor_stream.Ahead.{Ahead as CodeAhead}
use Rattle.mar_block.specs.declared.ancestor_stream.Ahead.TheVariants as code

-- PROVIDERS: what a ticket asks for, the parent of this block; and what came for it: nothing yet, or a block or none

abbrev pub fetched_block : {B : Type 0} → (B → PlainBlock) → Fetched B → Option (Option PlainBlock)
fetched_block plain fetched.Pending = None
fetched_block plain (fetched.Came b) = Some (option_map plain b)

-- a provider knows the same of a ticket as before
abbrev pub KnowsSame : {P : Type 0} → (P → ℕ → Option PlainBlock) → (P → ℕ → Option (Option PlainBlock)) → P → P → ℕ → Type 0
KnowsSame asked came old new t = (asked new t ≡ asked old t) × (came new t ≡ came old t)

-- what came for a ticket once this answer was given for one: a ticket that was asked under and waits takes it
abbrev pub came_after : (ℕ → Option PlainBlock) → (ℕ → Option (Option PlainBlock)) → ℕ → Option PlainBlock → ℕ → Option (Option PlainBlock)
came_after asked came ticket answer t = if t == ticket && is_some (asked t) && is_none (came t) then Some answer else came t

-- STREAMS

-- what comes behind the buffered blocks: nothing, the parent of this block under this ticket, or this block
pub data Ahead : Type 0 where
  nothing_ahead : Ahead
  awaits_parent : PlainBlock → ℕ → Ahead
  has_fetched : PlainBlock → Ahead

abbrev pub ahead_of : {B : Type 0} → (B → PlainBlock) → CodeAhead B → Ahead
ahead_of plain code.Nothing = nothing_ahead
ahead_of plain (code.Awaits child ticket) = awaits_parent (plain child) ticket
ahead_of plain (code.Fetched block) = has_fetched (plain block)

-- the buffered blocks, newest first, what comes behind them, and the provider
pub record Streamed (P : Type 0) : Type 0 where
  pub buffered : List PlainBlock
  pub ahead : Ahead
  pub provider : P

-- what a stream keeps: the blocks that are buffered and what is ahead of them, as plain data
abbrev pub streamed : {B P : Type 0} → (B → PlainBlock) → List B → CodeAhead B → P → Streamed P
streamed plain buffered ahead provider = record {
  buffered = map plain buffered;
  ahead = ahead_of plain ahead;
  provider = provider;
}

-- the ticket under which a parent is awaited
abbrev pub awaited : Ahead → Option ℕ
awaited (awaits_parent child ticket) = Some ticket
awaited ahead = None

-- while blocks are buffered nothing was asked for
abbrev pub IsAheadOf : List PlainBlock → Ahead → Type 0
IsAheadOf [] ahead = ⊤
IsAheadOf (x ∷ rest) ahead = ahead ≡ nothing_ahead

abbrev pub MayComeAhead : Ahead → PlainBlock → Type 0
MayComeAhead nothing_ahead l = ⊥
MayComeAhead (awaits_parent child ticket) l = IsDirectParent child l
MayComeAhead (has_fetched f) l = f ≡ l

abbrev pub MayCome : List PlainBlock → Ahead → PlainBlock → Type 0
MayCome [] ahead l = MayComeAhead ahead l
MayCome (x ∷ rest) ahead l = x ≡ l

-- an answer: pending without one; the end where it is none, or not the parent
abbrev pub coming_answer : PlainBlock → Option (Option PlainBlock) → Coming
coming_answer child None = pending_comes
coming_answer child (Some None) = end_comes
coming_answer child (Some (Some l)) = if is_direct_parent child l then block_comes l else end_comes

-- by what came for each ticket
abbrev pub coming_ahead : (ℕ → Option (Option PlainBlock)) → Ahead → Coming
coming_ahead came nothing_ahead = end_comes
coming_ahead came (awaits_parent child ticket) = coming_answer child (came ticket)
coming_ahead came (has_fetched f) = block_comes f

abbrev pub coming_streamed : (ℕ → Option (Option PlainBlock)) → List PlainBlock → Ahead → Coming
coming_streamed came [] ahead = coming_ahead came ahead
coming_streamed came (x ∷ rest) ahead = block_comes x

-- what may come next in a stream, what it shows, and what it gives
abbrev pub MayStream : {P : Type 0} → Streamed P → PlainBlock → Type 0
MayStream s l = MayCome s.buffered s.ahead l

abbrev pub shown_stream : {P : Type 0} → Streamed P → Shown
shown_stream s = shown_first s.buffered

abbrev pub coming_stream : {P : Type 0} → (P → ℕ → Option (Option PlainBlock)) → Streamed P → Coming
coming_stream came s = coming_streamed (came s.provider) s.buffered s.ahead

-- a block was yielded, the last one buffered: behind height zero nothing comes, else its parent was asked for
abbrev pub IsAskedOf : Bool → (ℕ → Option PlainBlock) → PlainBlock → Ahead → Type 0
IsAskedOf true asked x ahead = ahead ≡ nothing_ahead
IsAskedOf false asked x ahead = (ticket : ℕ) × (ahead ≡ awaits_parent x ticket) × (asked ticket ≡ Some x)

abbrev pub IsAskedBehind : (ℕ → Option PlainBlock) → PlainBlock → Ahead → Type 0
IsAskedBehind asked x ahead = IsAskedOf (x.height == 0) asked x ahead

-- what stands ahead once it gave this
abbrev pub LeavesAhead : {B : Type 0} → (B → PlainBlock) → (ℕ → Option PlainBlock) → Ahead → Polled B → Ahead → Type 0
LeavesAhead plain asked ahead (Block b) ahead' = IsAskedBehind asked (plain b) ahead'
LeavesAhead plain asked ahead Pending ahead' = ahead' ≡ ahead
LeavesAhead plain asked ahead End ahead' = ahead' ≡ nothing_ahead
LeavesAhead plain asked ahead NotContiguous ahead' = ⊥

-- what a poll that gives this leaves of a stream, by what its provider was asked
abbrev pub Leaves : {B : Type 0} → (B → PlainBlock) → (ℕ → Option PlainBlock) → List PlainBlock → Ahead → Polled B → List PlainBlock → Ahead → Type 0
Leaves plain asked [] ahead p buffered' ahead' = (buffered' ≡ []) × LeavesAhead plain asked ahead p ahead'
Leaves plain asked (x ∷ []) ahead p buffered' ahead' = (buffered' ≡ []) × IsAskedBehind asked x ahead'
Leaves plain asked (x ∷ y ∷ rest) ahead p buffered' ahead' = (buffered' ≡ y ∷ rest) × (ahead' ≡ ahead)

abbrev pub LeavesStream : {B P : Type 0} → (B → PlainBlock) → (P → ℕ → Option PlainBlock) → Streamed P → Polled B → Streamed P → Type 0
LeavesStream plain asked old p new = Leaves plain (asked new.provider) old.buffered old.ahead p new.buffered new.ahead

-- what stands ahead is as it was, by what came for each ticket: no other block may come, and the same is given
abbrev pub IsAheadAsBefore : (ℕ → Option (Option PlainBlock)) → Ahead → (ℕ → Option (Option PlainBlock)) → Ahead → Type 0
IsAheadAsBefore came ahead came' ahead' = ((l : PlainBlock) → MayComeAhead ahead' l → MayComeAhead ahead l)
    × (coming_ahead came' ahead' ≡ coming_ahead came ahead)

-- FORKS

-- what stands ahead of a fork: the same, but that an awaited parent is asked for anew, of the fork's own provider
abbrev pub IsForkedAhead : (ℕ → Option PlainBlock) → Ahead → Ahead → Type 0
IsForkedAhead asked (awaits_parent child ticket) ahead' = (own : ℕ) × (ahead' ≡ awaits_parent child own) × (asked own ≡ Some child)
IsForkedAhead asked ahead ahead' = ahead' ≡ ahead

pub record IsForkOf (asked : ℕ → Option PlainBlock) (old : List PlainBlock) (ahead : Ahead) (new : List PlainBlock) (ahead' : Ahead) : Type 0 where
  pub buffered : new ≡ old
  pub ahead_is : IsForkedAhead asked ahead ahead'

abbrev pub IsForkOfStream : {P : Type 0} → (P → ℕ → Option PlainBlock) → Streamed P → Streamed P → Type 0
IsForkOfStream asked old fork = IsForkOf (asked fork.provider) old.buffered old.ahead fork.buffered fork.ahead

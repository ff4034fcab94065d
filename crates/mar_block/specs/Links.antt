-- Blocks and their parents, and what a stream of them, newest first, shows and yields.
use Rattle.std.specs.Prelude.{Bool, IsTrue, List, None, Option, Some, [], bytes_eq, ⊤, ◌&&◌, ◌++◌, ◌+◌, ◌==◌, ◌∷◌, ◌≡◌, ◌⊎◌}
use Rattle.std.specs.List.{Contains}
use Rattle.mar_cert.specs.Block.{Block as PlainBlock}
use Rattle.mar_block.specs.declared.polled.Peeked.{Peeked}
use Rattle.mar_block.specs.declared.polled.Peeked.TheVariants as peeked
use Rattle.mar_block.specs.declared.polled.Polled.{Polled}
use Rattle.mar_block.specs.declared.polled.Polled.TheVariants.{Block, End, NotContiguous, Pending}

-- the second is the direct parent of the first: one height below it, and of the digest that it names
abbrev pub is_direct_parent : PlainBlock → PlainBlock → Bool
is_direct_parent child parent = parent.height + 1 == child.height && bytes_eq parent.digest child.parent

abbrev pub IsDirectParent : PlainBlock → PlainBlock → Type 0
IsDirectParent child parent = IsTrue (is_direct_parent child parent)

-- the first of these, if there is one, is the direct parent
abbrev pub AreBehind : PlainBlock → List PlainBlock → Type 0
AreBehind child [] = ⊤
AreBehind child (parent ∷ rest) = IsDirectParent child parent

-- each is the direct parent of the one before it
abbrev pub AreLinked : List PlainBlock → Type 0
AreLinked [] = ⊤
AreLinked (x ∷ xs) = AreBehind x xs × AreLinked xs

-- the second list begins with the first
abbrev pub IsFront : List PlainBlock → List PlainBlock → Type 0
IsFront front whole = (rest : List PlainBlock) × (whole ≡ front ++ rest)

-- no two of them have one digest
abbrev pub HaveOwnDigests : List PlainBlock → Type 0
HaveOwnDigests blocks = (x y : PlainBlock) → Contains blocks x → Contains blocks y → x.digest ≡ y.digest → x ≡ y

-- the last of a line, which is its first block where none is behind it, stands at height zero, or no block among these is its parent
abbrev pub Ends : List PlainBlock → PlainBlock → List PlainBlock → Type 0
Ends blocks b [] = (b.height ≡ 0) ⊎ ((x : PlainBlock) → Contains blocks x → IsDirectParent b x → ⊥)
Ends blocks b (x ∷ rest) = Ends blocks x rest

abbrev pub first : List PlainBlock → Option PlainBlock
first [] = None
first (x ∷ xs) = Some x

-- what a stream shows of its next block: nothing yet, that block, or that it isn't the last one's parent
pub data Shown : Type 0 where
  nothing_shown : Shown
  block_shown : PlainBlock → Shown
  not_contiguous_shown : Shown

abbrev pub shown_of : {B : Type 0} → (B → PlainBlock) → Peeked B → Shown
shown_of plain peeked.Nothing = nothing_shown
shown_of plain (peeked.Block b) = block_shown (plain b.now)
shown_of plain peeked.NotContiguous = not_contiguous_shown

-- what a poll gives now
pub data Coming : Type 0 where
  block_comes : PlainBlock → Coming
  not_contiguous_comes : Coming
  pending_comes : Coming
  end_comes : Coming

abbrev pub coming_of : {B : Type 0} → (B → PlainBlock) → Polled B → Coming
coming_of plain (Block b) = block_comes (plain b)
coming_of plain NotContiguous = not_contiguous_comes
coming_of plain Pending = pending_comes
coming_of plain End = end_comes

-- what a poll may give, by what may come next in a stream, before and after: a block that may, and then its direct parent alone
abbrev pub Yields : {B : Type 0} → (B → PlainBlock) → (PlainBlock → Type 0) → Polled B → (PlainBlock → Type 0) → Type 0
Yields plain wants (Block b) wants' = wants (plain b) × ((l : PlainBlock) → wants' l → IsDirectParent (plain b) l)
Yields plain wants _ wants' = (l : PlainBlock) → wants' l → wants l

-- what is shown is what the next poll gives
abbrev pub Keeps : {B : Type 0} → (B → PlainBlock) → Shown → Polled B → Type 0
Keeps plain nothing_shown polled = ⊤
Keeps plain (block_shown l) (Block b) = plain b ≡ l
Keeps plain (block_shown l) _ = ⊥
Keeps plain not_contiguous_shown NotContiguous = ⊤
Keeps plain not_contiguous_shown _ = ⊥

-- a stream is as it was: no other block may come, and it shows and gives the same
abbrev pub IsAsBefore : {S : Type 0} → (S → PlainBlock → Type 0) → (S → Shown) → (S → Coming) → S → S → Type 0
IsAsBefore wants shows comes old new = ((l : PlainBlock) → wants new l → wants old l)
    × (shows new ≡ shows old) × (comes new ≡ comes old)

-- a fork: what may come may come of the stream that it was made of, and it shows the same
abbrev pub IsFork : {S : Type 0} → (S → PlainBlock → Type 0) → (S → Shown) → S → S → Type 0
IsFork wants shows old fork = ((l : PlainBlock) → wants fork l → wants old l) × (shows fork ≡ shows old)

-- GIVEN BLOCKS

abbrev pub IsFirst : List PlainBlock → PlainBlock → Type 0
IsFirst blocks l = first blocks ≡ Some l

-- exactly the next of these, and the end behind the last
abbrev pub Gives : {B : Type 0} → (B → PlainBlock) → List PlainBlock → Polled B → List PlainBlock → Type 0
Gives plain blocks (Block b) blocks' = blocks ≡ plain b ∷ blocks'
Gives plain blocks End blocks' = (blocks ≡ []) × (blocks' ≡ [])
Gives plain blocks _ blocks' = ⊥

abbrev pub coming_first : List PlainBlock → Coming
coming_first [] = end_comes
coming_first (x ∷ xs) = block_comes x

abbrev pub shown_first : List PlainBlock → Shown
shown_first [] = nothing_shown
shown_first (x ∷ xs) = block_shown x

-- Given blocks before a stream.
use Rattle.std.specs.Prelude.{Bool, IsTrue, List, None, Option, Some, [], if◌then◌else◌, map, option_map, true, false, ⊤, ◌∷◌, ◌≡◌}
use Rattle.mar_cert.specs.Block.{Block as PlainBlock}
use Rattle.mar_block.specs.declared.polled.Polled.{Polled}
use Rattle.mar_block.specs.declared.polled.Polled.TheVariants.{Block, NotContiguous}
use Rattle.mar_block.specs.Links.{Coming, Shown, block_comes, block_shown, end_comes, is_direct_parent, nothing_shown, not_contiguous_comes, not_contiguous_shown}

-- what is left of the given blocks, newest first; the oldest of them, until the block behind it was yielded; whether that
-- one wasn't its parent; the stream behind
pub record Prefixed (A : Type 0) : Type 0 where
  pub prefix : List PlainBlock
  pub boundary : Option PlainBlock
  pub ended : Bool
  pub tail : A

abbrev pub last : List PlainBlock → Option PlainBlock
last [] = None
last (x ∷ []) = Some x
last (x ∷ y ∷ rest) = last (y ∷ rest)

-- of these blocks, with this boundary
abbrev pub prefixed : {A B : Type 0} → (B → PlainBlock) → List B → Option B → Bool → A → Prefixed A
prefixed plain prefix boundary ended tail = record {
  prefix = map plain prefix;
  boundary = option_map plain boundary;
  ended = ended;
  tail = tail;
}

-- the last of the given blocks, while there is one, is the boundary
abbrev pub IsBoundary : List PlainBlock → Option PlainBlock → Type 0
IsBoundary [] boundary = ⊤
IsBoundary (x ∷ rest) boundary = boundary ≡ last (x ∷ rest)

-- it may stand behind
abbrev pub is_behind : Option PlainBlock → PlainBlock → Bool
is_behind None l = true
is_behind (Some child) l = is_direct_parent child l

abbrev pub IsBehind : Option PlainBlock → PlainBlock → Type 0
IsBehind boundary l = IsTrue (is_behind boundary l)

abbrev pub MayFollowEnd : Bool → Option PlainBlock → (PlainBlock → Type 0) → PlainBlock → Type 0
MayFollowEnd true boundary wants l = ⊥
MayFollowEnd false boundary wants l = IsBehind boundary l × wants l

abbrev pub MayFollow : List PlainBlock → Bool → Option PlainBlock → (PlainBlock → Type 0) → PlainBlock → Type 0
MayFollow [] ended boundary wants l = MayFollowEnd ended boundary wants l
MayFollow (x ∷ rest) ended boundary wants l = x ≡ l

-- what is shown of the stream's next block behind this one
abbrev pub shown_behind : Option PlainBlock → Shown → Shown
shown_behind boundary (block_shown l) = if is_behind boundary l then block_shown l else not_contiguous_shown
shown_behind boundary s = s

abbrev pub shown_prefixed : List PlainBlock → Bool → Option PlainBlock → Shown → Shown
shown_prefixed [] true boundary s = nothing_shown
shown_prefixed [] false boundary s = shown_behind boundary s
shown_prefixed (x ∷ rest) ended boundary s = block_shown x

-- what comes of the stream behind this one
abbrev pub coming_behind : Option PlainBlock → Coming → Coming
coming_behind boundary (block_comes l) = if is_behind boundary l then block_comes l else not_contiguous_comes
coming_behind boundary c = c

abbrev pub coming_prefixed : List PlainBlock → Bool → Option PlainBlock → Coming → Coming
coming_prefixed [] true boundary c = end_comes
coming_prefixed [] false boundary c = coming_behind boundary c
coming_prefixed (x ∷ rest) ended boundary c = block_comes x

-- what may come next, what it shows and what it gives, by those of the stream behind
abbrev pub MayComePrefixed : {A : Type 0} → (A → PlainBlock → Type 0) → Prefixed A → PlainBlock → Type 0
MayComePrefixed wants s l = MayFollow s.prefix s.ended s.boundary (wants s.tail) l

abbrev pub shown_of_prefixed : {A : Type 0} → (A → Shown) → Prefixed A → Shown
shown_of_prefixed shows s = shown_prefixed s.prefix s.ended s.boundary (shows s.tail)

abbrev pub coming_of_prefixed : {A : Type 0} → (A → Coming) → Prefixed A → Coming
coming_of_prefixed comes s = coming_prefixed s.prefix s.ended s.boundary (comes s.tail)

-- two have the same but for the stream behind
abbrev pub SameButTail : {A : Type 0} → Prefixed A → Prefixed A → Type 0
SameButTail s t = (t.prefix ≡ s.prefix) × (t.boundary ≡ s.boundary) × (t.ended ≡ s.ended)

-- what a poll that gives this leaves of the prefix, of the boundary and of whether it ended
abbrev pub LeavesBehind : {B : Type 0} → Bool → Option PlainBlock → Polled B → Bool → Option PlainBlock → Type 0
LeavesBehind ended boundary (Block b) ended' boundary' = (ended' ≡ ended) × (boundary' ≡ None)
LeavesBehind ended boundary NotContiguous ended' boundary' = ended' ≡ true
LeavesBehind ended boundary _ ended' boundary' = (ended' ≡ ended) × (boundary' ≡ boundary)

abbrev pub LeavesPrefixed : {A B : Type 0} → Prefixed A → List PlainBlock → Polled B → Prefixed A → Type 0
LeavesPrefixed s [] p t = (t.prefix ≡ []) × LeavesBehind s.ended s.boundary p t.ended t.boundary
LeavesPrefixed s (x ∷ rest) p t = t ≡ record s { prefix = rest }

-- How gaps are filled: which block a pass wants next, what it finds of it, and what it asks for.
use Rattle.std.specs.Prelude.{Bool, List, None, Option, Some, [], bytes_eq, if◌then◌else◌, is_some, map, nat_lt, option_and_then, option_map, true, ℕ, ⊤, ◌&&◌, ◌++◌, ◌+◌, ◌-◌, ◌==◌, ◌∷◌, ◌≡◌, ◌⊎◌}
use Rattle.mar_cert.specs.Block.{Block}
use Rattle.mar_cert.specs.Finalization.{Finalization}
use Rattle.mar_key.specs.Keys.{Call, block_key, fetch, finalized_by_height, finalized_key}
use Rattle.mar_key.specs.Processed.{Processed, height_of}
use Rattle.mar_store.specs.Changes.{heights}
use Rattle.mar_store.specs.Gaps.{missing_items, next_start}
use Rattle.mar_store.specs.Kept.{At, value_at}
use Rattle.mar_store.specs.Named.{last_index}
use Rattle.mar_store.specs.Ranges.{ranges}
use Rattle.mar_model.specs.AllEntries.{soonest}
use Rattle.mar_model.specs.Cached.{Cached, cached_finalization}
use Rattle.mar_model.specs.Entries.{is_for}
use Rattle.mar_model.specs.Held.{Held}
use Rattle.mar_model.specs.Moves.{found_at_hand}
use Rattle.mar_model.specs.Stored.{at_own_height, is_held, newest}
use Rattle.mar_model.specs.Acts.{Act, ask, says, store, store_block, stores, tell}

-- What a pass looks in, and the lowest height that it fills.
pub record Search : Type 0 where
  pub inner : List ℕ → List ℕ
  pub buffer : List Block
  pub cached : List Cached
  pub from : ℕ

-- above the processed height
abbrev pub search_of : (List ℕ → List ℕ) → List Block → Held → Search
search_of inner buffer h = record { inner = inner; buffer = buffer; cached = h.cache.kept.held; from = height_of h.processed + 1 }

-- WHAT IS WANTED: a commitment, at the height of its block

-- the held block right above the lowest gap
abbrev pub upper_end : ℕ → List (At Block) → Option Block
upper_end from held = option_and_then (value_at held) (next_start (ranges (heights held)) from)

abbrev pub parent_of : Block → At (List ℕ)
parent_of b = record { height = b.height - 1; value = b.parent_commitment }

-- its parent is wanted next
abbrev pub parent_wanted : ℕ → List (At Block) → Option (At (List ℕ))
parent_wanted from held = option_map parent_of (upper_end from held)

abbrev pub is_above_last : Option ℕ → ℕ → Bool
is_above_last None h = true
is_above_last (Some last) h = nat_lt last h

-- the newest certificate, where it is above the processed height and above every held block
abbrev pub certified_alone : Option Processed → List (At Block) → Option (At Finalization) → Option (At Finalization)
certified_alone processed held None = None
certified_alone processed held (Some x) = if nat_lt (height_of processed) x.height && is_above_last (last_index held) x.height then Some x else None

-- WHAT IS FOUND

abbrev pub look_up : Search → List (At Block) → List ℕ → Option Block
look_up s held commitment = found_at_hand s.inner s.buffer s.cached held commitment

-- that block, where it has this height
abbrev pub of_height : ℕ → Option Block → Option Block
of_height h None = None
of_height h (Some b) = if b.height == h then Some b else None

-- the parent that is wanted, where it is at hand and has its height
abbrev pub fill_of : Search → List (At Block) → Option Block
fill_of s held = option_and_then (λ w. of_height w.height (look_up s held w.value)) (parent_wanted s.from held)

-- the blocks that are held once it is put
abbrev pub with_fill : List (At Block) → Block → List (At Block)
with_fill held b = if is_held held b then held else held ++ at_own_height b ∷ []

abbrev pub with_found : List (At Block) → Option Block → List (At Block)
with_found held None = held
with_found held (Some b) = with_fill held b

abbrev pub with_fills : List (At Block) → List Block → List (At Block)
with_fills held [] = held
with_fills held (b ∷ fills) = with_fills (with_fill held b) fills

-- Each of these was the parent that was wanted as the ones before it were put: so the lowest gap is filled first, from its end.
abbrev pub AreFills : Search → List (At Block) → List Block → Type 0
AreFills s held [] = ⊤
AreFills s held (b ∷ fills) = (fill_of s held ≡ Some b) × AreFills s (with_fill held b) fills

-- None is found, or one whose digest is held at another height, which is not put.
abbrev pub EndsFills : Search → List (At Block) → Type 0
EndsFills s held = (fill_of s held ≡ None) ⊎ ((b : Block) × (fill_of s held ≡ Some b) × (is_held held b ≡ true))

-- the finalization of this payload
abbrev pub of_payload : List ℕ → Option Finalization → Option Finalization
of_payload payload None = None
of_payload payload (Some f) = if bytes_eq f.payload payload then Some f else None

-- the cached finalization of a commitment: of the digest that it names, the one that a search of the cache finds
abbrev pub cached_for : (List ℕ → List ℕ) → List Cached → List ℕ → Option Finalization
cached_for inner cached commitment = of_payload commitment (option_and_then cached_finalization (soonest (is_for inner (inner commitment)) cached))

-- WHAT IS ASKED FOR

abbrev pub parent_fetch : At (List ℕ) → Call
parent_fetch w = fetch (block_key w.value) (finalized_by_height w.height) None

abbrev pub height_fetch : ℕ → Call
height_fetch h = fetch (finalized_key h) (finalized_by_height h) None

-- a wanted block that is not at hand is asked for by commitment and height
abbrev pub fetch_asks : Search → List (At Block) → Option (At (List ℕ)) → List Call
fetch_asks s held None = []
fetch_asks s held (Some w) = if is_some (look_up s held w.value) then [] else parent_fetch w ∷ []

-- then the lowest missing heights, at most so many
abbrev pub gap_asks : Search → ℕ → List (At Block) → List Call
gap_asks s most held = fetch_asks s held (parent_wanted s.from held) ++ map height_fetch (missing_items (ranges (heights held)) s.from most)

-- WHAT A PASS DOES

-- a block is stored with its finalization, where that is known, and told then
abbrev pub fill_acts : Option Finalization → Block → List Act
fill_acts None b = stores (store_block b) ∷ []
fill_acts (Some f) b = stores (store f b) ∷ says (tell f.round b.height b.digest) ∷ []

abbrev pub certified_acts : At Finalization → Option Block → List Act
certified_acts x None = says (ask (parent_fetch (record { height = x.height; value = x.value.payload }) ∷ [])) ∷ []
certified_acts x (Some b) = if b.height == x.height then stores (store_block b) ∷ [] else []

-- the block of the newest certificate comes first, whose tip was told as that was stored
abbrev pub newest_acts : Search → List (At Block) → Option (At Finalization) → List Act
newest_acts s held None = []
newest_acts s held (Some x) = certified_acts x (look_up s held x.value.payload)

abbrev pub with_newest_fill : Search → List (At Block) → Option (At Finalization) → List (At Block)
with_newest_fill s held None = held
with_newest_fill s held (Some x) = with_found held (of_height x.height (look_up s held x.value.payload))

-- each parent that is filled in is stored with its cached finalization
abbrev pub fills_acts : Search → List Block → List Act
fills_acts s [] = []
fills_acts s (b ∷ fills) = fill_acts (cached_for s.inner s.cached b.commitment) b ++ fills_acts s fills

abbrev pub gap_acts : Search → ℕ → List (At Block) → List Act
gap_acts s most held = says (ask (gap_asks s most held)) ∷ []

-- the certificate with which a pass begins
abbrev pub alone_in : Held → Option (At Finalization)
alone_in h = certified_alone h.processed h.blocks.held (newest h.certs.held)

-- the blocks that are held as the walk begins
abbrev pub walk_start : (List ℕ → List ℕ) → List Block → Held → List (At Block)
walk_start inner buffer h = with_newest_fill (search_of inner buffer h) h.blocks.held (alone_in h)

-- what is done until these are filled in
abbrev pub front_acts : (List ℕ → List ℕ) → List Block → Held → List Block → List Act
front_acts inner buffer h fills = newest_acts (search_of inner buffer h) h.blocks.held (alone_in h) ++ fills_acts (search_of inner buffer h) fills

-- all that a pass asks for, where these were filled in: the newest certificate's block, then what is missing
abbrev pub payload_wanted : Option (At Finalization) → Option (At (List ℕ))
payload_wanted x = option_map (λ c. record { height = c.height; value = c.value.payload }) x

abbrev pub pass_asks : (List ℕ → List ℕ) → List Block → Held → ℕ → List Block → List Call
pass_asks inner buffer h most fills =
    fetch_asks (search_of inner buffer h) h.blocks.held (payload_wanted (alone_in h)) ++ gap_asks (search_of inner buffer h) most (with_fills (walk_start inner buffer h) fills)

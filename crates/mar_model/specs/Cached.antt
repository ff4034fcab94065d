-- The entries of the epoch cache.
use Rattle.std.specs.List.{list_any}
use Rattle.std.specs.Prelude.{Bool, Contains, IsFalse, List, None, Option, Some, [], bytes_eq, false, if◌then◌else◌, ℕ, ⊤, ◌&&◌, ◌++◌, ◌==◌, ◌∷◌}
use Rattle.mar_types.specs.Round.{Round, round_eq}
use Rattle.mar_cert.specs.Block.{Block}
use Rattle.mar_cert.specs.Finalization.{Finalization, Notarization}
use Rattle.mar_store.specs.Changes.{Left, Within}
use Rattle.mar_store.specs.Kept.{Kept}

-- One put of the epoch cache: a finalization, a verified block, a notarized one, a notarization by
-- round; a certified block by its epoch and its own height.
pub data Cached : Type 0 where
  finalization_entry : Finalization → Cached
  verified_entry : Round → Block → Cached
  notarized_entry : Round → Block → Cached
  certified_entry : ℕ → Block → Cached
  notarization_entry : Notarization → Cached

-- the block in a cache entry, and its finalization
abbrev pub cached_block : Cached → Option Block
cached_block (verified_entry r b) = Some b
cached_block (notarized_entry r b) = Some b
cached_block (certified_entry e b) = Some b
cached_block _ = None

abbrev pub cached_finalization : Cached → Option Finalization
cached_finalization (finalization_entry f) = Some f
cached_finalization _ = None

abbrev pub epoch_of : Cached → ℕ
epoch_of (finalization_entry f) = f.round.epoch
epoch_of (verified_entry r b) = r.epoch
epoch_of (notarized_entry r b) = r.epoch
epoch_of (certified_entry e b) = e
epoch_of (notarization_entry n) = n.round.epoch

-- Two entries that no archive holds together: one finalization, notarization or notarized block a
-- round; one verified block a round and digest, one certified block a height and digest.
abbrev pub same_place : Cached → Cached → Bool
same_place (finalization_entry f) (finalization_entry g) = round_eq f.round g.round
same_place (notarization_entry f) (notarization_entry g) = round_eq f.round g.round
same_place (notarized_entry r b) (notarized_entry s c) = round_eq r s
same_place (verified_entry r b) (verified_entry s c) = round_eq r s && bytes_eq b.digest c.digest
same_place (certified_entry e b) (certified_entry f c) = b.height == c.height && bytes_eq b.digest c.digest
same_place _ _ = false

-- the first is kept
abbrev pub with_entry : List Cached → Cached → List Cached
with_entry held x = if list_any (same_place x) held then held else held ++ x ∷ []

-- OPENING

-- no two entries that no archive holds together
abbrev pub EachPlaceOnce : List Cached → Type 0
EachPlaceOnce [] = ⊤
EachPlaceOnce (x ∷ xs) = IsFalse (list_any (same_place x) xs) × EachPlaceOnce xs

-- What waits of a cache that was reopened and isn't taken up: what was sure is sure, and what may be left might be.
pub record IsUnloaded (sure may : List Cached) (cache : Left Cached) : Type 0 where
  pub with_sure : Within sure cache.sure
  pub within_may : Within cache.may may
  pub sure_may : Within cache.sure cache.may

-- nothing of it is held
abbrev pub unloaded : Left Cached → Kept Cached
unloaded left = record { held = []; sure = left.sure; may = left.may }

-- m is what a reopening may find
pub record CacheReopens (sure may m : List Cached) : Type 0 where
  pub with_sure : (x : Cached) → Contains sure x → Contains m x
  pub within_may : (x : Cached) → Contains m x → Contains may x
  pub once : EachPlaceOnce m

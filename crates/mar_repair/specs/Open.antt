-- Requests that live above the processed height.
use Rattle.std.specs.Prelude.{ℕ, ◌<◌}
use Rattle.mar_key.specs.Keys.{Annotation, finalized_by_height}
use Rattle.mar_key.specs.Views.{annotation_of}
use Rattle.mar_key.specs.declared.annotations.Annotation.TheVariants as annotation
use Rattle.mar_key.specs.declared.annotations.Finalized.TheVariants.{ByHeight}
use Rattle.mar_key.specs.declared.keys.Key.TheVariants as key
use Rattle.mar_key.specs.declared.requests.Fetch.{Fetch}

abbrev pub IsForAbove : ℕ → Annotation → Type 0
IsForAbove processed (finalized_by_height h) = processed < h
IsForAbove processed _ = ⊥

-- it is for a finalized height above the processed one
abbrev pub IsOpen : {D : Type 0} → ℕ → Fetch D → Type 0
IsOpen processed f = IsForAbove processed (annotation_of f.subscriber)

-- the request for the finalization at a height
abbrev pub by_height : {D : Type 0} → ℕ → Fetch D
by_height h = record { key = key.Finalized h; subscriber = annotation.Finalized (ByHeight h) }

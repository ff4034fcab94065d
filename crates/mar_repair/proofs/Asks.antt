-- What is asked for, request by request.
use Rattle.std.proofs.Common.{◌≡◌, ◌∷◌, ◌++◌, [], List, Option, None, Some, Bool, true, false, if◌then◌else◌, not, ◌&&◌, ℕ, ◌+◌, ◌<◌, nat_le, refl, sym, ◌∙◌, ap, subst, arith, map, option_to_list}
use Rattle.std.proofs.lemmas.Bool.Decides.{nat_tests}
use Rattle.std.specs.List.{AllByRecursion}
use Rattle.mar_key.specs.Cutoff.{Cutoff}
use Rattle.mar_key.specs.Keys.{Annotation, Call, above_height, above_round, certified_at, finalized_by_height, finalized_by_round, for_notarization, is_denied, untrusted_at}
use Rattle.mar_key.specs.Processed.{Processed, height_in, height_of}
use Rattle.mar_key.specs.Views.{annotation_of, call_of}
use Rattle.mar_key.specs.declared.requests.Fetch.{Fetch}
use Rattle.mar_store.proofs.Lookups.{AllByRecursion-append}
use Rattle.mar_model.specs.Floors.{Floors, is_processed, permits, permitted}
use Rattle.mar_cert.specs.Block.{Block}
use Rattle.mar_model.specs.Held.{Held}
use Rattle.mar_model.specs.Repair.{fetch_asks, gap_asks, height_fetch, parent_fetch, parent_wanted, search_of}
use Rattle.mar_key.specs.Hears.{Hears}
use Rattle.mar_key.specs.declared.annotations.Annotation.TheVariants as annotation
use Rattle.mar_key.specs.declared.annotations.Finalized.TheVariants.{ByHeight}
use Rattle.mar_key.specs.declared.keys.Key.TheVariants as key
use Rattle.mar_store.specs.Changes.{heights}
use Rattle.mar_store.specs.Gaps.{missing_items}
use Rattle.mar_store.specs.Ranges.{ranges}
use Rattle.mar_repair.specs.Open.{IsForAbove, IsOpen, by_height}
use Rattle.mar_repair.proofs.Tops.{missing_above}

not_processed : (o : Option Processed) (h : ℕ) → height_of o < h → is_processed o (finalized_by_height h) ≡ false
not_processed None h above = refl
not_processed (Some p) h above = grind (arith, nat_tests)

-- a request above the processed height lives
pub is_permitted : {D : Type 0} (s : Floors) (f : Fetch D) → IsOpen (height_of s.processed) f → permits s f ≡ true
is_permitted s f live = by (annotation_of f.subscriber) live
  where
    by : (a : Annotation) → IsForAbove (height_of s.processed) a → (not (is_processed s.processed a) && not (is_denied (above_round s.cutoff) a)) ≡ true
    by (finalized_by_height h) above = ap (λ (c : Bool). not c && true) (not_processed s.processed h above)
    by (for_notarization r) above = absurd above
    by (untrusted_at h) above = absurd above
    by (certified_at h) above = absurd above
    by (finalized_by_round r) above = absurd above

pub all_permitted : {D : Type 0} (s : Floors) (fs : List (Fetch D)) → AllByRecursion (IsOpen (height_of s.processed)) fs → permitted s fs ≡ fs
all_permitted s [] live = refl
all_permitted s (f ∷ fs) live = ap (λ (c : Bool). if c then f ∷ permitted s fs else permitted s fs) (is_permitted s f live.0) ∙ ap (λ xs. f ∷ xs) (all_permitted s fs live.1)

heights_are : {D : Type 0} (bytes : D → List ℕ) (hs : List ℕ) → map (call_of bytes) (map by_height hs) ≡ map height_fetch hs
heights_are bytes [] = refl
heights_are bytes (h ∷ hs) = ap (λ xs. height_fetch h ∷ xs) (heights_are bytes hs)

-- the requests at heights, behind one for a block
pub calls_are : {D : Type 0} (bytes : D → List ℕ) (o : Option (Fetch D)) (missing : List ℕ) → map (call_of bytes) (option_to_list o ++ map by_height missing) ≡ map (call_of bytes) (option_to_list o) ++ map height_fetch missing
calls_are bytes None missing = heights_are bytes missing
calls_are bytes (Some f) missing = ap (λ xs. call_of bytes f ∷ xs) (heights_are bytes missing)

pub heights_open : {D : Type 0} (p : ℕ) (o : Option (Fetch D)) (missing : List ℕ) → AllByRecursion (IsOpen p) (option_to_list o) → AllByRecursion (λ h. p < h) missing → AllByRecursion (IsOpen p) (option_to_list o ++ map by_height missing)
heights_open {D = D} p o missing first above = AllByRecursion-append (IsOpen p) (option_to_list o) (map by_height missing) first (by missing above)
  where
    by : (hs : List ℕ) → AllByRecursion (λ h. p < h) hs → AllByRecursion (IsOpen {D = D} p) (map by_height hs)
    by [] all = tt
    by (h ∷ hs) all = (all.0, by hs all.1)

-- a request for a block that lives is heard
pub heard_one : {D : Type 0} (bytes : D → List ℕ) (s : Floors) (p : Option Processed) (f : Fetch D) (d : D) (h : ℕ) (old new : Option (List Call)) → s.processed ≡ p → f ≡ record { key = key.Block d; subscriber = annotation.Finalized (ByHeight h) } → height_of p < h → Hears old (if permits s f then call_of bytes f ∷ [] else []) new → Hears old (parent_fetch (record { height = h; value = bytes d }) ∷ []) new
heard_one bytes s p f d h old new same is above hears = subst (λ (g : Fetch _). Hears old (call_of bytes g ∷ []) new) is (subst (λ (c : Bool). Hears old (if c then call_of bytes f ∷ [] else []) new) (is_permitted s f live) hears)
  where
    live : IsOpen (height_of s.processed) f
    live = subst (λ g. IsOpen (height_of s.processed) g) (sym is) (subst (λ o. height_of o < h) (sym same) above)

-- and so are several
pub heard_all : {D : Type 0} (bytes : D → List ℕ) (s : Floors) (p : Option Processed) (fs : List (Fetch D)) (old new : Option (List Call)) → s.processed ≡ p → AllByRecursion (IsOpen (height_of p)) fs → Hears old (map (call_of bytes) (permitted s fs)) new → Hears old (map (call_of bytes) fs) new
heard_all bytes s p fs old new same live hears = subst (λ xs. Hears old (map (call_of bytes) xs) new) (all_permitted s fs (subst (λ o. AllByRecursion (IsOpen (height_of o)) fs) (sym same) live)) hears

-- requests of a parent and of heights are all that a gap asks
pub asks_are : {D : Type 0} (bytes : D → List ℕ) (inner : List ℕ → List ℕ) (buffer : List Block) (old : Held) (most : ℕ) (o : Option (Fetch D)) (missing : List ℕ) → map (call_of bytes) (option_to_list o) ≡ fetch_asks (search_of inner buffer old) old.blocks.held (parent_wanted (height_of old.processed + 1) old.blocks.held) → missing ≡ missing_items (ranges (heights old.blocks.held)) (height_of old.processed + 1) most → map (call_of bytes) (option_to_list o ++ map by_height missing) ≡ gap_asks (search_of inner buffer old) most old.blocks.held
asks_are bytes inner buffer old most o missing first rest = calls_are bytes o missing ∙ (ap (λ xs. xs ++ map height_fetch missing) first ∙ ap (λ hs. fetch_asks (search_of inner buffer old) old.blocks.held (parent_wanted (height_of old.processed + 1) old.blocks.held) ++ map height_fetch hs) rest)

-- what was gathered behind a read
pub gathered_are : {D : Type 0} (bytes : D → List ℕ) (inner : List ℕ → List ℕ) (buffer : List Block) (old one : Held) (most : ℕ) (o : Option (Fetch D)) (items : List (Fetch D)) → one ≡ record old { watches = one.watches } → map (call_of bytes) (option_to_list o) ≡ fetch_asks (search_of inner buffer old) old.blocks.held (parent_wanted (height_of old.processed + 1) old.blocks.held) → items ≡ option_to_list o ++ map by_height (missing_items (ranges (heights one.blocks.held)) (height_of one.processed + 1) most) → map (call_of bytes) items ≡ gap_asks (search_of inner buffer old) most old.blocks.held
gathered_are bytes inner buffer old one most o items same first is = ap (map (call_of bytes)) is ∙ asks_are bytes inner buffer old most o (missing_items (ranges (heights one.blocks.held)) (height_of one.processed + 1) most) first (ap (λ h. missing_items (ranges (heights h.blocks.held)) (height_of h.processed + 1) most) same)

pub gathered_open : {D : Type 0} (old one : Held) (most : ℕ) (o : Option (Fetch D)) (items : List (Fetch D)) → one ≡ record old { watches = one.watches } → AllByRecursion (IsOpen (height_of old.processed)) (option_to_list o) → items ≡ option_to_list o ++ map by_height (missing_items (ranges (heights one.blocks.held)) (height_of one.processed + 1) most) → AllByRecursion (IsOpen (height_of old.processed)) items
gathered_open old one most o items same first is = subst (AllByRecursion (IsOpen (height_of old.processed))) (sym (is ∙ ap (λ h. option_to_list o ++ map by_height (missing_items (ranges (heights h.blocks.held)) (height_of h.processed + 1) most)) same)) (heights_open (height_of old.processed) o (missing_items (ranges (heights old.blocks.held)) (height_of old.processed + 1) most) first (missing_above old.blocks.held (height_of old.processed) most))

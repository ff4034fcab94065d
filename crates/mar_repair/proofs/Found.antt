-- What a pass finds is small.
use Rattle.std.proofs.Common.{◌≡◌, List, Option, None, Some, Bool, true, false, if◌then◌else◌, bytes_eq, map, ℕ, refl, sym, ◌∙◌, ap, subst}
use Rattle.std.specs.Prelude.{option_and_then}
use Rattle.mar_cert.specs.Block.{Block}
use Rattle.mar_cert.specs.Finalization.{Finalization, finalization_bytes}
use Rattle.mar_store.specs.Sizes.{IsSmall}
use Rattle.mar_model.specs.AllEntries.{soonest}
use Rattle.mar_model.specs.Cached.{Cached, cached_finalization, certified_entry, finalization_entry, notarization_entry, notarized_entry, verified_entry}
use Rattle.mar_model.specs.Entries.{is_for}
use Rattle.mar_model.specs.Held.{Held}
use Rattle.mar_model.specs.Repair.{cached_for, fill_of, of_payload, search_of}
use Rattle.mar_model.specs.SmallEntries.{AreSmallEntries, IsSmallEntry}
use Rattle.mar_model.specs.Stored.{AreSmall}
use Rattle.mar_model.proofs.FoundBlocks.{found_small}
use Rattle.mar_model.proofs.RepairWalk.{fill_of-is}
use Rattle.mar_model.proofs.SmallFound.{small_found}

pub cached_small : (inner : List ℕ → List ℕ) (cached : List Cached) (c : List ℕ) (f : Finalization) → AreSmallEntries cached → cached_for inner cached c ≡ Some f → IsSmall (finalization_bytes f)
cached_small inner cached c f small is = by (soonest (is_for inner (inner c)) cached) (λ x. small_found (is_for inner (inner c)) cached x small) is
  where
    own : (g : Finalization) → ◌≡◌ {A = Option Finalization} (Some g) (Some f) → g ≡ f
    own g e = cc

    matched : (g : Finalization) (b : Bool) → IsSmall (finalization_bytes g) → (if b then Some g else None) ≡ Some f → IsSmall (finalization_bytes f)
    matched g true small_g e = subst (λ x. IsSmall (finalization_bytes x)) (own g e) small_g
    matched g false small_g e = absurd cc

    of_entry : (x : Cached) → IsSmallEntry x → of_payload c (cached_finalization x) ≡ Some f → IsSmall (finalization_bytes f)
    of_entry (finalization_entry g) small_x e = matched g (bytes_eq g.payload c) small_x e
    of_entry (verified_entry r b) small_x e = absurd cc
    of_entry (notarized_entry r b) small_x e = absurd cc
    of_entry (certified_entry k b) small_x e = absurd cc
    of_entry (notarization_entry n) small_x e = absurd cc

    by : (o : Option Cached) → ((x : Cached) → o ≡ Some x → IsSmallEntry x) → of_payload c (option_and_then cached_finalization o) ≡ Some f → IsSmall (finalization_bytes f)
    by None small_o e = absurd cc
    by (Some x) small_o e = of_entry x (small_o x refl) e

pub fill_small : (inner : List ℕ → List ℕ) (buffer : List Block) (old : Held) (b : Block) → AreSmall buffer → AreSmallEntries old.cache.kept.held → AreSmall (map (λ x. x.value) old.blocks.held) → fill_of (search_of inner buffer old) old.blocks.held ≡ Some b → IsSmall b.encoded
fill_small inner buffer old b small_buffer small_cached small_held found =
    let is = fill_of-is (search_of inner buffer old) old.blocks.held b found in
    found_small inner buffer old.cache.kept.held old.blocks.held is.upper.parent_commitment b small_buffer small_cached small_held is.found

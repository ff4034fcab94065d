-- Logged entries one by one, as a loop goes over them.
use Rattle.std.proofs.Common.{◌≡◌, ◌∙◌, ◌<◌, ◌+◌, ℕ, zero, suc, List, [], ◌∷◌, ◌++◌, Bool, Option, Some, None, cond, refl, sym, ap, map, take, length, get_or, arith}
use Rattle.std.specs.Prelude.{option_map, slice_get}
use Rattle.std.proofs.lemmas.List.{map_push, length-map, take_more, length-take-le}
use Rattle.mar_model.specs.Cached.{Cached}
use Rattle.mar_epochs.specs.EntryLogs.{entries, log_of, logged_of}
use Rattle.mar_epochs.specs.Spots.{sooner, spot_at, spot_found}
use Rattle.mar_epochs.specs.declared.logged_entry.LoggedEntry.{LoggedEntry}
use Rattle.mar_epochs.specs.declared.index.Spot.{Spot}
use Rattle.mar_epochs.proofs.Spotting.{spot_push}

module _ {E : Type 0} (plain : E → Cached) where
  log_more : (items : List (LoggedEntry E)) (i : ℕ) (d e : LoggedEntry E) → i < length items → e ≡ get_or items i d → log_of plain (take (i + 1) items) ≡ log_of plain (take i items) ++ logged_of plain e ∷ []
  log_more items i d e lt at = ap (log_of plain) (take_more items i d lt) ∙ map_push (logged_of plain) (take i items) (get_or items i d) ∙ ap (λ f. log_of plain (take i items) ++ logged_of plain f ∷ []) (sym at)

  entries_more : (items : List (LoggedEntry E)) (i : ℕ) (d e : LoggedEntry E) → i < length items → e ≡ get_or items i d → entries (log_of plain (take (i + 1) items)) ≡ entries (log_of plain (take i items)) ++ plain e.entry ∷ []
  entries_more items i d e lt at = ap entries (log_more items i d e lt at) ∙ map_push (λ f. f.entry) (log_of plain (take i items)) (logged_of plain e)

  pub count_of : (items : List (LoggedEntry E)) → length (entries (log_of plain items)) ≡ length items
  count_of items = length-map (log_of plain items) (λ f. f.entry) ∙ length-map items (logged_of plain)

  pub copies_step : (items copies new : List (LoggedEntry E)) (i : ℕ) (d e copy : LoggedEntry E) → i < length items → e ≡ get_or items i d → log_of plain copies ≡ log_of plain (take i items) → logged_of plain copy ≡ logged_of plain e
      → new ≡ copies ++ copy ∷ [] → log_of plain new ≡ log_of plain (take (i + 1) items)
  copies_step items copies new i d e copy lt at so_far same is =
      ap (log_of plain) is ∙ map_push (logged_of plain) copies copy ∙ ap (λ fs. fs ++ logged_of plain copy ∷ []) so_far ∙ ap (λ f. log_of plain (take i items) ++ f ∷ []) same ∙ sym (log_more items i d e lt at)

  pub spot_step : (passes : Cached → Bool) (items : List (LoggedEntry E)) (i : ℕ) (d e : LoggedEntry E) (old new : Option Spot) → i < length items → e ≡ get_or items i d → old ≡ spot_found passes (entries (log_of plain (take i items)))
      → new ≡ cond (passes (plain e.entry)) (sooner old (spot_at i (plain e.entry))) old → new ≡ spot_found passes (entries (log_of plain (take (i + 1) items)))
  spot_step passes items i d e old new lt at was is =
      let long : i ≡ length (entries (log_of plain (take i items))) = sym (count_of (take i items) ∙ length-take-le i items (omega arith)) in
      spot_push passes (entries (log_of plain (take i items))) _ (plain e.entry) i old new was long (entries_more items i d e lt at) is

got : {A B : Type 0} (f : A → B) (xs : List A) (n : ℕ) → option_map f (slice_get xs n) ≡ slice_get (map f xs) n
got f [] zero = refl
got f [] (suc n) = refl
got f (x ∷ xs) zero = refl
got f (x ∷ xs) (suc n) = got f xs n

-- the entry at a place
pub entry_there : {E : Type 0} (plain : E → Cached) (all : List (LoggedEntry E)) (place : ℕ) (o : Option (LoggedEntry E)) → o ≡ slice_get all place → option_map (λ f. plain f.entry) o ≡ slice_get (entries (log_of plain all)) place
entry_there {E} plain all place o is = ap (option_map (λ f. plain f.entry)) is ∙ twice (slice_get all place) ∙ ap (option_map (λ f. f.entry)) (got (logged_of plain) all place) ∙ got (λ f. f.entry) (log_of plain all) place
  where
    twice : (o : Option (LoggedEntry E)) → option_map (λ f. plain f.entry) o ≡ option_map (λ f. f.entry) (option_map (logged_of plain) o)
    twice None = refl
    twice (Some f) = refl

-- What a search of the cache for the finalization of a commitment comes to.
use Rattle.std.proofs.Common.{List, None, Option, Some, ap, refl, subst, ℕ, ◌∙◌, ◌≡◌}
use Rattle.std.specs.Prelude.{option_and_then, option_map}
use Rattle.mar_cert.specs.Finalization.{Finalization}
use Rattle.mar_model.specs.AllEntries.{soonest}
use Rattle.mar_model.specs.Cached.{Cached, cached_finalization, finalization_entry}
use Rattle.mar_model.specs.Entries.{is_for}
use Rattle.mar_model.specs.Repair.{cached_for, of_payload}

-- the entry of a finalization has it
of_entry : {F : Type 0} (plain : F → Finalization) (found : Option F) → option_map plain found ≡ option_and_then cached_finalization (option_map (λ f. finalization_entry (plain f)) found)
of_entry plain None = refl
of_entry plain (Some f) = refl

-- the one of a digest, where the commitment that names the digest is its payload, is the commitment's
pub found_for : {F : Type 0} (plain : F → Finalization) (inner : List ℕ → List ℕ) (cached : List Cached) (commitment digest : List ℕ) (found kept : Option F) → digest ≡ inner commitment → option_map (λ f. finalization_entry (plain f)) found ≡ soonest (is_for inner digest) cached → option_map plain kept ≡ of_payload commitment (option_map plain found)
    → option_map plain kept ≡ cached_for inner cached commitment
found_for plain inner cached commitment digest found kept named is has = has ∙ ap (of_payload commitment) (of_entry plain found ∙ ap (option_and_then cached_finalization) (subst (λ d. option_map (λ f. finalization_entry (plain f)) found ≡ soonest (is_for inner d) cached) named is))

-- A reader that takes exactly the fronts in the grammar reads back what was written.
use Rattle.std.proofs.Common.{Err, IfErr, IfOk, List, Ok, Result, inl, inr, subst, ℕ, ◌++◌, ◌≡◌, ◌⊎◌}
use Rattle.mar_types.specs.Codec.{HasNoFront, IsUnambiguous, Takes}
use Rattle.mar_types.specs.CodecLemmas.{leaves_rest, reads_back}
use Rattle.mar_types.specs.ReadBack.{ReadsBack}
use Rattle.mar_types.specs.declared.error.Error.{Error}
use Rattle.mar_types.specs.declared.error.Error.TheVariants.{Memory}

pub reads_back_from : {T : Type 0} (InGrammar : List ℕ → Type 0) (encoded : T → List ℕ) (result : Result T Error) (old new : List ℕ) → IsUnambiguous InGrammar → IfOk result (λ value. Takes InGrammar (encoded value) old new) → IfErr result (λ e. (e ≡ Memory) ⊎ HasNoFront InGrammar old) → ReadsBack InGrammar encoded result old new
reads_back_from InGrammar encoded (Ok value) old new one ok err written rest is at =
    let t : Takes InGrammar (encoded value) (written ++ rest) new = subst (λ xs. Takes InGrammar (encoded value) xs new) at ok in (
      reads_back InGrammar written rest (encoded value) new one is t,
      leaves_rest InGrammar written rest (encoded value) new one is t,
    )
reads_back_from InGrammar encoded (Err e) old new one ok err written rest is at =
    elim err [ inl memory ↦ memory | inr none ↦ absurd (none written rest is at) ]

-- What was written is read back, whatever follows it.
use Rattle.std.specs.Prelude.{List, MatchResult, Result, ℕ, ◌++◌, ◌≡◌}
use Rattle.mar_types.specs.declared.error.Error.{Error}
use Rattle.mar_types.specs.declared.error.Error.TheVariants.{Memory}

-- where a spelling stands at the front, the value that is read has that spelling and the rest is left; memory alone may refuse it
abbrev pub ReadsBack : {T : Type 0} → (List ℕ → Type 0) → (T → List ℕ) → Result T Error → List ℕ → List ℕ → Type 0
ReadsBack InGrammar encoded result old new = (written rest : List ℕ) → InGrammar written → old ≡ written ++ rest → MatchResult result (λ value. (encoded value ≡ written) × (new ≡ rest)) (λ e. e ≡ Memory)

use Rattle.std.proofs.Common.{Err, List, Ok, Result, [], ap, arith, inr, length, ℕ, ◌≡◌, ◌⊎◌}
use Rattle.std.specs.Prelude.{IfErr}
use Rattle.mar_types.specs.Codec.{HasNoFront}
use Rattle.mar_types.specs.Digest.{IsBytes}
use Rattle.mar_types.specs.DigestLemmas.{short_bytes}
use Rattle.mar_types.specs.declared.error.Error.{Error}
use Rattle.mar_types.specs.declared.error.Error.TheVariants.{EndOfBuffer, Memory}
use Rattle.mar_types.proofs.integers.U8Read.read_cfg.Goals as goal

-- no byte is left
no_byte : {T : Type 0} (result : Result T Error) (old : List ℕ) → IfErr result (λ e. (e ≡ EndOfBuffer) × (old ≡ [])) → IfErr result (λ e. (e ≡ Memory) ⊎ HasNoFront (IsBytes 1) old)
no_byte (Ok value) old none = none
no_byte (Err e) old none = inr (short_bytes 1 old (omega (arith, ap length none.1)))

pub returns-clause-err : goal.returns-clause-err
returns-clause-err g c = no_byte c.read_byte.result _ c.read_byte.ensures.err

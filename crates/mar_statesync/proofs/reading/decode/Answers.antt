use Rattle.std.proofs.Common.{eqb-true, inr, sym, ◌∙◌}
use Rattle.mar_statesync.specs.declared.decode_error.DecodeError.TheVariants.{Part}
use Rattle.mar_statesync.proofs.Decoded.{bytes_left, finds, no_finalization, only_found, only_memory, refuses_bytes, right_by, some_left}
use Rattle.mar_statesync.proofs.reading.decode.Goals as goal

pub returns-in-Err-clause-refused : goal.returns-in-Err-clause-refused
returns-in-Err-clause-refused c = refuses_bytes _ _ _ c.in-Err.ensures.err

pub returns-in-Err-clause-only : goal.returns-in-Err-clause-only
returns-in-Err-clause-only c = λ s is e. only_memory _ _ c.in-Err.error s (returns-in-Err-clause-refused c) is e

pub returns-in-Err-read_finalization-clause-refused : goal.returns-in-Err-read_finalization-clause-refused
returns-in-Err-read_finalization-clause-refused c =
    right_by c.in-Err-read_finalization.ensures.err (no_finalization _ _ _ _ _ c.in-Ok.ensures.ok)

pub returns-in-Err-read_finalization-clause-only : goal.returns-in-Err-read_finalization-clause-only
returns-in-Err-read_finalization-clause-only c =
    λ s is e. only_memory _ _ (Part c.in-Err-read_finalization.error) s (returns-in-Err-read_finalization-clause-refused c) is e

pub returns-then-not-is_empty-clause-refused : goal.returns-then-not-is_empty-clause-refused
returns-then-not-is_empty-clause-refused c =
    inr (bytes_left _ _ _ _ _ c.in-Ok.ensures.ok _ _ c.in-Ok-read_finalization.ensures.is c.in-Ok-read_finalization.ensures.taken
    (some_left _ _ c.is_empty.ensures c.if-not-is_empty.true))

pub returns-then-not-is_empty-clause-only : goal.returns-then-not-is_empty-clause-only
returns-then-not-is_empty-clause-only c = λ s is e. only_memory _ _ (Part _) s (returns-then-not-is_empty-clause-refused c) is e

pub returns-clause-found : goal.returns-clause-found
returns-clause-found c =
    finds _ _ _ _ _ c.in-Ok.ensures.ok _ _ c.in-Ok-read_finalization.ensures.is c.in-Ok-read_finalization.ensures.taken _
    (eqb-true _ _ (sym c.is_empty.ensures ∙ c.if-not-is_empty.false)) c.of.ensures

pub returns-clause-only : goal.returns-clause-only
returns-clause-only c = λ s is e. only_found _ _ _ s (returns-clause-found c) is e

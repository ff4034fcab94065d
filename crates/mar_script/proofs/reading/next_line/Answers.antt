use Rattle.std.proofs.Common.{arith, Err, ap, refl}
use Rattle.mar_script.proofs.ReadSteps.{fault_missing, missing_fault, next_missing, next_read, next_refused, no_fault_told, nothing_next, one_too_many, read_well, script_no_fault}
use Rattle.mar_script.proofs.reading.next_line.Goals as goal

pub returns-in-Ok-None-clause-next : goal.returns-in-Ok-None-clause-next
returns-in-Ok-None-clause-next g c = nothing_next _ _ _ _ _ _ (rw c.in-Ok-None.field-0-is at c.in-Ok-None.ensures.line)

pub returns-in-Err-clause-next : goal.returns-in-Err-clause-next
returns-in-Err-clause-next g c = next_missing _ _ _ _ _ _ _ _ c.requires.number c.in-Err.ensures.line c.line_status.ensures.told

pub returns-then-number-gt-MAX_LINES-clause-next : goal.returns-then-number-gt-MAX_LINES-clause-next
returns-then-number-gt-MAX_LINES-clause-next g c = one_too_many _ _ _ _ c.in-Ok-Some.line _ _ _ (rw c.in-Ok-Some.field-0-is at c.in-Ok-Some.ensures.line) (omega arith) c.refused.ensures

pub returns-in-Ok-clause-next : goal.returns-in-Ok-clause-next
returns-in-Ok-clause-next g c =
    next_read _ _ _ _ c.in-Ok-Some.line _ _ _ (rw c.in-Ok-Some.field-0-is at c.in-Ok-Some.ensures.line) (rw c.deref.ensures.value at c.in-Ok.ensures.found) (omega arith)

pub returns-clause-next : goal.returns-clause-next
returns-clause-next g c =
    next_refused _ _ _ _ c.in-Ok-Some.line _ _ _ _ c.requires.later (omega arith) (rw c.in-Ok-Some.field-0-is at c.in-Ok-Some.ensures.line)
    (rw c.deref.ensures.value at c.in-Err-parse_line.ensures.only) c.parse_status.ensures.told

pub returns-in-Err-clause-calm : goal.returns-in-Err-clause-calm
returns-in-Err-clause-calm g c = λ other. c.in-Err.ensures.calm (λ is. other (fault_missing c.args.number c.in-Err.error _ c.line_status.ensures.told is))

pub returns-in-Ok-None-clause-calm : goal.returns-in-Ok-None-clause-calm
returns-in-Ok-None-clause-calm g c = λ _. c.in-Ok-None.ensures.calm (read_well _ _)

pub returns-then-number-gt-MAX_LINES-clause-calm : goal.returns-then-number-gt-MAX_LINES-clause-calm
returns-then-number-gt-MAX_LINES-clause-calm g c = λ _. c.in-Ok-Some.ensures.calm (read_well _ _)

pub returns-in-Ok-clause-calm : goal.returns-in-Ok-clause-calm
returns-in-Ok-clause-calm g c = λ _. c.in-Ok-Some.ensures.calm (read_well _ _)

pub returns-clause-calm : goal.returns-clause-calm
returns-clause-calm g c = λ _. c.in-Ok-Some.ensures.calm (read_well _ _)

pub returns-in-Ok-None-clause-read_fault : goal.returns-in-Ok-None-clause-read_fault
returns-in-Ok-None-clause-read_fault g c = λ is. absurd (read_well _ _ is)

pub returns-in-Err-clause-read_fault : goal.returns-in-Err-clause-read_fault
returns-in-Err-clause-read_fault g c = λ is. missing_fault _ _ _ c.in-Err.error _ c.line_status.ensures.read_fault c.in-Err.ensures.fault refl refl is

pub returns-then-number-gt-MAX_LINES-clause-read_fault : goal.returns-then-number-gt-MAX_LINES-clause-read_fault
returns-then-number-gt-MAX_LINES-clause-read_fault g c = λ is. absurd (script_no_fault _ _ _ (ap Err c.refused.ensures) is)

pub returns-in-Ok-clause-read_fault : goal.returns-in-Ok-clause-read_fault
returns-in-Ok-clause-read_fault g c = λ is. absurd (read_well _ _ is)

pub returns-clause-read_fault : goal.returns-clause-read_fault
returns-clause-read_fault g c = λ is. absurd (no_fault_told _ _ c.parse_status.ensures.read_fault refl is)

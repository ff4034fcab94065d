use Rattle.std.proofs.Common.{[], ap, ◌++◌, ◌∙◌, ◌∷◌, sym, refl}
use Rattle.mar_script.proofs.ReadSteps.{another_word, fault_missing, first_missing, first_read, first_refused, missing_fault, no_fault_told, nothing_first, read_well, script_no_fault}
use Rattle.mar_script.proofs.reading.first_line.Goals as goal

pub returns-in-Ok-None-clause-first : goal.returns-in-Ok-None-clause-first
returns-in-Ok-None-clause-first g c = nothing_first _ _ _ _ (rw c.in-Ok-None.field-0-is at c.in-Ok-None.ensures.line)

pub returns-in-Err-clause-first : goal.returns-in-Err-clause-first
returns-in-Err-clause-first g c = first_missing _ _ _ _ _ _ c.in-Err.ensures.line c.line_status.ensures.told

pub returns-clause-first : goal.returns-clause-first
returns-clause-first g c =
    first_refused _ _ c.in-Ok-Some.line _ _ _ _ (rw c.in-Ok-Some.field-0-is at c.in-Ok-Some.ensures.line) (rw c.deref.ensures.value at (c.begins_with.ensures.0 c.if-not-begins_with.false))
    (λ s is same. c.in-Err-parse_settings.ensures.only s is (ap (λ l. l ++ 10 ∷ []) c.deref-2.ensures.value ∙ same)) c.parse_status.ensures.told

pub returns-then-not-begins_with-clause-first : goal.returns-then-not-begins_with-clause-first
returns-then-not-begins_with-clause-first g c = another_word _ _ c.in-Ok-Some.line _ _ (rw c.in-Ok-Some.field-0-is at c.in-Ok-Some.ensures.line) (λ word. cc (c.begins_with.ensures.1 (rw c.deref.ensures.value word), c.if-not-begins_with.true))

pub returns-in-Err-clause-calm : goal.returns-in-Err-clause-calm
returns-in-Err-clause-calm g c = λ other. c.in-Err.ensures.calm (λ is. other (fault_missing 1 c.in-Err.error _ c.line_status.ensures.told is))

pub returns-in-Ok-clause-first : goal.returns-in-Ok-clause-first
returns-in-Ok-clause-first g c = first_read _ _ c.in-Ok-Some.line _ _ _ (rw c.in-Ok-Some.field-0-is at c.in-Ok-Some.ensures.line) (ap (λ l. l ++ 10 ∷ []) (sym c.deref-2.ensures.value) ∙ c.in-Ok.ensures.found)

pub returns-in-Ok-None-clause-calm : goal.returns-in-Ok-None-clause-calm
returns-in-Ok-None-clause-calm g c = λ _. c.in-Ok-None.ensures.calm (read_well _ _)

pub returns-then-not-begins_with-clause-calm : goal.returns-then-not-begins_with-clause-calm
returns-then-not-begins_with-clause-calm g c = λ _. c.in-Ok-Some.ensures.calm (read_well _ _)

pub returns-in-Ok-clause-calm : goal.returns-in-Ok-clause-calm
returns-in-Ok-clause-calm g c = λ _. c.in-Ok-Some.ensures.calm (read_well _ _)

pub returns-clause-calm : goal.returns-clause-calm
returns-clause-calm g c = λ _. c.in-Ok-Some.ensures.calm (read_well _ _)

pub returns-in-Ok-None-clause-read_fault : goal.returns-in-Ok-None-clause-read_fault
returns-in-Ok-None-clause-read_fault g c = λ is. absurd (script_no_fault _ _ _ refl is)

pub returns-in-Err-clause-read_fault : goal.returns-in-Err-clause-read_fault
returns-in-Err-clause-read_fault g c = λ is. missing_fault _ _ _ c.in-Err.error _ c.line_status.ensures.read_fault c.in-Err.ensures.fault refl refl is

pub returns-then-not-begins_with-clause-read_fault : goal.returns-then-not-begins_with-clause-read_fault
returns-then-not-begins_with-clause-read_fault g c = λ is. absurd (script_no_fault _ _ _ refl is)

pub returns-in-Ok-clause-read_fault : goal.returns-in-Ok-clause-read_fault
returns-in-Ok-clause-read_fault g c = λ is. absurd (read_well _ _ is)

pub returns-clause-read_fault : goal.returns-clause-read_fault
returns-clause-read_fault g c = λ is. absurd (no_fault_told _ _ c.parse_status.ensures.read_fault refl is)

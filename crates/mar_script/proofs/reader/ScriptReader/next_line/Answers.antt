use Rattle.std.proofs.Common.{arith, length-drop, refl, ◌∙◌}
use Rattle.mar_script.proofs.Lines.{ends_at, failed, forgotten, given, goes_on, held_no_fault, inside, inside_no_fault, memory_no_fault, never_less, no_fault, starts, then_more, then_rose, too_long}
use Rattle.mar_script.proofs.reader.ScriptReader.next_line.Goals as goal

pub overflow_add-found : goal.overflow_add-found
overflow_add-found g c =
    let ends = rw c.behind.ensures at c.in-Some.ensures.found in
    omega (arith, ends.0, length-drop c.pieces.searched c.pieces.self, c.len-held.ensures, c.len-held.type_inv)

pub returns-in-Some-clause-line : goal.returns-in-Some-clause-line
returns-in-Some-clause-line g c =
    given _ _ _ _ _ _ _ _ c.pieces.invariant.so_far (ends_at _ _ (rw c.behind.ensures at c.in-Some.ensures.found)) c.give.ensures.line c.give.ensures.some c.give.ensures.cause c.give.ensures.err

pub returns-in-Some-clause-fault : goal.returns-in-Some-clause-fault
returns-in-Some-clause-fault g c = λ is. absurd (no_fault _ c.give.result c.give.ensures.cause is)

pub returns-then-held-gt-MAX_LINE-clause-line : goal.returns-then-held-gt-MAX_LINE-clause-line
returns-then-held-gt-MAX_LINE-clause-line g c =
    let none = c.first_place.ensures.none c.in_default.is in
    too_long _ _ _ _ _ c.pieces.invariant.so_far (rw c.behind.ensures at none) (omega (arith, c.len-held.ensures))

pub returns-in-Ok-eq0-2-clause-line : goal.returns-in-Ok-eq0-2-clause-line
returns-in-Ok-eq0-2-clause-line g c =
    let none = c.first_place.ensures.none c.in_default.is in
    let more = c.in-Ok-eq0.ensures.ok in
    inside _ _ _ _ _ more.0 _ _ c.pieces.invariant.so_far (rw c.behind.ensures at none) (omega (arith, c.len-held.ensures)) (omega (arith, c.if-held-gt-MAX_LINE.false, c.len-held.ensures)) (more.1 ∙ c.in-Ok-eq0.field-0-test) more.2 more.3 (c.in-Ok-eq0.ensures.end c.in-Ok-eq0.field-0-test)

pub pieces-preserved : goal.pieces-preserved
pieces-preserved g c =
    let none = c.first_place.ensures.none c.in_default.is in
    let more = c.in-Ok.ensures.ok in
    record {
      so_far = rw c.len-held.ensures (goes_on _ _ _ _ _ more.0 _ _ c.pieces.invariant.so_far (rw c.behind.ensures at none) more.2 more.3);
      calm = c.in-Ok.ensures.cause ∙ c.pieces.invariant.calm;
    }

pub returns-in-Err-Fault-clause-line : goal.returns-in-Err-Fault-clause-line
returns-in-Err-Fault-clause-line g c =
    let none = c.first_place.ensures.none c.in_default.is in
    failed _ _ _ _ _ _ _ c.pieces.invariant.so_far (rw c.behind.ensures at none) c.in-Err-Fault.ensures.err.0 c.in-Err-Fault.ensures.err.1

pub returns-in-Some-clause-later : goal.returns-in-Some-clause-later
returns-in-Some-clause-later g c = never_less _ _ c.pieces.invariant.calm

pub returns-in-Some-clause-calm : goal.returns-in-Some-clause-calm
returns-in-Some-clause-calm g c = λ _. c.pieces.invariant.calm

pub returns-then-held-gt-MAX_LINE-clause-later : goal.returns-then-held-gt-MAX_LINE-clause-later
returns-then-held-gt-MAX_LINE-clause-later g c = never_less _ _ c.pieces.invariant.calm

pub returns-then-held-gt-MAX_LINE-clause-fault : goal.returns-then-held-gt-MAX_LINE-clause-fault
returns-then-held-gt-MAX_LINE-clause-fault g c = λ is. absurd (held_no_fault _ refl is)

pub returns-then-held-gt-MAX_LINE-clause-calm : goal.returns-then-held-gt-MAX_LINE-clause-calm
returns-then-held-gt-MAX_LINE-clause-calm g c = λ _. c.pieces.invariant.calm

pub returns-in-Ok-eq0-2-clause-later : goal.returns-in-Ok-eq0-2-clause-later
returns-in-Ok-eq0-2-clause-later g c = then_more _ _ _ c.pieces.invariant.calm c.fill.ensures.later

pub returns-in-Ok-eq0-2-clause-fault : goal.returns-in-Ok-eq0-2-clause-fault
returns-in-Ok-eq0-2-clause-fault g c = λ is. absurd (inside_no_fault _ refl is)

pub returns-in-Ok-eq0-2-clause-calm : goal.returns-in-Ok-eq0-2-clause-calm
returns-in-Ok-eq0-2-clause-calm g c = λ _. c.in-Ok-eq0.ensures.cause ∙ c.pieces.invariant.calm

pub returns-in-Err-Fault-clause-later : goal.returns-in-Err-Fault-clause-later
returns-in-Err-Fault-clause-later g c = then_more _ _ _ c.pieces.invariant.calm c.fill.ensures.later

pub returns-in-Err-Fault-clause-fault : goal.returns-in-Err-Fault-clause-fault
returns-in-Err-Fault-clause-fault g c = λ _. then_rose _ _ _ c.pieces.invariant.calm (rw c.in-Err-Fault.field-0-is at c.in-Err-Fault.ensures.cause)

pub returns-in-Err-Fault-clause-calm : goal.returns-in-Err-Fault-clause-calm
returns-in-Err-Fault-clause-calm g c = λ other. absurd (other refl)

pub returns-in-Err-Memory-clause-later : goal.returns-in-Err-Memory-clause-later
returns-in-Err-Memory-clause-later g c = then_more _ _ _ c.pieces.invariant.calm c.fill.ensures.later

pub returns-in-Err-Memory-clause-fault : goal.returns-in-Err-Memory-clause-fault
returns-in-Err-Memory-clause-fault g c = λ is. absurd (memory_no_fault _ refl is)

pub returns-in-Err-Memory-clause-calm : goal.returns-in-Err-Memory-clause-calm
returns-in-Err-Memory-clause-calm g c = λ _. (rw c.in-Err-Memory.field-0-is at c.in-Err-Memory.ensures.cause) ∙ c.pieces.invariant.calm

pub returns-in-Err-Memory-clause-line : goal.returns-in-Err-Memory-clause-line
returns-in-Err-Memory-clause-line g c = forgotten _ _ _ _ _ _ _ c.pieces.invariant.so_far c.in-Err-Memory.ensures.err.0 c.in-Err-Memory.ensures.err.1

pub pieces-init : goal.pieces-init
pieces-init g c = record { so_far = starts _ _; calm = refl }

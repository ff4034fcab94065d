use Rattle.std.proofs.Common.{arith, inl, inr, ◌<◌}
use Rattle.std.proofs.lemmas.Result.{err_from_is_err_and}
use Rattle.mar_types.specs.VarintLemmas.{no_bad_varint, no_cut_varint}
use Rattle.mar_types.proofs.VarintSteps.{bad_tenth, read_bad, read_cut, read_ends, read_ends_tenth, read_goes_on, value_bound, weight_bound, worth_bound}
use Rattle.mar_types.proofs.varint.UIntRead.read_cfg.Goals as goal

pub returns-in_err-byte-clause-err : goal.returns-in_err-byte-clause-err
returns-in_err-byte-clause-err g c =
    let p = err_from_is_err_and c.from_residual.result c.from_residual.ensures.1 in
    rw p.1 (inr (no_cut_varint _ (read_cut _ _ _ _ _ c.bytes.invariant c.in_err-byte.ensures.err.1 (omega arith))))

pub returns-then-place-gt0-clause-err : goal.returns-then-place-gt0-clause-err
returns-then-place-gt0-clause-err g c =
    inr (no_bad_varint _ (read_bad _ _ _ _ _ _ _ c.bytes.invariant c.in_ok-byte.ensures.ok (inl (c.if-byte-eq0.true, c.if-place-gt0.true, omega arith))))

pub overflow_mul-result : goal.overflow_mul-result
overflow_mul-result g c = omega (arith, worth_bound _ _ (let small : c.from.result < 128 = omega arith in small) (weight_bound _ _ _ _ _ c.bytes.invariant c.bytes-test.true))

pub overflow_add-result : goal.overflow_add-result
overflow_add-result g c = omega (arith, value_bound _ _ _ c.from.result _ _ c.bytes.invariant c.bytes-test.true (let small : c.from.result < 128 = omega arith in small))

pub returns-then-byte-lt128-clause-ok : goal.returns-then-byte-lt128-clause-ok
returns-then-byte-lt128-clause-ok g c =
    rw c.from.ensures
    (read_ends _ _ _ _ _ _ _ c.bytes.invariant c.in_ok-byte.ensures.ok c.if-byte-lt128.true
    (λ some. elim c.else-byte-eq0.either [ inl none ↦ absurd (omega (arith, none.1)) | inr other ↦ omega (arith, other) ])
    (value_bound _ _ _ _ _ _ c.bytes.invariant c.bytes-test.true c.if-byte-lt128.true))

pub overflow_mul-value : goal.overflow_mul-value
overflow_mul-value g c = omega (arith, worth_bound _ _ (let small : c.from-in-bytes.result < 128 = omega arith in small) (weight_bound _ _ _ _ _ c.bytes.invariant c.bytes-test.true))

pub overflow_add-value : goal.overflow_add-value
overflow_add-value g c = omega (arith, value_bound _ _ _ c.from-in-bytes.result _ _ c.bytes.invariant c.bytes-test.true (let small : c.from-in-bytes.result < 128 = omega arith in small))

pub overflow_mul-weight : goal.overflow_mul-weight
overflow_mul-weight g c = omega (arith, weight_bound _ _ _ _ _ c.bytes.invariant c.bytes-test.true)

pub bytes-preserved : goal.bytes-preserved
bytes-preserved g c = rw c.from-in-bytes.ensures (read_goes_on _ _ _ _ _ _ _ c.bytes.invariant c.in_ok-byte.ensures.ok c.if-byte-lt128.false (omega arith))

pub returns-in_err-read_byte-clause-err : goal.returns-in_err-read_byte-clause-err
returns-in_err-read_byte-clause-err g c =
    let p = err_from_is_err_and c.from_residual-in_err-read_byte.result c.from_residual-in_err-read_byte.ensures.1 in
    rw p.1 (inr (no_cut_varint _ (read_cut _ _ _ _ _ c.bytes.invariant c.in_err-read_byte.ensures.err.1 (omega arith))))

pub returns-then-branch-ne1-clause-err : goal.returns-then-branch-ne1-clause-err
returns-then-branch-ne1-clause-err g c = inr (no_bad_varint _ (read_bad _ _ _ _ _ _ _ c.bytes.invariant c.in_ok-read_byte.ensures.ok (bad_tenth _ _ (omega arith) c.if-branch-ne1.true)))

pub returns-clause-ok : goal.returns-clause-ok
returns-clause-ok g c = read_ends_tenth _ _ _ _ _ _ _ c.bytes.invariant (omega arith) c.in_ok-read_byte.ensures.ok c.if-branch-ne1.false

use Rattle.std.proofs.Common.{arith}
use Rattle.mar_statesync.proofs.Decoded.{above, right_by}
use Rattle.mar_statesync.proofs.Spelled.{begins, no_balances, no_height, no_rejected, other_sum, takes_state, too_many}
use Rattle.mar_statesync.proofs.reading.read_state.Goals as goal

pub returns-in-Err-clause-err : goal.returns-in-Err-clause-err
returns-in-Err-clause-err g c = right_by c.in-Err.ensures.err (no_height _)

pub returns-in-Err-read_number-clause-err : goal.returns-in-Err-read_number-clause-err
returns-in-Err-read_number-clause-err g c = right_by c.in-Err-read_number.ensures.err (no_rejected _ _ _ c.in-Ok.ensures.ok.taken)

pub returns-in-Err-read_balances-clause-err : goal.returns-in-Err-read_balances-clause-err
returns-in-Err-read_balances-clause-err g c =
    right_by c.in-Err-read_balances.ensures.err (no_balances _ _ _ c.in-Ok.ensures.ok.taken _ _ c.in-Ok-read_number.ensures.ok.taken)

pub returns-in-None-clause-err : goal.returns-in-None-clause-err
returns-in-None-clause-err g c = (
  other_sum _ _ _ c.in-Ok.ensures.ok.taken _ _ c.in-Ok-read_number.ensures.ok.taken _ _ c.in-Ok-read_balances.ensures.ok c.in-None.ensures,
  (begins _ _ _ c.in-Ok.ensures.ok.taken _ _ c.in-Ok-read_number.ensures.ok.taken _ _ c.in-Ok-read_balances.ensures.ok, c.in-None.ensures),
)

pub returns-then-not-are_within-clause-err : goal.returns-then-not-are_within-clause-err
returns-then-not-are_within-clause-err g c =
    let more = above _ _ _ c.are_within.ensures c.if-not-are_within.true in (
      too_many _ _ _ c.in-Ok.ensures.ok.taken _ _ c.in-Ok-read_number.ensures.ok.taken _ _ c.in-Ok-read_balances.ensures.ok more,
      (begins _ _ _ c.in-Ok.ensures.ok.taken _ _ c.in-Ok-read_number.ensures.ok.taken _ _ c.in-Ok-read_balances.ensures.ok, more),
    )

pub returns-clause-ok : goal.returns-clause-ok
returns-clause-ok g c =
    rw c.new.ensures
    (takes_state _ _ _ c.in-Ok.ensures.ok.taken _ _ c.in-Ok-read_number.ensures.ok.taken _ _ c.in-Ok-read_balances.ensures.ok
    _ (omega arith) (omega arith) c.in-Some.ensures.0 c.in-Some.ensures.1 (c.are_within.ensures.0 c.if-not-are_within.false))

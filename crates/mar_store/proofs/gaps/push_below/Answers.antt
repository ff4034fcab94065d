use Rattle.std.proofs.Common.{[], ap, arith, length-append, ◌++◌, ◌∙◌, ◌∷◌}
use Rattle.mar_store.proofs.Missing.{numbers_all, numbers_full, pushed_number}
use Rattle.mar_store.proofs.gaps.push_below.Goals as goal

pub returns-then-len-max : goal.returns-then-len-max
returns-then-len-max c = numbers_full _ _ c.loop-height.height _ _ _ c.loop-height.invariant.above (omega arith) c.loop-height.invariant.pushed (omega arith)

pub returns : goal.returns
returns c = numbers_all _ _ c.loop-height.height _ _ _ c.loop-height.invariant.above (omega arith) c.loop-height.invariant.within c.loop-height.invariant.pushed c.loop-height.invariant.room

pub loop-height-preserved : goal.loop-height-preserved
loop-height-preserved c = record {
  above = omega (arith, c.loop-height.invariant.above);
  within = omega (arith, c.loop-height-test.true, c.loop-height.invariant.above);
  pushed = pushed_number _ c.loop-height.height _ _ _ c.loop-height.invariant.above c.loop-height.invariant.pushed (c.in_ok-push.ensures.items ∙ ap (λ x. c.loop-height.missing.items ++ x ∷ []) c.new.ensures);
  room = rw c.in_ok-push.ensures.items (omega (arith, length-append c.loop-height.missing.items (c.new.result ∷ []), c.if-len-max.false, c.len.ensures, c.loop-height.missing.ok));
}

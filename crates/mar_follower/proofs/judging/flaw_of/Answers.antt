use Rattle.mar_follower.proofs.Judged.{certified, never_both, not_certified}
use Rattle.mar_follower.proofs.judging.flaw_of.Goals as goal

pub returns-then-not-verify : goal.returns-then-not-verify
returns-then-not-verify g c = λ n. let e = c.in-Some.ensures n in (e.0, not_certified _ _ _ _ _ e.1 c.verify.ensures c.if-not-verify.true)

pub returns-then-not-is_named : goal.returns-then-not-is_named
returns-then-not-is_named g c = λ n. let e = c.in-Some.ensures n in
    (e.0, certified _ _ _ _ _ e.1 c.verify.ensures c.if-not-verify.false, λ is. never_both _ (c.is_named.ensures.1 is) c.if-not-is_named.true)

pub returns-in-Some-first_stranger : goal.returns-in-Some-first_stranger
returns-in-Some-first_stranger g c = λ n. let e = c.in-Some.ensures n in
    (e.0, certified _ _ _ _ _ e.1 c.verify.ensures c.if-not-verify.false, c.is_named.ensures.0 c.if-not-is_named.false, rw c.deref.ensures.value at c.in-Some-first_stranger.ensures)

pub returns-else-is_below : goal.returns-else-is_below
returns-else-is_below g c = λ n. let e = c.in-Some.ensures n in (
  e.0,
  certified _ _ _ _ _ e.1 c.verify.ensures c.if-not-verify.false,
  c.is_named.ensures.0 c.if-not-is_named.false,
  rw c.deref.ensures.value at c.in-None.ensures,
  λ is. never_both _ (c.is_below.ensures.1 is) c.if-is_below.false,
)

pub returns-then-is_below : goal.returns-then-is_below
returns-then-is_below g c = λ n. let e = c.in-Some.ensures n in record {
  epoch = e.0;
  certificate = certified _ _ _ _ _ e.1 c.verify.ensures c.if-not-verify.false;
  payload = c.is_named.ensures.0 c.if-not-is_named.false;
  parents = rw c.deref.ensures.value at c.in-None.ensures;
  order = c.is_below.ensures.0 c.if-is_below.true;
}

use Rattle.std.proofs.Common.{eqb-true, sym, ◌∙◌}
use Rattle.mar_follower.proofs.Checked.{accepts, end_archive, end_refusal, ok_archive, ok_refusal}
use Rattle.mar_follower.proofs.checking.check.Goals as goal

pub returns-clause-passed : goal.returns-clause-passed
returns-clause-passed g c = rw c.segments.invariant.members_is at (accepts _ _ _ _ c.segments.invariant.so_far (eqb-true _ _ (sym c.is_empty.ensures ∙ c.segments-test.false)))

pub returns-clause-archive : goal.returns-clause-archive
returns-clause-archive g c = ok_archive _ _ _ (returns-clause-passed g c)

pub returns-clause-refusal : goal.returns-clause-refusal
returns-clause-refusal g c = ok_refusal _ _ _ (returns-clause-passed g c)

pub returns-in-Err-clause-refused : goal.returns-in-Err-clause-refused
returns-in-Err-clause-refused g c = rw c.segments.invariant.members_is at (c.in-Err.ensures.refused _ c.segments.invariant.so_far)

pub returns-in-Err-clause-archive : goal.returns-in-Err-clause-archive
returns-in-Err-clause-archive g c = end_archive _ _ _ (returns-in-Err-clause-refused g c)

pub returns-in-Err-clause-refusal : goal.returns-in-Err-clause-refusal
returns-in-Err-clause-refusal g c = end_refusal _ _ _ (returns-in-Err-clause-refused g c)

use Rattle.std.proofs.Common.{arith, length-set, take, ◌∙◌}
use Rattle.std.proofs.lemmas.List.{length-take}
use Rattle.mar_statesync.proofs.Decoded.{right_by}
use Rattle.mar_statesync.proofs.Spelled.{no_more, takes_all, takes_more}
use Rattle.mar_statesync.proofs.reading.read_balances.Goals as goal

pub loop-account-preserved : goal.loop-account-preserved
loop-account-preserved g c = record {
  sixteen = length-set _ _ _ ∙ c.loop-account.invariant.sixteen;
  taken = takes_more _ _ _ _ _ _ (omega (arith, c.loop-account.invariant.sixteen)) c.loop-account.invariant.taken c.in-Ok.ensures.ok.taken;
}

pub returns-in-Err-clause-err : goal.returns-in-Err-clause-err
returns-in-Err-clause-err g c =
    right_by c.in-Err.ensures.err
    (no_more 16 (take c.loop-account.account c.loop-account.balances) _ _
    (omega (arith, c.loop-account.invariant.sixteen, length-take c.loop-account.account c.loop-account.balances)) c.loop-account.invariant.taken)

pub returns-clause-ok : goal.returns-clause-ok
returns-clause-ok g c = takes_all _ _ _ _ c.loop-account.invariant.sixteen (omega (arith, c.loop-account-test.false)) c.loop-account.invariant.taken

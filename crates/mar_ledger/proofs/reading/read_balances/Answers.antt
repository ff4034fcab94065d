use Rattle.std.proofs.Common.{arith, length-set, sym, ◌∙◌}
use Rattle.mar_ledger.proofs.FoundLedgers.{filled}
use Rattle.mar_ledger.proofs.reading.read_balances.Goals as goal

pub loop-account-preserved : goal.loop-account-preserved
loop-account-preserved g c = (
  length-set _ _ _ ∙ c.loop-account.invariant.0,
  filled (g.M.Meta.current c.args.meta.now) _ _ _ (omega (arith, c.loop-account.invariant.0)) (sym c.in-Some.ensures) c.loop-account.invariant.1,
)

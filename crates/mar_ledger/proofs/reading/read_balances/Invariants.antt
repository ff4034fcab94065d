use Rattle.std.proofs.Common.{◌≡◌, ◌<◌, ℕ, Some, get_or, length}
use Rattle.mar_ledger.proofs.reading.read_balances.Given as goal

abbrev pub invariant-loop-account : goal.invariant-loop-account
invariant-loop-account g l = (length l.balances ≡ 16) × ((k : ℕ) → k < l.account → g.M.Meta.current l.meta k ≡ Some (get_or l.balances k 0))

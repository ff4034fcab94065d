use Rattle.std.proofs.Common.{◌≡◌, ◌≤◌, length}
use Rattle.mar_ledger.proofs.PutKeys.{PutUpto}
use Rattle.mar_ledger.proofs.writing.put_balances.Given as goal

abbrev pub invariant-loop-account : goal.invariant-loop-account
invariant-loop-account g l = record {
  values : PutUpto l.balances l.account (g.M.Meta.current l.initial.meta) (g.M.Meta.current l.meta);
  durable : g.M.Meta.left l.meta ≡ g.M.Meta.left l.initial.meta;
  few : length (g.M.Meta.changed l.meta) ≤ l.account;
  watched : g.M.Meta.watch l.meta ≡ g.M.Meta.watch l.initial.meta;
}

use Rattle.std.proofs.Common.{◌≡◌, ◌+◌, sum, take}
use Rattle.mar_ledger.specs.Books.{all_money}
use Rattle.mar_ledger.proofs.books.adds_up.Given as goal

abbrev pub invariant-loop-balance : goal.invariant-loop-balance
invariant-loop-balance l = l.rest + sum (take l.balance-index l.balances) ≡ all_money

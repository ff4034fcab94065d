use Rattle.std.proofs.Common.{sym}
use Rattle.mar_ledger.proofs.FoundLedgers.{foreign_sum}
use Rattle.mar_ledger.proofs.reading.read_entered.Goals as goal

pub returns-in-None : goal.returns-in-None
returns-in-None g c = foreign_sum _ c.in-Some-read_balances.balances c.in-Some-get.rejected
    (sym c.in-Some-get.ensures) c.in-Some-read_balances.ensures.0 c.in-Some-read_balances.ensures.1 c.in-None.ensures

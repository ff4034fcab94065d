use Rattle.std.proofs.Common.{arith}
use Rattle.mar_ledger.proofs.place.place_of.Goals as goal

pub returns-then-get : goal.returns-then-get
returns-then-get c = rw c.in-Some.is (omega arith)

use Rattle.std.proofs.Common.{arith, sym, ◌∙◌}
use Rattle.mar_ledger.proofs.place.place_from.Goals as goal

pub returns-then-get : goal.returns-then-get
returns-then-get c = λ last is. sym c.get.ensures.value ∙ c.if-get.true ∙ c.get-2.ensures.value ∙ is

pub returns-else-get : goal.returns-else-get
returns-else-get c = λ last is. (omega (arith, is), is)

use Rattle.std.proofs.Common.{sym, ◌∙◌}
use Rattle.mar_repair.proofs.Alone.{alone_by, none_alone, not_alone}
use Rattle.mar_repair.proofs.newest.height_alone.Goals as goal

pub returns-in-None-clause-none : goal.returns-in-None-clause-none
returns-in-None-clause-none g c = none_alone (g.S.HoldsCache.held c.args.stores.now) (rw c.in-None.is at c.last_certificate.ensures)

pub returns-then-is_alone-clause-found : goal.returns-then-is_alone-clause-found
returns-then-is_alone-clause-found g c = alone_by (g.S.HoldsCache.held c.args.stores.now) c.in-Some.height (rw c.in-Some.is at c.last_certificate.ensures) (sym c.is_alone.ensures ∙ c.if-is_alone.true)

pub returns-else-is_alone-clause-none : goal.returns-else-is_alone-clause-none
returns-else-is_alone-clause-none g c = not_alone (g.S.HoldsCache.held c.args.stores.now) c.in-Some.height (rw c.in-Some.is at c.last_certificate.ensures) (sym c.is_alone.ensures ∙ c.if-is_alone.false)

use Rattle.std.proofs.Common.{rules, ◌==◌, ◌∙◌}
use Rattle.std.proofs.lemmas.Iterator.{YieldsList-from_slice}
use Rattle.std.proofs.lemmas.Iterator.Search.{find_from_yields_List}
use borrow.Author.Tests.{tests}
use Rattle.mar_model.proofs.open_tickets.OpenTickets.find.Goals as goal

pub returns : goal.returns
returns c = rw (← c.self.view_is, ← c.deref.ensures.value) (c.copied.ensures ∙ find_from_yields_List (λ o. o.number == c.args.number) _ _ _ c.find.ensures.ran (YieldsList-from_slice c.deref.result.now c.iter.ensures.rest) (λ x b q k. search (rules, tests)))

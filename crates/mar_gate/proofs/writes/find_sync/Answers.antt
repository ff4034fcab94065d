use Rattle.std.proofs.Common.{rules, ◌==◌, ◌∙◌}
use Rattle.std.proofs.lemmas.Iterator.{YieldsList-from_slice}
use Rattle.std.proofs.lemmas.Iterator.Search.{find_from_yields_List}
use borrow.Author.Tests.{tests}
use Rattle.mar_gate.proofs.writes.find_sync.Goals as goal

pub returns : goal.returns
returns c = c.copied.ensures ∙ find_from_yields_List (λ s. s.ticket == c.args.ticket) _ _ _ c.find.ensures.ran (YieldsList-from_slice c.args.syncs.now c.iter.ensures.rest) (λ x b q k. search (rules, tests))

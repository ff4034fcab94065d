use Rattle.std.proofs.Common.{ap, arith, drop, length-drop, take, ◌-◌, ◌∙◌}
use Rattle.std.proofs.lemmas.List.{take_at}
use Rattle.mar_journal_stores.proofs.log.drop_front.Goals as goal

pub returns : goal.returns
returns g c = c.truncate.ensures.items ∙ ap (take (c.len.result - c.args.count)) c.rotate_left.ensures.items ∙ take_at (drop c.args.count c.args.items.now.items) (take c.args.count c.args.items.now.items) (c.len.result - c.args.count) (omega (arith, c.len.ensures, length-drop c.args.count c.args.items.now.items, c.args.items.now.ok.0))

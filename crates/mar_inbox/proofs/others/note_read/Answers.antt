use Rattle.std.proofs.Common.{◌∙◌}
use Rattle.mar_inbox.proofs.Coming.{kept_in, read_noted}
use Rattle.mar_inbox.proofs.others.note_read.Goals as goal

pub returns-in-Ok-clause-kept : goal.returns-in-Ok-clause-kept
returns-in-Ok-clause-kept g c = λ k was. c.in-Ok.ensures.updates.0 k ∙ kept_in _ _ was

pub returns-in-Ok-clause-ok : goal.returns-in-Ok-clause-ok
returns-in-Ok-clause-ok g c = read_noted g.M.Letter.plain c.insert.new.self c.args.item.now c.kind.result c.in-Read.height c.args.turn c.in-Read.is c.kind.ensures.kind c.in-Ok.ensures.updates.1

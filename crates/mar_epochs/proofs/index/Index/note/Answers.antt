use Rattle.std.proofs.Common.{sym, ◌∙◌}
use Rattle.mar_epochs.proofs.Noting.{noted_over}
use Rattle.mar_epochs.proofs.index.Index.note.Goals as goal

pub returns-in_ok-insert : goal.returns-in_ok-insert
returns-in_ok-insert g c = noted_over g.met.K.Ord.total c.args.self.now.spots c.insert.new.self c.insert-in-Some.new.self c.args.key c.args.spot c.in-Some.found c.sooner.result (sym c.in-Some.is ∙ c.in_ok-found.ensures.old) c.in_ok-found.ensures.updates.0 c.in_ok-insert.ensures.updates.0 c.sooner.ensures

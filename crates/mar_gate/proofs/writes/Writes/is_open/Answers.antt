use Rattle.std.proofs.Common.{◌∙◌}
use Rattle.mar_gate.proofs.Pools.{opened_is}
use Rattle.mar_gate.specs.Views.{pooled_of}
use Rattle.mar_gate.proofs.writes.Writes.is_open.Goals as goal

pub returns : goal.returns
returns c = c.is_some.ensures ∙ opened_is pooled_of c.args.ticket c.args.self.now.pooled c.find.result c.find.ensures

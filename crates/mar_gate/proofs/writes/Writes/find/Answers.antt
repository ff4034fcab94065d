use Rattle.std.proofs.Common.{ap, sym, ◌∙◌}
use Rattle.std.specs.Prelude.{option_map}
use Rattle.mar_gate.proofs.Pools.{pooled_found}
use Rattle.mar_gate.specs.Views.{pooled_of}
use Rattle.mar_gate.proofs.writes.Writes.find.Goals as goal

pub returns : goal.returns
returns c =
    let found = rw c.deref.ensures.value at c.find_sync.ensures in
    rw (← c.self.view_is) (ap (option_map pooled_of) found ∙ sym (pooled_found pooled_of c.args.ticket c.self.inside.syncs.items))

use Rattle.std.proofs.Common.{nat_lt, rules}
use Rattle.std.proofs.lemmas.Fn.{filter_same}
use Rattle.mar_gate.proofs.Batches.{filter-map}
use Rattle.mar_gate.proofs.gate.DispatchGate.release.Goals as goal

pub returns : goal.returns
returns c =
    let kept = filter_same _ (λ b. nat_lt c.args.number b.number) _ (λ x b f k. search rules) _ _ c.retain.ensures.filtered in
    rw (← c.self.view_is, kept, filter-map)

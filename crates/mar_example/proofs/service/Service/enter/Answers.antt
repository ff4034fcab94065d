use Rattle.std.proofs.lemmas.List.Elements.{All-same}
use Rattle.mar_example.specs.Entered.{Has}
use Rattle.mar_example.proofs.Keeping.{has_each}
use Rattle.mar_example.proofs.service.Service.enter.Goals as goal

pub invariant_of-result : goal.invariant_of-result
invariant_of-result c = record {
  has = All-same (λ e. Has c.in-Ok.delivered.0.ledger e.height) _ _ c.in-Ok-push.ensures.items
      (has_each (λ e. e.height) _ _ _ _ _ (c.in-Ok.delivered.1, c.in-Ok.ensures.entered) c.args.self.has);
}

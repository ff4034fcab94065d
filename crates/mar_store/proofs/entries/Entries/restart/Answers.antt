use Rattle.std.proofs.Common.{◌∙◌, sym}
use Rattle.std.specs.Prelude.{bytes_eq, ◌==◌}
use Rattle.mar_store.proofs.PileSteps.{same_places}
use Rattle.mar_store.proofs.entries.Entries.restart.Goals as goal

pub invariant_of-result : goal.invariant_of-result
invariant_of-result g c = record {
  by_index = λ h. c.args.self.by_index h ∙ sym (same_places (λ x. x.height == h) _ _ c.restart.ensures.seen);
  by_key = λ k. c.args.self.by_key k ∙ sym (same_places (λ x. bytes_eq (g.T.Item.name x.value) (g.T.Key.Named.bytes k)) _ _ c.restart.ensures.seen);
}

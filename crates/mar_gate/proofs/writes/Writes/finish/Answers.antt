use Rattle.std.proofs.Common.{ap, rules, sym, ◌==◌, ◌∙◌}
use Rattle.std.proofs.lemmas.Fn.{filter_same}
use Rattle.std.specs.Prelude.{not, option_map}
use Rattle.mar_gate.proofs.Batches.{filter-map}
use Rattle.mar_gate.proofs.Gating.{gated_finish, gated_retain}
use Rattle.mar_gate.proofs.Pools.{finished, found_all, none_finishes, ordered_covered, ordered_retain, pooled_found}
use Rattle.mar_gate.specs.Views.{pooled_of}
use Rattle.mar_gate.proofs.writes.Writes.finish.Goals as goal

pub returns-in_default : goal.returns-in_default
returns-in_default c =
    let found = rw c.deref.ensures.value at c.find_sync.ensures in
    rw (← c.self.view_is) (none_finishes c.args.ticket _ (pooled_found pooled_of c.args.ticket c.self.inside.syncs.items ∙ ap (option_map pooled_of) (sym found ∙ c.in_default.is)))

pub invariant_of-self : goal.invariant_of-self
invariant_of-self c =
    let found = rw c.deref.ensures.value at c.find_sync.ensures in
    let kept = filter_same _ (λ s. not (s.ticket == c.args.ticket)) _ (λ x b f k. search rules) _ _ c.retain.ensures.filtered in (
      rw (c.cover-self-inside.ensures.covered, c.cover-self-inside.ensures.uncovered) (ordered_retain pooled_of _ _ _ _ c.args.ticket _ kept (ordered_covered _ c.in-Some.sync.position c.self.invariant.0)),
      c.cover-self-inside.ensures.counted c.self.invariant.1,
      rw c.release_before.ensures c.self.invariant.2,
      rw (c.cover-self-inside.ensures.covered, c.cover-self-inside.ensures.uncovered, c.release_before.ensures) (gated_retain _ _ _ _ _ _ kept (gated_finish _ _ _ _ c.in-Some.sync c.self.invariant.3 (λ first parts all. found_all _ _ _ _ all (sym c.in-Some.is ∙ found)))),
    )

pub returns : goal.returns
returns c =
    let found = rw c.deref.ensures.value at c.find_sync.ensures in
    let kept = filter_same _ (λ s. not (s.ticket == c.args.ticket)) _ (λ x b f k. search rules) _ _ c.retain.ensures.filtered in
    rw (← c.self.view_is, kept, c.cover-self-inside.ensures.covered, c.cover-self-inside.ensures.uncovered, ← filter-map (λ q. not (q.sync.ticket == c.args.ticket)) pooled_of c.self.inside.syncs.items) (finished c.args.ticket _ (pooled_of c.in-Some.sync) (ap (option_map pooled_of) (sym c.in-Some.is ∙ found) ∙ sym (pooled_found pooled_of c.args.ticket c.self.inside.syncs.items)))

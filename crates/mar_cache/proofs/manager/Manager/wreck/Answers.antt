use Rattle.std.proofs.Common.{◌∙◌, ap, map}
use Rattle.mar_cache.specs.Bounds.{bounds_of}
use Rattle.mar_cache.proofs.Within.{fallen_within}
use Rattle.mar_cache.proofs.manager.Manager.wreck.Goals as goal

pub invariant_of-result : goal.invariant_of-result
invariant_of-result g c =
    let old = c.args.self in
    record {
      quiet = ap (λ w. w.due) c.wreck-2.ensures.watch ∙ old.quiet;
      within = fallen_within (g.S.Epochs.states old.epochs) _ (bounds_of (g.M.Meta.current old.meta)) _ c.wreck.ensures.left (ap (map bounds_of) c.wreck-2.ensures.left ∙ old.durable) old.within;
    }

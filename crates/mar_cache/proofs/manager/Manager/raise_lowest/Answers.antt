use Rattle.std.proofs.Common.{◌∙◌, map, subst, sym}
use Rattle.mar_cache.specs.Bounds.{bounds_of}
use Rattle.mar_cache.specs.Shelved.{LieWithin}
use Rattle.mar_cache.proofs.Views.{leaves_pruned, pruned_is, pruned_stays, raises_pruned}
use Rattle.mar_cache.proofs.Within.{within_pruned}
use Rattle.mar_cache.proofs.manager.Manager.raise_lowest.Goals as goal

pub returns-clause-raises : goal.returns-clause-raises
returns-clause-raises g c = raises_pruned (λ m. bounds_of (g.M.Meta.current m.meta)) (λ m. map bounds_of (g.M.Meta.left m.meta)) _ _ _ c.keep_bounds.result (pruned_is c.args.round (bounds_of (g.M.Meta.current c.args.self.meta)) c.get-epoch.result c.lowest-low.result c.highest-high.result c.max.result (c.get-epoch.ensures.value ∙ c.epoch.ensures) c.lowest-low.ensures c.highest-high.ensures c.max.ensures c.if-epoch-low.false) c.keep_bounds.ensures.done

pub returns-clause-bounds : goal.returns-clause-bounds
returns-clause-bounds g c = leaves_pruned _ (λ w. map bounds_of (g.M.Wreck.MetaRuin.left w.meta)) (map bounds_of (g.M.Meta.left c.args.self.meta)) _ _ c.keep_bounds.result (pruned_is c.args.round (bounds_of (g.M.Meta.current c.args.self.meta)) c.get-epoch.result c.lowest-low.result c.highest-high.result c.max.result (c.get-epoch.ensures.value ∙ c.epoch.ensures) c.lowest-low.ensures c.highest-high.ensures c.max.ensures c.if-epoch-low.false) c.keep_bounds.ensures.done

pub returns-then-epoch-low-clause-raises : goal.returns-then-epoch-low-clause-raises
returns-then-epoch-low-clause-raises g c = pruned_stays c.args.round (bounds_of (g.M.Meta.current c.args.self.meta)) c.get-epoch.result c.lowest-low.result (c.get-epoch.ensures.value ∙ c.epoch.ensures) c.lowest-low.ensures c.if-epoch-low.true

pub keep_bounds-requires : goal.keep_bounds-requires
keep_bounds-requires g c =
    let states = g.S.Epochs.states c.args.self.epochs in
    let b = bounds_of (g.M.Meta.current c.args.self.meta) in
    record { within = subst (LieWithin states) (sym (pruned_is c.args.round b c.get-epoch.result c.lowest-low.result c.highest-high.result c.max.result (c.get-epoch.ensures.value ∙ c.epoch.ensures) c.lowest-low.ensures c.highest-high.ensures c.max.ensures c.if-epoch-low.false)) (within_pruned c.args.round states b c.requires.older c.args.self.within) }

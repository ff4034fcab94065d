use Rattle.std.proofs.Common.{subst, sym}
use Rattle.mar_cache.specs.Bounds.{bounds_of}
use Rattle.mar_cache.specs.Shelved.{LieWithin}
use Rattle.mar_cache.proofs.Within.{raised_is, within_raised}
use Rattle.mar_cache.proofs.manager.Manager.raise.Goals as goal

pub keep_bounds-requires : goal.keep_bounds-requires
keep_bounds-requires g c =
    let states = g.S.Epochs.states c.args.self.epochs in
    let b = bounds_of (g.M.Meta.current c.args.self.meta) in
    record { within = subst (LieWithin states) (sym (raised_is b c.args.epoch c.lowest-low.result c.highest-high.result c.lowest-low.ensures c.highest-high.ensures c.if-epoch-high.false)) (within_raised states b c.args.epoch c.args.self.within) }

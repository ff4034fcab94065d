use Rattle.std.proofs.Common.{[]}
use Rattle.std.proofs.lemmas.Result.{err_from_is_err_and}
use Rattle.mar_cache.proofs.BoundsKept.{bounds_put, bounds_synced, leaves_bounds, none_wider}
use Rattle.mar_cache.proofs.bounds.write_bounds.Goals as goal

pub returns-in_err-meta-clause-done : goal.returns-in_err-meta-clause-done
returns-in_err-meta-clause-done g c =
    let p = err_from_is_err_and c.from_residual.result c.from_residual.ensures.1 in
    rw (p.1, p.2) (leaves_bounds _ [] _ _ c.in_err-meta.ensures.done (none_wider _))

pub returns-in_err-meta-2-clause-done : goal.returns-in_err-meta-2-clause-done
returns-in_err-meta-2-clause-done g c =
    let p = err_from_is_err_and c.from_residual-in_err-meta-2.result c.from_residual-in_err-meta-2.ensures.1 in
    rw (p.1, p.2, ← c.in_ok-meta.ensures.durable) (leaves_bounds _ [] _ _ c.in_err-meta-2.ensures.done (none_wider _))

pub returns-clause-done : goal.returns-clause-done
returns-clause-done g c = rw (← c.in_ok-meta.ensures.durable, ← c.in_ok-meta-2.ensures.durable) (bounds_synced g.M.Meta.current g.M.Meta.left g.M.Wreck.MetaRuin.left _ _ _ c.sync.result (bounds_put _ _ _ c.args.lowest c.args.highest c.in_ok-meta.ensures.done c.in_ok-meta-2.ensures.done) c.sync.ensures.done c.sync.ensures.same)

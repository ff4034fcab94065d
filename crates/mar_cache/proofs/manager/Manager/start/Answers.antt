use Rattle.std.proofs.Common.{[]}
use Rattle.mar_cache.specs.Shelved.{at_epoch, nothing_gone}
use Rattle.mar_cache.proofs.Exits.{err_is, no_ok}
use Rattle.mar_cache.proofs.Shelving.{fallen_leaves}
use Rattle.mar_cache.proofs.Watched.{heeds_exit}
use Rattle.mar_cache.proofs.manager.Manager.start.Goals as goal

pub returns-in_err-manager-clause-same : goal.returns-in_err-manager-clause-same
returns-in_err-manager-clause-same g c = no_ok c.from_residual.result _ _ c.from_residual.ensures.1

pub returns-in_err-manager-clause-started : goal.returns-in_err-manager-clause-started
returns-in_err-manager-clause-started g c = no_ok c.from_residual.result _ _ c.from_residual.ensures.1

pub returns-in_err-manager-clause-bounds : goal.returns-in_err-manager-clause-bounds
returns-in_err-manager-clause-bounds g c = err_is c.from_residual.result _ _ c.from_residual.ensures.1 c.in_err-manager.ensures.bounds

pub returns-in_err-manager-clause-ways : goal.returns-in_err-manager-clause-ways
returns-in_err-manager-clause-ways g c = err_is c.from_residual.result _ _ c.from_residual.ensures.1 (fallen_leaves (at_epoch c.args.epoch []) nothing_gone (g.S.Epochs.states c.args.self.epochs) (g.met.S.Epochs.nested c.args.self.epochs) _ c.in_err-manager.ensures.ways)

pub returns-in_err-manager-clause-watched : goal.returns-in_err-manager-clause-watched
returns-in_err-manager-clause-watched g c = heeds_exit _ _ _ c.from_residual.result _ c.from_residual.ensures.1 c.in_err-manager.ensures.watched

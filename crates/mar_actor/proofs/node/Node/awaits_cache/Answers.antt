use Rattle.std.proofs.Common.{ap, ◌∙◌}
use Rattle.mar_model.specs.OpenSyncs.{is_cache_sync}
use Rattle.mar_model.proofs.OpenSyncs.{open-listed}
use Rattle.mar_actor.proofs.node.Node.awaits_cache.Goals as goal

pub returns : goal.returns
returns g c = rw (← c.self.view_is, ← c.deref.ensures) (c.is_open.ensures ∙ (open-listed (g.S.HoldsCache.covers c.deref.result.now) c.args.ticket c.cache_syncs.result.now ∙ ap (λ ss. is_cache_sync ss c.args.ticket) c.cache_syncs.ensures))

use Rattle.std.proofs.Common.{ap, map, ◌∙◌}
use Rattle.mar_model.proofs.OpenSyncs.{numbers-are}
use Rattle.mar_actor.proofs.node.Node.shown.Goals as goal

pub returns-clause-tickets : goal.returns-clause-tickets
returns-clause-tickets g c = rw (← c.self.view_is, ← c.self-inside.view_is, ← c.self-inside-inside.view_is) (ap (map (λ o. o.number)) c.as_slice.ensures ∙ (numbers-are (g.S.HoldsCache.covers c.as_ref-stores.result.now) c.cache_syncs.result.now ∙ (ap (map (λ s. s.ticket)) c.cache_syncs.ensures ∙ ap (λ s. map (λ y. y.ticket) (g.S.HoldsCache.held s).cache.syncs) c.as_ref-stores.ensures)))

use Rattle.std.proofs.Common.{refl}
use Rattle.mar_life.specs.Pooling.{of_blocks, of_certs}
use Rattle.mar_life.proofs.CacheSyncs.{cache_opened, waits_opened}
use Rattle.mar_life.proofs.Placed.{both_done, done_so, left_so}
use Rattle.mar_life.proofs.stores.StoresHoldsCache.open_cache_sync.Goals as goal

pub open-requires-clause-ticket : goal.open-requires-clause-ticket
open-requires-clause-ticket g c = rw (← c.self.view_is) at c.requires

pub open-requires-clause-own : goal.open-requires-clause-own
open-requires-clause-own g c = c.self.invariant.3

pub invariant_of-self : goal.invariant_of-self
invariant_of-self g c = (
  waits_opened _ c.open.result g.FB.Keeps.stored g.FB.Keeps.number g.FB.Keeps.covers of_blocks c.self.inside.blocks c.self.inside.writes _ c.open.ensures.ticketed c.open.ensures.err c.self.invariant.0,
  c.self.invariant.1,
  waits_opened _ c.open.result g.FC.Keeps.stored g.FC.Keeps.number g.FC.Keeps.covers of_certs c.self.inside.certs c.self.inside.writes _ c.open.ensures.ticketed c.open.ensures.err c.self.invariant.2,
  c.open.ensures.own,
)

pub returns-clause-staged : goal.returns-clause-staged
returns-clause-staged g c = rw (← c.self.view_is) refl

pub returns-clause-ticket : goal.returns-clause-ticket
returns-clause-ticket g c = rw (← c.self.view_is) c.open.ensures.number

pub returns-clause-opens : goal.returns-clause-opens
returns-clause-opens g c = rw (← c.self.view_is) (done_so c.open.result (both_done _ _ c.open.result c.open.ensures.opened c.open.ensures.ticketed) (λ is. cache_opened (g.H.LifeCache.held c.self.inside.cache) (g.H.LifeCache.covers c.self.inside.cache) c.self.inside.syncs _ c.self.inside.writes _ c.args.sync c.args.answer is.0 is.1))

pub returns-clause-err : goal.returns-clause-err
returns-clause-err g c = rw (← c.self.view_is) (left_so c.open.result c.open.ensures.err (λ is. rw (is.0, is.1) refl))

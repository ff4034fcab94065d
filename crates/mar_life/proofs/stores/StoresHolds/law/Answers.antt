use Rattle.std.proofs.Common.{map}
use Rattle.mar_store.specs.Changes.{IsNested}
use Rattle.mar_model.specs.Pool.{writing_of}
use Rattle.mar_model.specs.Stored.{AreSmall}
use Rattle.mar_model.proofs.FoundBlocks.{are_small}
use Rattle.mar_model.proofs.SmallFound.{small_held}
use Rattle.mar_life.specs.Pooling.{of_blocks, of_certs}
use Rattle.mar_life.proofs.InPlace.{first_of, kept_open, second_of, third_of, written_in}
use Rattle.mar_life.proofs.CacheSyncs.{own_tickets}
use Rattle.mar_life.proofs.stores.StoresHolds.law.Goals as goal

pub returns-clause-blocks : goal.returns-clause-blocks
returns-clause-blocks g c = rw (← c.self.view_is) (λ intact. kept_open g.FB.Keeps.stored g.FB.Wreck.ArchiveRuin.left c.self.inside.blocks IsNested g.met.FB.Keeps.nested (first_of _ _ intact))

pub returns-clause-certs : goal.returns-clause-certs
returns-clause-certs g c = rw (← c.self.view_is) (λ intact. kept_open g.FC.Keeps.stored g.FC.Wreck.ArchiveRuin.left c.self.inside.certs IsNested g.met.FC.Keeps.nested (second_of _ _ _ intact))

pub returns-clause-small : goal.returns-clause-small
returns-clause-small g c = rw (← c.self.view_is) (λ intact. kept_open g.FB.Keeps.stored g.FB.Wreck.ArchiveRuin.left c.self.inside.blocks (λ k. AreSmall (map (λ x. x.value) k.held)) (λ s. are_small _ (g.met.FB.Blocks.own s).small) (first_of _ _ intact))

pub returns-clause-written : goal.returns-clause-written
returns-clause-written g c = rw (← c.self.view_is) (λ intact. record {
  blocks = written_in of_blocks g.FB.Keeps.stored g.FB.Keeps.number g.FB.Keeps.covers g.FB.Wreck.ArchiveRuin.left c.self.inside.blocks _ c.self.invariant.0 (first_of _ _ intact);
  certs = written_in of_certs g.FC.Keeps.stored g.FC.Keeps.number g.FC.Keeps.covers g.FC.Wreck.ArchiveRuin.left c.self.inside.certs _ c.self.invariant.2 (second_of _ _ _ intact);
  ordered = c.law.ensures;
})

pub returns-clause-small_cached : goal.returns-clause-small_cached
returns-clause-small_cached g c = rw (← c.self.view_is) (λ intact. small_held _ _ _ (g.met.H.LifeCache.nested c.self.inside.cache) (g.met.H.LifeCache.small c.self.inside.cache))

pub returns-clause-cached : goal.returns-clause-cached
returns-clause-cached g c = rw (← c.self.view_is) (λ intact. record { nested = g.met.H.LifeCache.nested c.self.inside.cache; own_lowest = g.met.H.LifeCache.lowest_there c.self.inside.cache (third_of _ _ _ _ intact); own_tickets = own_tickets (writing_of c.self.inside.writes) (g.H.LifeCache.covers c.self.inside.cache) c.self.inside.syncs c.self.invariant.3 })

pub returns-clause-joins : goal.returns-clause-joins
returns-clause-joins g c = rw (← c.self.view_is) (g.met.H.LifeCache.joins c.self.inside.cache)

pub returns-clause-lawful : goal.returns-clause-lawful
returns-clause-lawful g c = λ intact. record { blocks = returns-clause-blocks g c intact; certs = returns-clause-certs g c intact; written = returns-clause-written g c intact; cached = returns-clause-cached g c intact }

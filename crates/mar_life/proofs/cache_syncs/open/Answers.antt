use Rattle.mar_life.proofs.CacheSyncs.{own_opened}
use Rattle.mar_life.proofs.cache_syncs.open.Goals as goal

pub returns-clause-own : goal.returns-clause-own
returns-clause-own c = rw (c.take_ticket.ensures.rest, c.in_default.ensures.ok) (own_opened c.args.writes.now c.args.syncs.now _ c.next_ticket.ensures c.law.ensures c.requires.own)

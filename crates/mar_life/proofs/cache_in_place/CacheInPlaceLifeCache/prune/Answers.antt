use Rattle.std.proofs.Common.{[], ◌∷◌, Contains, refl, subst}
use Rattle.mar_model.specs.Cache.{is_below}
use Rattle.mar_model.specs.Faults.{cache_store}
use Rattle.mar_model.proofs.Passing.{Passes-one, by_lost}
use Rattle.mar_life.proofs.Caches.{among_both, cache_alone, fails_wider, max_among}
use Rattle.mar_life.proofs.cache_in_place.CacheInPlaceLifeCache.prune.Goals as goal

pub returns-in_default-clause-failed : goal.returns-in_default-clause-failed
returns-in_default-clause-failed g c = fails_wider [] (is_below c.args.round) _ _ (c.args.round.epoch ∷ []) _ _ _ _ _ (cache_alone g.H.Cache.kept g.H.Wreck.ShelfRuin.left g.H.Cache.lowest g.H.Wreck.ShelfRuin.lowests g.H.Cache.watch g.H.Wreck.ShelfRuin.watch [] (is_below c.args.round) _ _ c.in_default.ensures.0 c.in_default.ensures.1)

pub returns-in-Ok-clause-done : goal.returns-in-Ok-clause-done
returns-in-Ok-clause-done g c = rw c.in-Some.ensures.0 (record {
  prunes = λ loaded. (c.in-Ok.ensures.done loaded).0;
  leaves = c.in-Ok.ensures.goes_on.leaves;
  loaded = c.in-Ok.ensures.stays.1;
  lowest_is = c.in-Ok.ensures.stays.0;
  own_lowest = refl;
  within = λ k has. max_among _ c.args.round.epoch k (subst (λ j. Contains (j ∷ []) k) c.in-Ok.ensures.stays.0 has);
})

pub returns-in-Ok-clause-tickets : goal.returns-in-Ok-clause-tickets
returns-in-Ok-clause-tickets g c = rw c.in-Some.ensures.0 c.in-Ok.ensures.goes_on.tickets

pub returns-in-Ok-clause-stays : goal.returns-in-Ok-clause-stays
returns-in-Ok-clause-stays g c = rw c.in-Some.ensures.0 refl

pub returns-in-Ok-clause-passed : goal.returns-in-Ok-clause-passed
returns-in-Ok-clause-passed g c = rw c.in-Some.ensures.0 (Passes-one _ _ c.in-Ok.ensures.watched.0 c.in-Ok.ensures.watched.1)

pub returns-in-Err-clause-failed : goal.returns-in-Err-clause-failed
returns-in-Err-clause-failed g c = rw (c.in-Some.ensures.0, c.lose.ensures.left, c.lose.ensures.fault) (record {
  loses = record { leaves = c.in-Err.ensures.lost.leaves; lowests = λ k has. among_both _ c.args.round.epoch k (c.in-Err.ensures.lost.lowests k has) };
  cause = by_lost g.H.Cache.watch g.H.Wreck.ShelfRuin.watch _ cache_store c.in-Err.lost c.in-Err.ensures.watched;
})

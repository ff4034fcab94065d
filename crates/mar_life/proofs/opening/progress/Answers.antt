use Rattle.std.proofs.Common.{◌∙◌, ap, inl, inr, refl, subst, sym}
use Rattle.mar_model.specs.Faults.{cache_store, meta_store}
use Rattle.mar_model.specs.Held.{Passes}
use Rattle.mar_model.proofs.Passing.{Passes-one, by_lost}
use Rattle.mar_life.proofs.Caches.{unloaded_so}
use Rattle.mar_life.proofs.opening.progress.Goals as goal

pub returns-in-Err-clause-lost : goal.returns-in-Err-clause-lost
returns-in-Err-clause-lost g c = rw (c.lost_by-fault.ensures.fault, c.lost_by-fault.ensures.wreck) (inl (record { leaves = c.in-Err.ensures.done; cause = by_lost g.M.Meta.watch g.M.Wreck.MetaRuin.watch _ meta_store c.in-Err.lost c.in-Err.ensures.watched }, refl))

pub returns-in-Ok-reopen-clause-pairs : goal.returns-in-Ok-reopen-clause-pairs
returns-in-Ok-reopen-clause-pairs g c = record {
  values = g.M.Meta.current c.in-Ok.meta;
  may = c.in-Ok.ensures.done;
  now = g.M.Meta.watch c.in-Ok.meta;
  is = c.new-progress.ensures;
  passed = Passes-one _ _ c.in-Ok.ensures.watched.0 c.in-Ok.ensures.watched.1;
  lucky = c.in-Ok.ensures.lucky;
}

pub returns-in-Ok-reopen-clause-cache : goal.returns-in-Ok-reopen-clause-cache
returns-in-Ok-reopen-clause-cache g c = record {
  found = c.in-Ok-reopen.ensures.done;
  nested = (g.met.H.LifeCache.nested c.in-Ok-reopen.cache).sure_may;
  lowest_was = c.in-Ok-reopen.ensures.lowest;
  lowest_is = g.met.H.LifeCache.lowest_there c.in-Ok-reopen.cache c.in-Ok-reopen.ensures.intact;
  fresh_is = c.in-Ok-reopen.ensures.fresh.0;
  picked = c.in-Ok-reopen.ensures.picked;
  intact_is = c.in-Ok-reopen.ensures.intact;
  passed = Passes-one _ _ c.in-Ok-reopen.ensures.watched.0 c.in-Ok-reopen.ensures.watched.1;
}

pub returns-in-Err-reopen-clause-lost : goal.returns-in-Err-reopen-clause-lost
returns-in-Err-reopen-clause-lost g c = rw (c.lost_by-fault-in-Err-reopen.ensures.fault, c.lost_by-fault-in-Err-reopen.ensures.wreck) (inr (
  record {
    values = g.M.Meta.current c.in-Ok.meta;
    may = c.in-Ok.ensures.done;
    is = c.wreck.ensures.left ∙ ap (λ p. p.pairs) c.new-progress.ensures;
    passed = subst (Passes (g.M.Wreck.MetaRuin.watch c.args.meta)) (sym (c.wreck.ensures.watch ∙ ap (λ p. p.watch) c.new-progress.ensures)) (Passes-one _ _ c.in-Ok.ensures.watched.0 c.in-Ok.ensures.watched.1);
  },
  record { leaves = unloaded_so _ _ _ _ c.in-Err-reopen.ensures.lost; cause = by_lost g.H.LifeCache.watch g.H.Ruin.ShelfRuin.watch _ cache_store c.in-Err-reopen.lost c.in-Err-reopen.ensures.watched },
))

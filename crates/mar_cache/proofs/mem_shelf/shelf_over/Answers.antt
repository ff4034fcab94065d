use Rattle.std.proofs.Common.{[], ◌∷◌, ap, map, refl, subst, sym, ℕ, ◌∙◌, ◌≡◌}
use Rattle.mar_store.specs.Kept.{Kept}
use Rattle.mar_model.specs.Cached.{Cached}
use Rattle.mar_epochs.specs.EpochStates.{EpochState, EpochStates, IsBare, held_in, may_in, opened, shut, sure_in}
use Rattle.mar_epochs.specs.Picks.{follows_if}
use Rattle.mar_cache.specs.AsOne.{kept_of}
use Rattle.mar_cache.specs.Bounds.{bounds_of}
use Rattle.mar_cache.proofs.CacheSteps.{fresh_shelf}
use Rattle.mar_cache.proofs.Within.{within_bare}
use Rattle.mar_cache.proofs.mem_shelf.shelf_over.Goals as goal

-- of an epoch that is bare nothing is kept
bare_kept : (t : EpochState) → IsBare t → ◌≡◌ {A = Kept Cached} (record { held = held_in t; sure = sure_in t; may = may_in t }) (record { held = []; sure = []; may = [] })
bare_kept (opened b) bare = absurd bare
bare_kept (shut l) bare = ap (λ k. record { held = []; sure = k.sure; may = k.may }) bare

-- so nothing is kept of a cache that has the epoch 0 alone, by states that are those of another
bare_kept_of : (states other : EpochStates) (highest : ℕ) → ((k : ℕ) → states k ≡ other k) → highest ≡ 0 → IsBare (other 0) →
    kept_of states highest ≡ record { held = []; sure = []; may = [] }
bare_kept_of states other highest same is bare = subst (λ h. kept_of states h ≡ record { held = []; sure = []; may = [] }) (sym is)
    (bare_kept (states 0) (subst IsBare (sym (same 0)) bare))

pub new-manager-requires-clause-durable : goal.new-manager-requires-clause-durable
new-manager-requires-clause-durable g c = ap (map bounds_of) c.new-meta.ensures.left ∙ sym (ap (λ values. bounds_of values ∷ []) c.new-meta.ensures.current)

pub new-manager-requires-clause-within : goal.new-manager-requires-clause-within
new-manager-requires-clause-within g c = within_bare _ _ (λ k. subst IsBare (sym (c.new-epochs.ensures.states k)) (c.requires.bare k))

pub new-requires : goal.new-requires
new-requires g c = record { bare = rw c.new-manager.ensures.epochs (λ k. subst IsBare (sym (c.new-epochs.ensures.states k)) (c.requires.bare k)) }

pub returns-clause-bare : goal.returns-clause-bare
returns-clause-bare g c = rw (c.new.ensures.manager, c.new-manager.ensures.epochs) (λ k. subst IsBare (sym (c.new-epochs.ensures.states k)) (c.requires.bare k))

pub returns-clause-kept : goal.returns-clause-kept
returns-clause-kept g c = rw (c.new.ensures.manager, c.new-manager.ensures.epochs, c.new-manager.ensures.meta) (bare_kept_of _ _ _ c.new-epochs.ensures.states (ap (λ values. (bounds_of values).highest) c.new-meta.ensures.current) (c.requires.bare 0))

pub returns-clause-lowest : goal.returns-clause-lowest
returns-clause-lowest g c = rw (c.new.ensures.manager, c.new-manager.ensures.meta) (ap (λ values. (bounds_of values).lowest) c.new-meta.ensures.current)

pub returns-clause-watch : goal.returns-clause-watch
returns-clause-watch g c = rw (c.new.ensures.manager, c.new-manager.ensures.epochs) (fresh_shelf (follows_if g.D.EpochArchivesDepot.is_certain g.A.EpochArchives.keeps) c.new-manager.result.alarm _ _ c.new-manager.ensures.alarm.0 c.new-manager.ensures.alarm.1 (c.new-epochs.ensures.calm ∙ c.requires.calm) refl)

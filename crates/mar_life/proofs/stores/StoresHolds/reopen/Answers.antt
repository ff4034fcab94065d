use Rattle.std.proofs.Common.{⊎_elim, refl}
use Rattle.mar_model.specs.Faults.{block_store, cache_store, cert_store, meta_store}
use Rattle.mar_life.proofs.Opened.{all_opened, archives_in_order, archives_lost, progress_in_order, progress_lost}
use Rattle.mar_life.proofs.Placed.{usual_fault}
use Rattle.mar_life.proofs.stores.StoresHolds.reopen.Goals as goal

pub returns-in-Err-clause-lost : goal.returns-in-Err-clause-lost
returns-in-Err-clause-lost g c = rw (← c.ruins.view_is) (archives_lost g.FB.Wreck.ArchiveRuin.left g.FB.Wreck.ArchiveRuin.watch g.FC.Wreck.ArchiveRuin.left g.FC.Wreck.ArchiveRuin.watch g.M.Wreck.MetaRuin.left g.M.Wreck.MetaRuin.watch c.ruins.inside.blocks c.ruins.inside.certs c.ruins.inside.meta (g.H.Ruin.ShelfRuin.left c.ruins.inside.cache) (g.H.Ruin.ShelfRuin.lowests c.ruins.inside.cache) (g.H.Ruin.ShelfRuin.watch c.ruins.inside.cache) _ _ _ c.in-Err.ensures.lost)

pub returns-in-Err-clause-usual : goal.returns-in-Err-clause-usual
returns-in-Err-clause-usual g c = ⊎_elim (λ first. usual_fault block_store _ _ _ first.0.cause) (λ second. usual_fault cert_store _ _ _ second.1.cause) c.in-Err.ensures.lost

pub returns-in-Ok-progress-clause-ok : goal.returns-in-Ok-progress-clause-ok
returns-in-Ok-progress-clause-ok g c = rw (← c.ruins.view_is, c.new.ensures, c.new-in-Ok-progress-2.ensures) (all_opened g.FB.Wreck.ArchiveRuin.left g.FB.Wreck.ArchiveRuin.watch g.FC.Wreck.ArchiveRuin.left g.FC.Wreck.ArchiveRuin.watch g.M.Wreck.MetaRuin.left g.M.Wreck.MetaRuin.watch c.ruins.inside.blocks c.ruins.inside.certs c.ruins.inside.meta (g.H.Ruin.ShelfRuin.left c.ruins.inside.cache) (g.H.Ruin.ShelfRuin.lowests c.ruins.inside.cache) (g.H.Ruin.ShelfRuin.watch c.ruins.inside.cache) g.FB.Keeps.stored g.FB.Keeps.watch g.FC.Keeps.stored g.FC.Keeps.watch c.args.luck _ _ c.in-Ok.ensures.blocks c.in-Ok.ensures.certs (g.met.M.Wreck.MetaRuin.some c.ruins.inside.meta) g.H.Ruin.ShelfRuin.left g.H.Ruin.ShelfRuin.lowests g.H.Ruin.ShelfRuin.watch c.ruins.inside.cache refl refl refl g.H.LifeCache.held g.H.LifeCache.covers g.H.LifeCache.lowest g.H.LifeCache.lowests g.H.LifeCache.intact g.H.LifeCache.watch _ _ c.in-Ok-progress.ensures.pairs c.in-Ok-progress.ensures.cache)

pub returns-in-Err-progress-clause-lost : goal.returns-in-Err-progress-clause-lost
returns-in-Err-progress-clause-lost g c = rw (← c.ruins.view_is, c.wreck.ensures.left, c.wreck.ensures.watch, c.wreck-in-Err-progress.ensures.left, c.wreck-in-Err-progress.ensures.watch) (progress_lost g.FB.Wreck.ArchiveRuin.left g.FB.Wreck.ArchiveRuin.watch g.FC.Wreck.ArchiveRuin.left g.FC.Wreck.ArchiveRuin.watch g.M.Wreck.MetaRuin.left g.M.Wreck.MetaRuin.watch c.ruins.inside.blocks c.ruins.inside.certs c.ruins.inside.meta (g.H.Ruin.ShelfRuin.left c.ruins.inside.cache) (g.H.Ruin.ShelfRuin.lowests c.ruins.inside.cache) (g.H.Ruin.ShelfRuin.watch c.ruins.inside.cache) g.FB.Keeps.stored g.FB.Keeps.watch g.FC.Keeps.stored g.FC.Keeps.watch c.args.luck _ _ c.in-Ok.ensures.blocks c.in-Ok.ensures.certs (g.met.M.Wreck.MetaRuin.some c.ruins.inside.meta) g.H.Ruin.ShelfRuin.left g.H.Ruin.ShelfRuin.lowests g.H.Ruin.ShelfRuin.watch c.ruins.inside.cache refl refl refl _ _ _ c.in-Err-progress.ensures.lost)

pub returns-in-Err-progress-clause-usual : goal.returns-in-Err-progress-clause-usual
returns-in-Err-progress-clause-usual g c = ⊎_elim (λ first. usual_fault meta_store _ _ _ first.0.cause) (λ second. usual_fault cache_store _ _ _ second.1.cause) c.in-Err-progress.ensures.lost

pub returns-in-Err-clause-in_order : goal.returns-in-Err-clause-in_order
returns-in-Err-clause-in_order g c = rw (← c.ruins.view_is) (archives_in_order g.FB.Wreck.ArchiveRuin.left g.FB.Wreck.ArchiveRuin.watch g.FC.Wreck.ArchiveRuin.left g.FC.Wreck.ArchiveRuin.watch g.M.Wreck.MetaRuin.left g.M.Wreck.MetaRuin.watch c.ruins.inside.blocks c.ruins.inside.certs c.ruins.inside.meta (g.H.Ruin.ShelfRuin.left c.ruins.inside.cache) (g.H.Ruin.ShelfRuin.lowests c.ruins.inside.cache) (g.H.Ruin.ShelfRuin.watch c.ruins.inside.cache) _ _ _ c.in-Err.ensures.lost)

pub returns-in-Err-progress-clause-in_order : goal.returns-in-Err-progress-clause-in_order
returns-in-Err-progress-clause-in_order g c = rw (← c.ruins.view_is, c.wreck.ensures.watch, c.wreck-in-Err-progress.ensures.watch) (progress_in_order g.FB.Wreck.ArchiveRuin.left g.FB.Wreck.ArchiveRuin.watch g.FC.Wreck.ArchiveRuin.left g.FC.Wreck.ArchiveRuin.watch g.M.Wreck.MetaRuin.left g.M.Wreck.MetaRuin.watch c.ruins.inside.blocks c.ruins.inside.certs c.ruins.inside.meta (g.H.Ruin.ShelfRuin.left c.ruins.inside.cache) (g.H.Ruin.ShelfRuin.lowests c.ruins.inside.cache) (g.H.Ruin.ShelfRuin.watch c.ruins.inside.cache) g.FB.Keeps.stored g.FB.Keeps.watch g.FC.Keeps.stored g.FC.Keeps.watch c.args.luck _ _ c.in-Ok.ensures.blocks c.in-Ok.ensures.certs (g.met.M.Wreck.MetaRuin.some c.ruins.inside.meta) g.H.Ruin.ShelfRuin.left g.H.Ruin.ShelfRuin.lowests g.H.Ruin.ShelfRuin.watch c.ruins.inside.cache refl refl refl _ _ _ c.in-Err-progress.ensures.lost)

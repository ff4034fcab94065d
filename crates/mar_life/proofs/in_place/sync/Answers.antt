use Rattle.mar_model.proofs.Passing.{Passes-one, by_lost}
use Rattle.mar_model.specs.Views.{store_name_of}
use Rattle.mar_life.proofs.in_place.sync.Goals as goal

pub returns-in-Ok-clause-passed : goal.returns-in-Ok-clause-passed
returns-in-Ok-clause-passed g c = rw c.in-Some.ensures.0 (Passes-one _ _ c.in-Ok.ensures.watched.0 c.in-Ok.ensures.watched.1)

pub returns-in-Err-clause-failed : goal.returns-in-Err-clause-failed
returns-in-Err-clause-failed g c = rw (c.in-Some.ensures.0, c.lose.ensures.left, c.lose.ensures.fault) (record { fails = c.in-Err.ensures.done; cause = by_lost g.S.Keeps.watch g.S.Wreck.ArchiveRuin.watch _ (store_name_of c.args.store) c.in-Err.lost c.in-Err.ensures.watched })

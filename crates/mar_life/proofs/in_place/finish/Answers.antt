use Rattle.mar_model.proofs.Passing.{Passes-one, by_lost}
use Rattle.mar_model.specs.Views.{store_name_of}
use Rattle.mar_life.proofs.Placed.{fails_alone, left_alone}
use Rattle.mar_life.proofs.in_place.finish.Goals as goal

pub returns-in_default-clause-left : goal.returns-in_default-clause-left
returns-in_default-clause-left g c = left_alone _ _ c.in_default.ensures.0 c.in_default.ensures.1

pub returns-in_default-clause-failed : goal.returns-in_default-clause-failed
returns-in_default-clause-failed g c = fails_alone (store_name_of c.args.store) g.S.Keeps.stored g.S.Wreck.ArchiveRuin.left g.S.Keeps.watch g.S.Wreck.ArchiveRuin.watch _ _ _ c.in_default.ensures.0

pub returns-in-Ok-clause-done : goal.returns-in-Ok-clause-done
returns-in-Ok-clause-done g c = rw c.in-Some.ensures.0 c.in-Ok.ensures.done

pub returns-in-Ok-clause-stays : goal.returns-in-Ok-clause-stays
returns-in-Ok-clause-stays g c = rw c.in-Some.ensures.0 (record { more = c.in-Ok.ensures.tickets; keeps = c.in-Ok.ensures.covers; last = g.met.S.Keeps.last _ })

pub returns-in-Ok-clause-passed : goal.returns-in-Ok-clause-passed
returns-in-Ok-clause-passed g c = rw c.in-Some.ensures.0 (Passes-one _ _ c.in-Ok.ensures.watched.0 c.in-Ok.ensures.watched.1)

pub returns-in-Err-clause-failed : goal.returns-in-Err-clause-failed
returns-in-Err-clause-failed g c = rw (c.in-Some.ensures.0, c.lose.ensures.left, c.lose.ensures.fault) (record { fails = c.in-Err.ensures.done; cause = by_lost g.S.Keeps.watch g.S.Wreck.ArchiveRuin.watch _ (store_name_of c.args.store) c.in-Err.lost c.in-Err.ensures.watched })

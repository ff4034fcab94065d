use Rattle.mar_model.specs.Faults.{cert_store}
use Rattle.mar_model.proofs.Passing.{Passes-one, by_lost_put}
use Rattle.mar_life.proofs.Placed.{fails_alone, left_alone}
use Rattle.mar_life.proofs.in_place.put_certificate.Goals as goal

pub returns-in_default-clause-left : goal.returns-in_default-clause-left
returns-in_default-clause-left g c = left_alone _ _ c.in_default.ensures.0 c.in_default.ensures.1

pub returns-in_default-clause-failed : goal.returns-in_default-clause-failed
returns-in_default-clause-failed g c = fails_alone cert_store g.FC.Keeps.stored g.FC.Wreck.ArchiveRuin.left g.FC.Keeps.watch g.FC.Wreck.ArchiveRuin.watch _ _ _ c.in_default.ensures.0

pub returns-in-Ok-clause-done : goal.returns-in-Ok-clause-done
returns-in-Ok-clause-done g c = rw (c.in-Some.ensures.0, ← c.payload.ensures, ← c.commitment_to_inner-digest.ensures) c.in-Ok.ensures.done

pub returns-in-Ok-clause-stays : goal.returns-in-Ok-clause-stays
returns-in-Ok-clause-stays g c = rw c.in-Some.ensures.0 (record { more = c.in-Ok.ensures.tickets; keeps = c.in-Ok.ensures.covers; last = g.met.FC.Keeps.last _ })

pub returns-in-Ok-clause-passed : goal.returns-in-Ok-clause-passed
returns-in-Ok-clause-passed g c = rw c.in-Some.ensures.0 (Passes-one _ _ c.in-Ok.ensures.watched.0 c.in-Ok.ensures.watched.1)

pub returns-in-Err-clause-failed : goal.returns-in-Err-clause-failed
returns-in-Err-clause-failed g c = rw (c.in-Some.ensures.0, c.lose.ensures.left, c.lose.ensures.fault) (record { fails = c.in-Err.ensures.done; cause = by_lost_put g.FC.Keeps.watch g.FC.Wreck.ArchiveRuin.watch _ cert_store c.in-Err.lost c.in-Err.ensures.watched })

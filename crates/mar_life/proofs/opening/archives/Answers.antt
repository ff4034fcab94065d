use Rattle.std.proofs.Common.{inl, inr, refl}
use Rattle.mar_model.specs.Faults.{block_store, cert_store}
use Rattle.mar_model.proofs.Passing.{Passes-one, by_lost}
use Rattle.mar_life.proofs.opening.archives.Goals as goal

pub returns-in-Err-clause-lost : goal.returns-in-Err-clause-lost
returns-in-Err-clause-lost g c = rw (c.lost_by-fault.ensures.fault, c.lost_by-fault.ensures.wreck) (inl (record { fails = c.in-Err.ensures.done; cause = by_lost g.S.Keeps.watch g.S.Wreck.ArchiveRuin.watch _ block_store c.in-Err.lost c.in-Err.ensures.watched }, refl))

pub returns-in-Ok-reopen-clause-blocks : goal.returns-in-Ok-reopen-clause-blocks
returns-in-Ok-reopen-clause-blocks g c = record { found = c.in-Ok.ensures.done; passed = Passes-one _ _ c.in-Ok.ensures.watched.0 c.in-Ok.ensures.watched.1; lucky = c.in-Ok.ensures.lucky }

pub returns-in-Ok-reopen-clause-certs : goal.returns-in-Ok-reopen-clause-certs
returns-in-Ok-reopen-clause-certs g c = record { found = c.in-Ok-reopen.ensures.done; passed = Passes-one _ _ c.in-Ok-reopen.ensures.watched.0 c.in-Ok-reopen.ensures.watched.1; lucky = c.in-Ok-reopen.ensures.lucky }

pub returns-in-Err-reopen-clause-lost : goal.returns-in-Err-reopen-clause-lost
returns-in-Err-reopen-clause-lost g c = rw (c.lost_by-fault-in-Err-reopen.ensures.fault, c.lost_by-fault-in-Err-reopen.ensures.wreck) (inr (
  record {
    kept = g.S.Keeps.stored c.in-Ok.blocks;
    found = c.in-Ok.ensures.done;
    is = c.wreck.ensures.left;
    passed = rw c.wreck.ensures.watch (Passes-one _ _ c.in-Ok.ensures.watched.0 c.in-Ok.ensures.watched.1);
  },
  record { fails = c.in-Err-reopen.ensures.done; cause = by_lost g.R.Keeps.watch g.R.Wreck.ArchiveRuin.watch _ cert_store c.in-Err-reopen.lost c.in-Err-reopen.ensures.watched },
))

use Rattle.std.proofs.Common.{inl, inr, refl}
use Rattle.std.proofs.lemmas.Result.{err_from_is_err_and}
use Rattle.mar_model.specs.Faults.{cert_store}
use Rattle.mar_life.specs.Pooling.{of_blocks, of_certs}
use Rattle.mar_life.proofs.Placed.{fails_same, holds_left, holds_surer, same_in, started_in, started_surer, waits_left, waits_started, waits_surer, waits_there}
use Rattle.mar_life.proofs.syncs.start.Goals as goal

pub returns-in_err-of_blocks-clause-blocks : goal.returns-in_err-of_blocks-clause-blocks
returns-in_err-of_blocks-clause-blocks g c = waits_left g.S.Keeps.stored g.S.Keeps.number g.S.Keeps.covers of_blocks _ _ c.args.writes.now _ c.in_err-of_blocks.ensures.left c.requires.blocks

pub returns-in_err-of_blocks-clause-holds : goal.returns-in_err-of_blocks-clause-holds
returns-in_err-of_blocks-clause-holds g c = holds_left g.S.Keeps.stored g.S.Keeps.number g.S.Keeps.covers _ _ (waits_there g.S.Keeps.stored g.S.Keeps.number g.S.Keeps.covers of_blocks _ c.args.writes.now c.requires.blocks) c.in_err-of_blocks.ensures.left

pub returns-in_err-of_blocks-clause-failed : goal.returns-in_err-of_blocks-clause-failed
returns-in_err-of_blocks-clause-failed g c =
    let p = err_from_is_err_and c.from_residual.result c.from_residual.ensures.1 in
    rw (p.1, p.2) (inl (inl (c.in_err-of_blocks.ensures.failed, refl)))

pub returns-in_err-of_certs-clause-blocks : goal.returns-in_err-of_certs-clause-blocks
returns-in_err-of_certs-clause-blocks g c = waits_surer g.S.Keeps.stored g.S.Keeps.number g.S.Keeps.covers of_blocks g.S.Wreck.ArchiveRuin.left _ _ c.args.writes.now c.requires.blocks c.in_ok-of_blocks.ensures.stays (started_in g.S.Keeps.stored g.S.Keeps.number g.S.Keeps.covers g.S.Wreck.ArchiveRuin.left _ _ _ c.in_ok-of_blocks.ensures.stays c.in_ok-of_blocks.ensures.done)

pub returns-in_err-of_certs-clause-certs : goal.returns-in_err-of_certs-clause-certs
returns-in_err-of_certs-clause-certs g c = waits_left g.R.Keeps.stored g.R.Keeps.number g.R.Keeps.covers of_certs _ _ c.args.writes.now _ c.in_err-of_certs.ensures.left c.requires.certs

pub returns-in_err-of_certs-clause-holds : goal.returns-in_err-of_certs-clause-holds
returns-in_err-of_certs-clause-holds g c = holds_surer g.S.Keeps.stored g.S.Keeps.number g.S.Keeps.covers g.S.Wreck.ArchiveRuin.left _ _ c.in_ok-of_blocks.ensures.stays (started_in g.S.Keeps.stored g.S.Keeps.number g.S.Keeps.covers g.S.Wreck.ArchiveRuin.left _ _ _ c.in_ok-of_blocks.ensures.stays c.in_ok-of_blocks.ensures.done)

pub returns-in_err-of_certs-clause-failed : goal.returns-in_err-of_certs-clause-failed
returns-in_err-of_certs-clause-failed g c =
    let p = err_from_is_err_and c.from_residual-in_err-of_certs.result c.from_residual-in_err-of_certs.ensures.1 in
    rw (p.1, p.2) (inl (inr (started_surer g.S.Keeps.stored g.S.Keeps.number g.S.Keeps.covers g.S.Wreck.ArchiveRuin.left g.S.Keeps.watch g.S.Wreck.ArchiveRuin.watch g.met.S.Keeps.nested _ _ _ c.in_ok-of_blocks.ensures.stays c.in_ok-of_blocks.ensures.passed c.in_ok-of_blocks.ensures.done, c.in_err-of_certs.ensures.failed)))

pub returns-in-Err-clause-blocks : goal.returns-in-Err-clause-blocks
returns-in-Err-clause-blocks g c = rw c.in-Err.ensures.err (waits_surer g.S.Keeps.stored g.S.Keeps.number g.S.Keeps.covers of_blocks g.S.Wreck.ArchiveRuin.left _ _ c.args.writes.now c.requires.blocks c.in_ok-of_blocks.ensures.stays (started_in g.S.Keeps.stored g.S.Keeps.number g.S.Keeps.covers g.S.Wreck.ArchiveRuin.left _ _ _ c.in_ok-of_blocks.ensures.stays c.in_ok-of_blocks.ensures.done))

pub returns-in-Err-clause-certs : goal.returns-in-Err-clause-certs
returns-in-Err-clause-certs g c = rw c.in-Err.ensures.err (waits_surer g.R.Keeps.stored g.R.Keeps.number g.R.Keeps.covers of_certs g.R.Wreck.ArchiveRuin.left _ _ c.args.writes.now c.requires.certs c.in_ok-of_certs.ensures.stays (started_in g.R.Keeps.stored g.R.Keeps.number g.R.Keeps.covers g.R.Wreck.ArchiveRuin.left _ _ _ c.in_ok-of_certs.ensures.stays c.in_ok-of_certs.ensures.done))

pub returns-in-Err-clause-holds : goal.returns-in-Err-clause-holds
returns-in-Err-clause-holds g c = holds_surer g.S.Keeps.stored g.S.Keeps.number g.S.Keeps.covers g.S.Wreck.ArchiveRuin.left _ _ c.in_ok-of_blocks.ensures.stays (started_in g.S.Keeps.stored g.S.Keeps.number g.S.Keeps.covers g.S.Wreck.ArchiveRuin.left _ _ _ c.in_ok-of_blocks.ensures.stays c.in_ok-of_blocks.ensures.done)

pub returns-in-Err-clause-failed : goal.returns-in-Err-clause-failed
returns-in-Err-clause-failed g c = inl (inr (started_surer g.S.Keeps.stored g.S.Keeps.number g.S.Keeps.covers g.S.Wreck.ArchiveRuin.left g.S.Keeps.watch g.S.Wreck.ArchiveRuin.watch g.met.S.Keeps.nested _ _ _ c.in_ok-of_blocks.ensures.stays c.in_ok-of_blocks.ensures.passed c.in_ok-of_blocks.ensures.done, fails_same cert_store g.R.Keeps.stored g.R.Wreck.ArchiveRuin.left g.R.Keeps.watch g.R.Wreck.ArchiveRuin.watch _ _ _ (same_in g.R.Keeps.stored g.R.Keeps.number g.R.Keeps.covers g.R.Wreck.ArchiveRuin.left _ _ _ c.in_ok-of_certs.ensures.stays c.in_ok-of_certs.ensures.done) c.in_ok-of_certs.ensures.passed))

pub returns-clause-blocks : goal.returns-clause-blocks
returns-clause-blocks g c = waits_started g.S.Keeps.stored g.S.Keeps.number g.S.Keeps.covers of_blocks g.S.Wreck.ArchiveRuin.left _ _ c.args.writes.now c.requires.blocks c.in_ok-of_blocks.ensures.stays _ _ _ refl c.in_ok-of_blocks.ensures.done c.start-3.ensures.numbers.0 c.in_default.ensures.ok

pub returns-clause-certs : goal.returns-clause-certs
returns-clause-certs g c = waits_started g.R.Keeps.stored g.R.Keeps.number g.R.Keeps.covers of_certs g.R.Wreck.ArchiveRuin.left _ _ c.args.writes.now c.requires.certs c.in_ok-of_certs.ensures.stays _ _ _ refl c.in_ok-of_certs.ensures.done c.start-3.ensures.numbers.1 c.in_default.ensures.ok

pub returns-clause-holds : goal.returns-clause-holds
returns-clause-holds g c = holds_surer g.S.Keeps.stored g.S.Keeps.number g.S.Keeps.covers g.S.Wreck.ArchiveRuin.left _ _ c.in_ok-of_blocks.ensures.stays (started_in g.S.Keeps.stored g.S.Keeps.number g.S.Keeps.covers g.S.Wreck.ArchiveRuin.left _ _ _ c.in_ok-of_blocks.ensures.stays c.in_ok-of_blocks.ensures.done)

pub returns-clause-same_blocks : goal.returns-clause-same_blocks
returns-clause-same_blocks g c = same_in g.S.Keeps.stored g.S.Keeps.number g.S.Keeps.covers g.S.Wreck.ArchiveRuin.left _ _ _ c.in_ok-of_blocks.ensures.stays c.in_ok-of_blocks.ensures.done

pub returns-clause-same_certs : goal.returns-clause-same_certs
returns-clause-same_certs g c = same_in g.R.Keeps.stored g.R.Keeps.number g.R.Keeps.covers g.R.Wreck.ArchiveRuin.left _ _ _ c.in_ok-of_certs.ensures.stays c.in_ok-of_certs.ensures.done

pub returns-clause-surer_blocks : goal.returns-clause-surer_blocks
returns-clause-surer_blocks g c = started_surer g.S.Keeps.stored g.S.Keeps.number g.S.Keeps.covers g.S.Wreck.ArchiveRuin.left g.S.Keeps.watch g.S.Wreck.ArchiveRuin.watch g.met.S.Keeps.nested _ _ _ c.in_ok-of_blocks.ensures.stays c.in_ok-of_blocks.ensures.passed c.in_ok-of_blocks.ensures.done

pub returns-clause-surer_certs : goal.returns-clause-surer_certs
returns-clause-surer_certs g c = started_surer g.R.Keeps.stored g.R.Keeps.number g.R.Keeps.covers g.R.Wreck.ArchiveRuin.left g.R.Keeps.watch g.R.Wreck.ArchiveRuin.watch g.met.R.Keeps.nested _ _ _ c.in_ok-of_certs.ensures.stays c.in_ok-of_certs.ensures.passed c.in_ok-of_certs.ensures.done

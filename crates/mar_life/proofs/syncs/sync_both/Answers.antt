use Rattle.std.proofs.Common.{inl, inr, refl}
use Rattle.std.proofs.lemmas.Result.{err_from_is_err_and}
use Rattle.mar_life.specs.Pooling.{of_blocks, of_certs}
use Rattle.mar_life.proofs.Placed.{holds_left, holds_surer, synced_in, synced_surer, waits_cleared, waits_left, waits_surer, waits_there}
use Rattle.mar_life.proofs.syncs.sync_both.Goals as goal

pub returns-in_err-sync-clause-blocks : goal.returns-in_err-sync-clause-blocks
returns-in_err-sync-clause-blocks g c = waits_left g.S.Keeps.stored g.S.Keeps.number g.S.Keeps.covers of_blocks _ _ c.args.writes.now _ c.in_err-sync.ensures.left c.requires.blocks

pub returns-in_err-sync-clause-holds : goal.returns-in_err-sync-clause-holds
returns-in_err-sync-clause-holds g c = holds_left g.S.Keeps.stored g.S.Keeps.number g.S.Keeps.covers _ _ (waits_there g.S.Keeps.stored g.S.Keeps.number g.S.Keeps.covers of_blocks _ c.args.writes.now c.requires.blocks) c.in_err-sync.ensures.left

pub returns-in_err-sync-clause-failed : goal.returns-in_err-sync-clause-failed
returns-in_err-sync-clause-failed g c =
    let p = err_from_is_err_and c.from_residual.result c.from_residual.ensures.1 in
    rw (p.1, p.2) (inl (c.in_err-sync.ensures.failed, refl))

pub returns-in_err-sync-2-clause-blocks : goal.returns-in_err-sync-2-clause-blocks
returns-in_err-sync-2-clause-blocks g c = waits_surer g.S.Keeps.stored g.S.Keeps.number g.S.Keeps.covers of_blocks g.S.Wreck.ArchiveRuin.left _ _ c.args.writes.now c.requires.blocks c.in_ok-sync.ensures.stays (synced_in g.S.Keeps.stored g.S.Keeps.number g.S.Keeps.covers g.S.Wreck.ArchiveRuin.left g.met.S.Keeps.nested _ _ c.in_ok-sync.ensures.stays c.in_ok-sync.ensures.done)

pub returns-in_err-sync-2-clause-certs : goal.returns-in_err-sync-2-clause-certs
returns-in_err-sync-2-clause-certs g c = waits_left g.R.Keeps.stored g.R.Keeps.number g.R.Keeps.covers of_certs _ _ c.args.writes.now _ c.in_err-sync-2.ensures.left c.requires.certs

pub returns-in_err-sync-2-clause-holds : goal.returns-in_err-sync-2-clause-holds
returns-in_err-sync-2-clause-holds g c = holds_surer g.S.Keeps.stored g.S.Keeps.number g.S.Keeps.covers g.S.Wreck.ArchiveRuin.left _ _ c.in_ok-sync.ensures.stays (synced_in g.S.Keeps.stored g.S.Keeps.number g.S.Keeps.covers g.S.Wreck.ArchiveRuin.left g.met.S.Keeps.nested _ _ c.in_ok-sync.ensures.stays c.in_ok-sync.ensures.done)

pub returns-in_err-sync-2-clause-failed : goal.returns-in_err-sync-2-clause-failed
returns-in_err-sync-2-clause-failed g c =
    let p = err_from_is_err_and c.from_residual-in_err-sync-2.result c.from_residual-in_err-sync-2.ensures.1 in
    rw (p.1, p.2) (inr (synced_surer g.S.Keeps.stored g.S.Keeps.number g.S.Keeps.covers g.S.Wreck.ArchiveRuin.left g.met.S.Keeps.nested _ _ c.in_ok-sync.ensures.stays c.in_ok-sync.ensures.done g.S.Keeps.watch g.S.Wreck.ArchiveRuin.watch c.in_ok-sync.ensures.passed, c.in_err-sync-2.ensures.failed))

pub returns-clause-blocks : goal.returns-clause-blocks
returns-clause-blocks g c = waits_cleared g.S.Keeps.stored g.S.Keeps.number g.S.Keeps.covers of_blocks g.S.Wreck.ArchiveRuin.left _ _ c.args.writes.now c.requires.blocks c.in_ok-sync.ensures.stays c.in_ok-sync.ensures.done c.clear.ensures

pub returns-clause-certs : goal.returns-clause-certs
returns-clause-certs g c = waits_cleared g.R.Keeps.stored g.R.Keeps.number g.R.Keeps.covers of_certs g.R.Wreck.ArchiveRuin.left _ _ c.args.writes.now c.requires.certs c.in_ok-sync-2.ensures.stays c.in_ok-sync-2.ensures.done c.clear.ensures

pub returns-clause-holds : goal.returns-clause-holds
returns-clause-holds g c = holds_surer g.S.Keeps.stored g.S.Keeps.number g.S.Keeps.covers g.S.Wreck.ArchiveRuin.left _ _ c.in_ok-sync.ensures.stays (synced_in g.S.Keeps.stored g.S.Keeps.number g.S.Keeps.covers g.S.Wreck.ArchiveRuin.left g.met.S.Keeps.nested _ _ c.in_ok-sync.ensures.stays c.in_ok-sync.ensures.done)

pub returns-clause-covered : goal.returns-clause-covered
returns-clause-covered g c = rw c.clear.ensures refl

pub returns-clause-surer_blocks : goal.returns-clause-surer_blocks
returns-clause-surer_blocks g c = synced_surer g.S.Keeps.stored g.S.Keeps.number g.S.Keeps.covers g.S.Wreck.ArchiveRuin.left g.met.S.Keeps.nested _ _ c.in_ok-sync.ensures.stays c.in_ok-sync.ensures.done g.S.Keeps.watch g.S.Wreck.ArchiveRuin.watch c.in_ok-sync.ensures.passed

pub returns-clause-surer_certs : goal.returns-clause-surer_certs
returns-clause-surer_certs g c = synced_surer g.R.Keeps.stored g.R.Keeps.number g.R.Keeps.covers g.R.Wreck.ArchiveRuin.left g.met.R.Keeps.nested _ _ c.in_ok-sync-2.ensures.stays c.in_ok-sync-2.ensures.done g.R.Keeps.watch g.R.Wreck.ArchiveRuin.watch c.in_ok-sync-2.ensures.passed

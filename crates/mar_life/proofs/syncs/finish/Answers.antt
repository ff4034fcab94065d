use Rattle.std.proofs.Common.{inl, inr, refl, sym}
use Rattle.std.proofs.lemmas.Result.{err_from_is_err_and}
use Rattle.mar_model.specs.Views.{pooled_of}
use Rattle.mar_model.proofs.Pools.{nothing_finished, opened_is, writing_finished}
use Rattle.mar_life.specs.Pooling.{of_blocks, of_certs}
use Rattle.mar_life.proofs.Placed.{finished_in, finished_surer, holds_left, holds_same, holds_surer, open_in, waits_finished, waits_given, waits_left, waits_surer, waits_there}
use Rattle.mar_life.proofs.syncs.finish.Goals as goal

pub returns-in_default-clause-was_open : goal.returns-in_default-clause-was_open
returns-in_default-clause-was_open g c = rw c.in_default.is at (opened_is pooled_of c.args.ticket c.args.writes.now.pooled c.find.result c.find.ensures)

pub returns-in_default-clause-finished : goal.returns-in_default-clause-finished
returns-in_default-clause-finished g c = nothing_finished pooled_of c.args.ticket c.args.writes.now c.find.result c.find.ensures c.in_default.is

pub returns-in_default-clause-holds : goal.returns-in_default-clause-holds
returns-in_default-clause-holds g c = holds_same g.S.Keeps.stored g.S.Keeps.number g.S.Keeps.covers _ _ refl

pub finish-requires : goal.finish-requires
finish-requires g c = record { given = waits_given g.S.Keeps.stored g.S.Keeps.number g.S.Keeps.covers of_blocks c.args.blocks.now c.args.writes.now c.args.ticket _ c.in-Some.ensures c.requires.blocks }

pub returns-in_err-finish-clause-blocks : goal.returns-in_err-finish-clause-blocks
returns-in_err-finish-clause-blocks g c = waits_left g.S.Keeps.stored g.S.Keeps.number g.S.Keeps.covers of_blocks _ _ c.args.writes.now _ c.in_err-finish.ensures.left c.requires.blocks

pub returns-in_err-finish-clause-holds : goal.returns-in_err-finish-clause-holds
returns-in_err-finish-clause-holds g c = holds_left g.S.Keeps.stored g.S.Keeps.number g.S.Keeps.covers _ _ (waits_there g.S.Keeps.stored g.S.Keeps.number g.S.Keeps.covers of_blocks _ c.args.writes.now c.requires.blocks) c.in_err-finish.ensures.left

pub returns-in_err-finish-clause-failed : goal.returns-in_err-finish-clause-failed
returns-in_err-finish-clause-failed g c =
    let p = err_from_is_err_and c.from_residual.result c.from_residual.ensures.1 in
    rw (p.1, p.2) (inl (c.in_err-finish.ensures.failed, refl))

pub returns-in_err-finish-clause-of_open : goal.returns-in_err-finish-clause-of_open
returns-in_err-finish-clause-of_open g c =
    let p = err_from_is_err_and c.from_residual.result c.from_residual.ensures.1 in
    rw p.1 (sym (rw c.in-Some.is at (opened_is pooled_of c.args.ticket c.args.writes.now.pooled c.find.result c.find.ensures)))

pub finish-requires-2 : goal.finish-requires-2
finish-requires-2 g c = record { given = waits_given g.R.Keeps.stored g.R.Keeps.number g.R.Keeps.covers of_certs c.args.certs.now c.args.writes.now c.args.ticket _ c.in-Some.ensures c.requires.certs }

pub returns-in_err-finish-2-clause-blocks : goal.returns-in_err-finish-2-clause-blocks
returns-in_err-finish-2-clause-blocks g c = waits_surer g.S.Keeps.stored g.S.Keeps.number g.S.Keeps.covers of_blocks g.S.Wreck.ArchiveRuin.left _ _ c.args.writes.now c.requires.blocks c.in_ok-finish.ensures.stays (finished_in g.S.Keeps.stored g.S.Keeps.number g.S.Keeps.covers g.S.Wreck.ArchiveRuin.left _ _ _ c.in_ok-finish.ensures.stays c.in_ok-finish.ensures.done)

pub returns-in_err-finish-2-clause-certs : goal.returns-in_err-finish-2-clause-certs
returns-in_err-finish-2-clause-certs g c = waits_left g.R.Keeps.stored g.R.Keeps.number g.R.Keeps.covers of_certs _ _ c.args.writes.now _ c.in_err-finish-2.ensures.left c.requires.certs

pub returns-in_err-finish-2-clause-holds : goal.returns-in_err-finish-2-clause-holds
returns-in_err-finish-2-clause-holds g c = holds_surer g.S.Keeps.stored g.S.Keeps.number g.S.Keeps.covers g.S.Wreck.ArchiveRuin.left _ _ c.in_ok-finish.ensures.stays (finished_in g.S.Keeps.stored g.S.Keeps.number g.S.Keeps.covers g.S.Wreck.ArchiveRuin.left _ _ _ c.in_ok-finish.ensures.stays c.in_ok-finish.ensures.done)

pub returns-in_err-finish-2-clause-of_open : goal.returns-in_err-finish-2-clause-of_open
returns-in_err-finish-2-clause-of_open g c =
    let p = err_from_is_err_and c.from_residual-in_err-finish-2.result c.from_residual-in_err-finish-2.ensures.1 in
    rw p.1 (sym (rw c.in-Some.is at (opened_is pooled_of c.args.ticket c.args.writes.now.pooled c.find.result c.find.ensures)))

pub returns-in_err-finish-2-clause-failed : goal.returns-in_err-finish-2-clause-failed
returns-in_err-finish-2-clause-failed g c =
    let p = err_from_is_err_and c.from_residual-in_err-finish-2.result c.from_residual-in_err-finish-2.ensures.1 in
    rw (p.1, p.2) (inr (finished_surer g.S.Keeps.stored g.S.Keeps.number g.S.Keeps.covers g.S.Wreck.ArchiveRuin.left g.S.Keeps.watch g.S.Wreck.ArchiveRuin.watch g.met.S.Keeps.nested _ _ _ c.in_ok-finish.ensures.stays c.in_ok-finish.ensures.passed c.in_ok-finish.ensures.done, c.in_err-finish-2.ensures.failed))

pub returns-clause-blocks : goal.returns-clause-blocks
returns-clause-blocks g c = waits_finished g.S.Keeps.stored g.S.Keeps.number g.S.Keeps.covers of_blocks g.S.Wreck.ArchiveRuin.left _ _ c.args.writes.now c.requires.blocks c.in_ok-finish.ensures.stays c.args.ticket _ c.in-Some.ensures c.in_ok-finish.ensures.done c.finish-3.ensures

pub returns-clause-certs : goal.returns-clause-certs
returns-clause-certs g c = waits_finished g.R.Keeps.stored g.R.Keeps.number g.R.Keeps.covers of_certs g.R.Wreck.ArchiveRuin.left _ _ c.args.writes.now c.requires.certs c.in_ok-finish-2.ensures.stays c.args.ticket _ c.in-Some.ensures c.in_ok-finish-2.ensures.done c.finish-3.ensures

pub returns-clause-was_open : goal.returns-clause-was_open
returns-clause-was_open g c = rw c.in-Some.is at (opened_is pooled_of c.args.ticket c.args.writes.now.pooled c.find.result c.find.ensures)

pub returns-clause-finished : goal.returns-clause-finished
returns-clause-finished g c = rw c.finish-3.ensures (writing_finished c.args.ticket c.args.writes.now)

pub returns-clause-holds : goal.returns-clause-holds
returns-clause-holds g c = holds_surer g.S.Keeps.stored g.S.Keeps.number g.S.Keeps.covers g.S.Wreck.ArchiveRuin.left _ _ c.in_ok-finish.ensures.stays (finished_in g.S.Keeps.stored g.S.Keeps.number g.S.Keeps.covers g.S.Wreck.ArchiveRuin.left _ _ _ c.in_ok-finish.ensures.stays c.in_ok-finish.ensures.done)

pub returns-clause-surer_blocks : goal.returns-clause-surer_blocks
returns-clause-surer_blocks g c = λ is. finished_surer g.S.Keeps.stored g.S.Keeps.number g.S.Keeps.covers g.S.Wreck.ArchiveRuin.left g.S.Keeps.watch g.S.Wreck.ArchiveRuin.watch g.met.S.Keeps.nested _ _ _ c.in_ok-finish.ensures.stays c.in_ok-finish.ensures.passed c.in_ok-finish.ensures.done

pub returns-clause-surer_certs : goal.returns-clause-surer_certs
returns-clause-surer_certs g c = λ is. finished_surer g.R.Keeps.stored g.R.Keeps.number g.R.Keeps.covers g.R.Wreck.ArchiveRuin.left g.R.Keeps.watch g.R.Wreck.ArchiveRuin.watch g.met.R.Keeps.nested _ _ _ c.in_ok-finish-2.ensures.stays c.in_ok-finish-2.ensures.passed c.in_ok-finish-2.ensures.done

pub returns-clause-still_blocks : goal.returns-clause-still_blocks
returns-clause-still_blocks g c = open_in g.S.Keeps.stored g.S.Keeps.number g.S.Keeps.covers _ _ c.in_ok-finish.ensures.stays

pub returns-clause-still_certs : goal.returns-clause-still_certs
returns-clause-still_certs g c = open_in g.R.Keeps.stored g.R.Keeps.number g.R.Keeps.covers _ _ c.in_ok-finish-2.ensures.stays

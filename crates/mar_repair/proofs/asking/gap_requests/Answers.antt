use Rattle.std.proofs.lemmas.Result.{err_from_is_err_and}
use Rattle.mar_model.specs.Faults.{want_of_memory}
use Rattle.mar_model.proofs.StoreLosses.{Loses-nothing}
use Rattle.mar_repair.proofs.Asks.{gathered_are, gathered_open}
use Rattle.mar_repair.proofs.Rows.{read_whole}
use Rattle.mar_repair.proofs.asking.gap_requests.Goals as goal

pub returns-in_err-parent-clause-goes_on : goal.returns-in_err-parent-clause-goes_on
returns-in_err-parent-clause-goes_on g c =
    let p = err_from_is_err_and c.from_residual.result c.from_residual.ensures.1 in
    rw (p.1, p.2) c.in_err-parent.ensures.goes_on

pub returns-in-Ok-clause-are : goal.returns-in-Ok-clause-are
returns-in-Ok-clause-are g c =
    let old = g.S.HoldsCache.held c.args.stores.now in
    let one = g.S.HoldsCache.held c.parent_request.new.stores in
    let same = c.in_ok-parent.ensures.same in
    gathered_are g.V.Commitment.Named.bytes g.V.Variant.inner (g.B.Finds.blocks c.args.buffer.now) old one c.args.most _ _ same c.in_ok-parent.ensures.is (c.in-Ok.ensures (read_whole old one same c.requires.intact))

pub returns-in-Ok-clause-live : goal.returns-in-Ok-clause-live
returns-in-Ok-clause-live g c =
    let old = g.S.HoldsCache.held c.args.stores.now in
    let one = g.S.HoldsCache.held c.parent_request.new.stores in
    let same = c.in_ok-parent.ensures.same in
    gathered_open old one c.args.most _ _ same c.in_ok-parent.ensures.live (c.in-Ok.ensures (read_whole old one same c.requires.intact))

pub returns-in-Err-clause-goes_on : goal.returns-in-Err-clause-goes_on
returns-in-Err-clause-goes_on g c = λ start all grew within. Loses-nothing start all _ (c.in_ok-parent.ensures.goes_on start all grew within) want_of_memory tt

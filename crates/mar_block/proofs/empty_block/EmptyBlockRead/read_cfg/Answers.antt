use Rattle.std.proofs.lemmas.Result.{err_from_is_err_and}
use Rattle.mar_types.specs.Codec.{Joined}
use Rattle.mar_types.specs.Varint.{IsVarint}
use Rattle.mar_types.specs.VarintLemmas.{varint_unambiguous}
use Rattle.mar_cert.proofs.PartsRead.{first_err, second_err}
use Rattle.mar_block.proofs.BlockSteps.{block_taken}
use Rattle.mar_block.proofs.empty_block.EmptyBlockRead.read_cfg.Goals as goal

pub returns-in_err-height-clause-err : goal.returns-in_err-height-clause-err
returns-in_err-height-clause-err g c =
    let p = err_from_is_err_and c.from_residual-in_err-height.result c.from_residual-in_err-height.ensures.1 in
    let Parent = g.H.Digest.Read.in_grammar c.args.cfg.now in
    rw (p.1, p.2) (second_err Parent (Joined IsVarint IsVarint) _ _ _ _ (g.met.H.Digest.Read.unambiguous c.args.cfg.now) c.in_ok-parent.ensures.ok (first_err IsVarint IsVarint _ _ c.in_err-height.ensures.err))

pub returns-in_err-timestamp-clause-err : goal.returns-in_err-timestamp-clause-err
returns-in_err-timestamp-clause-err g c =
    let p = err_from_is_err_and c.from_residual-in_err-timestamp.result c.from_residual-in_err-timestamp.ensures.1 in
    let Parent = g.H.Digest.Read.in_grammar c.args.cfg.now in
    rw (p.1, p.2) (second_err Parent (Joined IsVarint IsVarint) _ _ _ _ (g.met.H.Digest.Read.unambiguous c.args.cfg.now) c.in_ok-parent.ensures.ok
    (second_err IsVarint IsVarint _ _ _ _ varint_unambiguous c.in_ok-height.ensures.ok c.in_err-timestamp.ensures.err))

pub returns-clause-ok : goal.returns-clause-ok
returns-clause-ok g c =
    rw (c.new.ensures.parent, c.new.ensures.height, c.new.ensures.timestamp)
    (block_taken (g.H.Digest.Read.in_grammar c.args.cfg.now) _ _ _ _ _ _ _ c.in_ok-parent.ensures.ok c.in_ok-height.ensures.ok c.in_ok-timestamp.ensures.ok)

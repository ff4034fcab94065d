use Rattle.std.proofs.Common.{append_assoc, ◌++◌}
use Rattle.std.proofs.lemmas.Result.{err_from_is_err_and}
use Rattle.mar_types.specs.Varint.{varint}
use Rattle.mar_cert.proofs.PartsWritten.{goes_on, last_err, starts_with, stops}
use Rattle.mar_block.proofs.empty_block.EmptyBlockWrite.write.Goals as goal

pub returns-in_err-write-clause-err : goal.returns-in_err-write-clause-err
returns-in_err-write-clause-err g c =
    let p = err_from_is_err_and c.from_residual.result c.from_residual.ensures.1 in
    let parent = g.H.Digest.Write.encoded c.args.self.now.parent in
    let height = varint c.args.self.now.height in
    let timestamp = varint c.args.self.now.timestamp in
    rw p.1 (stops _ parent (height ++ timestamp) _ _ _ _ _ (starts_with _ _ _ 0 (append_assoc parent height timestamp)) c.in_err-write.ensures.err)

pub returns-in_err-write-2-clause-err : goal.returns-in_err-write-2-clause-err
returns-in_err-write-2-clause-err g c =
    let p = err_from_is_err_and c.from_residual-in_err-write-2.result c.from_residual-in_err-write-2.ensures.1 in
    let parent = g.H.Digest.Write.encoded c.args.self.now.parent in
    let height = varint c.args.self.now.height in
    let timestamp = varint c.args.self.now.timestamp in
    rw p.1 (stops _ height timestamp _ _ _ _ _
    (goes_on _ parent (height ++ timestamp) _ _ _ _ _ _ (starts_with _ _ _ _ (append_assoc parent height timestamp)) c.in_ok-write.ensures.ok c.in_ok-write.ensures.room) c.in_err-write-2.ensures.err)

pub returns-clause-err : goal.returns-clause-err
returns-clause-err g c =
    let parent = g.H.Digest.Write.encoded c.args.self.now.parent in
    let height = varint c.args.self.now.height in
    let timestamp = varint c.args.self.now.timestamp in
    last_err c.write-3.result _ timestamp _ _ _ _ _
    (goes_on _ height timestamp _ _ _ _ _ _
    (goes_on _ parent (height ++ timestamp) _ _ _ _ _ _ (starts_with _ _ _ _ (append_assoc parent height timestamp)) c.in_ok-write.ensures.ok c.in_ok-write.ensures.room)
    c.in_ok-write-2.ensures.ok c.in_ok-write-2.ensures.room) c.write-3.ensures.err

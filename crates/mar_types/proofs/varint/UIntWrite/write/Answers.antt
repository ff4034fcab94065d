use Rattle.std.proofs.lemmas.Result.{err_from_is_err_and}
use Rattle.mar_types.proofs.VarintSteps.{write_ends_ok, write_ends_room, write_goes_on, write_lacks}
use Rattle.mar_types.proofs.varint.UIntWrite.write.Goals as goal

pub returns-in_err-put_u8-clause-room : goal.returns-in_err-put_u8-clause-room
returns-in_err-put_u8-clause-room g c =
    let p = err_from_is_err_and c.from_residual.result c.from_residual.ensures.1 in
    rw p.1 (write_lacks _ _ _ _ _ _ c.bytes.invariant c.in_err-put_u8.ensures.spare.0)

pub bytes-preserved : goal.bytes-preserved
bytes-preserved g c = write_goes_on _ _ _ _ _ _ _ _ c.bytes.invariant c.bytes-test.true c.in_ok-put_u8.ensures.ok c.in_ok-put_u8.ensures.spare

pub returns-clause-ok : goal.returns-clause-ok
returns-clause-ok g c = write_ends_ok c.put_u8-2.result _ _ _ _ _ _ _ c.bytes.invariant c.bytes-test.false c.put_u8-2.ensures.ok

pub returns-clause-room : goal.returns-clause-room
returns-clause-room g c = write_ends_room c.put_u8-2.result _ _ _ _ _ _ _ c.bytes.invariant c.put_u8-2.ensures.spare

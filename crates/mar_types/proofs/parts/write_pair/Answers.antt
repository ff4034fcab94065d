use Rattle.std.proofs.lemmas.Result.{err_from_is_err_and}
use Rattle.mar_types.specs.CodecLemmas.{joined_appends_first}
use Rattle.mar_types.proofs.parts.write_pair.Goals as goal

pub returns-in_err-write-clause-err : goal.returns-in_err-write-clause-err
returns-in_err-write-clause-err g c =
    let p = err_from_is_err_and c.from_residual.result c.from_residual.ensures.1 in rw p.1 (joined_appends_first _ _ _ _ c.in_err-write.ensures.err)

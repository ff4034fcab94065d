use Rattle.mar_judge.proofs.MockCodecs.{none_read, read_from, right_by}
use Rattle.mar_judge.proofs.mock_codecs.read_mock_certificate.Goals as goal

pub returns-in-Ok-clause-ok : goal.returns-in-Ok-clause-ok
returns-in-Ok-clause-ok c = read_from c.args.members c.args.bytes.now c.read_cfg.new.buf.now _ c.is_finalization.ensures c.in-Ok.ensures.ok.taken

pub returns-in-Err-clause-err : goal.returns-in-Err-clause-err
returns-in-Err-clause-err c = right_by c.in-Err.ensures.err (none_read _ _)

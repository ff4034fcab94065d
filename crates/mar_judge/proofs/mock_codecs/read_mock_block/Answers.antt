use Rattle.mar_judge.proofs.MockBlocks.{block_of, no_block_of}
use Rattle.mar_judge.proofs.MockCodecs.{right_by}
use Rattle.mar_judge.proofs.mock_codecs.read_mock_block.Goals as goal

pub returns-in-Ok-clause-ok : goal.returns-in-Ok-clause-ok
returns-in-Ok-clause-ok c = λ members epochs scoped verifies notarized. block_of members epochs scoped verifies notarized _ _ _ (rw c.inner.ensures at c.is_block.ensures) c.in-Ok.ensures.ok

pub returns-in-Err-clause-err : goal.returns-in-Err-clause-err
returns-in-Err-clause-err c = λ members epochs scoped verifies notarized. right_by c.in-Err.ensures.err (no_block_of members epochs scoped verifies notarized _ _)

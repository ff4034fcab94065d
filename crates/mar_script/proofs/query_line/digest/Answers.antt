use Rattle.mar_script.proofs.QueryWords.{same_digest}
use Rattle.mar_script.proofs.query_line.digest.Goals as goal

pub returns-in-Some-clause-only : goal.returns-in-Some-clause-only
returns-in-Some-clause-only c = λ bytes is same. same_digest c.args.word.now _ bytes c.in-Some.digest.is_digest is c.in-Some.ensures.found same

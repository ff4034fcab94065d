use Rattle.std.proofs.Common.{◌∙◌}
use Rattle.mar_script.proofs.Spelled.{differs, front_of}
use Rattle.mar_script.proofs.words.after.Goals as goal

pub returns-then-ne-clause-only : goal.returns-then-ne-clause-only
returns-then-ne-clause-only c = λ rest is. differs _ _ _ c.ne.ensures c.if-ne.true (c.split_at.ensures.front ∙ front_of c.args.line.now c.args.word.now rest is)

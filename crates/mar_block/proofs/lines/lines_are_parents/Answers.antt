use Rattle.mar_block.proofs.ParentLines.{line_front, line_whole}
use Rattle.mar_block.proofs.lines.lines_are_parents.Goals as goal

pub returns-clause-front : goal.returns-clause-front
returns-clause-front c = line_front

pub returns-clause-whole : goal.returns-clause-whole
returns-clause-whole c = line_whole

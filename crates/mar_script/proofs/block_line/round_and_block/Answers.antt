use Rattle.std.proofs.Common.{ap, ◌∙◌}
use Rattle.mar_script.specs.Lines.{behind_round, plain_block}
use Rattle.mar_script.specs.Script.{hex}
use Rattle.mar_script.proofs.BlockWords.{same_two}
use Rattle.mar_script.proofs.block_line.round_and_block.Goals as goal

pub returns-in-Err-clause-only : goal.returns-in-Err-clause-only
returns-in-Err-clause-only c = λ v is same. c.in-Err.ensures.only v.0 (hex v.1.encoded) is.0 same

pub returns-in-Ok-block_of-clause-is : goal.returns-in-Ok-block_of-clause-is
returns-in-Ok-block_of-clause-is c = (c.in-Ok.ensures.is_round, c.in-Ok-block_of.ensures.is_block)

pub returns-in-Ok-block_of-clause-found : goal.returns-in-Ok-block_of-clause-found
returns-in-Ok-block_of-clause-found c = c.in-Ok.ensures.found ∙ ap (λ l. behind_round c.in-Ok.parts.0 l) c.in-Ok-block_of.ensures.found

pub returns-in-Ok-block_of-clause-only : goal.returns-in-Ok-block_of-clause-only
returns-in-Ok-block_of-clause-only c = λ v is same.
    let parts = c.in-Ok.ensures.only v.0 (hex v.1.encoded) is.0 same in
    same_two c.in-Ok.parts.0 (plain_block c.in-Ok-block_of.block) v parts.0 (c.in-Ok-block_of.ensures.only v.1 is.1 parts.1)

pub returns-in-Err-block_of-clause-only : goal.returns-in-Err-block_of-clause-only
returns-in-Err-block_of-clause-only c = λ v is same.
    let parts = c.in-Ok.ensures.only v.0 (hex v.1.encoded) is.0 same in
    c.in-Err-block_of.ensures.only v.1 is.1 parts.1

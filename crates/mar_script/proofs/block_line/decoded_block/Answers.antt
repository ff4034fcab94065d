use Rattle.std.proofs.Common.{ap, sym, ◌∙◌}
use Rattle.mar_types.specs.Digest.{IsDigest}
use Rattle.mar_block.specs.EmptyBlock.{SpellsBlock}
use Rattle.mar_block.specs.EmptyBlockLemmas.{same_block, spelled_block}
use Rattle.mar_script.specs.Script.{hex}
use Rattle.mar_script.proofs.ReadBytes.{block_is_bytes, block_some_bytes, refused}
use Rattle.mar_script.proofs.Spelled.{withheld}
use Rattle.mar_script.proofs.block_line.decoded_block.Goals as goal

pub returns-in-Err-clause-only : goal.returns-in-Err-clause-only
returns-in-Err-clause-only c = λ b is same. c.in-Err.ensures.only b.encoded (block_is_bytes b is) (block_some_bytes b is) same

pub returns-in-Ok-decode_cfg-clause-found : goal.returns-in-Ok-decode_cfg-clause-found
returns-in-Ok-decode_cfg-clause-found c = c.in-Ok.ensures.found ∙ ap hex (sym c.as_slice.ensures.value ∙ sym c.in-Ok-decode_cfg.ensures.whole)

pub returns-in-Ok-decode_cfg-clause-only : goal.returns-in-Ok-decode_cfg-clause-only
returns-in-Ok-decode_cfg-clause-only c = λ b is same.
    same_block _ b c.is_block.ensures is (c.in-Ok-decode_cfg.ensures.whole ∙ c.as_slice.ensures.value ∙ c.in-Ok.ensures.only b.encoded (block_is_bytes b is) (block_some_bytes b is) same)

pub returns-clause-only : goal.returns-clause-only
returns-clause-only c = λ b is same.
    withheld _ (λ grammar. refused (SpellsBlock IsDigest) _ b.encoded _ (c.refusal.ensures.grammar grammar) c.in-Err-decode_cfg.ensures.err (c.as_slice.ensures.value ∙ c.in-Ok.ensures.only b.encoded (block_is_bytes b is) (block_some_bytes b is) same) (spelled_block b is))

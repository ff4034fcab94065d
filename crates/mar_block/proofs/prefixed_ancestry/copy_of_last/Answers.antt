use Rattle.std.proofs.Common.{Some, ap, sym, ◌∙◌}
use Rattle.std.specs.Prelude.{option_map}
use Rattle.mar_block.proofs.Lasts.{last_linked}
use Rattle.mar_block.proofs.prefixed_ancestry.copy_of_last.Goals as goal

pub returns-in_ok-again-in-Some : goal.returns-in_ok-again-in-Some
returns-in_ok-again-in-Some g c =
    ap Some c.in_ok-again-in-Some.ensures ∙ (ap (option_map g.B.Linked.plain) c.in-Some.ensures.value ∙ sym (last_linked g.B.Linked.plain c.args.blocks.now))

use Rattle.std.proofs.Common.{Some, None, ap, option_map, sym, ◌∙◌}
use Rattle.mar_key.specs.Views.{processed_of}
use Rattle.mar_inbox.proofs.Backing.{if_none, unbacked_at}
use Rattle.mar_inbox.proofs.answering.anchor_height.Goals as goal

pub returns-in-None-last_block-clause-none : goal.returns-in-None-last_block-clause-none
returns-in-None-last_block-clause-none g c =
    let is = sym (sym (ap (λ o. option_map processed_of o) c.in-Some.is) ∙ (c.processed.ensures ∙ c.floor.ensures.processed)) in
    unbacked_at _ _ (processed_of c.in-Some.processed) None is (sym c.in-None-last_block.is ∙ c.last_block.ensures) tt

pub returns-in-Some-last_block-clause-none : goal.returns-in-Some-last_block-clause-none
returns-in-Some-last_block-clause-none g c =
    let is = sym (sym (ap (λ o. option_map processed_of o) c.in-Some.is) ∙ (c.processed.ensures ∙ c.floor.ensures.processed)) in
    if_none _ (λ low. unbacked_at _ _ (processed_of c.in-Some.processed) (Some c.in-Some-last_block.last) is (sym c.in-Some-last_block.is ∙ c.last_block.ensures) low) c.backing_height.ensures.none

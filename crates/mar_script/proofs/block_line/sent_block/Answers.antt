use Rattle.std.proofs.Common.{ap, refl, sym, ◌∙◌}
use Rattle.mar_inbox.specs.Views.{peers_of}
use Rattle.mar_script.specs.Lines.{behind_round, plain_block}
use Rattle.mar_script.proofs.BlockWords.{peers_next, peers_spelled, same_three}
use Rattle.mar_script.proofs.FirstWords.{no_sentence}
use Rattle.mar_script.proofs.block_line.sent_block.Goals as goal

pub returns-in-Err-clause-only : goal.returns-in-Err-clause-only
returns-in-Err-clause-only c = λ v is same. c.in-Err.ensures.only v.0 _ is.0 same

pub returns-in_default-clause-only : goal.returns-in_default-clause-only
returns-in_default-clause-only c = λ v is same.
    let parts = c.in-Ok.ensures.only v.0 _ is.0 same in
    no_sentence c.in-Ok.parts.1.now _ _ (c.in_default.ensures.none refl) parts.1

pub returns-in-Err-recipients-clause-only : goal.returns-in-Err-recipients-clause-only
returns-in-Err-recipients-clause-only c = λ v is same.
    let parts = c.in-Ok.ensures.only v.0 _ is.0 same in
    let next = peers_next _ _ v.1 v.2 is.1 (sym parts.1 ∙ c.in-Some.ensures.found.0) c.in-Some.ensures.found.1 in
    c.in-Err-recipients.ensures.only v.1 is.1 next.0

pub returns-in-Ok-block_of-clause-is : goal.returns-in-Ok-block_of-clause-is
returns-in-Ok-block_of-clause-is c = (c.in-Ok.ensures.is_round, c.in-Ok-recipients.ensures.are_peers, c.in-Ok-block_of.ensures.is_block)

pub returns-in-Ok-block_of-clause-found : goal.returns-in-Ok-block_of-clause-found
returns-in-Ok-block_of-clause-found c =
    c.in-Ok.ensures.found
    ∙ ap (λ l. behind_round c.in-Ok.parts.0 l) (peers_spelled _ _ _ (peers_of c.in-Ok-recipients.recipients) (plain_block c.in-Ok-block_of.block) c.in-Some.ensures.found.0 c.in-Ok-recipients.ensures.found c.in-Ok-block_of.ensures.found)

pub returns-in-Ok-block_of-clause-only : goal.returns-in-Ok-block_of-clause-only
returns-in-Ok-block_of-clause-only c = λ v is same.
    let parts = c.in-Ok.ensures.only v.0 _ is.0 same in
    let next = peers_next _ _ v.1 v.2 is.1 (sym parts.1 ∙ c.in-Some.ensures.found.0) c.in-Some.ensures.found.1 in
    same_three c.in-Ok.parts.0 (peers_of c.in-Ok-recipients.recipients) (plain_block c.in-Ok-block_of.block) v parts.0
    (c.in-Ok-recipients.ensures.only v.1 is.1 next.0) (c.in-Ok-block_of.ensures.only v.2 is.2 next.1)

pub returns-in-Err-block_of-clause-only : goal.returns-in-Err-block_of-clause-only
returns-in-Err-block_of-clause-only c = λ v is same.
    let parts = c.in-Ok.ensures.only v.0 _ is.0 same in
    let next = peers_next _ _ v.1 v.2 is.1 (sym parts.1 ∙ c.in-Some.ensures.found.0) c.in-Some.ensures.found.1 in
    c.in-Err-block_of.ensures.only v.2 is.2 next.1

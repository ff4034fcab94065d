use Rattle.mar_parts.specs.Views.{outstanding_of}
use Rattle.mar_script.specs.Text.{outstanding_text}
use Rattle.mar_script.proofs.Sentences.{in_two, not_empty, shown_list}
use Rattle.mar_script.proofs.lists.push_ack_list.Goals as goal

pub returns : goal.returns
returns c =
    let some = not_empty _ _ c.is_empty.ensures c.if-is_empty.false in
    in_two _ _ _ _ _ _ c.in_ok-push_more_acks.ensures c.in_ok-push_ack.ensures (shown_list outstanding_of outstanding_text c.args.acks.now _ _ some c.index-acks-0.is c.split_at.ensures.back)

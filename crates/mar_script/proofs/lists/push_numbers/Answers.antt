use Rattle.mar_script.proofs.Sentences.{first_again, in_two, not_empty, numbered_shown}
use Rattle.mar_script.proofs.lists.push_numbers.Goals as goal

pub returns : goal.returns
returns c =
    let some = not_empty _ _ c.is_empty.ensures c.if-is_empty.false in
    in_two _ _ _ _ _ _ c.in_ok-push_more_numbers.ensures c.in_ok-push_number.ensures (numbered_shown (λ o. o.number) c.args.tickets.now _ _ some (first_again _ _ some) c.split_at.ensures.back)

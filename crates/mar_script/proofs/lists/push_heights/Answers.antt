use Rattle.mar_script.proofs.Sentences.{in_two, not_empty, numbers_in_parts}
use Rattle.mar_script.proofs.lists.push_heights.Goals as goal

pub returns : goal.returns
returns c =
    let some = not_empty _ _ c.is_empty.ensures c.if-is_empty.false in
    in_two _ _ _ _ _ _ c.in_ok-push_more_heights.ensures c.in_ok-push_height_list.ensures (numbers_in_parts _ _ some)

use Rattle.std.proofs.Common.{ap, string_bytes, ◌++◌, ◌∙◌}
use Rattle.std.specs.Fmt.{decimal}
use Rattle.mar_script.proofs.Sentences.{in_two, not_empty, numbers_shown}
use Rattle.mar_script.proofs.lists.push_height_list.Goals as goal

pub returns : goal.returns
returns c =
    let some = not_empty _ _ c.is_empty.ensures c.if-is_empty.false in
    in_two _ _ _ _ _ _ c.in_ok-push_more_heights.ensures (c.in_ok-push_number.ensures ∙ ap (λ n. string_bytes c.args.text.now ++ decimal n) c.get.ensures.value) (numbers_shown c.args.heights.now _ _ some c.index-heights-0.is c.split_at.ensures.back)

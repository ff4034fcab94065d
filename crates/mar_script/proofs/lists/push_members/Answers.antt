use Rattle.std.proofs.Common.{ap, string_bytes, ◌++◌, ◌∙◌}
use Rattle.std.specs.Fmt.{decimal}
use Rattle.mar_script.proofs.Sentences.{in_two, not_empty, numbers_shown}
use Rattle.mar_script.proofs.lists.push_members.Goals as goal

pub returns : goal.returns
returns c =
    let some = not_empty _ _ c.is_empty.ensures c.if-is_empty.false in
    in_two _ _ _ _ _ _ c.in_ok-push_more_members.ensures (c.in_ok-push_number.ensures ∙ ap (λ n. string_bytes c.args.text.now ++ decimal n) c.get.ensures) (numbers_shown c.args.members.now _ _ some c.index-members-0.is c.split_at.ensures.back)

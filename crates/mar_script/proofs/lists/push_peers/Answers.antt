use Rattle.mar_script.proofs.Sentences.{first_again, in_two, not_empty, numbers_shown}
use Rattle.mar_script.proofs.lists.push_peers.Goals as goal

pub returns : goal.returns
returns c =
    let some = not_empty _ _ c.is_empty.ensures c.if-is_empty.false in
    in_two _ _ _ _ _ _ c.in_ok-push_more_peers.ensures c.in_ok-write.ensures.bytes (numbers_shown c.args.peers.now _ _ some (first_again _ _ some) c.split_at.ensures.back)

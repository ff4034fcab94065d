use Rattle.mar_replay.proofs.SameWords.{turn_shown}
use Rattle.mar_replay.proofs.turn.push_turn.Goals as goal

pub returns : goal.returns
returns g c = turn_shown c.push_state.result _ _ _ c.args.heard.now _ _ c.in_ok-push_made.ensures c.push_state.ensures

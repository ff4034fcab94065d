use Rattle.mar_replay.specs.Turn.{waiting_with}
use Rattle.mar_replay.proofs.Headlines.{hands_running}
use Rattle.mar_replay.proofs.replays.left_of.Goals as goal

pub returns-in-Running-clause-hands_back : goal.returns-in-Running-clause-hands_back
returns-in-Running-clause-hands_back g c =
    rw (c.in-Running.is, c.wreck.ensures.left) (λ asked. hands_running c.in-Running.actor c.in-Running._buffer c.wreck.ensures.blocks c.wreck.ensures.certs (waiting_with asked c.in-Running._pending.next_answer c.in-Running.actor.certified))

use Rattle.mar_replay.proofs.SameWords.{ended_shown, line_shown, node_shown}
use Rattle.mar_replay.proofs.turn.push_state.Goals as goal

pub returns-in-Running : goal.returns-in-Running
returns-in-Running g c =
    let e = c.shown.ensures in
    rw c.in-Running.is (line_shown c.push_node.result _ _ _ _ c.push_node.ensures (λ asked. node_shown _ _ _ _ _ _ _ _ _ _ _ _ _ _ _ _ _ _ e.processed e.acks e.cutoff e.blocks_held e.blocks_sure e.certs_held e.certs_sure e.writes e.tickets))

pub returns-in-Stopped : goal.returns-in-Stopped
returns-in-Stopped g c =
    let e = c.shown-in-Stopped.ensures in
    rw (c.in-Stopped.is, ← c.left.view_is) (line_shown c.push_ended.result _ _ _ _ c.push_ended.ensures (λ asked. ended_shown (g.H.Ruins.StoresRuin.left c.left.inside.ruins).ended _ _ _ _ _ _ e.pair e.blocks_sure e.blocks_may e.certs_sure e.certs_may))

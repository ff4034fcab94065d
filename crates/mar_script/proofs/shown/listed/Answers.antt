use Rattle.std.proofs.Common.{arith, ◌<◌, sym, length}
use Rattle.mar_parts.specs.Views.{outstanding_of}
use Rattle.mar_script.proofs.Spelled.{listed_all, listed_more}
use Rattle.mar_script.proofs.shown.listed.Goals as goal
use Rattle.mar_script.proofs.shown.listed.Goals.{in-Some+in_ok-push, in_default}

pub loop-place-preserved : goal.loop-place-preserved
loop-place-preserved c =
    let low : c.loop-place.place < length c.args.acks.now.entries = omega (arith, c.loop-place-test.true, c.len-place-end.ensures) in
    elim c.match-get.branch [ in-Some+in_ok-push w ↦ rw (w.list-is, w.in_ok-push.ensures.items) (listed_more outstanding_of _ _ c.loop-place.place w.in-Some.ack c.loop-place.invariant low w.in-Some.ensures) | in_default w ↦ absurd (listed_all _ c.loop-place.place low (sym w.in_default.ensures)) ]

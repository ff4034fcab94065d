use Rattle.std.proofs.Common.{[], inr, refl, sym}
use Rattle.mar_replay.specs.Turn.{made_in, open_in, output_of}
use Rattle.mar_replay.proofs.Headlines.{ok_not_err}
use Rattle.mar_replay.proofs.OpenStates.{err_seen, open_same}
use Rattle.mar_script.proofs.Streams.{takes_none}
use Rattle.mar_replay.proofs.replays.turn.Goals as goal

pub returns-then-ran_out-clause-turned : goal.returns-then-ran_out-clause-turned
returns-then-ran_out-clause-turned g c = inr (record {
  out = output_of (made_in c.play-state.new.heard) c.in-Ok.outcome;
  done = c.play-state.result.0;
  plays = rw c.in-Ok.is at c.play-state.ensures;
  takes_in = record { opened = open_in c.play-state.result.0; same = open_same c.play-state.result.0; all = λ u is. absurd (ok_not_err u _ (sym is)) };
  wrote = λ asked. ([], (_, refl), takes_none _);
  memory = λ memory. refl;
})

pub returns-then-is_err-clause-turned : goal.returns-then-is_err-clause-turned
returns-then-is_err-clause-turned g c =
    let part = err_seen c.take_in.result _ c.take_in.ensures.err c.if-is_err.ensures.value in
    inr (record {
      out = output_of (made_in c.play-state.new.heard) c.in-Ok.outcome;
      done = c.play-state.result.0;
      plays = rw c.in-Ok.is at c.play-state.ensures;
      takes_in = record { opened = part.0; same = part.1; all = λ u is. absurd (ok_not_err u _ (sym is)) };
      wrote = λ asked. ([], (_, refl), takes_none _);
      memory = λ memory. refl;
    })

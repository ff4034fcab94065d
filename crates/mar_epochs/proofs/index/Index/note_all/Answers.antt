use Rattle.std.proofs.lemmas.Result.{on_ok_weaker}
use Rattle.mar_epochs.proofs.Spotting.{noted_all}
use Rattle.mar_epochs.proofs.index.Index.note_all.Goals as goal

pub returns : goal.returns
returns g c = on_ok_weaker c.note_if-3.result (λ last k. noted_all c.args.spot _ _ _ _ _ _ _ _ _ (c.in_ok-note.ensures k) (c.in_ok-note_if.ensures k) (c.in_ok-note_if-2.ensures k) (last k)) c.note_if-3.ensures

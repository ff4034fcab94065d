use Rattle.mar_script.proofs.Streams.{takes_handed, takes_whole}
use Rattle.mar_script.proofs.writing.write_text.Goals as goal

pub returns-in-Err-flush-clause-err : goal.returns-in-Err-flush-clause-err
returns-in-Err-flush-clause-err g c =
    takes_whole _ _ c.args.text.now (takes_handed (g.K.Sink.written c.args.sink.now) (g.K.Sink.written c.write_all.new.sink) (g.K.Sink.written c.flush.new.self) c.args.text.now c.in_default.ensures.ok c.in-Err-flush.ensures.same)

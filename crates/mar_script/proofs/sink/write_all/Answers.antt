use Rattle.std.proofs.Common.{◌∙◌}
use Rattle.mar_script.proofs.Streams.{split_more, takes_more}
use Rattle.mar_script.proofs.sink.write_all.Goals as goal

pub loop-rest-preserved : goal.loop-rest-preserved
loop-rest-preserved g c =
    let w = c.loop-rest.invariant.wrote in
    record {
      wrote = (_, split_more _ w.0 c.loop-rest.rest.now _ c.in-Ok.n w.1 c.split_at.ensures.back, takes_more _ _ _ w.0 _ w.2 c.in-Ok.ensures.ok);
      calm = c.in-Ok.ensures.cause ∙ c.loop-rest.invariant.calm;
    }

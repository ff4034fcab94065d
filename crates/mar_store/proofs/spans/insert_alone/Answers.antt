use Rattle.mar_store.proofs.SpanEdits.{put_alone}
use Rattle.mar_store.proofs.spans.insert_alone.Goals as goal

pub returns-clause-ok : goal.returns-clause-ok
returns-clause-ok c = rw c.in_ok-insert.ensures.items (put_alone _ _ _ c.requires.alone)

use Rattle.mar_key.proofs.KeyReads.{takes_block, takes_finalized, takes_notarized}
use Rattle.mar_key.proofs.keys.KeyRead.read_cfg.Goals as goal

pub returns-in_ok-read_cfg-in-0-clause-ok : goal.returns-in_ok-read_cfg-in-0-clause-ok
returns-in_ok-read_cfg-in-0-clause-ok g c =
    takes_block _ _ _ _ _ _ (g.met.D.Digest.spelled c.in_ok-read_cfg-in-0.field-0) (rw c.in-0.is at c.in_ok-kind.ensures.ok) c.in_ok-read_cfg-in-0.ensures.ok

pub returns-in_ok-height-in-1-clause-ok : goal.returns-in_ok-height-in-1-clause-ok
returns-in_ok-height-in-1-clause-ok g c =
    takes_finalized _ _ _ _ _ (rw c.in-1.is at c.in_ok-kind.ensures.ok) c.in_ok-height-in-1.ensures.ok

pub returns-in_ok-round-in-2-clause-ok : goal.returns-in_ok-round-in-2-clause-ok
returns-in_ok-round-in-2-clause-ok g c =
    takes_notarized _ _ _ _ _ (rw c.in-2.is at c.in_ok-kind.ensures.ok) c.in_ok-round-in-2.ensures.ok

use Rattle.mar_types.specs.DigestLemmas.{takes_be_8}
use Rattle.mar_types.proofs.integers.U64Read.read_cfg.Goals as goal

pub returns-clause-ok : goal.returns-clause-ok
returns-clause-ok g c = takes_be_8 _ _ _ _ c.from_be_bytes.ensures c.in_ok-bytes.ensures.ok

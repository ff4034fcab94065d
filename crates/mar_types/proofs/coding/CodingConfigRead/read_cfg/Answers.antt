use Rattle.mar_types.specs.CodecLemmas.{joined_takes}
use Rattle.mar_types.proofs.coding.CodingConfigRead.read_cfg.Goals as goal

pub returns-clause-ok : goal.returns-clause-ok
returns-clause-ok g c = joined_takes _ _ _ _ _ _ _ c.in_ok-minimum_shards.ensures.ok c.in_ok-extra_shards.ensures.ok

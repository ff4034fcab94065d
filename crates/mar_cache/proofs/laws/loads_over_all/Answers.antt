use Rattle.mar_cache.proofs.laws.loads_over_all.Goals as goal
use Rattle.mar_cache.proofs.StateLoads.{loads_all}

pub returns : goal.returns
returns c = loads_all

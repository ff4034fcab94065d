use Rattle.mar_cache.proofs.laws.puts_over_all.Goals as goal
use Rattle.mar_cache.proofs.StatePuts.{puts_flat}

pub returns : goal.returns
returns c = puts_flat

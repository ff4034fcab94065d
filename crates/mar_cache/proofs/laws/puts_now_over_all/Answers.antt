use Rattle.mar_cache.proofs.laws.puts_now_over_all.Goals as goal
use Rattle.mar_cache.proofs.StatePuts.{puts_now_flat}

pub returns : goal.returns
returns c = puts_now_flat

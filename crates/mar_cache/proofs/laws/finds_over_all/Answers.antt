use Rattle.mar_cache.proofs.laws.finds_over_all.Goals as goal
use Rattle.mar_cache.proofs.StateLosses.{newest_soonest}

pub returns : goal.returns
returns c = newest_soonest

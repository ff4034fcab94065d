use Rattle.mar_cache.proofs.laws.prunes_over_all.Goals as goal
use Rattle.mar_cache.proofs.StateLosses.{prunes_all_epochs}

pub returns : goal.returns
returns c = prunes_all_epochs

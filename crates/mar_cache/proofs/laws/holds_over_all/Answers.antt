use Rattle.mar_cache.proofs.laws.holds_over_all.Goals as goal
use Rattle.mar_cache.proofs.StateLosses.{held_of_archive}

pub returns : goal.returns
returns c = held_of_archive

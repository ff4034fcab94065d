use Rattle.mar_cache.proofs.laws.leaves_over_all.Goals as goal
use Rattle.mar_cache.proofs.StateLosses.{leaves_flat}

pub returns : goal.returns
returns c = λ put gone all lets old b ways lefts lie within some some_bounds puts fewer leaves. leaves_flat put gone all lets old b lie ways lefts within some some_bounds puts fewer leaves

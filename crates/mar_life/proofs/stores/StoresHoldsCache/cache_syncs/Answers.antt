use Rattle.std.proofs.Common.{refl}
use Rattle.mar_life.proofs.stores.StoresHoldsCache.cache_syncs.Goals as goal

pub returns : goal.returns
returns g c = rw (← c.self.view_is) refl

-- Empty stores are good for every lawful chain.
use Rattle.std.proofs.Common.{◌≡◌, ℕ, ◌≤◌, ◌==◌, nat_lt, nat_le, false, ◌&&◌, ◌||◌, arith}
use Rattle.mar_model.specs.Chain.{Chain, IsLawful}
use Rattle.mar_model.specs.Config.{Config}
use Rattle.mar_model.specs.Lives.{IsGoodEnded}
use Rattle.mar_script.specs.Run.{empty_stores}

pub empty_is_good : (config : Config) (chain : Chain) → IsLawful config.epochs chain → IsGoodEnded chain empty_stores
empty_is_good config chain lawful = record {
  may_blocks = tt;
  may_certs = tt;
  may_cached = tt;
  may_cached_blocks = tt;
  backed = (tt, tt);
  floor_safe = ((λ r h named. let seen : 1 ≤ r.view = lawful.views r h named in none_below r.epoch r.view seen), tt);
}
  where
    none_below : (e v : ℕ) → 1 ≤ v → (nat_lt e 0 || (e == 0 && nat_le v 0)) ≡ false
    none_below e v seen = grind arith

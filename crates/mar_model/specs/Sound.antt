-- A good node in parts: what a crash between any two store calls needs, and what holds between steps.
use Rattle.std.specs.List.{AllByRecursion}
use Rattle.std.specs.Prelude.{List, ◌≤◌}
use Rattle.mar_cert.specs.Block.{Block}
use Rattle.mar_store.specs.Kept.{At}
use Rattle.mar_model.specs.Metadata.{Pair}
use Rattle.mar_model.specs.Chain.{Chain}
use Rattle.mar_model.specs.Config.{Config}
use Rattle.mar_model.specs.Node.{AreStoresOf, AwaitsFinalized, FloorSafe, IsCacheOf, IsGoodInHeights, Node, NotAwaited}
use Rattle.mar_model.specs.Lives.{BackedBy}

-- A life may begin with this pair over these sure blocks.
pub record IsSafePair (chain : Chain) (sure : List (At Block)) (p : Pair) : Type 0 where
  pub backed : BackedBy sure p.processed
  pub floor_safe : FloorSafe p.processed p.cutoff sure chain

-- Whatever store call comes next, what a crash there leaves is good. The pairs are those that the metadata
-- store may be left with; the processed height and the cutoff in memory may be ahead of them.
pub record IsSound (chain : Chain) (n : Node) : Type 0 where
  pub stores : AreStoresOf chain n.blocks n.certs
  pub cache : IsCacheOf chain n.cache
  pub awaits : AwaitsFinalized n.awaited chain
  pub pairs : AllByRecursion (IsSafePair chain n.blocks.sure) n.meta

-- What holds between steps and names no chain.
pub record IsSteady (config : Config) (n : Node) : Type 0 where
  pub heights : IsGoodInHeights config n
  pub not_at_hand : NotAwaited n.awaited n
  pub tip_reported : AllByRecursion (λ x. x.height ≤ n.tip) n.certs.held

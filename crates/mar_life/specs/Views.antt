-- What a contract sees of the stores of a life.
use Rattle.mar_model.specs.Held.{Held}
use Rattle.mar_model.specs.Staged.{Staged}

-- The stores of a life, the blocks that are staged until they are handed over, and the cache as it is: what its tickets cover
-- is a function, which no value of a model may hold.
pub record Stock (B C : Type 0) : Type 0 where
  pub held : Held
  pub staged : Staged B
  pub cache : C

-- A chain to which the next block was added.
use Rattle.std.proofs.Common.{List, Some, [], arith, length, rules, refl, sym, ℕ, ◌+◌, ◌++◌, ◌∷◌, ◌≡◌}
use Rattle.std.specs.Prelude.{IsTrue, bytes_eq}
use Rattle.std.proofs.lemmas.Slice.Eq.{bytes_eq-Decides}
use Rattle.mar_cert.specs.Block.{Block}
use Rattle.mar_block.specs.Links.{IsDirectParent}
use Rattle.mar_block.specs.Prefixes.{last}
use Rattle.mar_proposer.specs.Rules.{IsChainFrom}

parent_of : (x b : Block) → x.height + 1 ≡ b.height → IsTrue (bytes_eq x.digest b.parent) → IsDirectParent b x
parent_of x b above named = search (rules, above, named)

pub named_by : (digest parent : List ℕ) → parent ≡ digest → IsTrue (bytes_eq digest parent)
named_by digest parent same = (bytes_eq-Decides digest parent).1 (sym same)

pub chain_more : (height : ℕ) (blocks : List Block) (b : Block) → IsChainFrom height blocks → b.height ≡ height + length blocks
    → ((l : Block) → last blocks ≡ Some l → IsTrue (bytes_eq l.digest b.parent)) → IsChainFrom height (blocks ++ b ∷ [])
chain_more height [] b chain at named = (omega (arith, at), tt, tt)
chain_more height (x ∷ []) b chain at named = (
  chain.0,
  parent_of x b (omega (arith, at, chain.0)) (named x refl),
  (omega (arith, at), tt, tt),
)
chain_more height (x ∷ y ∷ rest) b chain at named = (
  chain.0,
  chain.1,
  chain_more (height + 1) (y ∷ rest) b chain.2 (omega (arith, at)) named,
)

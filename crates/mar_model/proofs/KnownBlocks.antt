-- Blocks that a step may meet: of fewer of them a digest names one, too; and what is kept of them agrees with the chain.
use Rattle.std.proofs.Common.{◌≡◌, ℕ, zero, List, [], ◌∷◌, ◌++◌, Some, Contains, refl, sym, ◌∙◌, ap, arith}
use Rattle.std.specs.List.{filter_map}
use Rattle.std.proofs.lemmas.List.Elements.{Contains-append_left, Contains-append_right}
use Rattle.mar_cert.specs.Block.{Block}
use Rattle.mar_model.specs.Chain.{Chain}
use Rattle.mar_model.specs.Cached.{cached_block}
use Rattle.mar_model.specs.Held.{Seen}
use Rattle.mar_model.specs.Node.{Agrees, AreBlocksOf, Node, at_hand}
use Rattle.mar_model.specs.Promise.{AreOne, Waiting, known_blocks, node_of}
use Rattle.mar_model.proofs.AtHand.{at_hand-all}
use Rattle.mar_model.proofs.FoundBlocks.{Contains-slice_get, buffer_known, cached_known, values_known}

pub AreOne-within : (inner : List ℕ → List ℕ) (some all : List Block) → ((b : Block) → Contains some b → Contains all b) → AreOne inner all → AreOne inner some
AreOne-within inner some all within one = record { names = λ b has. one.names b (within b has); one = λ b c in_b in_c same. one.one b c (within b in_b) (within c in_c) same }

pub AreOne-behind : (inner : List ℕ → List ℕ) (front all : List Block) → AreOne inner (front ++ all) → AreOne inner all
AreOne-behind inner front all = AreOne-within inner all (front ++ all) (λ b has. Contains-append_right front all b has)

-- of the same commitment they are the same block
pub of_one_commitment : (inner : List ℕ → List ℕ) (all : List Block) → AreOne inner all → (b c : Block) → Contains all b → Contains all c → b.commitment ≡ c.commitment → b ≡ c
of_one_commitment inner all one b c in_b in_c same = one.one b c in_b in_c (sym (one.names b in_b) ∙ (ap inner same ∙ one.names c in_c))

-- a block that is known beside those of the chain agrees with it
pub told_agrees : (inner : List ℕ → List ℕ) (chain : Chain) (b : Block) (others : List Block) → AreOne inner (b ∷ (chain.blocks ++ others)) → Agrees chain b
told_agrees inner chain b others one h c at same = of_one_commitment inner (b ∷ (chain.blocks ++ others)) one c b (Contains-append_right (b ∷ []) (chain.blocks ++ others) c (Contains-append_left chain.blocks others c (Contains-slice_get chain.blocks h c at))) (zero, omega arith, refl) same

-- a block at hand is the buffer's, a cached one or the chain's
pub at_hand-known : {P E : Type 0} (inner : List ℕ → List ℕ) (chain : Chain) (a : Seen P E) (buffer : List Block) (waiting : Waiting) → AreBlocksOf chain a.held.blocks.held → (commitment : List ℕ) (b : Block) → at_hand (node_of a buffer waiting) commitment ≡ Some b → Contains (known_blocks chain (node_of a buffer waiting)) b
at_hand-known inner chain a buffer waiting blocks commitment b is = at_hand-all (Contains (known_blocks chain (node_of a buffer waiting))) (node_of a buffer waiting) commitment b (buffer_known inner chain a buffer waiting) (cached_known inner chain a buffer waiting) (values_known inner chain a buffer waiting blocks) is

-- blocks of one commitment are one
pub known_agrees : (inner : List ℕ → List ℕ) (chain : Chain) (n : Node) → AreOne inner (known_blocks chain n) → (b : Block) → Contains (known_blocks chain n) b → Agrees chain b
known_agrees inner chain n one b there h c at same = of_one_commitment inner (known_blocks chain n) one c b (Contains-append_left chain.blocks (n.buffer ++ filter_map cached_block (n.cache.held ++ n.cache.may)) c (Contains-slice_get chain.blocks h c at)) there same

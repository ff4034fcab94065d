use Rattle.std.proofs.Common.{ap, map, rules, subst, sym, refl, ℕ, ◌++◌, ◌+◌, ◌/◌, ◌^◌, ◌∙◌, ◌∷◌, ◌≡◌, [], List}
use Rattle.std.proofs.lemmas.List.{map-append}
use Rattle.mar_block.specs.declared.EmptyBlock.{EmptyBlock}
use Rattle.mar_types.specs.declared.Sha256.{Sha256}
use Rattle.mar_types.specs.declared.Sha256Digest.{Sha256Digest}
use Rattle.mar_gen.specs.Chain.{block_of, made_block, made_blocks, plain_block}
use Rattle.mar_gen.specs.Draws.{next_state, state_after}
use Rattle.mar_gen.proofs.FirstSteps.{block_first, block_next, blocks_first, blocks_next, state_first, state_next}
use Rattle.mar_gen.proofs.chain.made_blocks.Goals as goal

plain_is : (b : EmptyBlock Sha256 Sha256Digest) (p : List ℕ) (h t : ℕ) → b.parent.bytes ≡ p → b.height ≡ h → b.timestamp ≡ t → plain_block b ≡ block_of p h t
plain_is b p h t first second third =
    subst (λ x. plain_block b ≡ block_of x h t) first (subst (λ x. plain_block b ≡ block_of b.parent.bytes x t) second (subst (λ x. plain_block b ≡ block_of b.parent.bytes b.height x) third refl))

pub loop-below-init : goal.loop-below-init
loop-below-init c =
    let seed : ℕ = c.args.seed in
    let genesis : plain_block c.new-genesis.result ≡ made_block seed 0 = plain_is c.new-genesis.result _ _ _ (ap (λ p. p.bytes) c.new-genesis.ensures.parent ∙ c.empty.ensures) (c.new-genesis.ensures.height ∙ c.zero.ensures) c.new-genesis.ensures.timestamp ∙ sym (block_first seed) in
    let pushed : c.push.new.self.items ≡ c.new-genesis.result ∷ [] = search rules in
    record {
      blocks = ap (λ bs. map plain_block bs) pushed ∙ ap (λ b. b ∷ []) genesis ∙ sym (blocks_first seed);
      parent = c.digest-parent.ensures ∙ ap (λ b. b.digest) genesis;
      draws = c.new-draws.ensures ∙ sym (state_first seed);
    }

pub loop-below-preserved : goal.loop-below-preserved
loop-below-preserved c =
    let seed : ℕ = c.args.seed in
    let below : ℕ = c.loop-below.below in
    let drawn_is : c.draw.new.self ≡ state_after seed (below + 1) = c.draw.ensures.next ∙ ap next_state c.loop-below.invariant.draws ∙ sym (state_next seed below) in
    let block : plain_block c.new-block.result ≡ made_block seed (below + 1) =
    plain_is c.new-block.result _ _ _ (ap (λ p. p.bytes) c.new-block.ensures.parent ∙ c.loop-below.invariant.parent) (c.new-block.ensures.height ∙ c.new-height.ensures) (c.new-block.ensures.timestamp ∙ c.draw.ensures.value ∙ ap (λ x. x / 2 ^ 33) drawn_is) ∙ sym (block_next seed below) in
    let pushed : c.push-in-loop-below.new.self.items ≡ c.loop-below.blocks.items ++ c.new-block.result ∷ [] = search rules in
    record {
      blocks = ap (λ bs. map plain_block bs) pushed ∙ map-append plain_block c.loop-below.blocks.items (c.new-block.result ∷ []) ∙ ap (λ bs. bs ++ plain_block c.new-block.result ∷ []) c.loop-below.invariant.blocks ∙ ap (λ b. made_blocks seed below ++ b ∷ []) block
          ∙ sym (blocks_next seed below);
      parent = c.digest-parent-in-loop-below.ensures ∙ ap (λ b. b.digest) block;
      draws = drawn_is;
    }

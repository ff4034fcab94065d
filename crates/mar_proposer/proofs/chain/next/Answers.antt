use Rattle.std.proofs.Common.{arith, length, map, rules, subst, ◌+◌, ◌≡◌}
use Rattle.std.specs.Prelude.{IfSome}
use Rattle.std.proofs.lemmas.List.{length-map}
use Rattle.mar_proposer.specs.Rules.{plain_block}
use Rattle.mar_proposer.proofs.Chains.{chain_more, named_by}
use Rattle.mar_proposer.proofs.chain.next.Goals as goal

pub returns-clause-chain : goal.returns-clause-chain
returns-clause-chain c =
    let before = map plain_block c.args.blocks.now in
    let at : (plain_block c.new-block.result).height ≡ length c.args.blocks.now = search rules in
    let count : (plain_block c.new-block.result).height ≡ 0 + length before = omega (arith, at, length-map c.args.blocks.now plain_block) in
    rw c.in_ok-block.ensures (chain_more 0 before _ c.requires count
    (λ l is. rw c.new-block.ensures.parent (named_by l.digest _ (subst (λ o. IfSome o (λ b. c.newest.result.bytes ≡ b.digest)) is c.newest.ensures))))

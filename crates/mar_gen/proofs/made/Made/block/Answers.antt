use Rattle.std.proofs.Common.{List, ap, arith, get_or, length, map, sym, ◌+◌, ◌<◌, ◌∙◌, ◌≡◌}
use Rattle.std.proofs.lemmas.List.{get_or-map, length-map}
use Rattle.mar_block.specs.declared.EmptyBlock.{EmptyBlock}
use Rattle.mar_types.specs.declared.Sha256.{Sha256}
use Rattle.mar_types.specs.declared.Sha256Digest.{Sha256Digest}
use Rattle.mar_cert.specs.Block.{Block}
use Rattle.mar_gen.specs.Chain.{made_blocks, plain_block}
use Rattle.mar_gen.proofs.Lawful.{get-made, length-made}
use Rattle.mar_gen.proofs.made.Made.block.Goals as goal

pub bounds-blocks-height : goal.bounds-blocks-height
bounds-blocks-height c =
    let plain : map plain_block c.as_slice-blocks.result.now ≡ made_blocks c.args.self.now.seed c.args.self.now.last = ap (map plain_block) c.as_slice-blocks.ensures.value ∙ c.args.self.now.blocks_are in
    let long : length c.as_slice-blocks.result.now ≡ c.args.self.now.last + 1 = sym (length-map c.as_slice-blocks.result.now plain_block) ∙ ap length plain ∙ length-made c.args.self.now.seed c.args.self.now.last in
    omega (arith, long, c.requires)

pub returns : goal.returns
returns c =
    let blocks : List (EmptyBlock Sha256 Sha256Digest) = c.as_slice-blocks.result.now in
    let plain : map plain_block blocks ≡ made_blocks c.args.self.now.seed c.args.self.now.last = ap (map plain_block) c.as_slice-blocks.ensures.value ∙ c.args.self.now.blocks_are in
    let long : length blocks ≡ c.args.self.now.last + 1 = sym (length-map blocks plain_block) ∙ ap length plain ∙ length-made c.args.self.now.seed c.args.self.now.last in
    let within : c.args.height < length blocks = omega (arith, long, c.requires) in
    let d : Block = plain_block c.index-blocks-height.result in
    ap plain_block c.index-blocks-height.is ∙ sym (get_or-map plain_block blocks c.args.height c.index-blocks-height.result d within) ∙ ap (λ bs. get_or bs c.args.height d) plain ∙ get-made c.args.self.now.seed c.args.self.now.last c.args.height d c.requires

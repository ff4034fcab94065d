use Rattle.std.proofs.Common.{map, ◌∙◌}
use Rattle.std.specs.Prelude.{bytes_eq}
use Rattle.mar_types.specs.PlacesLemmas.{find_at}
use Rattle.mar_block.proofs.mem_buffer.MemBufferFinds.find_by_digest.Goals as goal

pub returns : goal.returns
returns g c =
    rw (
      ← c.self.view_is,
      find_at (λ b. bytes_eq b.digest (g.V.Digest.Named.bytes c.args.digest.now)) (map g.V.Variant.plain c.self.inside.blocks.items) c.place_of.result (c.place_of.ensures ∙ c.self.invariant.0 c.args.digest.now),
      ← c.deref.ensures.value,
    )
    c.block_at.ensures

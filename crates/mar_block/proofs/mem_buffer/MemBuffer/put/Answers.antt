use Rattle.std.proofs.Common.{ap, length, map, sym, ◌++◌, ◌∙◌, ◌∷◌, ◌≡◌, []}
use Rattle.std.proofs.lemmas.List.{length-map, map_push}
use Rattle.std.specs.Prelude.{bytes_eq}
use Rattle.mar_types.specs.PlacesLemmas.{noted}
use Rattle.mar_block.proofs.mem_buffer.MemBuffer.put.Goals as goal

pub invariant_of-self-2 : goal.invariant_of-self-2
invariant_of-self-2 g c =
    let plain = g.V.Variant.plain in
    let old = c.self.inside.blocks.items in
    let are : map plain c.push_reserved.new.self.items ≡ map plain old ++ plain c.args.block ∷ [] = ap (map plain) (c.push_reserved.ensures.items ∙ ap (λ xs. xs ++ c.args.block ∷ []) c.reserve.ensures.items) ∙ map_push plain old c.args.block in
    let at : c.len-place.result ≡ length (map plain old) = c.len-place.ensures ∙ c.self.inside.blocks.ok.0 ∙ sym (length-map old plain) in (
      λ d. noted (λ x. bytes_eq x.digest (g.V.Digest.Named.bytes d)) (map plain old) _ (plain c.args.block) _ c.len-place.result _ _ (c.self.invariant.0 d) at are (ap (λ name. bytes_eq name (g.V.Digest.Named.bytes d)) c.digest.ensures) (c.in_ok-note.ensures.digests d),
      λ d. noted (λ x. bytes_eq x.commitment (g.V.Commitment.Named.bytes d)) (map plain old) _ (plain c.args.block) _ c.len-place.result _ _ (c.self.invariant.1 d) at are (ap (λ name. bytes_eq name (g.V.Commitment.Named.bytes d)) c.commitment.ensures) (c.in_ok-note.ensures.commitments d),
    )

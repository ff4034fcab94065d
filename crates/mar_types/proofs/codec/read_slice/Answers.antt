use Rattle.mar_types.specs.DigestLemmas.{is_bytes, takes_bytes}
use Rattle.mar_types.proofs.codec.read_slice.Goals as goal

pub returns-in-Ok-clause-ok : goal.returns-in-Ok-clause-ok
returns-in-Ok-clause-ok g c =
    takes_bytes _ _ _ _ (is_bytes _ _ c.try_copy_to_slice.auto.dst (λ k. (c.type_inv.out k).fits)) c.in-Ok.ensures.value c.in-Ok.ensures.rest.1

use Rattle.std.proofs.Common.{◌≡◌, ◌∙◌, inl, inr, refl, sym, length}
use Rattle.mar_types.specs.CodecLemmas.{no_whole}
use Rattle.mar_types.proofs.FieldBytes.{clash, takes_whole}
use Rattle.mar_types.proofs.fields.read_field.Goals as goal

pub returns-in-Err-clause-err : goal.returns-in-Err-clause-err
returns-in-Err-clause-err g c = elim c.in-Err.ensures.err [
  | inl memory ↦ absurd (clash _ (c.in-Err.ensures.memory memory) g.met.D.Digest.fixed)
  | inr none ↦ inl (refl, λ is. no_whole (g.D.Read.in_grammar tt) c.split_at.result.0.now none (rw (c.split_at.ensures.front, c.SIZE.ensures) is))
]

pub returns-clause-spelled : goal.returns-clause-spelled
returns-clause-spelled g c =
    let long : length (g.D.Write.encoded c.in-Ok.digest) ≡ length c.split_at.result.0.now = g.met.D.FixedSize.sized c.in-Ok.digest ∙ sym c.SIZE.ensures ∙ sym c.split_at.ensures.front_len in
    record {
      digest = rw (← c.SIZE.ensures, ← c.split_at.ensures.front) (takes_whole _ _ _ _ long c.in-Ok.ensures.ok);
      padding = rw (← c.SIZE.ensures, ← c.split_at.ensures.back) (sym c.all_zero.ensures ∙ c.if-not-all_zero.false);
    }

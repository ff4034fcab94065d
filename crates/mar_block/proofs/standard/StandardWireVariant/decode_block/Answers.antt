use Rattle.std.proofs.Common.{ap, inr, refl, sym, ◌∙◌, ◌≡◌}
use Rattle.mar_block.proofs.SameDigests.{not_unequal, told_apart}
use Rattle.mar_block.proofs.standard.StandardWireVariant.decode_block.Goals as goal

pub returns-then-ne-clause-err : goal.returns-then-ne-clause-err
returns-then-ne-clause-err g c = inr (λ b decodes.
    let block = c.in_ok-block-2.block in
    let same : block ≡ c.in_ok-block.block = c.in_ok-block-2.ensures in
    let whole : g.B.Write.encoded block ≡ g.I.Buf.unread c.args.buf = rw same c.in_ok-block.ensures.whole in
    let bytes = g.B.Digest.Named.bytes in
    let digests = g.met.B.Block.identified decodes.application block (decodes.spelled ∙ sym whole) in
    told_apart c.ne.result (g.B.Digest.PartialEq.eq c.digest.result c.into_commitment.result) (bytes c.digest.result) (bytes c.into_commitment.result) c.if-ne.true c.ne.ensures (g.met.B.Digest.Named.equal c.digest.result c.into_commitment.result)
    (c.digest.ensures ∙ sym digests ∙ decodes.commits ∙ sym (ap bytes c.into_commitment.ensures)))

pub returns-clause-ok : goal.returns-clause-ok
returns-clause-ok g c =
    let block = c.in_ok-block-2.block in
    let same : block ≡ c.in_ok-block.block = c.in_ok-block-2.ensures in
    let whole : g.B.Write.encoded block ≡ g.I.Buf.unread c.args.buf = rw same c.in_ok-block.ensures.whole in
    let grammar : g.B.Read.in_grammar c.args.cfg.now (g.B.Write.encoded block) = rw same c.in_ok-block.ensures.grammar in
    let bytes = g.B.Digest.Named.bytes in
    let digests : bytes c.digest.result ≡ bytes c.into_commitment.result =
    not_unequal c.ne.result (g.B.Digest.PartialEq.eq c.digest.result c.into_commitment.result) (bytes c.digest.result) (bytes c.into_commitment.result) c.if-ne.false c.ne.ensures (g.met.B.Digest.Named.equal c.digest.result c.into_commitment.result) in
    record {
      application = block;
      in_grammar = rw (← whole) grammar;
      spelled = whole;
      commits = sym c.digest.ensures ∙ digests ∙ ap bytes c.into_commitment.ensures;
      made_is = refl;
    }

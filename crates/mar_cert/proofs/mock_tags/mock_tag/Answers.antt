use Rattle.std.proofs.Common.{List, [], ap, append_assoc, codes, ℕ, ◌++◌, ◌∙◌, ◌∷◌, ◌≡◌}
use Rattle.sha2.specs.Sha256.{sha256}
use Rattle.mar_cert.specs.MockScheme.{subject_byte, tag_over}
use Rattle.mar_cert.specs.Views.{plain_subject, spelling_of}
use Rattle.mar_cert.proofs.mock_tags.mock_tag.Goals as goal

-- the pieces are one message
pieces : (byte : ℕ) (proposal member : List ℕ) → (codes "marshal-mock" ++ byte ∷ [] ++ proposal) ++ member ≡ codes "marshal-mock" ++ byte ∷ (proposal ++ member)
pieces byte proposal member = append_assoc (codes "marshal-mock" ++ byte ∷ []) proposal member

pub returns : goal.returns
returns g c =
    let message = c.update-3.ensures _ (c.hash_proposal.ensures _ (c.update-2.ensures _ (c.update.ensures _ c.new-hasher.ensures))) in
    let proposal = spelling_of g.D.Named.bytes c.proposal.result.now in
    c.finalize.ensures _ message
    ∙ ap sha256 (pieces c.byte_of.result proposal c.to_be_bytes.result)
    ∙ ap (λ byte. sha256 (codes "marshal-mock" ++ byte ∷ (proposal ++ c.to_be_bytes.result))) c.byte_of.ensures
    ∙ ap (λ bytes. sha256 (codes "marshal-mock" ++ subject_byte (plain_subject c.args.subject.now) ∷ (proposal ++ bytes))) c.to_be_bytes.ensures
    ∙ ap (λ p. tag_over (plain_subject c.args.subject.now) (spelling_of g.D.Named.bytes p) c.args.member) c.proposal.ensures

use Rattle.std.proofs.Common.{[], ap, length, ◌++◌, ◌∙◌, ◌∷◌, ◌≡◌}
use Rattle.mar_journal.specs.Format.{body, four}
use Rattle.mar_journal.proofs.file.staged.Goals as goal

pub returns : goal.returns
unfolding four
returns g c =
    let bytes : c.deref.result.now ≡ body g.R.Record.spelled c.args.records.now = c.deref.ensures.value ∙ c.in_ok-body.ensures in
    let size : c.len.result ≡ length (body g.R.Record.spelled c.args.records.now) = c.len.ensures ∙ c.in_ok-body.body.ok.0 ∙ ap length c.in_ok-body.ensures in
    let first : c.extend_from_slice.new.self.items ≡ four (length (body g.R.Record.spelled c.args.records.now)) =
    c.in_ok-extend_from_slice.ensures.items ∙ ap (λ l. l ++ c.to_be_bytes.result) c.new-bytes.ensures.items ∙ c.to_be_bytes.ensures ∙ ap four size in
    c.in_ok-push.ensures.items ∙ ap (λ l. l ++ 0 ∷ []) (c.in_ok-extend_from_slice-2.ensures.items ∙ ap (λ l. l ++ c.deref.result.now) first ∙ ap (λ l. four (length (body g.R.Record.spelled c.args.records.now)) ++ l) bytes)

use Rattle.std.proofs.Common.{ap, sym, ◌∙◌, ◌≡◌}
use Rattle.std.specs.Fmt.{decimal}
use Rattle.mar_script.proofs.Numbers.{is_text, read_again, not_other}
use Rattle.mar_script.proofs.words.number.Goals as goal

pub returns-in_default-clause-only : goal.returns-in_default-clause-only
returns-in_default-clause-only c = λ n small is. absurd (c.in_default.ensures.cases.0 (is_text n _ small is))

pub returns-in_default-parse-clause-only : goal.returns-in_default-parse-clause-only
returns-in_default-parse-clause-only c = λ n small is. cc (read_again n _ _ _ small is c.in-Ok.ensures.cases.0 c.parse.ensures.value.0, c.in_default-parse.is)

pub returns-then-eq-clause-only : goal.returns-then-eq-clause-only
returns-then-eq-clause-only c = λ n small is. cc (read_again n _ _ _ small is c.in-Ok.ensures.cases.0 c.parse.ensures.value.0, c.in-Ok-parse.is)

pub returns-else-eq-clause-only : goal.returns-else-eq-clause-only
returns-else-eq-clause-only c = λ n small is.
    let read = read_again n _ _ _ small is c.in-Ok.ensures.cases.0 c.parse.ensures.value.0 in
    let same : c.in-Ok-parse.n ≡ n = cc (read, c.in-Ok-parse.is) in
    absurd (not_other _ _ (sym c.eq.ensures ∙ c.if-eq.false) (c.as_bytes.ensures.value ∙ c.format.ensures.text ∙ ap decimal same ∙ sym is))

use Rattle.std.proofs.Common.{◌≡◌, ◌+◌, ◌<◌, IsTrue, rules}
use Rattle.mar_types.specs.Terms.{Admits, term_start}
use Rattle.mar_types.proofs.NextTerms.{admits_later}
use Rattle.mar_types.proofs.views.View.admits.Goals as goal

pub returns-then-is_term_start : goal.returns-then-is_term_start
returns-then-is_term_start c =
    let beyond : c.args.self + 1 < c.args.pending = search rules in
    let later = admits_later c.args.term_length c.args.self c.args.pending beyond in
    let begins : c.args.pending ≡ term_start c.args.term_length c.args.pending = search rules in
    let same = rw c.pending-2.view_is at c.same_term.ensures in
    (λ t. later.0 (begins, same.0 t), λ a. same.1 (later.1 a).1)

pub returns-else-is_term_start : goal.returns-else-is_term_start
returns-else-is_term_start c =
    let beyond : c.args.self + 1 < c.args.pending = search rules in
    let later = admits_later c.args.term_length c.args.self c.args.pending beyond in
    let other : IsTrue c.is_term_start.result → Admits c.args.term_length c.args.self c.args.pending = λ t. absurd cc in
    (other, λ a. c.is_term_start.ensures.1 (later.1 a).0)

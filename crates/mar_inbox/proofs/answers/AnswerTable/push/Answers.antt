use Rattle.std.proofs.Common.{ap, ◌++◌, ◌∙◌, ◌∷◌, []}
use Rattle.mar_inbox.proofs.Stands.{left_standing, taken_over}
use Rattle.mar_inbox.specs.Answers.{standing}
use Rattle.mar_inbox.proofs.answers.AnswerTable.push.Goals as goal

pub invariant_of-self-then-not-takes_over : goal.invariant_of-self-then-not-takes_over
invariant_of-self-then-not-takes_over g c =
    let more = c.push_reserved.ensures.items ∙ ap (λ xs. xs ++ c.args.came ∷ []) c.reserve.ensures.items in
    let stood = c.standing.ensures ∙ ap (λ xs. standing xs c.args.came.ticket) c.reserve.ensures.items in
    λ k. left_standing c.self.inside.answers.items _ c.args.came _ _ k _ more stood c.takes_over.ensures c.if-not-takes_over.true (c.self.invariant k)

pub invariant_of-self-3 : goal.invariant_of-self-3
invariant_of-self-3 g c =
    let more = c.push_reserved-2.ensures.items ∙ ap (λ xs. xs ++ c.args.came ∷ []) c.reserve.ensures.items in
    let stood = c.standing.ensures ∙ ap (λ xs. standing xs c.args.came.ticket) c.reserve.ensures.items in
    λ k. taken_over c.self.inside.answers.items _ c.args.came _ _ k _ _ _ more stood c.takes_over.ensures c.if-not-takes_over.false (c.self.invariant k)
    (c.len-place.ensures ∙ c.self.inside.answers.ok.0) (c.in_ok-insert.ensures.updates.0 k)

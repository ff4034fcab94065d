use Rattle.std.proofs.Common.{arith, refl, rules, ℕ, ◌+◌, ◌-◌, ◌∷◌, ◌≡◌}
use Rattle.mar_actor.specs.declared.Exact.{Exact}
use Rattle.mar_mocks.proofs.application.Application.next_given.Goals as goal

pub returns-clause-given : goal.returns-clause-given
returns-clause-given g c =
    let first : ℕ × Exact = (c.in_ok-acknowledgement.field-0-0, c.in_ok-acknowledgement.acknowledgement) in
    let items : c.self.inside.owed.items ≡ first ∷ c.pop_front.new.self.items = search rules in
    let count : c.self.inside.given - 1 + 1 ≡ c.self.inside.given = omega (arith, c.if-self-eq0.false) in
    (record { height = c.in_ok-acknowledgement.field-0-0; ticket = c.in_ok-acknowledgement.acknowledgement.ticket }, refl, rw (← c.self.view_is) (rw (items, count) refl))

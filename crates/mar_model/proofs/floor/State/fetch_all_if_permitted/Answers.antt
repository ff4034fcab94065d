use Rattle.std.proofs.Common.{ap, false, length, rules, sym, true, ◌∙◌, ◌≡◌}
use Rattle.std.specs.Prelude.{nat_lt}
use Rattle.mar_model.specs.Floors.{admission, permits}
use Rattle.mar_model.proofs.Permitted.{any_kept}
use Rattle.mar_model.proofs.floor.State.fetch_all_if_permitted.Goals as goal

pub returns-then-is_empty-clause-answer : goal.returns-then-is_empty-clause-answer
returns-then-is_empty-clause-answer g c =
    let none : nat_lt 0 (length c.in_ok-fetches.fetches.items) ≡ false = search rules in
    ap admission (sym (any_kept (permits c.args.self.now) c.args.requests.now ∙ ap (λ xs. nat_lt 0 (length xs)) (sym c.in_ok-fetches.ensures) ∙ none))

pub returns-clause-answer : goal.returns-clause-answer
returns-clause-answer g c =
    let some : nat_lt 0 (length c.in_ok-fetches.fetches.items) ≡ true = search rules in
    ap admission (sym (any_kept (permits c.args.self.now) c.args.requests.now ∙ ap (λ xs. nat_lt 0 (length xs)) (sym c.in_ok-fetches.ensures) ∙ some))

pub returns-clause-ok : goal.returns-clause-ok
returns-clause-ok g c = rw (← c.in_ok-fetches.ensures, ← c.as_slice.ensures.value) c.in_ok-fetch_all.ensures.ok

use Rattle.std.proofs.Common.{◌≡◌, ◌∙◌, sym, arith, add-one, ◌+◌, ◌-◌, ◌/◌, ◌<◌, ℕ, length, drop, subst}
use Rattle.std.proofs.lemmas.List.{get_or_default}
use Rattle.mar_store.specs.Spans.{ranges_of, EndsFrom}
use Rattle.mar_store.proofs.SpanMembers.{ends_at}
use Rattle.mar_store.proofs.Tails.{passed, whole}
use Rattle.mar_store.proofs.spans.place_from.Goals as goal

-- the middle of two places lies between them
middle_below : (low high : ℕ) → low < high → low + (high - low) / 2 < high
middle_below low high less = omega arith

pub halves-preserved-then-spans-middle : goal.halves-preserved-then-spans-middle
halves-preserved-then-spans-middle c =
    let below = middle_below c.halves.low c.halves.high c.halves-test.true in
    let there : c.halves.low + (c.halves.high - c.halves.low) / 2 < length c.args.spans.now = omega (arith, below, c.halves.invariant.within) in
    record {
      between = omega (arith, below);
      within = c.halves.invariant.within;
      ends = c.halves.invariant.ends;
      same = rw add-one (passed 0 c.args.height c.args.spans.now (c.halves.low + (c.halves.high - c.halves.low) / 2) _ there (get_or_default c.args.spans.now (c.halves.low + (c.halves.high - c.halves.low) / 2) (record { from = 0; to = 0 }) _ there) c.if-spans-middle.true c.requires);
    }

pub halves-preserved : goal.halves-preserved
halves-preserved c =
    let below = middle_below c.halves.low c.halves.high c.halves-test.true in
    let there : c.halves.low + (c.halves.high - c.halves.low) / 2 < length c.args.spans.now = omega (arith, below, c.halves.invariant.within) in
    record {
      between = omega arith;
      within = omega (arith, there);
      ends = ends_at c.args.spans.now (c.halves.low + (c.halves.high - c.halves.low) / 2) c.args.height _ there (get_or_default c.args.spans.now (c.halves.low + (c.halves.high - c.halves.low) / 2) (record { from = 0; to = 0 }) _ there) c.if-spans-middle.false;
      same = c.halves.invariant.same;
    }

pub returns-clause-rest : goal.returns-clause-rest
returns-clause-rest c =
    let met : c.halves.high ≡ c.halves.low = omega (arith, c.halves.invariant.between, c.halves-test.false) in
    sym (whole c.args.height (drop c.halves.low (ranges_of c.args.spans.now)) (subst (λ k. EndsFrom c.args.height (drop k (ranges_of c.args.spans.now))) met c.halves.invariant.ends)) ∙ c.halves.invariant.same

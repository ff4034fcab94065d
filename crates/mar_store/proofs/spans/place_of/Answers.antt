use Rattle.std.proofs.Common.{arith, ◌+◌, ◌-◌, ◌/◌, ◌<◌, ℕ, length}
use Rattle.std.proofs.lemmas.List.{get_or_default}
use Rattle.mar_store.proofs.SpanEdits.{apart_after, high_from_test, reached_at}
use Rattle.mar_store.proofs.spans.place_of.Goals as goal

-- the middle of two places lies between them
middle_below : (low high : ℕ) → low < high → low + (high - low) / 2 < high
middle_below low high less = omega arith

pub halves-preserved-then-ends_before : goal.halves-preserved-then-ends_before
halves-preserved-then-ends_before c =
    let below = middle_below c.halves.low c.halves.high c.halves-test.true in
    record {
      between = omega (arith, below);
      within = c.halves.invariant.within;
      reached = c.halves.invariant.reached;
      apart = apart_after c.args.height c.args.spans.now (c.halves.low + (c.halves.high - c.halves.low) / 2) _ (omega (arith, below, c.halves.invariant.within)) (c.ends_before.ensures.0 c.if-ends_before.true) c.requires;
    }

pub halves-preserved : goal.halves-preserved
halves-preserved c =
    let below = middle_below c.halves.low c.halves.high c.halves-test.true in
    let there : c.halves.low + (c.halves.high - c.halves.low) / 2 < length c.args.spans.now = omega (arith, below, c.halves.invariant.within) in
    record {
      between = omega arith;
      within = omega (arith, there);
      reached = reached_at c.args.spans.now (c.halves.low + (c.halves.high - c.halves.low) / 2) c.args.height _ there (get_or_default c.args.spans.now (c.halves.low + (c.halves.high - c.halves.low) / 2) (record { from = 0; to = 0 }) _ there)
          (high_from_test c.ends_before.result _ _ c.if-ends_before.false c.ends_before.ensures.1);
      apart = c.halves.invariant.apart;
    }

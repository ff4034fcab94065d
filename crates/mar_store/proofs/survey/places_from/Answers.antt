use Rattle.std.proofs.Common.{arith, ap, refl, ◌+◌}
use Rattle.std.specs.Prelude.{bytes_eq, ◌==◌}
use Rattle.mar_store.specs.Choices.{stays}
use Rattle.mar_store.proofs.Surveys.{count_step, place_step}
use Rattle.mar_store.proofs.survey.places_from.Goals as goal

pub loop-place-preserved : goal.loop-place-preserved
loop-place-preserved g c =
    record {
      within = omega arith;
      below = omega arith;
      count = count_step (stays c.args.choice) c.args.items.now c.loop-place.place c.index-items-place.result _ _ c.loop-place.count _ c.loop-place-test.true c.index-items-place.is c.keeps-stays.ensures c.loop-place.invariant.count (ap (λ n. c.loop-place.count + n) c.one_if-count.ensures.is);
      indexes = λ h. place_step (stays c.args.choice) (λ e. e.index == h) c.args.items.now c.loop-place.place c.index-items-place.result _ _ _ c.loop-place.count _ _ c.loop-place-test.true c.index-items-place.is c.keeps-stays.ensures (c.loop-place.invariant.indexes h) c.loop-place.invariant.count refl (c.in_ok-note_if.ensures.indexes h);
      keys = λ k. place_step (stays c.args.choice) (λ e. bytes_eq (g.T.Item.name e.item) (g.T.Key.Named.bytes k)) c.args.items.now c.loop-place.place c.index-items-place.result _ _ _ c.loop-place.count _ _ c.loop-place-test.true c.index-items-place.is c.keeps-stays.ensures (c.loop-place.invariant.keys k) c.loop-place.invariant.count refl (c.in_ok-note_if.ensures.keys k);
    }

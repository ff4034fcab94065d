use Rattle.std.proofs.Common.{arith, ap, refl, ◌+◌}
use Rattle.mar_store.specs.Choices.{stays}
use Rattle.mar_store.proofs.Surveys.{count_step}
use Rattle.mar_store.proofs.survey.count_of.Goals as goal

pub loop-place-preserved : goal.loop-place-preserved
loop-place-preserved g c = record {
  within = omega arith;
  below = omega arith;
  count = count_step (stays c.args.choice) c.args.items.now c.loop-place.place c.index-items-place.result _ _ c.loop-place.count _ c.loop-place-test.true refl c.keeps.ensures c.loop-place.invariant.count (ap (λ n. c.loop-place.count + n) c.one_if-count.ensures.is);
}

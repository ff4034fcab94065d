use Rattle.std.proofs.Common.{arith, refl}
use Rattle.mar_store.specs.Choices.{stays}
use Rattle.mar_store.proofs.Surveys.{ranges_step}
use Rattle.mar_store.proofs.survey.ranges_from.Goals as goal

pub loop-place-preserved : goal.loop-place-preserved
loop-place-preserved g c = record {
  within = omega arith;
  ranges = ranges_step (stays c.args.choice) c.args.items.now c.loop-place.place c.index-items-place.result _ _ _ _ c.loop-place-test.true refl c.keeps.ensures c.loop-place.invariant.ranges c.in_ok-insert_if.ensures;
}

use Rattle.std.proofs.Common.{arith, length, subst, sym, ◌<◌, ◌∙◌}
use Rattle.std.specs.List.{AllByRecursion}
use Rattle.mar_gen.specs.Plan.{IsStepWithin}
use Rattle.mar_gen.specs.declared.steps.Planned.TheVariants.{Open}
use Rattle.mar_gen.proofs.Heights.{all_at, plan_within}
use Rattle.mar_gen.proofs.made.Made.step.Goals as goal

pub returns-clause-within : goal.returns-clause-within
returns-clause-within c =
    let now = c.args.self.now in
    all_at (IsStepWithin now.last) c.as_slice-steps.result.now c.args.place Open (subst (AllByRecursion (IsStepWithin now.last)) (sym (c.as_slice-steps.ensures.value ∙ now.steps_are)) (plan_within now.seed now.last now.seed_fits)) (let low : c.args.place < length c.as_slice-steps.result.now = omega (arith, c.if-place-steps.false) in low)

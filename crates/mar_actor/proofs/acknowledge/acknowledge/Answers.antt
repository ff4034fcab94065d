use Rattle.std.proofs.Common.{is_some, refl, sym, ◌∙◌}
use Rattle.mar_model.specs.Acks.{given_oldest, with_mark}
use Rattle.mar_parts.specs.Views.{mark_of}
use Rattle.mar_model.specs.Plans.{drain_plan, settle_plan}
use Rattle.mar_model.proofs.Doing.{marked-done}
use Rattle.mar_model.proofs.Drawn.{regrouped, settles, settles-not}
use Rattle.mar_actor.proofs.acknowledge.acknowledge.Goals as goal

pub returns-in-Ok-true : goal.returns-in-Ok-true
returns-in-Ok-true g c =
    let out = with_mark c.args.ticket (mark_of c.args.mark) c.args.window.now.out in
    let runs = rw c.set_mark.ensures at c.in-Ok-true.ensures.runs in
    let drained = rw c.set_mark.ensures at c.in-Ok-true.ensures.drained in
    record {
      runs = λ standing sends answers start whole rest reached.
          c.settle.ensures.runs _ _ sends answers start whole rest (settles g.V.Variant.inner start whole _ rest _ (sym drained ∙ c.in-Ok-true.field-0-test)
          (runs standing _ sends answers start whole _ (regrouped g.V.Variant.inner start whole _ (drain_plan out) (settle_plan (is_some (given_oldest out))) rest
          (marked-done g.V.Variant.inner start whole _ _ _ _ _ _ _ sends answers c.args.ticket (mark_of c.args.mark) refl reached))));
    }

pub returns-in-Ok-false : goal.returns-in-Ok-false
returns-in-Ok-false g c =
    let out = with_mark c.args.ticket (mark_of c.args.mark) c.args.window.now.out in
    let runs = rw c.set_mark.ensures at c.in-Ok-false.ensures.runs in
    let drained = rw c.set_mark.ensures at c.in-Ok-false.ensures.drained in
    record {
      runs = λ standing sends answers start whole rest reached.
          settles-not g.V.Variant.inner start whole _ rest _ (sym drained ∙ c.in-Ok-false.field-0-test)
          (runs standing _ sends answers start whole _ (regrouped g.V.Variant.inner start whole _ (drain_plan out) (settle_plan (is_some (given_oldest out))) rest
          (marked-done g.V.Variant.inner start whole _ _ _ _ _ _ _ sends answers c.args.ticket (mark_of c.args.mark) refl reached)));
    }

pub returns-in-Err : goal.returns-in-Err
returns-in-Err g c =
    let out = with_mark c.args.ticket (mark_of c.args.mark) c.args.window.now.out in
    let runs = rw c.set_mark.ensures at c.in-Err.ensures.runs in
    record {
      runs = λ standing sends answers start whole rest reached.
          runs standing _ sends answers start whole _ (regrouped g.V.Variant.inner start whole _ (drain_plan out) (settle_plan (is_some (given_oldest out))) rest
          (marked-done g.V.Variant.inner start whole _ _ _ _ _ _ _ sends answers c.args.ticket (mark_of c.args.mark) refl reached));
    }

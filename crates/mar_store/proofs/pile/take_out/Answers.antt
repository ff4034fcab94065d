use Rattle.std.proofs.Common.{◌∙◌, ap, arith, sym}
use Rattle.mar_store.specs.Choices.{stays}
use Rattle.mar_store.proofs.Chosen.{one_goes, one_stays}
use Rattle.mar_store.proofs.pile.take_out.Goals.{then-keeps, else-keeps}
use Rattle.mar_store.proofs.pile.take_out.Goals as goal

pub loop-place-preserved : goal.loop-place-preserved
loop-place-preserved g c = elim c.if-keeps.branch [
  | then-keeps w ↦
      let out = one_stays (stays c.args.choice) c.args.items.now.items c.loop-place.items.items c.if-keeps.items.items c.loop-place.kept c.if-keeps.kept c.loop-place.place c.index.result.now c.index.result.now c.loop-place.invariant.below (omega arith) c.index.ensures (sym c.keeps.ensures ∙ w.if-keeps.true) (ap (λ v. v.items) w.items-is ∙ w.swap.ensures.items) w.kept-is c.loop-place.invariant.out in
      record { within = omega (arith, out.long, c.loop-place.invariant.out.long); below = omega (arith, w.kept-is, c.loop-place.invariant.below); out = out }
  | else-keeps w ↦
      let out = one_goes (stays c.args.choice) c.args.items.now.items c.loop-place.items.items c.if-keeps.items.items c.loop-place.kept c.if-keeps.kept c.loop-place.place c.index.result.now c.index.result.now (omega arith) c.index.ensures (sym c.keeps.ensures ∙ w.if-keeps.false) (ap (λ v. v.items) w.items-is) w.kept-is c.loop-place.invariant.out in
      record { within = omega (arith, out.long, c.loop-place.invariant.out.long); below = omega (arith, w.kept-is, c.loop-place.invariant.below); out = out }
]

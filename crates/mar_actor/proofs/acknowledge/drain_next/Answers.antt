use Rattle.std.proofs.Common.{None, Some, [], ap, is_some, sym, ◌∙◌, ◌≡◌}
use Rattle.mar_parts.specs.Views.{outstanding_of}
use Rattle.mar_model.specs.Acks.{given_oldest}
use Rattle.mar_model.proofs.Doing.{processed-done, processed-failed}
use Rattle.mar_model.proofs.Drawn.{next-dropped, next-given, next-waits}
use Rattle.mar_model.proofs.Planned.{replanned}
use Rattle.mar_model.proofs.Running.{Breaks-ended}
use Rattle.mar_actor.proofs.Drained.{waits_still}
use Rattle.mar_actor.proofs.acknowledge.drain_next.Goals as goal

pub returns-in-Ok : goal.returns-in-Ok
returns-in-Ok g c =
    let o = outstanding_of c.in-Given.ack in
    let given : given_oldest c.args.window.now.out ≡ Some o = sym c.in-Given.ensures.given in
    let whole = ap (λ h. h.intact) c.in-Ok.ensures.ok ∙ c.requires.intact in
    let sizes = ap (λ w. w.sizes.retention) c.in-Given.ensures.popped in
    record {
      drained = sym (ap is_some given);
      left = ap (λ w. w.out) c.in-Given.ensures.popped;
      whole = whole;
      runs = λ standing told sends answers start plan rest reached. processed-done g.V.Variant.inner start plan rest (g.E.Epocher.epochs c.args.epocher.now) _ _ c.args.window.now _ standing told _ _ sends answers o.height _ (sym (c.retention.ensures ∙ sizes)) (replanned g.V.Variant.inner start plan rest _ _ _ (next-given _ o given) reached) c.in-Given.ensures.popped c.in-Ok.ensures.ok c.in-Ok.ensures.prunes (c.law.ensures.lawful whole) c.in-Ok.ensures.asks c.in-Ok.ensures.goes_on;
    }

pub returns-in-Err : goal.returns-in-Err
returns-in-Err g c =
    let o = outstanding_of c.in-Given.ack in
    let given : given_oldest c.args.window.now.out ≡ Some o = sym c.in-Given.ensures.given in
    let sizes = ap (λ w. w.sizes.retention) c.in-Given.ensures.popped in
    record {
      drained = tt;
      left = tt;
      whole = tt;
      runs = λ standing told sends answers start plan rest reached. processed-failed g.V.Variant.inner start plan rest (g.E.Epocher.epochs c.args.epocher.now) (g.S.HoldsCache.held c.args.stores.now) (g.S.HoldsCache.held c.args.stores.now) c.args.window.now c.args.window.now standing told _ _ sends answers o.height _ (sym (c.retention.ensures ∙ sizes)) (replanned g.V.Variant.inner start plan rest _ _ _ (next-given _ o given) reached) c.in-Err.ensures.goes_on c.in-Err.ensures.usual c.in-Err.ensures.asks;
    }

pub returns-in-Unresolved : goal.returns-in-Unresolved
returns-in-Unresolved g c =
    let given : given_oldest c.args.window.now.out ≡ None = sym c.in-Unresolved.ensures.given in
    let still = c.in-Unresolved.ensures.popped ∙ waits_still c.args.window.now given in
    record {
      drained = sym (ap is_some given);
      left = ap (λ w. w.out) c.in-Unresolved.ensures.popped;
      whole = c.requires.intact;
      runs = λ standing told sends answers. rw still (λ start plan rest reached. replanned g.V.Variant.inner start plan rest _ _ [] (next-waits _ given (sym c.in-Unresolved.ensures.dropped)) reached);
    }

pub returns-in-Dropped : goal.returns-in-Dropped
returns-in-Dropped g c =
    let o = outstanding_of c.in-Dropped.ack in
    record {
      drained = tt;
      left = tt;
      whole = tt;
      runs = λ standing told sends answers start plan rest reached. Breaks-ended g.V.Variant.inner start plan _ rest _ (replanned g.V.Variant.inner start plan rest _ _ _ (next-dropped _ o (sym c.in-Dropped.ensures.dropped)) reached);
    }

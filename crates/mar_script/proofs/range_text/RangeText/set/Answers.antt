use Rattle.std.proofs.Common.{Err, Ok, Result, arith, ap, refl, sym, ◌∙◌}
use Rattle.std.specs.Prelude.{OnOk}
use Rattle.mar_store.specs.Spans.{ranges_of}
use Rattle.mar_script.proofs.SpanTexts.{same_whole, spans_exchanged}
use Rattle.mar_script.proofs.range_text.RangeText.set.Goals as goal

weaker : {T E : Type 0} (r : Result T E) (P Q : Type 0) → (P → Q) → OnOk r P → OnOk r Q
weaker (Ok v) P Q f p = f p
weaker (Err e) P Q f p = p

pub returns-then-front-spans : goal.returns-then-front-spans
returns-then-front-spans c = sym c.self.view_is ∙ ap ranges_of (sym c.as_slice-old.ensures.value ∙ same_whole c.as_slice-old.result.now c.args.spans.now c.shared_front-front.result (omega arith) (omega arith) c.shared_front-front.ensures.same)

pub returns : goal.returns
returns c =
    weaker c.exchange.result _ _
    (λ e. spans_exchanged c.args.self.now _ c.self.inside.spans.items c.as_slice-old.result.now c.args.spans.now _ c.shared_front-front.result c.shared_back-back.result _ (sym c.self.view_is) c.as_slice-old.ensures.value refl c.shared_back-back.ensures.of_those
    c.shared_front-front.ensures.same c.shared_back-back.ensures.same refl e) c.exchange.ensures

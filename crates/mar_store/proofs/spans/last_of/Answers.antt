use Rattle.std.proofs.Common.{◌∙◌, ap, sym}
use Rattle.std.specs.Prelude.{option_map}
use Rattle.mar_store.specs.declared.range_set.HeightSpan.{HeightSpan}
use Rattle.mar_store.proofs.LastEnd.{last_span}
use Rattle.mar_store.proofs.spans.last_of.Goals as goal

pub returns-in-Some : goal.returns-in-Some
returns-in-Some c = ap (option_map (λ (s : HeightSpan). s.to)) c.in-Some.ensures.value ∙ sym (last_span c.args.spans.now)

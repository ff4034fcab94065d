use Rattle.std.proofs.Common.{[], ap, map, ◌∙◌, ◌∷◌}
use Rattle.std.proofs.lemmas.List.{map-append}
use Rattle.mar_key.specs.Recorded.{outcome_of}
use Rattle.mar_key.specs.Views.{key_of}
use Rattle.mar_judge.specs.Views.{answer_of, plain_verdict}
use Rattle.mar_judge.proofs.batch.tell.Goals as goal

pub returns-in-Ok : goal.returns-in-Ok
returns-in-Ok g c = λ config bytes annotations told placed. let view = plain_verdict g.J.Commitment.Named.bytes g.J.Judge.plain g.J.Judge.finalization g.J.Judge.notarization in record {
  outcome = outcome_of c.in_ok-outcome.outcome;
  answer = answer_of g.J.Judge.plain g.J.Judge.finalization g.J.Judge.notarization c.in_ok-outcome.answer;
  judges = c.in_ok-outcome.ensures config (key_of g.J.Commitment.Named.bytes c.args.entry.key) bytes annotations told placed;
  told = ap (map view) c.in-Ok.ensures.pushed ∙ map-append view c.args.verdicts.now.items (_ ∷ []);
}

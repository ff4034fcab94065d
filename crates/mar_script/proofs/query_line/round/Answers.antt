use Rattle.std.proofs.Common.{ap, refl, ◌++◌, ◌∙◌, ◌∷◌}
use Rattle.std.proofs.lemmas.Result.{IfOk-weaker}
use Rattle.std.specs.Prelude.{decimal}
use Rattle.mar_script.proofs.FirstWords.{no_sentence}
use Rattle.mar_script.proofs.QueryWords.{round_words}
use Rattle.mar_script.proofs.query_line.round.Goals as goal

pub returns-in_default-clause-only : goal.returns-in_default-clause-only
returns-in_default-clause-only c = λ r is same. no_sentence c.args.words.now _ _ (c.in_default.ensures.none refl) same

pub returns-clause-found : goal.returns-clause-found
returns-clause-found c = IfOk-weaker c.round_of.result _ _ (λ r is. c.in-Some.ensures.found.0 ∙ ap (λ l. l ++ 32 ∷ c.in-Some.view.now) is.0 ∙ ap (λ l. decimal r.epoch ++ 32 ∷ l) is.1) c.round_of.ensures.found

pub returns-clause-only : goal.returns-clause-only
returns-clause-only c = λ r is same. let words = round_words c.args.words.now _ _ r c.in-Some.ensures.found.0 c.in-Some.ensures.found.1 is same in c.round_of.ensures.only r is words.0 words.1

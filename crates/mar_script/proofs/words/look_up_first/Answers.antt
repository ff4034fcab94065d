use Rattle.std.proofs.Common.{refl, sym}
use Rattle.mar_script.proofs.FirstWords.{no_sentence, not_named}
use Rattle.mar_script.proofs.words.look_up_first.Goals as goal

pub returns-in_default-clause-none : goal.returns-in_default-clause-none
returns-in_default-clause-none g c = λ none k rest first. no_sentence c.args.line.now first.word rest (c.in_default.ensures.none refl) first.split

pub returns-in-None-clause-none : goal.returns-in-None-clause-none
returns-in-None-clause-none g c = λ none k rest first. not_named _ c.args.line.now _ _ c.in-Some.ensures.found.0 c.in-Some.ensures.found.1 (sym c.in-None.ensures) k rest first

use Rattle.mar_script.specs.OutputWords.{word_text}
use Rattle.mar_script.proofs.Pushed.{in_line}
use Rattle.mar_script.proofs.word.push_line.Goals as goal

pub returns : goal.returns
returns c = in_line word_text _ _ _ _ _ c.args.words.now c.in_ok-push_str.ensures.bytes c.in_ok-push_words.ensures c.in_ok-push_str-2.ensures.bytes

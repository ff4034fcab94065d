use Rattle.std.proofs.Common.{string_bytes, take, ◌++◌, ◌≡◌}
use Rattle.std.specs.List.{flat_map}
use Rattle.mar_inbox.specs.Answers.{told}
use Rattle.mar_inbox.specs.Views.{value_of}
use Rattle.mar_script.specs.Lines.{plain_block, plain_finalization}
use Rattle.mar_script.specs.Text.{answer_words, line_of}
use Rattle.mar_script.proofs.answers.push_answers.Given as goal

abbrev pub invariant-loop-answered : goal.invariant-loop-answered
invariant-loop-answered l = string_bytes l.text ≡ string_bytes l.initial.text ++ flat_map (λ a. line_of (answer_words a)) (told (value_of (λ d. d.bytes) plain_block plain_finalization) (take l.answered-index l.answers))

use Rattle.std.proofs.Common.{ap, map, string_bytes, ◌++◌, ◌∙◌}
use Rattle.std.specs.List.{flat_map}
use Rattle.mar_inbox.specs.Answers.{told}
use Rattle.mar_inbox.specs.Views.{value_of}
use Rattle.mar_script.specs.Lines.{plain_block, plain_finalization, plain_sent}
use Rattle.mar_script.specs.Text.{answer_words, ask_words, line_of, sent_words}
use Rattle.mar_replay.specs.Turn.{report_text}
use Rattle.mar_replay.proofs.SameWords.{in_five}
use Rattle.mar_replay.proofs.turn.push_made.Goals as goal

pub returns : goal.returns
returns c =
    in_five _ _ _ _ _ _ _ _ _ _ _ (c.in_ok-push_updates.ensures ∙ ap (λ us. string_bytes c.args.text.now ++ flat_map report_text us) c.deref.ensures.value)
    (c.in_ok-push_asks.ensures ∙ ap (λ asks. string_bytes c.push_updates.new.text ++ flat_map (λ a. line_of (ask_words a)) asks) c.asks.ensures)
    (c.in_ok-push_sends.ensures ∙ ap (λ sends. string_bytes c.push_asks.new.text ++ flat_map (λ s. line_of (sent_words s)) (map plain_sent sends)) c.deref-2.ensures.value)
    (c.in_ok-push_answers.ensures ∙ ap (λ answers. string_bytes c.push_sends.new.text ++ flat_map (λ a. line_of (answer_words a)) (told (value_of (λ digest. digest.bytes) plain_block plain_finalization) answers)) c.answers.ensures)
    c.in_ok-push_outcome.ensures

use Rattle.std.proofs.Common.{map, string_bytes, take, ◌++◌, ◌≡◌}
use Rattle.std.specs.List.{flat_map}
use Rattle.mar_script.specs.Lines.{plain_sent}
use Rattle.mar_script.specs.Text.{line_of, sent_words}
use Rattle.mar_script.proofs.sends.push_sends.Given as goal

abbrev pub invariant-loop-sent : goal.invariant-loop-sent
invariant-loop-sent l = string_bytes l.text ≡ string_bytes l.initial.text ++ flat_map (λ s. line_of (sent_words s)) (map plain_sent (take l.sent-index l.sends))

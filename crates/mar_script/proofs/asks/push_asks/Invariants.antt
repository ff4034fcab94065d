use Rattle.std.proofs.Common.{map, string_bytes, take, ◌++◌, ◌≡◌}
use Rattle.std.specs.List.{flat_map}
use Rattle.mar_key.specs.Recorded.{ask_of}
use Rattle.mar_script.specs.Text.{ask_words, line_of}
use Rattle.mar_script.proofs.asks.push_asks.Given as goal

abbrev pub invariant-loop-ask : goal.invariant-loop-ask
invariant-loop-ask l = string_bytes l.text ≡ string_bytes l.initial.text ++ flat_map (λ a. line_of (ask_words a)) (map (ask_of (λ d. d.bytes)) (take l.ask-index l.asks))

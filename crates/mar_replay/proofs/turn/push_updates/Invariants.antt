use Rattle.std.proofs.Common.{string_bytes, take, ◌++◌, ◌≡◌}
use Rattle.std.specs.List.{flat_map}
use Rattle.mar_replay.specs.Turn.{report_text}
use Rattle.mar_replay.proofs.turn.push_updates.Given as goal

abbrev pub invariant-loop-update : goal.invariant-loop-update
invariant-loop-update l = string_bytes l.text ≡ string_bytes l.initial.text ++ flat_map report_text (take l.update-index l.updates)

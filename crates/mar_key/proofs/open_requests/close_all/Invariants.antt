use Rattle.std.proofs.Common.{fold, map, take, ◌≡◌}
use Rattle.mar_key.specs.Asked.{after_outcome}
use Rattle.mar_key.specs.Recorded.{asked_of, judged_of}
use Rattle.mar_key.proofs.open_requests.close_all.Given as goal

abbrev pub invariant-loop-one : goal.invariant-loop-one
invariant-loop-one g l = map (asked_of g.D.Named.bytes) l.keys.items ≡ fold after_outcome (map (asked_of g.D.Named.bytes) l.initial.keys.items) (map (judged_of g.D.Named.bytes) (take l.one-index l.judged))

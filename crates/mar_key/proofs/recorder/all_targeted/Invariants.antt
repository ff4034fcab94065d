use Rattle.std.proofs.Common.{map, take, ◌≡◌}
use Rattle.mar_key.specs.Recorded.{ask_of}
use Rattle.mar_key.specs.Views.{targeted_of}
use Rattle.mar_key.proofs.recorder.all_targeted.Given as goal

abbrev pub invariant-loop-fetch : goal.invariant-loop-fetch
invariant-loop-fetch g l = map (ask_of g.D.Named.bytes) l.asks.items ≡ map (λ f. targeted_of g.D.Named.bytes f l.targets) (take l.fetch-index l.fetches)

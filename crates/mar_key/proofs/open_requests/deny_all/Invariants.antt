use Rattle.std.proofs.Common.{map, ◌≡◌}
use Rattle.mar_key.specs.Asked.{without_denied}
use Rattle.mar_key.specs.Fronts.{mapped_front}
use Rattle.mar_key.specs.Recorded.{asked_of}
use Rattle.mar_key.specs.Views.{retain_of}
use Rattle.mar_key.proofs.open_requests.deny_all.Given as goal

abbrev pub invariant-loop-asked : goal.invariant-loop-asked
invariant-loop-asked g l = map (asked_of g.D.Named.bytes) l.keys ≡ mapped_front (without_denied (retain_of l.keep)) l.asked-index (map (asked_of g.D.Named.bytes) l.initial.keys)

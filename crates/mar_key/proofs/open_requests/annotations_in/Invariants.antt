use Rattle.std.proofs.Common.{drop, map, ◌≡◌}
use Rattle.mar_key.specs.Asked.{annotations_of}
use Rattle.mar_key.specs.Recorded.{asked_of}
use Rattle.mar_key.specs.Views.{key_of}
use Rattle.mar_key.proofs.open_requests.annotations_in.Given as goal

abbrev pub invariant-loop-asked : goal.invariant-loop-asked
invariant-loop-asked g l =
    annotations_of (map (asked_of g.D.Named.bytes) l.keys) (key_of g.D.Named.bytes l.key)
    ≡ annotations_of (drop l.asked-index (map (asked_of g.D.Named.bytes) l.keys)) (key_of g.D.Named.bytes l.key)

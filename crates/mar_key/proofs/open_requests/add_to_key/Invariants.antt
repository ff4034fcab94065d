use Rattle.std.proofs.Common.{drop, map, take, ◌++◌, ◌≡◌}
use Rattle.mar_key.specs.Asked.{with_fetch}
use Rattle.mar_key.specs.Recorded.{asked_of, call_key}
use Rattle.mar_key.specs.Views.{annotation_of}
use Rattle.mar_key.proofs.open_requests.add_to_key.Given as goal

abbrev pub invariant-loop-asked : goal.invariant-loop-asked
invariant-loop-asked g l = record {
  same : l.keys ≡ l.initial.keys;
  passed : with_fetch (call_key g.D.Named.bytes l.fetch) (annotation_of l.fetch.subscriber) (map (asked_of g.D.Named.bytes) l.initial.keys)
      ≡ take l.asked-index (map (asked_of g.D.Named.bytes) l.initial.keys) ++ with_fetch (call_key g.D.Named.bytes l.fetch) (annotation_of l.fetch.subscriber) (drop l.asked-index (map (asked_of g.D.Named.bytes) l.initial.keys));
}

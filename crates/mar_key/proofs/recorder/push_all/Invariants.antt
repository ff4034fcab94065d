use Rattle.std.proofs.Common.{length, map, take, vec_capacity, vec_len, ◌+◌, ◌++◌, ◌≡◌, ◌≤◌}
use Rattle.mar_key.specs.Recorded.{ask_of}
use Rattle.mar_key.specs.Views.{call_of}
use Rattle.mar_key.proofs.recorder.push_all.Given as goal

abbrev pub invariant-loop-fetch : goal.invariant-loop-fetch
invariant-loop-fetch g l = record {
  pushed : map (ask_of g.D.Named.bytes) l.asks.items ≡ map (ask_of g.D.Named.bytes) l.initial.asks.items ++ map (call_of g.D.Named.bytes) (take l.fetch-index l.fetches);
  long : vec_len l.asks ≡ vec_len l.initial.asks + l.fetch-index;
  room : vec_len l.initial.asks + length l.fetches ≤ vec_capacity l.asks;
}

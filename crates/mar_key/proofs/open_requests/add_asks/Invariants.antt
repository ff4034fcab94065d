use Rattle.std.proofs.Common.{fold, map, take, ◌≡◌}
use Rattle.mar_key.specs.Asked.{after_ask}
use Rattle.mar_key.specs.Recorded.{ask_of, asked_of}
use Rattle.mar_key.proofs.open_requests.add_asks.Given as goal

abbrev pub invariant-loop-ask : goal.invariant-loop-ask
invariant-loop-ask g l = map (asked_of g.D.Named.bytes) l.keys.items ≡ fold after_ask (map (asked_of g.D.Named.bytes) l.initial.keys.items) (map (ask_of g.D.Named.bytes) (take l.ask-index l.asks))

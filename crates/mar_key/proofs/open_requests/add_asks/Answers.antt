use Rattle.std.proofs.Common.{ap, fold, map, sym, ◌∙◌}
use Rattle.std.proofs.lemmas.List.{take-map}
use Rattle.std.proofs.lemmas.Result.{err_from_is_err_and}
use Rattle.mar_key.specs.Asked.{after_ask}
use Rattle.mar_key.specs.Recorded.{ask_of, asked_of}
use Rattle.mar_key.proofs.open_requests.add_asks.Goals as goal

pub returns-in_err-add_ask-clause-err : goal.returns-in_err-add_ask-clause-err
returns-in_err-add_ask-clause-err g c =
    let p = err_from_is_err_and c.from_residual.result c.from_residual.ensures.1 in
    rw p.1 (c.loop-ask.ask-index, c.in_err-add_ask.ensures.err ∙ c.loop-ask.invariant ∙ ap (fold after_ask (map (asked_of g.D.Named.bytes) c.args.keys.now.items)) (sym (take-map (ask_of g.D.Named.bytes) c.loop-ask.ask-index c.args.asks.now)))

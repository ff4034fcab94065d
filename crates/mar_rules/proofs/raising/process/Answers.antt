use Rattle.std.proofs.Common.{Some, sym, ◌∙◌}
use Rattle.std.proofs.lemmas.Result.{err_from_is_err_and}
use Rattle.mar_key.specs.Processed.{at_block}
use Rattle.mar_model.specs.Lives.{later_round}
use Rattle.mar_model.proofs.Growing.{WithinWritten-nothing}
use Rattle.mar_rules.proofs.Raised.{on_ok, raised, unraised, within_read}
use Rattle.mar_rules.proofs.raising.process.Goals as goal

pub returns-in_err-round-clause-goes_on : goal.returns-in_err-round-clause-goes_on
returns-in_err-round-clause-goes_on g c =
    let p = err_from_is_err_and c.from_residual-in_err-round.result c.from_residual-in_err-round.ensures.1 in
    rw (p.1, p.2) (λ start all grew within. c.in_err-round.ensures.goes_on start all (c.in_ok-set_processed.ensures.goes_on start all grew (WithinWritten-nothing all)) (WithinWritten-nothing all))

pub returns-in_err-witness-clause-asks : goal.returns-in_err-witness-clause-asks
returns-in_err-witness-clause-asks g c =
    let before = on_ok c.retain.result (sym c.is_err.ensures.value ∙ c.if-is_err.false) c.retain.ensures.ok in
    let p = err_from_is_err_and c.from_residual-in_err-witness.result c.from_residual-in_err-witness.ensures.1 in
    rw p.1 (unraised (g.E.Epocher.epochs c.args.epocher.now) (g.S.HoldsCache.held c.args.stores.now) (g.S.HoldsCache.held c.set_processed.new.self) (g.S.HoldsCache.held c.round_at.new.stores) (Some (at_block c.args.height)) c.args.height c.in_ok-round.round c.in_ok-set_processed.ensures.ok c.in_ok-round.ensures.same c.in_ok-round.ensures.found (g.R.Resolver.told c.args.resolver.now) (g.R.Resolver.told c.retain.new.self) (g.R.Resolver.told c.witness.new.resolver) before c.in_err-witness.ensures.asks)

pub returns-in_err-witness-clause-goes_on : goal.returns-in_err-witness-clause-goes_on
returns-in_err-witness-clause-goes_on g c =
    let p = err_from_is_err_and c.from_residual-in_err-witness.result c.from_residual-in_err-witness.ensures.1 in
    rw (p.1, p.2) (λ start all grew within. let nothing = WithinWritten-nothing all in
    c.in_err-witness.ensures.goes_on start all (c.in_ok-round.ensures.goes_on start all (c.in_ok-set_processed.ensures.goes_on start all grew nothing) nothing)
    (within_read (g.E.Epocher.epochs c.args.epocher.now) (g.S.HoldsCache.held c.args.stores.now) (g.S.HoldsCache.held c.set_processed.new.self) (g.S.HoldsCache.held c.round_at.new.stores) (Some (at_block c.args.height)) c.args.height c.in_ok-round.round c.in_ok-set_processed.ensures.ok c.in_ok-round.ensures.same c.in_ok-round.ensures.found c.args.retention all within))

pub returns-clause-asks : goal.returns-clause-asks
returns-clause-asks g c =
    let before = on_ok c.retain.result (sym c.is_err.ensures.value ∙ c.if-is_err.false) c.retain.ensures.ok in
    raised (g.E.Epocher.epochs c.args.epocher.now) (g.S.HoldsCache.held c.args.stores.now) (g.S.HoldsCache.held c.set_processed.new.self) (g.S.HoldsCache.held c.round_at.new.stores) (Some (at_block c.args.height)) c.args.height c.in_ok-round.round c.in_ok-set_processed.ensures.ok c.in_ok-round.ensures.same c.in_ok-round.ensures.found (g.S.HoldsCache.held c.witness.new.stores) (later_round (g.S.HoldsCache.held c.round_at.new.stores).witnessed c.in_ok-round.round) (g.R.Resolver.told c.args.resolver.now) (g.R.Resolver.told c.retain.new.self) (g.R.Resolver.told c.witness.new.resolver) (g.R.Resolver.told c.close_epochs.new.resolver) c.in_ok-witness.ensures.ok before c.in_ok-witness.ensures.asks c.close_epochs.result c.close_epochs.ensures.asks

pub returns-clause-goes_on : goal.returns-clause-goes_on
returns-clause-goes_on g c = λ start all grew within. let nothing = WithinWritten-nothing all in
    c.close_epochs.ensures.goes_on start all (c.in_ok-witness.ensures.goes_on start all (c.in_ok-round.ensures.goes_on start all (c.in_ok-set_processed.ensures.goes_on start all grew nothing) nothing)
    (within_read (g.E.Epocher.epochs c.args.epocher.now) (g.S.HoldsCache.held c.args.stores.now) (g.S.HoldsCache.held c.set_processed.new.self) (g.S.HoldsCache.held c.round_at.new.stores) (Some (at_block c.args.height)) c.args.height c.in_ok-round.round c.in_ok-set_processed.ensures.ok c.in_ok-round.ensures.same c.in_ok-round.ensures.found c.args.retention all within)) nothing

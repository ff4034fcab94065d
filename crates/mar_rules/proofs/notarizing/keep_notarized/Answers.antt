use Rattle.std.proofs.Common.{subst, sym, true, false}
use Rattle.std.proofs.lemmas.Result.{on_ok_weaker}
use Rattle.mar_model.specs.Cache.{notarized_where}
use Rattle.mar_model.specs.Held.{WithinWritten, written_entries}
use Rattle.mar_model.specs.Moves.{KeepsNotarizedWhere}
use Rattle.mar_model.proofs.Growing.{WithinWritten-nothing}
use Rattle.mar_rules.proofs.KeptFor.{kept_where, unverified_owes, verified_found}
use Rattle.mar_rules.proofs.notarizing.keep_notarized.Goals as goal

pub returns-in-Ok-true-clause-keeps : goal.returns-in-Ok-true-clause-keeps
returns-in-Ok-true-clause-keeps g c =
    let old = g.S.HoldsCache.held c.args.stores.now in
    let b = g.V.Variant.plain c.args.block in
    subst (λ is. KeepsNotarizedWhere is c.args.round b old (g.S.HoldsCache.held c.has_verified.new.self)) (sym (verified_found c.args.round b old _ _ true c.digest.ensures c.in-Ok-true.ensures.found c.in-Ok-true.field-0-test)) c.in-Ok-true.ensures.same

pub returns-in-Ok-true-clause-goes_on : goal.returns-in-Ok-true-clause-goes_on
returns-in-Ok-true-clause-goes_on g c start all grew within = c.in-Ok-true.ensures.goes_on start all grew (WithinWritten-nothing all)

pub returns-in-Ok-false-clause-keeps : goal.returns-in-Ok-false-clause-keeps
returns-in-Ok-false-clause-keeps g c =
    let old = g.S.HoldsCache.held c.args.stores.now in
    let b = g.V.Variant.plain c.args.block in
    let unverified = verified_found c.args.round b old _ _ false c.digest.ensures c.in-Ok-false.ensures.found c.in-Ok-false.field-0-test in
    on_ok_weaker c.keep_unverified.result (kept_where false c.args.round b old _ _ unverified c.in-Ok-false.ensures.same) c.keep_unverified.ensures.keeps

pub returns-in-Ok-false-clause-goes_on : goal.returns-in-Ok-false-clause-goes_on
returns-in-Ok-false-clause-goes_on g c start all grew within =
    let old = g.S.HoldsCache.held c.args.stores.now in
    let b = g.V.Variant.plain c.args.block in
    let unverified = verified_found c.args.round b old _ _ false c.digest.ensures c.in-Ok-false.ensures.found c.in-Ok-false.field-0-test in
    c.keep_unverified.ensures.goes_on start all (c.in-Ok-false.ensures.goes_on start all grew (WithinWritten-nothing all)) (subst (λ is. WithinWritten (written_entries (notarized_where is c.args.round b)) all) unverified within)

pub returns-in-Err-clause-goes_on : goal.returns-in-Err-clause-goes_on
returns-in-Err-clause-goes_on g c start all grew within = c.in-Err.ensures.goes_on start all grew (WithinWritten-nothing all)

pub returns-in-Ok-false-clause-read : goal.returns-in-Ok-false-clause-read
returns-in-Ok-false-clause-read g c = unverified_owes c.keep_unverified.result _ _ (verified_found c.args.round (g.V.Variant.plain c.args.block) (g.S.HoldsCache.held c.args.stores.now) _ _ false c.digest.ensures c.in-Ok-false.ensures.found c.in-Ok-false.field-0-test)

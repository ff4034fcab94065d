use Rattle.std.proofs.Common.{true, false}
use Rattle.std.proofs.lemmas.Result.{IfOk-weaker}
use Rattle.mar_model.proofs.Growing.{WithinWritten-nothing}
use Rattle.mar_rules.proofs.KeptFor.{puts_notarized, puts_verified, verified_found}
use Rattle.mar_rules.proofs.keeping.put_certified.Goals as goal

pub returns-in-Ok-true-clause-puts : goal.returns-in-Ok-true-clause-puts
returns-in-Ok-true-clause-puts g c =
    let old = g.S.HoldsCache.held c.args.stores.now in
    let b = g.V.Variant.plain c.args.block in
    let verified = verified_found c.args.round b old _ _ true c.digest.ensures c.in-Ok-true.ensures.found c.in-Ok-true.field-0-test in
    IfOk-weaker c.start_sync_verified.result _ _ (λ s starts. rw c.has_verified.ensures.tickets at (puts_verified c.args.round b old (g.S.HoldsCache.held c.has_verified.new.self) (g.S.HoldsCache.held c.start_sync_verified.new.self) (g.S.HoldsCache.covers c.has_verified.new.self) (g.S.HoldsCache.covers c.start_sync_verified.new.self) c.in-Ok-true.ensures.same s (c.law.ensures.cached c.requires.intact) verified starts)) (rw c.epoch.ensures at c.start_sync_verified.ensures.starts)

pub returns-in-Ok-true-clause-goes_on : goal.returns-in-Ok-true-clause-goes_on
returns-in-Ok-true-clause-goes_on g c start all grew within = c.start_sync_verified.ensures.goes_on start all (c.in-Ok-true.ensures.goes_on start all grew (WithinWritten-nothing all)) (WithinWritten-nothing all)

pub returns-in-Ok-false-clause-puts : goal.returns-in-Ok-false-clause-puts
returns-in-Ok-false-clause-puts g c =
    let old = g.S.HoldsCache.held c.args.stores.now in
    let b = g.V.Variant.plain c.args.block in
    let unverified = verified_found c.args.round b old _ _ false c.digest.ensures c.in-Ok-false.ensures.found c.in-Ok-false.field-0-test in
    IfOk-weaker c.put_notarized.result _ _ (λ s caches. rw c.has_verified.ensures.tickets at (puts_notarized c.args.round b old (g.S.HoldsCache.held c.has_verified.new.self) (g.S.HoldsCache.held c.put_notarized.new.self) (g.S.HoldsCache.covers c.has_verified.new.self) (g.S.HoldsCache.covers c.put_notarized.new.self) c.in-Ok-false.ensures.same s unverified caches)) c.put_notarized.ensures.caches

pub returns-in-Ok-false-clause-goes_on : goal.returns-in-Ok-false-clause-goes_on
returns-in-Ok-false-clause-goes_on g c start all grew within = c.put_notarized.ensures.goes_on start all (c.in-Ok-false.ensures.goes_on start all grew (WithinWritten-nothing all)) within

pub returns-in-Err-clause-goes_on : goal.returns-in-Err-clause-goes_on
returns-in-Err-clause-goes_on g c start all grew within = c.in-Err.ensures.goes_on start all grew (WithinWritten-nothing all)

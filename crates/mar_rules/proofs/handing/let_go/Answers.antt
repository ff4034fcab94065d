use Rattle.std.proofs.Common.{ap, ◌∙◌}
use Rattle.mar_model.specs.Views.{fault_of}
use Rattle.mar_model.proofs.Doing.{law_behind}
use Rattle.mar_model.proofs.Running.{Does-let_go}
use Rattle.mar_rules.proofs.Raised.{on_both}
use Rattle.mar_rules.proofs.handing.let_go.Goals as goal

pub returns-clause-whole : goal.returns-clause-whole
returns-clause-whole g c = on_both c.finish_sync-was_open.result (λ same. ap (λ h. h.intact) same ∙ c.requires.intact) c.finish_sync-was_open.ensures.same

pub returns-clause-runs : goal.returns-clause-runs
returns-clause-runs g c = λ life standing heard. Does-let_go g.V.Variant.inner (fault_of g.V.Commitment.Named.bytes) _ _ life standing heard c.args.ticket _ c.finish_sync-was_open.result c.finish_sync-was_open.ensures.was_open c.finish_sync-was_open.ensures.closed c.finish_sync-was_open.ensures.failed c.finish_sync-was_open.ensures.blocks c.finish_sync-was_open.ensures.certs (c.finish_sync-was_open.ensures.written c.requires.intact) c.finish_sync-was_open.ensures.same (law_behind _ c.finish_sync-was_open.result (returns-clause-whole g c) c.law.ensures.lawful) c.finish_sync-was_open.ensures.goes_on c.finish_sync-was_open.ensures.archive

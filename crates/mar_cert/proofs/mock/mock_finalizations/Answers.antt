use Rattle.mar_cert.specs.Grammar.{finalization_spelled, same_finalization, spelled_finalization}
use Rattle.mar_cert.proofs.mock.mock_finalizations.Goals as goal

pub returns-clause-spelled : goal.returns-clause-spelled
returns-clause-spelled c = spelled_finalization

pub returns-clause-only : goal.returns-clause-only
returns-clause-only c = finalization_spelled

pub returns-clause-same : goal.returns-clause-same
returns-clause-same c = same_finalization

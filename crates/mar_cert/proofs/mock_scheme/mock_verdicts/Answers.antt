use Rattle.std.proofs.Common.{refl}
use Rattle.mar_cert.specs.VerdictLemmas.{verifies_exactly}
use Rattle.mar_cert.proofs.Verdicts.{exactly}
use Rattle.mar_cert.proofs.mock_scheme.mock_verdicts.Goals as goal

pub returns-clause-read : goal.returns-clause-read
returns-clause-read c = verifies_exactly

pub returns-clause-held : goal.returns-clause-held
returns-clause-held c = λ n subject f certificate wide count is. exactly n subject f certificate.signers.items _ wide count is refl

use Rattle.std.proofs.Common.{drop, map, ◌≡◌}
use Rattle.mar_cert.specs.MockScheme.{is_ascending_from}
use Rattle.mar_cert.specs.MockViews.{plain_signer}
use Rattle.mar_cert.proofs.mock_scheme.is_ascending.Given as goal

abbrev pub invariant-signers : goal.invariant-signers
invariant-signers l = is_ascending_from l.members 0 (map plain_signer l.signer-items) ≡ is_ascending_from l.members l.low (map plain_signer (drop l.signer-index l.signer-items))

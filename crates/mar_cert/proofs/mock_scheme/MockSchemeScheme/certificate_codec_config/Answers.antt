use Rattle.std.proofs.Common.{arith, ◌≤◌}
use Rattle.std.specs.Prelude.{min}
use Rattle.mar_cert.proofs.Sizes.{length-certificate}
use Rattle.mar_cert.proofs.mock_scheme.MockSchemeScheme.certificate_codec_config.Goals as goal

pub returns-clause-within : goal.returns-clause-within
returns-clause-within c = λ n bytes enough is.
    let few : c.args.self.now ≤ 64 = omega (arith, c.self.view_is, c.self.invariant.1) in
    length-certificate c.args.self.now (min n 64) bytes few (omega arith) is

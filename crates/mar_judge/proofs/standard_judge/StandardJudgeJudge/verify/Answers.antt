use Rattle.std.proofs.Common.{◌∙◌}
use Rattle.mar_judge.proofs.MockClaims.{ok_by, told_all}
use Rattle.mar_judge.proofs.standard_judge.StandardJudgeJudge.verify.Goals as goal

pub returns : goal.returns
returns g c = λ epoch judges are.
    let held = c.args.self.now in
    let told = told_all held.members c.args.scope.now epoch (g.E.Epocher.epochs held.epocher) (g.P.Provider.has_scheme held.provider) (g.P.Provider.verifies held.provider)
    (g.P.Provider.verifies_notarization held.provider) c.args.claims.now judges are in
    ok_by c.verify_certificates.result (rw c.scheme.ensures at c.verify_certificates.ensures) (λ v is. is ∙ told)

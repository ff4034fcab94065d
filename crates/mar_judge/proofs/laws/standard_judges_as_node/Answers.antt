use Rattle.std.proofs.Common.{subst, sym}
use Rattle.mar_judge.specs.MockReading.{reading_of}
use Rattle.mar_judge.specs.Views.{JudgesEach}
use Rattle.mar_judge.proofs.laws.standard_judges_as_node.Goals as goal

pub returns : goal.returns
returns g c = λ config messages verdicts same settings judged.
    let by_settings = subst (λ k. JudgesEach (reading_of c.args.judge.now.members) k messages verdicts) settings judged in
    subst (λ n. JudgesEach (reading_of n) config messages verdicts) (sym same) by_settings

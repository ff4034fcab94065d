use Rattle.mar_gen.proofs.Values.{finalization_holds}
use Rattle.mar_gen.proofs.chain.finalizations_hold.Goals as goal

pub returns : goal.returns
returns c = finalization_holds

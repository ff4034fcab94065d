use Rattle.mar_gen.proofs.Lawful.{made_lawful}
use Rattle.mar_gen.proofs.chain.chain_is_lawful.Goals as goal

pub returns : goal.returns
returns c = made_lawful

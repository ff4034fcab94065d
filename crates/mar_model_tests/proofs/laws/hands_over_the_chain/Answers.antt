use Rattle.mar_model_tests.proofs.laws.hands_over_the_chain.Goals as goal
use Rattle.mar_model_tests.proofs.ChainHandovers.{run_hands_chain}

pub returns : goal.returns
returns c = run_hands_chain

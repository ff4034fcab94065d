use Rattle.mar_model_tests.proofs.laws.outlives_restarts.Goals as goal
use Rattle.mar_model_tests.proofs.RestartHeights.{run_outlives}

pub returns : goal.returns
returns c = run_outlives

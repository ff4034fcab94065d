use Rattle.mar_ledger.proofs.Truths.{first_is_true, one_by_height, stays_true}
use Rattle.mar_ledger.proofs.laws.ledgers_stay_true.Goals as goal

pub returns-clause-first : goal.returns-clause-first
returns-clause-first c = first_is_true

pub returns-clause-stays : goal.returns-clause-stays
returns-clause-stays c = stays_true

pub returns-clause-one : goal.returns-clause-one
returns-clause-one c = one_by_height

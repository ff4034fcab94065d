use Rattle.mar_key.specs.KeyBytes.{key_is_spelled, same_spelling, short_key}
use Rattle.mar_key.proofs.laws.digest_keys.Goals as goal

pub returns-clause-only : goal.returns-clause-only
returns-clause-only c = key_is_spelled _

pub returns-clause-same : goal.returns-clause-same
returns-clause-same c = same_spelling

pub returns-clause-short : goal.returns-clause-short
returns-clause-short c = short_key

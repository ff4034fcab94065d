-- What is made durable as a round is noted.
use Rattle.std.specs.Prelude.{[], ◌∷◌}
use Rattle.mar_types.specs.Round.{Round}
use Rattle.mar_key.specs.Cutoff.{at_round, greatest_of}
use Rattle.mar_model.specs.Held.{Held}
use Rattle.mar_model.specs.Metadata.{Pair, pair_of}

-- the processed height, with the cutoff that rises to the round
abbrev pub noted_pair : Held → Round → Pair
noted_pair h round = pair_of h.processed (greatest_of h.cutoff (at_round round ∷ []))

-- The round cutoff: a round and all before it, or an epoch and all before it.
use Rattle.std.specs.Prelude.{Bool, List, fold, if◌then◌else◌, nat_le, nat_lt, ℕ}
use Rattle.std.specs.Fmt.{decimal}
use Rattle.mar_types.specs.Round.{Round, round_le, round_text}

-- a round and all before it, or an epoch's rounds and all before them
pub data Cutoff : Type 0 where
  at_round : Round → Cutoff
  at_epoch : ℕ → Cutoff

abbrev pub cutoff_zero : Cutoff
cutoff_zero = at_round (record { epoch = 0; view = 0 })

-- within one epoch the epoch's cutoff stands above each round's
abbrev pub cutoff_le : Cutoff → Cutoff → Bool
cutoff_le (at_round a) (at_round b) = round_le a b
cutoff_le (at_round a) (at_epoch e) = nat_le a.epoch e
cutoff_le (at_epoch e) (at_round b) = nat_lt e b.epoch
cutoff_le (at_epoch e) (at_epoch f) = nat_le e f

abbrev pub covers : Cutoff → Round → Bool
covers cutoff round = cutoff_le (at_round round) cutoff

abbrev pub cutoff_max : Cutoff → Cutoff → Cutoff
cutoff_max a b = if cutoff_le a b then b else a

-- the greatest of the first and all others
abbrev pub greatest_of : Cutoff → List Cutoff → Cutoff
greatest_of first others = fold cutoff_max first others

-- what a cutoff prints: its round or its epoch
abbrev pub cutoff_text : Cutoff → List ℕ
cutoff_text (at_round r) = round_text r
cutoff_text (at_epoch e) = decimal e

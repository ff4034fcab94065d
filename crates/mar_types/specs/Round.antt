-- Rounds, in the order of epoch and view.
use Rattle.std.specs.Fmt.{decimal}
use Rattle.std.specs.Prelude.{Bool, List, codes, nat_le, nat_lt, ℕ, ◌&&◌, ◌++◌, ◌==◌, ◌||◌, ◌≡◌}
use Rattle.mar_types.specs.Varint.{IsNumber, varint}

-- a view of an epoch
pub record Round : Type 0 where
  pub epoch : ℕ
  pub view : ℕ

-- order by epoch, then by view
abbrev pub round_lt : Round → Round → Bool
round_lt a b = nat_lt a.epoch b.epoch || (a.epoch == b.epoch && nat_lt a.view b.view)

abbrev pub round_le : Round → Round → Bool
round_le a b = nat_lt a.epoch b.epoch || (a.epoch == b.epoch && nat_le a.view b.view)

abbrev pub round_eq : Round → Round → Bool
round_eq a b = a.epoch == b.epoch && a.view == b.view

-- epoch, then view
abbrev pub round_bytes : Round → List ℕ
round_bytes r = varint r.epoch ++ varint r.view

abbrev pub IsRound : Round → Type 0
IsRound r = IsNumber r.epoch × IsNumber r.view

-- what a round prints
abbrev pub round_text : Round → List ℕ
round_text r = codes "(" ++ decimal r.epoch ++ codes ", " ++ decimal r.view ++ codes ")"

-- these bytes spell a round
pub record SpellsRound (bytes : List ℕ) : Type 0 where
  pub round : Round
  pub is_round : IsRound round
  pub spelled : bytes ≡ round_bytes round

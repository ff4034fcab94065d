use Rattle.std.proofs.lemmas.List.{take_rest}
use Rattle.mar_journal.proofs.Bytes.{no_two}
use Rattle.mar_journal.proofs.numbers.read_two.Goals as goal

pub returns-in_err-second : goal.returns-in_err-second
returns-in_err-second c = let none = c.in_err-second.ensures in rw c.from_residual-in_err-second.ensures (no_two _ _ _ c.in_ok-first.ensures (rw take_rest at none))

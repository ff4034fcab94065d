use Rattle.std.proofs.Common.{All}
use Rattle.mar_example.specs.Entered.{Has}
use Rattle.mar_example.proofs.service.Service.enter_all.Given as goal

abbrev pub invariant-loop-handed : goal.invariant-loop-handed
invariant-loop-handed l =
    (goal.iterator-loop-handed).can_next l.handed-iterator ×
    (goal.iterator-loop-handed).is_finite l.handed-iterator ×
    All (λ e. Has l.service.0.ledger e.height) l.service.1.1.1.0.items

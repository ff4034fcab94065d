use Rattle.std.proofs.Common.{length, not, ◌≡◌}
use Rattle.mar_key.specs.Places.{next_kept}
use Rattle.mar_inbox.specs.Policy.{is_closed}
use Rattle.mar_inbox.proofs.backlog.next_open.Given as goal

-- what comes next is what came next at the start
abbrev pub invariant-loop-message : goal.invariant-loop-message
invariant-loop-message g l = next_kept (λ q. not (is_closed l.closed.keys q)) l.others ≡ next_kept (λ q. not (is_closed l.closed.keys q)) l.initial.others

abbrev pub decreases-loop-message : goal.decreases-loop-message
decreases-loop-message g l = length l.others

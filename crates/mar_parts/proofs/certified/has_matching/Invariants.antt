use Rattle.std.proofs.Common.{false, take}
use Rattle.std.specs.Fn.{FnReturnsAt}
use Rattle.std.specs.List.{All}
use Rattle.mar_parts.proofs.certified.has_matching.Given as goal

abbrev pub invariant-loop-commitment : goal.invariant-loop-commitment
invariant-loop-commitment g l = All (λ c. FnReturnsAt g.P.Fn l.predicate c false) (take l.commitment-index l.known)

use Rattle.std.proofs.Common.{map, ◌≡◌}
use Rattle.mar_mocks.proofs.application.heights_from.Given as goal

abbrev pub invariant-loop-height : goal.invariant-loop-height
invariant-loop-height l = l.heights.items ≡ map (λ o. o.0) (map (λ s. s.now) l.yielded)

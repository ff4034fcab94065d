use Rattle.std.proofs.Common.{map, ◌≡◌}
use Rattle.mar_block.proofs.bounded_ancestry.copies.Given as goal

abbrev pub invariant-loop-block : goal.invariant-loop-block
invariant-loop-block g l = map g.B.Linked.plain l.copies.items ≡ map g.B.Linked.plain (map (λ s. s.now) l.yielded)

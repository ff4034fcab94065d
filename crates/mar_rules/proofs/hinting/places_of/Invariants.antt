use Rattle.std.proofs.Common.{take, ◌≡◌}
use Rattle.mar_rules.proofs.hinting.places_of.Given as goal

abbrev pub invariant-loop-member : goal.invariant-loop-member
invariant-loop-member l = l.places.items ≡ take l.member-index l.members

use Rattle.std.proofs.Common.{◌≡◌, map, take}
use Rattle.std.specs.Vec.{vec_items}
use Rattle.mar_judge.specs.Groups.{claims_of, verdicts_on}
use Rattle.mar_judge.proofs.group.verify_all.Given as goal

abbrev pub invariant-groups : goal.invariant-groups
invariant-groups g l = map vec_items l.told.items ≡ verdicts_on (g.J.Judge.rules l.judge) (claims_of g.J.Judge.claimed (take l.group-index l.groups))

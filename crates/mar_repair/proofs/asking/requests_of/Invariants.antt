use Rattle.std.proofs.Common.{map, option_to_list, take, ◌++◌, ◌≡◌}
use Rattle.mar_repair.specs.Open.{by_height}
use Rattle.mar_repair.proofs.asking.requests_of.Given as goal

abbrev pub invariant-loop-height : goal.invariant-loop-height
invariant-loop-height g l = l.requests.items ≡ option_to_list l.fn.block ++ map by_height (take l.height-index l.missing)

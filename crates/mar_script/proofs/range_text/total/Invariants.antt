use Rattle.std.proofs.Common.{take, ◌<◌, ◌^◌, ◌≡◌}
use Rattle.std.specs.List.{sum}
use Rattle.mar_script.proofs.range_text.total.Given as goal

abbrev pub invariant-loop-size : goal.invariant-loop-size
invariant-loop-size l = sum l.sizes < 2 ^ 64 → l.total ≡ sum (take l.size-index l.sizes)

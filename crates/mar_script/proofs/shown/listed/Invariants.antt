use Rattle.std.proofs.Common.{map, take, ◌≡◌}
use Rattle.mar_parts.specs.Views.{outstanding_of}
use Rattle.mar_script.proofs.shown.listed.Given as goal

abbrev pub invariant-loop-place : goal.invariant-loop-place
invariant-loop-place l = map outstanding_of l.list.items ≡ take l.place l.acks.entries

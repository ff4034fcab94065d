use Rattle.std.proofs.Common.{nat_le, ◌+◌, ◌≡◌}
use Rattle.std.specs.BTreeMap.{btree_map_len}
use Rattle.std.specs.Prelude.{filter}
use Rattle.mar_gate.proofs.staged.drop_below.Given as goal

abbrev pub invariant-loop : goal.invariant-loop
invariant-loop g l = (filter (λ e. nat_le l.lowest e.0) l.blocks.entries ≡ filter (λ e. nat_le l.lowest e.0) l.initial.blocks.entries) × (btree_map_len l.blocks + l.counter ≡ btree_map_len l.initial.blocks)

use Rattle.std.proofs.Common.{◌≡◌, ◌≤◌, ◌-◌, ◌+◌, length, map, take}
use Rattle.std.specs.Prelude.{fold, vec_capacity, vec_len}
use Rattle.mar_store.specs.Changes.{heights}
use Rattle.mar_store.specs.Entries.{seen}
use Rattle.mar_store.specs.Ranges.{with_height}
use Rattle.mar_store.specs.Spans.{ranges_of, AscendFrom}
use Rattle.mar_store.proofs.spans.widen_by.Given as goal

abbrev pub invariant-loop-place : goal.invariant-loop-place
invariant-loop-place g l = record {
  within : l.place ≤ length l.entries;
  room : vec_len l.spans + (length l.entries - l.place) ≤ vec_capacity l.spans;
  ascend : AscendFrom 0 (ranges_of l.spans.items);
  ranges : ranges_of l.spans.items ≡ fold (λ rs h. with_height h rs) (ranges_of l.initial.spans.items) (heights (map seen (take l.place l.entries)));
}

abbrev pub decreases-loop-place : goal.decreases-loop-place
decreases-loop-place g l = length l.entries - l.place

use Rattle.std.specs.BTreeMap.{btree_map_len}
use Rattle.std.specs.List.{AllByRecursion}
use Rattle.mar_inbox.specs.Turns.{IsHinted, IsRising, Leaves}
use Rattle.mar_inbox.proofs.dropping.drop_hints.Given as goal

abbrev pub invariant-loop-height : goal.invariant-loop-height
invariant-loop-height g l = record {
  leaves : Leaves g.M.Letter.plain l.prune l.initial.entries.entries l.entries.entries;
  rising : IsRising l.entries.entries;
  hinted : AllByRecursion (IsHinted g.M.Letter.plain l.hints) l.entries.entries;
}

abbrev pub decreases-loop-height : goal.decreases-loop-height
decreases-loop-height g l = btree_map_len l.hints

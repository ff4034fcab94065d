use Rattle.std.specs.BTreeSet.{btree_set_len}
use Rattle.std.specs.List.{AllByRecursion}
use Rattle.mar_inbox.specs.Turns.{IsRead, IsRising, Leaves}
use Rattle.mar_inbox.proofs.dropping.drop_reads.Given as goal

abbrev pub invariant-loop-height : goal.invariant-loop-height
invariant-loop-height g l = record {
  leaves : Leaves g.M.Letter.plain l.prune l.initial.entries.entries l.entries.entries;
  rising : IsRising l.entries.entries;
  read : AllByRecursion (IsRead g.M.Letter.plain l.reads) l.entries.entries;
}

abbrev pub decreases-loop-height : goal.decreases-loop-height
decreases-loop-height g l = btree_set_len l.reads

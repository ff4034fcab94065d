use Rattle.std.proofs.Common.{◌≡◌, ◌≤◌, ◌-◌, take, length}
use Rattle.std.specs.BTreeMap.{get}
use Rattle.mar_epochs.specs.EntryLogs.{entries, log_of}
use Rattle.mar_epochs.specs.Spots.{spot_found}
use Rattle.mar_epochs.proofs.logged_entry.index_of.Given as goal

abbrev pub decreases-loop-place : goal.decreases-loop-place
decreases-loop-place g l = length l.items - l.place

abbrev pub invariant-loop-place : goal.invariant-loop-place
invariant-loop-place g l = record {
  within : l.place ≤ length l.items;
  found : (k : _) → get g.E.Key.Ord.cmp l.index.spots k ≡ spot_found (g.E.KeyedEntry.has k) (entries (log_of g.E.AsEntry.plain (take l.place l.items)));
}

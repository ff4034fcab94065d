use Rattle.std.proofs.Common.{map, take, ◌≡◌}
use Rattle.std.specs.List.{list_any}
use Rattle.mar_model.specs.Acks.{is_unmarked, marked_entry}
use Rattle.mar_parts.specs.Views.{mark_of, outstanding_of}
use Rattle.mar_key.specs.Fronts.{mapped_front}
use Rattle.mar_parts.proofs.acks.mark_entries.Given as goal

abbrev pub invariant-loop-ack : goal.invariant-loop-ack
invariant-loop-ack l = record {
  marked : map outstanding_of l.entries ≡ mapped_front (marked_entry l.ticket (mark_of l.mark)) l.ack-index (map outstanding_of l.initial.entries);
  found : l.found ≡ list_any (is_unmarked l.ticket) (take l.ack-index (map outstanding_of l.initial.entries));
}

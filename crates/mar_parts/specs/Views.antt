-- The parts as the definitions see them.
use Rattle.std.specs.Prelude.{None, Option, Some}
use Rattle.mar_model.specs.Acks.{Mark, Outstanding, mark_dropped, mark_given, mark_waiting}
use Rattle.mar_parts.specs.declared.acks.Mark.{Mark as AckMark}
use Rattle.mar_parts.specs.declared.acks.Mark.TheVariants.{Waiting, Given, Dropped}
use Rattle.mar_parts.specs.declared.acks.Oldest.{Oldest}
use Rattle.mar_parts.specs.declared.acks.Oldest.TheVariants as oldest
use Rattle.mar_parts.specs.declared.acks.PendingAck.{PendingAck}

abbrev pub mark_of : AckMark → Mark
mark_of Waiting = mark_waiting
mark_of Given = mark_given
mark_of Dropped = mark_dropped

abbrev pub outstanding_of : PendingAck → Outstanding
outstanding_of a = record { ticket = a.ticket; height = a.height; mark = mark_of a.mark }

-- the entry that was taken out as given, and the one that was found dropped
abbrev pub given_of : Oldest → Option Outstanding
given_of oldest.Unresolved = None
given_of (oldest.Given a) = Some (outstanding_of a)
given_of (oldest.Dropped a) = None

abbrev pub dropped_of : Oldest → Option Outstanding
dropped_of oldest.Unresolved = None
dropped_of (oldest.Given a) = None
dropped_of (oldest.Dropped a) = Some (outstanding_of a)

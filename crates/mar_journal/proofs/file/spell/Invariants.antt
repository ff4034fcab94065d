use Rattle.std.proofs.Common.{take, ◌≡◌}
use Rattle.mar_journal.specs.Format.{body}
use Rattle.mar_journal.proofs.file.spell.Given as goal

abbrev pub invariant-loop-record : goal.invariant-loop-record
invariant-loop-record g l = l.bytes.items ≡ body g.R.Record.spelled (take l.record-index l.records)

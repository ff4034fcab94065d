use Rattle.std.proofs.Common.{arith, ◌+◌, ◌-◌, ◌≡◌}
use Rattle.mar_journal.proofs.Bodies.{cut_off, no_body, too_short}
use Rattle.mar_journal.proofs.file.read_batch.Goals as goal

pub returns-in-None : goal.returns-in-None
returns-in-None g c = too_short g.R.Record.spelled g.R.Record.valid c.args.bytes.now c.in-None.ensures

pub returns-then-bytes-size : goal.returns-then-bytes-size
returns-then-bytes-size g c =
    let four_is = c.in-Some.ensures in
    cut_off g.R.Record.spelled g.R.Record.valid c.args.bytes.now c.in-Some.size four_is.0 four_is.2 (omega (arith, four_is.1, c.if-bytes-size.true))

pub returns-in-None-2 : goal.returns-in-None-2
returns-in-None-2 g c =
    let four_is = c.in-Some.ensures in
    let same : 4 + c.in-Some.size - 4 ≡ c.in-Some.size = omega arith in
    let none = rw c.in-None-2.is at c.in_ok-read_body.ensures in
    no_body g.R.Record.spelled g.R.Record.valid c.args.bytes.now c.in-Some.size four_is.0 four_is.2 (rw same at none)

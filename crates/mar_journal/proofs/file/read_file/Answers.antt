use Rattle.std.proofs.Common.{inr, ◌++◌, ◌∷◌, []}
use Rattle.std.proofs.lemmas.List.{take_rest}
use Rattle.mar_journal.proofs.Bodies.{Front, closed_here, one_further, torn_here}
use Rattle.mar_journal.proofs.file.read_file.Goals as goal

pub returns-in-None : goal.returns-in-None
returns-in-None g c =
    let i = c.batches.invariant in
    let f : Front g.R.Record.spelled g.R.Record.valid i.batches c.batches.records.items c.batches.gate c.args.bytes.now = record { good = i.good; records_are = i.records_are; ends = i.ends; within = i.within; read = i.read } in
    let none = rw c.in-None.is at c.in_ok-read_batch.ensures in
    (c.requires, inr (torn_here g.R.Record.spelled g.R.Record.valid i.batches c.batches.records.items c.batches.gate c.args.bytes.now f c.batches-test.true (rw take_rest at none)))

pub batches-preserved : goal.batches-preserved
batches-preserved g c =
    let i = c.batches.invariant in
    let f : Front g.R.Record.spelled g.R.Record.valid i.batches c.batches.records.items c.batches.gate c.args.bytes.now = record { good = i.good; records_are = i.records_are; ends = i.ends; within = i.within; read = i.read } in
    let first = rw c.in-Some.is at c.in_ok-read_batch.ensures in
    let n = one_further g.R.Record.spelled g.R.Record.valid i.batches c.batches.records.items c.batches.gate c.args.bytes.now f c.in-Some.batch.items c.in-Some.size c.append.new.self.items c.batches-test.true (rw take_rest at first) c.in_ok-append-in-Some.ensures.items in
    record { batches = i.batches ++ c.in-Some.batch.items ∷ []; good = n.good; records_are = n.records_are; ends = n.ends; within = n.within; read = n.read }

pub returns : goal.returns
returns g c =
    let i = c.batches.invariant in
    let f : Front g.R.Record.spelled g.R.Record.valid i.batches c.batches.records.items c.batches.gate c.args.bytes.now = record { good = i.good; records_are = i.records_are; ends = i.ends; within = i.within; read = i.read } in
    closed_here g.R.Record.spelled g.R.Record.valid i.batches c.batches.records.items c.batches.gate c.args.bytes.now f c.batches-test.false

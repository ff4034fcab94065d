use Rattle.std.proofs.Common.{[], ap, arith, drop, length, length-drop, subst, sym, take, ◌++◌, ◌-◌, ◌∙◌, ◌∷◌}
use Rattle.std.specs.List.{AllByRecursion}
use Rattle.std.proofs.lemmas.List.{take_all}
use Rattle.mar_journal.specs.Format.{body}
use Rattle.mar_journal.proofs.Spelling.{few_more, whole_batch}
use Rattle.mar_journal.proofs.Bodies.{all_valid, none_first, none_from, nothing, one_more, some_from, too_many}
use Rattle.mar_journal.proofs.file.read_body.Goals as goal

pub returns-then-len-eq-MAX_BATCH : goal.returns-then-len-eq-MAX_BATCH
returns-then-len-eq-MAX_BATCH g c =
    too_many g.R.Record.spelled g.R.Record.valid g.met.R.Record.one g.met.R.Record.some c.records.records.items c.records.rest.now c.args.bytes.now c.records.invariant.valid c.records.invariant.read
    (omega (arith, c.records.records.ok.0, c.len.ensures, c.if-len-eq-MAX_BATCH.true))
    (some_from _ c.records-test.ensures)

pub returns-in-None : goal.returns-in-None
returns-in-None g c =
    none_first g.R.Record.spelled g.R.Record.valid g.met.R.Record.one g.met.R.Record.some c.records.records.items c.records.rest.now c.args.bytes.now c.records.invariant.valid c.records.invariant.read (some_from _ c.records-test.ensures)
    (rw c.in-None.is at c.in_ok-read.ensures)

pub returns-then-is_empty : goal.returns-then-is_empty
returns-then-is_empty g c =
    nothing g.R.Record.spelled g.R.Record.valid g.met.R.Record.one g.met.R.Record.some c.records.records.items c.records.rest.now c.args.bytes.now c.records.invariant.read
    (omega (arith, c.records.records.ok.0, none_from _ c.if-is_empty.ensures))
    (none_from _ c.records-test.ensures)

pub records-preserved : goal.records-preserved
records-preserved g c =
    let first = rw c.in-Some.is at c.in_ok-read.ensures in
    record {
      read = ap (λ l. body g.R.Record.spelled l ++ take (length c.records.rest.now - c.in-Some.size) (drop c.in-Some.size c.records.rest.now)) c.in_ok-push-in-Some.ensures.items
          ∙ ap (λ l. body g.R.Record.spelled (c.records.records.items ++ c.in-Some.record ∷ []) ++ l) (take_all (length c.records.rest.now - c.in-Some.size) (drop c.in-Some.size c.records.rest.now) (omega (arith, length-drop c.in-Some.size c.records.rest.now)))
          ∙ one_more g.R.Record.spelled g.R.Record.valid g.met.R.Record.one g.met.R.Record.some c.records.records.items c.records.rest.now c.args.bytes.now c.in-Some.record c.in-Some.size c.records.invariant.read first;
      few = few_more c.records.records.items c.push.new.self.items c.in-Some.record c.len.result c.in_ok-push-in-Some.ensures.items (c.len.ensures ∙ c.records.records.ok.0) c.if-len-eq-MAX_BATCH.false c.records.invariant.few;
      valid = subst (AllByRecursion g.R.Record.valid) (sym c.in_ok-push-in-Some.ensures.items) (all_valid g.R.Record.spelled g.R.Record.valid g.met.R.Record.one g.met.R.Record.some c.records.records.items c.in-Some.record c.records.invariant.valid first.valid);
    }

pub returns : goal.returns
returns g c =
    whole_batch g.R.Record.spelled g.R.Record.valid c.records.records.items c.records.rest.now c.args.bytes.now c.records.invariant.valid c.records.invariant.read (none_from _ c.records-test.ensures)
    (omega (arith, c.records.records.ok.0, some_from _ c.if-is_empty.ensures)) c.records.invariant.few c.requires

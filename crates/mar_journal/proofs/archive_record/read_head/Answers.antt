use Rattle.std.proofs.lemmas.List.{take_rest}
use Rattle.mar_journal.proofs.Heads.{head_first, no_key, no_size}
use Rattle.mar_journal.proofs.archive_record.read_head.Goals as goal

pub returns-then-bytes-key : goal.returns-then-bytes-key
returns-then-bytes-key c = no_key c.args.key_size c.in_ok-index.index c.in_ok-index.key c.args.bytes.now c.in_ok-index.ensures c.if-bytes-key.true

pub returns-in_err-size : goal.returns-in_err-size
returns-in_err-size c =
    let none = c.in_err-size.ensures in
    rw c.from_residual-in_err-size.ensures (no_size c.args.key_size c.in_ok-index.index c.in_ok-index.key c.args.bytes.now c.in_ok-index.ensures (rw take_rest at none))

pub returns : goal.returns
returns c =
    let second = c.in_ok-size.ensures in
    head_first c.args.key_size c.in_ok-index.index c.in_ok-index.key c.in_ok-size.size c.in_ok-size.more c.args.bytes.now c.in_ok-index.ensures c.if-bytes-key.false (rw take_rest at second)

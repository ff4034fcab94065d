use Rattle.std.proofs.Common.{ap, rules, ◌≡◌}
use Rattle.mar_script.specs.Lines.{plain_block, plain_line, row}
use Rattle.mar_script.specs.declared.line.Kind.TheVariants as kind
use Rattle.mar_script.specs.declared.line.Line.TheVariants as line
use Rattle.mar_script.proofs.Rows.{made_by, reads, told_line}
use Rattle.mar_script.proofs.line.parse_kind.Goals as goal

pub returns-in-Open : goal.returns-in-Open
returns-in-Open c = rw c.in-Open.is (c.open.ensures c.args.members)

pub returns-in-Buffer : goal.returns-in-Buffer
returns-in-Buffer c = rw c.in-Buffer.is (made_by (row kind.Buffer) plain_block (reads (λ b is. (is, tt)) (λ b are. are.0) c.block_of.ensures.is_block c.block_of.ensures.found c.block_of.ensures.only) c.map.ensures.cases (λ x y is. let same : y ≡ line.Buffer x = search rules in ap plain_line same))

pub returns-in-Tell : goal.returns-in-Tell
returns-in-Tell c = rw c.in-Tell.is (told_line c.in-Tell.kind c.parse_message.ensures c.map-in-Tell.ensures.cases (λ m l is. search rules))

pub returns-in-Sync : goal.returns-in-Sync
returns-in-Sync c = rw c.in-Sync.is (made_by (row kind.Sync) (λ n. n) (reads (λ n is. (is, tt)) (λ n are. are.0) c.number.ensures.fits c.number.ensures.found c.number.ensures.only) c.map-in-Sync.ensures.cases (λ x y is. ap plain_line is))

pub returns-in-Ack : goal.returns-in-Ack
returns-in-Ack c = rw c.in-Ack.is (made_by (row kind.Ack) (λ n. n) (reads (λ n is. (is, tt)) (λ n are. are.0) c.number-in-Ack.ensures.fits c.number-in-Ack.ensures.found c.number-in-Ack.ensures.only) c.map-in-Ack.ensures.cases (λ x y is. ap plain_line is))

pub returns-in-Drop : goal.returns-in-Drop
returns-in-Drop c = rw c.in-Drop.is (made_by (row kind.Drop) (λ n. n) (reads (λ n is. (is, tt)) (λ n are. are.0) c.number-in-Drop.ensures.fits c.number-in-Drop.ensures.found c.number-in-Drop.ensures.only) c.map-in-Drop.ensures.cases (λ x y is. ap plain_line is))

pub returns-in-Fail : goal.returns-in-Fail
returns-in-Fail c = rw c.in-Fail.is (c.fail.ensures c.args.members)

pub returns-in-Crash : goal.returns-in-Crash
returns-in-Crash c = rw c.in-Crash.is (made_by (row kind.Crash) (λ n. n) (reads (λ n is. (is, tt)) (λ n are. are.0) c.number-in-Crash.ensures.fits c.number-in-Crash.ensures.found c.number-in-Crash.ensures.only) c.map-in-Crash.ensures.cases (λ x y is. ap plain_line is))

use Rattle.std.proofs.Common.{ap, arith, bytes_eq, drop, false, sym, take, true, ◌+◌, ◌-◌, ◌∙◌, ◌≡◌}
use Rattle.std.proofs.lemmas.Slice.Eq.{bytes_eq-Decides}
use Rattle.mar_journal.proofs.Heads.{no_name, no_room, no_value, put_first}
use Rattle.mar_journal.proofs.archive_record.read_put.Goals as goal

pub returns-then-head-room : goal.returns-then-head-room
returns-then-head-room g c = no_room g.T.Item.name g.T.JournalItem.spelled g.T.Item.fits 32 g.met.T.JournalItem.keyed g.met.T.JournalItem.one c.in-Some.head.index c.in-Some.head.key c.in-Some.head.size c.in-Some.head.at c.args.bytes.now c.in-Some.ensures (omega (arith, c.if-head-room.true))

pub returns-in-None-2 : goal.returns-in-None-2
returns-in-None-2 g c =
    let same : c.in-Some.head.at + c.in-Some.head.size - c.in-Some.head.at ≡ c.in-Some.head.size = omega arith in
    let none = rw c.in-None-2.is at c.in_ok-item.ensures in
    no_value g.T.Item.name g.T.JournalItem.spelled g.T.Item.fits 32 g.met.T.JournalItem.keyed g.met.T.JournalItem.one c.in-Some.head.index c.in-Some.head.key c.in-Some.head.size c.in-Some.head.at c.args.bytes.now c.in-Some.ensures (rw same at none)

pub returns-then-not-is_key : goal.returns-then-not-is_key
returns-then-not-is_key g c =
    let same : c.in-Some.head.at + c.in-Some.head.size - c.in-Some.head.at ≡ c.in-Some.head.size = omega arith in
    let key_same : c.in-Some.head.key + 32 - c.in-Some.head.key ≡ 32 = omega arith in
    let found = rw c.in-Some-2.is at c.in_ok-item.ensures in
    let is : g.T.JournalItem.spelled c.in-Some-2.item ≡ take c.in-Some.head.size (drop c.in-Some.head.at c.args.bytes.now) = found.1 ∙ ap (λ n. take n (drop c.in-Some.head.at c.args.bytes.now)) same in
    let differs : bytes_eq (g.T.Item.name c.in-Some-2.item) (take 32 (drop c.in-Some.head.key c.args.bytes.now)) ≡ false = ap (λ n. bytes_eq n (take 32 (drop c.in-Some.head.key c.args.bytes.now))) (sym c.key.ensures) ∙ ap (λ n. bytes_eq (g.T.Key.Named.bytes c.key.result) (take n (drop c.in-Some.head.key c.args.bytes.now))) (sym key_same) ∙ sym c.is_key.ensures ∙ c.if-not-is_key.true in
    no_name g.T.Item.name g.T.JournalItem.spelled g.T.Item.fits 32 g.met.T.JournalItem.keyed g.met.T.JournalItem.one c.in-Some.head.index c.in-Some.head.key c.in-Some.head.size c.in-Some.head.at c.args.bytes.now c.in-Some.ensures c.in-Some-2.item found.0 is differs

pub returns : goal.returns
returns g c =
    let same : c.in-Some.head.at + c.in-Some.head.size - c.in-Some.head.at ≡ c.in-Some.head.size = omega arith in
    let key_same : c.in-Some.head.key + 32 - c.in-Some.head.key ≡ 32 = omega arith in
    let found = rw c.in-Some-2.is at c.in_ok-item.ensures in
    let is : g.T.JournalItem.spelled c.in-Some-2.item ≡ take c.in-Some.head.size (drop c.in-Some.head.at c.args.bytes.now) = found.1 ∙ ap (λ n. take n (drop c.in-Some.head.at c.args.bytes.now)) same in
    let equal : bytes_eq (g.T.Item.name c.in-Some-2.item) (take 32 (drop c.in-Some.head.key c.args.bytes.now)) ≡ true = ap (λ n. bytes_eq n (take 32 (drop c.in-Some.head.key c.args.bytes.now))) (sym c.key.ensures) ∙ ap (λ n. bytes_eq (g.T.Key.Named.bytes c.key.result) (take n (drop c.in-Some.head.key c.args.bytes.now))) (sym key_same) ∙ sym c.is_key.ensures ∙ c.if-not-is_key.false in
    put_first g.T.Item.name g.T.JournalItem.spelled g.T.Item.fits 32 g.met.T.JournalItem.keyed g.met.T.JournalItem.one c.in-Some.head.index c.in-Some.head.key c.in-Some.head.size c.in-Some.head.at c.args.bytes.now c.in-Some.ensures c.in-Some-2.item found.0 is ((bytes_eq-Decides _ _).0 equal) (omega (arith, c.if-head-room.false))

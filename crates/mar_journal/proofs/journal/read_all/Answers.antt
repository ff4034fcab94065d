use Rattle.std.proofs.Common.{ap, arith, drop, length, length-append, sym, take, ◌∙◌, ◌≡◌, ◌<◌}
use Rattle.mar_journal.proofs.Bodies.{OnePiece, one_piece}
use Rattle.mar_journal.proofs.Moments.{goes_on}
use Rattle.mar_journal.proofs.journal.read_all.Goals as goal

pub pieces-smaller : goal.pieces-smaller
pieces-smaller g c =
    let i = c.pieces.invariant in
    let piece_is : c.deref.result.now ≡ take 65536 (drop (length c.pieces.bytes.items) (g.D.Disk.seen c.args.disk.now)) =
    c.deref.ensures.value ∙ c.in_ok-piece.ensures.bytes ∙ ap (λ n. take 65536 (drop n (g.D.Disk.seen c.pieces.disk))) (c.len-in-pieces-2.ensures ∙ c.pieces.bytes.ok.0) ∙ ap (λ l. take 65536 (drop (length c.pieces.bytes.items) l)) i.same in
    let more : length c.pieces.bytes.items < length (g.D.Disk.seen c.args.disk.now) = omega (arith, c.pieces-test.true, c.len-in-pieces.ensures, c.pieces.bytes.ok.0, i.size) in
    let one : OnePiece c.pieces.bytes.items c.deref.result.now (g.D.Disk.seen c.args.disk.now) = one_piece (g.D.Disk.seen c.args.disk.now) c.pieces.bytes.items c.deref.result.now 65536 i.bytes more (omega arith) piece_is in
    omega (arith, one.some, i.size, more, ap length c.in-Ok.ensures.items, length-append c.pieces.bytes.items c.deref.result.now)

pub pieces-preserved : goal.pieces-preserved
pieces-preserved g c =
    let i = c.pieces.invariant in
    let piece_is : c.deref.result.now ≡ take 65536 (drop (length c.pieces.bytes.items) (g.D.Disk.seen c.args.disk.now)) =
    c.deref.ensures.value ∙ c.in_ok-piece.ensures.bytes ∙ ap (λ n. take 65536 (drop n (g.D.Disk.seen c.pieces.disk))) (c.len-in-pieces-2.ensures ∙ c.pieces.bytes.ok.0) ∙ ap (λ l. take 65536 (drop (length c.pieces.bytes.items) l)) i.same in
    let more : length c.pieces.bytes.items < length (g.D.Disk.seen c.args.disk.now) = omega (arith, c.pieces-test.true, c.len-in-pieces.ensures, c.pieces.bytes.ok.0, i.size) in
    let one : OnePiece c.pieces.bytes.items c.deref.result.now (g.D.Disk.seen c.args.disk.now) = one_piece (g.D.Disk.seen c.args.disk.now) c.pieces.bytes.items c.deref.result.now 65536 i.bytes more (omega arith) piece_is in
    let new = c.in-Ok.ensures.items in
    record {
      size = i.size;
      within = omega (arith, i.size, one.within, ap length new);
      bytes = new ∙ one.read ∙ ap (λ l. take (length l) (g.D.Disk.seen c.args.disk.now)) (sym new);
      same = c.read.ensures.same ∙ i.same;
      crash = λ x left. i.crash x (c.read.ensures.crash x left);
      any_moment = goes_on g.D.Disk.moment g.D.Disk.left_since c.args.disk.now c.pieces.disk c.read.new.self (g.D.Disk.may_leave c.args.disk.now) (g.D.Disk.may_leave c.read.new.self) i.any_moment c.read.ensures.time (λ x left. i.crash x (c.read.ensures.crash x left));
      calm = c.in_ok-piece.ensures.cause.calm ∙ i.calm;
    }

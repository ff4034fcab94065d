use Rattle.std.proofs.Common.{rules, ◌≡◌, ◌-◌, ◌<◌, arith, min, sym}
use Rattle.mar_types.proofs.TableSteps.{none_at, some_at}
use Rattle.mar_types.proofs.table_epocher.TableEpocher.bounds.Goals as goal

pub returns-in_err-past : goal.returns-in_err-past
returns-in_err-past c =
    let e = c.args.self.now in
    let place : c.min-place.result ≡ min c.get-number.result (e.count - 1) = search rules in
    let some : 0 < c.from-length.result = search rules in
    rw (c.from_residual.ensures, sym c.get-number.ensures.value)
    (none_at _ _ e.some e.held _ _ _ place c.from-length.ensures some (λ less. c.in_err-past.ensures (omega (arith, less))))

pub returns-in_err-first : goal.returns-in_err-first
returns-in_err-first c =
    let e = c.args.self.now in
    let place : c.min-place.result ≡ min c.get-number.result (e.count - 1) = search rules in
    let some : 0 < c.from-length.result = search rules in
    rw (c.from_residual-in_err-first.ensures, sym c.get-number.ensures.value)
    (none_at _ _ e.some e.held _ _ _ place c.from-length.ensures some
    (λ less. c.in_err-first.ensures (omega (arith, less, c.start.ensures.start, c.in_ok-past.ensures))))

pub returns-in_err-last : goal.returns-in_err-last
returns-in_err-last c =
    let e = c.args.self.now in
    let place : c.min-place.result ≡ min c.get-number.result (e.count - 1) = search rules in
    let some : 0 < c.from-length.result = search rules in
    rw (c.from_residual-in_err-last.ensures, sym c.get-number.ensures.value)
    (none_at _ _ e.some e.held _ _ _ place c.from-length.ensures some
    (λ less. c.in_err-last.ensures (omega (arith, less, c.start.ensures.start, c.in_ok-past.ensures, c.in_ok-first.ensures))))

pub returns : goal.returns
returns c =
    let e = c.args.self.now in
    let place : c.min-place.result ≡ min c.get-number.result (e.count - 1) = search rules in
    let some : 0 < c.from-length.result = search rules in
    let ends = c.in_ok-last.ensures in
    rw (c.new.ensures, c.new-2.ensures, sym c.get-number.ensures.value)
    (some_at _ _ e.some e.held _ _ _ place c.from-length.ensures some _ _
    (omega (arith, c.start.ensures.start, c.in_ok-past.ensures, c.in_ok-first.ensures)) ends.1 (omega (arith, ends.0, ends.1)))

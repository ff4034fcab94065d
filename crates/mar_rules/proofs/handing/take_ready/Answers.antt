use Rattle.std.proofs.Common.{ap}
use Rattle.mar_rules.proofs.Taken.{barred, missing, taken}
use Rattle.mar_rules.proofs.handing.take_ready.Goals as goal

pub returns-then-is_barred-clause-unready : goal.returns-then-is_barred-clause-unready
returns-then-is_barred-clause-unready g c = barred (g.S.HoldsCache.held c.args.stores.now) c.args.height _ (ap (λ w. w.uncovered) c.writes.ensures) (c.is_barred.ensures.barred c.if-is_barred.true)

pub returns : goal.returns
returns g c =
    let held = g.S.HoldsCache.held c.args.stores.now in
    record {
      same = c.take_block.ensures.same;
      ready = taken held c.args.height _ (ap (λ w. w.uncovered) c.writes.ensures) g.V.Variant.plain (c.is_barred.ensures.free c.if-is_barred.false) c.take_block.result c.take_block.ensures.found c.take_block.ensures.own;
      unready = missing g.V.Variant.plain held c.args.height c.take_block.result c.take_block.ensures.found;
      goes_on = c.take_block.ensures.goes_on;
      archive = c.take_block.ensures.archive;
    }

use Rattle.std.proofs.Common.{ap}
use Rattle.std.specs.Prelude.{take}
use Rattle.mar_store.proofs.Tails.{missing_tail}
use Rattle.mar_store.proofs.gaps.missing_items.Goals as goal

pub returns : goal.returns
returns c =
    rw (← ap (take c.args.max) (missing_tail 0 c.args.start _ c.requires), ← c.ranges_from.ensures) c.missing_below.ensures

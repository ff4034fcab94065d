use Rattle.mar_store.proofs.SpanMembers.{in_ranges-heights}
use Rattle.mar_life.proofs.blocks.Blocks.holds.Goals as goal

pub returns : goal.returns
returns g c = rw (c.contains.ensures, c.held_ranges.ensures, c.get.ensures.value) (in_ranges-heights (g.Self.Keeps.stored c.args.self.now).held c.args.height)

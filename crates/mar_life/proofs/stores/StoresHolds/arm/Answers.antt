use Rattle.mar_life.specs.Pooling.{of_blocks, of_certs}
use Rattle.mar_life.proofs.Placed.{held_read, waits_read}
use Rattle.mar_life.proofs.stores.StoresHolds.arm.Goals as goal

pub invariant_of-self : goal.invariant_of-self
invariant_of-self g c = (waits_read g.FB.Keeps.stored g.FB.Keeps.number g.FB.Keeps.covers of_blocks g.FB.Wreck.ArchiveRuin.left _ _ c.self.inside.writes c.arm.ensures.read c.self.invariant.0, held_read g.V.Variant.plain g.FB.Keeps.stored g.FB.Keeps.number g.FB.Keeps.covers g.FB.Wreck.ArchiveRuin.left _ _ c.self.inside.staged.blocks c.arm.ensures.read c.self.invariant.1, c.self.invariant.2, c.self.invariant.3)

pub invariant_of-self-in-Certs : goal.invariant_of-self-in-Certs
invariant_of-self-in-Certs g c = (c.self.invariant.0, c.self.invariant.1, waits_read g.FC.Keeps.stored g.FC.Keeps.number g.FC.Keeps.covers of_certs g.FC.Wreck.ArchiveRuin.left _ _ c.self.inside.writes c.arm-in-Certs.ensures.read c.self.invariant.2, c.self.invariant.3)

use Rattle.std.proofs.Common.{refl, sym, ◌∙◌}
use Rattle.mar_parts.specs.Views.{outstanding_of}
use Rattle.mar_parts.proofs.Entries.{newest}
use Rattle.mar_parts.proofs.acks.PendingAcks.next_dispatch_height.Goals as goal

pub next-requires : goal.next-requires
next-requires c =
    (newest outstanding_of c.args.start c.self.inside.entries.items c.in-Some.newest.now c.self.invariant.2 _ c.self.inside.entries.ok.0 (c.in-Some.ensures.variant.0 refl) c.in-Some.ensures.lookup).0

pub returns-in-Some : goal.returns-in-Some
returns-in-Some c =
    rw (← c.self.view_is) (c.next.ensures ∙ sym (newest outstanding_of c.args.start c.self.inside.entries.items c.in-Some.newest.now c.self.invariant.2 _ c.self.inside.entries.ok.0 (c.in-Some.ensures.variant.0 refl) c.in-Some.ensures.lookup).1)

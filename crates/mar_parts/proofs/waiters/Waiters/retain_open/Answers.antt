use Rattle.mar_parts.specs.WaitViews.{name_of, wait_of}
use Rattle.mar_parts.proofs.ByName.{named}
use Rattle.mar_parts.proofs.waiters.Waiters.retain_open.Goals as goal

pub returns : goal.returns
returns g c =
    rw (← c.self.view_is) (λ other. rw (named g.K.Named.bytes g.K.Ord.cmp (wait_of (name_of g.K.Named.bytes)) g.met.K.Digest.ordered other c.retain_waiting.new.waits.entries, named g.K.Named.bytes g.K.Ord.cmp (wait_of (name_of g.K.Named.bytes)) g.met.K.Digest.ordered other c.self.inside.waits.entries)
    (c.retain_waiting.ensures (name_of g.K.Named.bytes) other))

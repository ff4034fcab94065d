use Rattle.std.proofs.Common.{◌≡◌, subst, sym, true}
use Rattle.mar_actor.proofs.node.Node.law.Goals as goal

pub returns : goal.returns
returns g c =
    let intact : (g.S.HoldsCache.held c.deref.result.now).intact ≡ true = subst (λ s. (g.S.HoldsCache.held s).intact ≡ true) (sym c.deref.ensures) c.self.invariant.0 in
    rw (← c.self.view_is, ← c.deref.ensures) (record { blocks = c.law.ensures.blocks intact; certs = c.law.ensures.certs intact; small = c.law.ensures.small intact; small_cached = c.law.ensures.small_cached intact; written = c.law.ensures.written intact; cached = c.law.ensures.cached intact; lawful = c.law.ensures.lawful intact })

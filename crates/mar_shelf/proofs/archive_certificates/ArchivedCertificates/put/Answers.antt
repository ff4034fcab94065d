use Rattle.mar_shelf.proofs.Archives.{puts_finalization}
use Rattle.mar_shelf.proofs.archive_certificates.ArchivedCertificates.put.Goals as goal

pub returns-in-Ok-clause-done : goal.returns-in-Ok-clause-done
returns-in-Ok-clause-done g c =
    rw (← c.self.view_is, c.wrapped.ensures) (puts_finalization g.V.Variant.inner g.A.Archive.stored g.A.Wreck.ArchiveRuin.left (g.A.Archive.stored c.self.inside.archive) (g.F.AsFinalization.plain c.args.finalization.now) _ c.args.height (g.V.Digest.Named.bytes c.args._digest.now) c.put.result c.in-Ok.ensures c.requires.named (rw c.get.ensures.value at c.put.ensures.done))

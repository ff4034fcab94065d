use Rattle.mar_shelf.proofs.archive_keeps.ArchivedKeeps.prune.Goals as goal

pub returns-clause-covers : goal.returns-clause-covers
returns-clause-covers g c = rw (← c.self.view_is, c.wrapped.ensures) (rw c.get.ensures.value at c.prune.ensures.covers)

use Rattle.std.proofs.Common.{ap}
use Rattle.mar_store.proofs.Settled.{fails_same}
use Rattle.mar_store.proofs.mem_archive.MemArchiveArchive.put.Goals as goal

pub returns-then-rings-clause-unchanged : goal.returns-then-rings-clause-unchanged
returns-then-rings-clause-unchanged g c = λ taken. let same = c.put_in_part-pile.ensures.ignored taken in fails_same _ _ _ _ (ap (λ p. p.items.items) same) (ap (λ p. p.synced) same)

use Rattle.std.proofs.Common.{sym}
use Rattle.mar_repair.proofs.newest.certified_alone.Goals as goal

pub certificate_alone-requires : goal.certificate_alone-requires
certificate_alone-requires g c = record { alone = rw c.in-Some.is at c.height_alone.ensures.found }

pub returns-in-None-clause-found : goal.returns-in-None-clause-found
returns-in-None-clause-found g c = sym (rw c.in-None.is at c.height_alone.ensures.none)

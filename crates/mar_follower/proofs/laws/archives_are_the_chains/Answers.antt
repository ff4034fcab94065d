use Rattle.std.proofs.Common.{None}
use Rattle.mar_follower.proofs.ArchiveLaws.{archive_falls, passed_are_the_chains}
use Rattle.mar_follower.proofs.OneReading.{not_both, one_archive, one_refusal}
use Rattle.mar_follower.proofs.laws.archives_are_the_chains.Goals as goal

pub returns-clause-chains : goal.returns-clause-chains
returns-clause-chains c = λ committee bytes segments archive. passed_are_the_chains committee None segments archive.passed

pub returns-clause-falling : goal.returns-clause-falling
returns-clause-falling c = λ committee bytes segments archive. archive_falls committee None segments archive.passed

pub returns-clause-one : goal.returns-clause-one
returns-clause-one c = one_archive

pub returns-clause-unrefused : goal.returns-clause-unrefused
returns-clause-unrefused c = not_both

pub returns-clause-one_reason : goal.returns-clause-one_reason
returns-clause-one_reason c = one_refusal

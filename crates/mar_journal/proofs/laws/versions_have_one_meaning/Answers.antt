use Rattle.mar_journal.proofs.Frames.{first_is_version, second_is_version}
use Rattle.mar_journal.proofs.Framings.{one_damage, stands_one, stands_whole}
use Rattle.mar_journal.proofs.laws.versions_have_one_meaning.Goals as goal

pub returns-clause-one : goal.returns-clause-one
returns-clause-one g c = λ version rs ss file law. stands_one g.R.Record.spelled g.R.Record.valid g.met.R.Record.one g.met.R.Record.some version law rs ss file

pub returns-clause-whole : goal.returns-clause-whole
returns-clause-whole g c = λ version rs at file law. stands_whole g.R.Record.spelled g.R.Record.valid g.met.R.Record.one g.met.R.Record.some version law rs at file

pub returns-clause-place : goal.returns-clause-place
returns-clause-place g c = λ version at other file law. one_damage g.R.Record.spelled g.R.Record.valid g.met.R.Record.one g.met.R.Record.some version law at other file

pub returns-clause-first : goal.returns-clause-first
returns-clause-first g c = first_is_version

pub returns-clause-second : goal.returns-clause-second
returns-clause-second g c = second_is_version

use Rattle.mar_journal.proofs.Frames.{one_damage, stands_one, stands_whole}
use Rattle.mar_journal.proofs.laws.files_have_one_meaning.Goals as goal

pub returns-clause-one : goal.returns-clause-one
returns-clause-one g c = stands_one g.R.Record.spelled g.R.Record.valid g.met.R.Record.one g.met.R.Record.some

pub returns-clause-whole : goal.returns-clause-whole
returns-clause-whole g c = stands_whole g.R.Record.spelled g.R.Record.valid g.met.R.Record.one g.met.R.Record.some

pub returns-clause-place : goal.returns-clause-place
returns-clause-place g c = one_damage g.R.Record.spelled g.R.Record.valid g.met.R.Record.one g.met.R.Record.some

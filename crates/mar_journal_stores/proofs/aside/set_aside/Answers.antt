use Rattle.mar_journal_stores.proofs.Results.{any_ok, kept, made}
use Rattle.mar_journal_stores.proofs.aside.set_aside.Goals as goal

pub returns-clause-waiting : goal.returns-clause-waiting
returns-clause-waiting g c = any_ok c.append.result c.in_ok-add.ensures.waiting

pub returns-clause-marks : goal.returns-clause-marks
returns-clause-marks g c = any_ok c.append.result c.in_ok-add.ensures.marks

pub returns-clause-gone : goal.returns-clause-gone
returns-clause-gone g c = made c.append.result _ _ _ c.append.ensures.items

pub returns-clause-still : goal.returns-clause-still
returns-clause-still g c = kept c.append.result _ _ _ c.append.ensures.items

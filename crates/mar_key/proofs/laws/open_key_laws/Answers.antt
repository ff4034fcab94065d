use Rattle.mar_key.proofs.OpenLists.{none_open, open_list_kept, open_where_asked}
use Rattle.mar_key.proofs.laws.open_key_laws.Goals as goal

pub returns-clause-none : goal.returns-clause-none
returns-clause-none c = none_open

pub returns-clause-kept : goal.returns-clause-kept
returns-clause-kept c = open_list_kept

pub returns-clause-told : goal.returns-clause-told
returns-clause-told c = open_where_asked

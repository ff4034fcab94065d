use Rattle.mar_store.proofs.GapHeights.{end_none, end_some, start_none, start_some}
use Rattle.mar_store.proofs.MissingHeights.{missing_all, missing_ascend, missing_only}
use Rattle.mar_store.proofs.gaps.gap_laws.Goals as goal

pub returns-clause-ascending : goal.returns-clause-ascending
returns-clause-ascending c = missing_ascend

pub returns-clause-only : goal.returns-clause-only
returns-clause-only c = missing_only

pub returns-clause-all : goal.returns-clause-all
returns-clause-all c = missing_all

pub returns-clause-end : goal.returns-clause-end
returns-clause-end c = end_some

pub returns-clause-no_end : goal.returns-clause-no_end
returns-clause-no_end c = end_none

pub returns-clause-next : goal.returns-clause-next
returns-clause-next c = start_some

pub returns-clause-no_next : goal.returns-clause-no_next
returns-clause-no_next c = start_none

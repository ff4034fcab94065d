use Rattle.mar_journal_stores.proofs.Asides.{aside_parted}
use Rattle.mar_journal_stores.proofs.laws.tickets_let_go_what_was_pruned_before.Goals as goal

pub returns : goal.returns
returns g c = aside_parted

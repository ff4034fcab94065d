use Rattle.std.proofs.Common.{nat_lt, rules}
use Rattle.std.proofs.lemmas.Fn.{filter_same}
use Rattle.mar_journal_stores.proofs.aside.drop_upto.Goals as goal

pub returns : goal.returns
returns g c = filter_same _ (λ e. nat_lt c.args.number e.number) _ (λ x b f k. search rules) _ _ c.retain.ensures.filtered

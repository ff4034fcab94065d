use Rattle.std.proofs.Common.{rules, ◌≡◌}
use Rattle.std.proofs.lemmas.Fn.{filter_same}
use Rattle.std.specs.List.{list_any}
use Rattle.std.specs.Prelude.{length, nat_lt, not, ◌==◌}
use Rattle.mar_parts.proofs.waiters.retain_open.Goals as goal

pub returns-clause-tickets : goal.returns-clause-tickets
returns-clause-tickets c = filter_same _ (λ t. not (list_any (λ x. x == t) c.args.closed.now)) _ (λ x b f' k. search rules) _ _ c.retain.ensures.filtered

pub returns-clause-left : goal.returns-clause-left
returns-clause-left c =
    let left : not c.is_empty.result ≡ nat_lt 0 (length c.retain.new.self.items) = search rules in
    rw (returns-clause-tickets c) at left

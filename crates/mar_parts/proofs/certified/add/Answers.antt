use Rattle.std.proofs.Common.{ap, rules, sym, ◌∙◌, ◌≡◌}
use Rattle.mar_parts.specs.Certified.{by_height}
use Rattle.mar_parts.proofs.Known.{on_err, written_back}
use Rattle.mar_parts.proofs.certified.add.Goals as goal

pub returns-in_err-push-clause-err : goal.returns-in_err-push-clause-err
returns-in_err-push-clause-err g c =
    let same : c.push.new.self.items ≡ c.in-Some.known.now.items = search rules in
    on_err c.from_residual.result (ap by_height (c.get_mut.follows.holds c.push.new.self).0 ∙ written_back _ _ c.in-Some.known.now c.push.new.self (sym c.in-Some.ensures.value) same)

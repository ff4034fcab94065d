use Rattle.std.proofs.Common.{false, rules, ◌≡◌}
use Rattle.std.proofs.lemmas.Result.{on_ok_weaker}
use Rattle.std.specs.Prelude.{nat_lt}
use Rattle.mar_parts.proofs.Known.{known_more}
use Rattle.mar_parts.proofs.certified.Certified.insert.Goals as goal

pub returns-clause-known : goal.returns-clause-known
returns-clause-known g c =
    let kept : nat_lt c.args.height c.self.inside.min ≡ false = search rules in
    rw (← c.self.view_is) (on_ok_weaker c.add.result (known_more g.C.Named.bytes c.self.inside.commitments c.add.new.commitments c.self.inside.min c.self.inside.min c.args.height (g.C.Named.bytes c.args.commitment) kept) (rw c.get.ensures.value at c.add.ensures.ok))

use Rattle.std.proofs.Common.{◌≡◌, ◌/◌, rules, sym, Some, None}
use Rattle.mar_types.specs.Epochs.{fixed_epochs}
use Rattle.mar_types.proofs.Partitions.{fixed_found, fixed_not_found}
use Rattle.mar_types.proofs.epochers.FixedEpocherEpocher.containing.Goals as goal

pub returns-in_err-first-clause-epoch : goal.returns-in_err-first-clause-epoch
returns-in_err-first-clause-epoch c =
    let quotient : c.new-epoch.result ≡ c.args.height / c.args.self.now.length = search rules in
    let gone : fixed_epochs c.args.self.now.length c.new-epoch.result ≡ None = sym c.in_err-first.ensures in
    rw c.from_residual.ensures (sym (fixed_not_found _ _ c.args.self.now.long (rw quotient at gone)))

pub returns-clause-epoch : goal.returns-clause-epoch
returns-clause-epoch c =
    let quotient : c.new-epoch.result ≡ c.args.height / c.args.self.now.length = search rules in
    let there : fixed_epochs c.args.self.now.length c.new-epoch.result ≡ Some (record { first = c.in_ok-first.first; last = c.in_ok-first.last }) = sym c.in_ok-first.ensures in
    rw (c.new.ensures, quotient) (sym (fixed_found _ _ _ c.args.self.now.long c.args.self.now.fits (rw quotient at there)))

use Rattle.std.proofs.Common.{◌≡◌, ◌*◌, ◌^◌, ◌≤◌, take}
use Rattle.mar_types.specs.Tables.{first_of, table_size}
use Rattle.mar_types.proofs.table_epocher.TableEpocher.start.Given as goal

abbrev pub invariant-lengths : goal.invariant-lengths
invariant-lengths l = (l.start ≡ first_of (table_size (take l.self.count l.self.lengths)) l.earlier) × (l.start ≤ l.earlier * 2 ^ 32)

-- The lengths that an epocher keeps.
use Rattle.std.specs.Prelude.{List, take, ℕ}
use Rattle.mar_types.specs.declared.table_epocher.TableEpocher.{TableEpocher}

abbrev pub lengths_of : TableEpocher → List ℕ
lengths_of e = take e.count e.lengths

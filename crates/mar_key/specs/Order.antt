-- Cutoffs by the numbers that they are compared by: the epoch, whether all of it is covered, the view.
use Rattle.std.specs.Prelude.{ℕ}
use Rattle.std.specs.Ordering.{nat_cmp, on, then_cmp}
use Rattle.std.specs.declared.cmp.Ordering.{Ordering}
use Rattle.mar_key.specs.declared.cutoffs.Cutoff.{Cutoff}
use Rattle.mar_key.specs.declared.cutoffs.Cutoff.TheVariants.{Round, Epoch}

abbrev pub epoch_in : Cutoff → ℕ
epoch_in (Round r) = r.epoch
epoch_in (Epoch e) = e

-- 0 at a round, 1 at a whole epoch
abbrev pub kind_in : Cutoff → ℕ
kind_in (Round r) = 0
kind_in (Epoch e) = 1

abbrev pub view_in : Cutoff → ℕ
view_in (Round r) = r.view
view_in (Epoch e) = 0

abbrev pub cutoff_cmp : Cutoff → Cutoff → Ordering
cutoff_cmp = then_cmp (on epoch_in nat_cmp) (then_cmp (on kind_in nat_cmp) (on view_in nat_cmp))

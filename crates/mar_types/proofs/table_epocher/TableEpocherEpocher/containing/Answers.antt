use Rattle.std.proofs.Common.{sym}
use Rattle.mar_types.specs.Epochs.{IsPartition}
use Rattle.mar_types.specs.TableLemmas.{kept_partition}
use Rattle.mar_types.specs.TableEpochs.{lengths_of}
use Rattle.mar_types.specs.Tables.{table_epochs}
use Rattle.mar_types.proofs.TableSteps.{stands_in, stands_out}
use Rattle.mar_types.proofs.table_epocher.TableEpocherEpocher.containing.Goals as goal

pub returns-in_err-first-clause-epoch : goal.returns-in_err-first-clause-epoch
returns-in_err-first-clause-epoch c =
    let e = c.args.self.now in
    let partition : IsPartition (table_epochs (lengths_of e)) = kept_partition e.lengths e.count e.some e.held e.long e.fits e.positive in
    rw c.from_residual.ensures (sym (stands_out _ partition _ _ c.epoch_at-epoch.ensures.begun c.epoch_at-epoch.ensures.goes_on (sym c.in_err-first.ensures)))

pub returns-clause-epoch : goal.returns-clause-epoch
returns-clause-epoch c =
    let e = c.args.self.now in
    let partition : IsPartition (table_epochs (lengths_of e)) = kept_partition e.lengths e.count e.some e.held e.long e.fits e.positive in
    rw c.new.ensures (sym (stands_in _ partition _ _ c.epoch_at-epoch.ensures.begun c.epoch_at-epoch.ensures.goes_on _ (sym c.in_ok-first.ensures)))

-- Epochs as a script's settings tell them: of one length, or by a table.
use Rattle.mar_types.specs.Epochs.{Epochs, IsPartition, fixed_epochs}
use Rattle.mar_types.specs.Fixed.{fixed_partition}
use Rattle.mar_types.specs.TableEpochs.{lengths_of}
use Rattle.mar_types.specs.TableLemmas.{kept_partition}
use Rattle.mar_types.specs.Tables.{table_epochs}
use Rattle.mar_types.specs.declared.script_epocher.ScriptEpocher.{ScriptEpocher}
use Rattle.mar_types.specs.declared.script_epocher.ScriptEpocher.TheVariants.{Fixed, Table}

-- the epochs of either
abbrev pub script_epochs : ScriptEpocher → Epochs
script_epochs (Fixed e) = fixed_epochs e.length
script_epochs (Table e) = table_epochs (lengths_of e)

pub script_partition : (e : ScriptEpocher) → IsPartition (script_epochs e)
script_partition (Fixed e) = fixed_partition e.length e.long e.fits
script_partition (Table e) = kept_partition e.lengths e.count e.some e.held e.long e.fits e.positive

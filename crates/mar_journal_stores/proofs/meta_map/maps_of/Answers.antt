use Rattle.std.proofs.Common.{◌∙◌, ◌≡◌}
use Rattle.mar_store.specs.MemMeta.{values_of}
use Rattle.mar_journal.specs.MetaRecords.{values_by}
use Rattle.mar_journal_stores.proofs.MetaSteps.{same_values}
use Rattle.mar_journal_stores.proofs.meta_map.maps_of.Goals as goal

pub returns : goal.returns
returns c =
    let is : values_of c.in_ok-values.values ≡ values_by c.args.records.now = same_values _ _ c.in_ok-values.ensures in
    (is, c.in_ok-copy.ensures ∙ is)

use Rattle.std.proofs.Common.{ap, ◌∙◌}
use Rattle.mar_journal.specs.MetaRecords.{values_by}
use Rattle.mar_journal_stores.proofs.meta_map.open_maps.Goals as goal

pub returns-in-Ok-clause-done : goal.returns-in-Ok-clause-done
returns-in-Ok-clause-done g c =
    let done = c.in_ok-opened.ensures.done in
    let maps = c.in-Ok.ensures in
    (c.in_ok-opened.opened.records.items, done.0, done.1, maps.0 ∙ ap values_by c.deref.ensures.value, maps.1 ∙ ap values_by c.deref.ensures.value)

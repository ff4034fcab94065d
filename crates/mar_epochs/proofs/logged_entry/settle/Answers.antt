use Rattle.std.proofs.Common.{rules, ap, sym, ◌∙◌, filter}
use Rattle.std.proofs.lemmas.Fn.{filter_same}
use Rattle.mar_key.specs.Fronts.{filter-map}
use Rattle.mar_epochs.specs.EntryLogs.{log_of, logged_of}
use Rattle.mar_epochs.proofs.logged_entry.settle.Goals as goal

pub returns : goal.returns
returns g c =
    let kept = filter_same _ (λ f. f.is_sure) _ (λ x b f k. search rules) _ _ c.retain.ensures.filtered in
    ap (log_of g.E.AsEntry.plain) kept ∙ sym (filter-map (λ f. f.is_sure) (logged_of g.E.AsEntry.plain) c.draw_in_all.new.items.items) ∙ ap (filter (λ f. f.is_sure)) c.draw_in_all.ensures

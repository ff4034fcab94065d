use Rattle.std.proofs.Common.{not, rules}
use Rattle.std.proofs.lemmas.Fn.{filter_same}
use Rattle.mar_key.specs.Fronts.{filter-map}
use Rattle.mar_model.specs.Cache.{is_below}
use Rattle.mar_epochs.proofs.logged_entry.take_below.Goals as goal

pub returns : goal.returns
returns g c =
    let kept = filter_same _ (λ f. not (is_below c.args.round (g.E.AsEntry.plain f.entry))) _ (λ x b f k. search rules) _ _ c.retain.ensures.filtered in
    rw (kept, filter-map)

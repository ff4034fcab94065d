use Rattle.std.proofs.Common.{not, rules}
use Rattle.std.proofs.lemmas.Fn.{filter_same}
use Rattle.mar_key.specs.Fronts.{filter-map}
use Rattle.mar_key.specs.Keys.{is_denied}
use Rattle.mar_key.specs.Views.{annotation_of, retain_of}
use Rattle.mar_key.proofs.open_requests.deny.Goals as goal

pub returns : goal.returns
returns g c =
    let kept = filter_same _ (λ a. not (is_denied (retain_of c.args.keep.now) (annotation_of a))) _ (λ x b f k. search rules) _ _ c.retain.ensures.filtered in
    rw (kept, filter-map)

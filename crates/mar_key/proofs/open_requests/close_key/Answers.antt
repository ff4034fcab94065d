use Rattle.std.proofs.Common.{not, rules}
use Rattle.std.proofs.lemmas.Fn.{filter_same}
use Rattle.mar_key.specs.Fronts.{filter-map}
use Rattle.mar_key.specs.Keys.{key_eq}
use Rattle.mar_key.specs.Views.{key_of}
use Rattle.mar_key.proofs.open_requests.close_key.Goals as goal

pub returns : goal.returns
returns g c =
    let kept = filter_same _ (λ x. not (key_eq (key_of g.D.Named.bytes c.args.key.now) (key_of g.D.Named.bytes x.key))) _ (λ x b f k. search rules) _ _ c.retain.ensures.filtered in
    rw (kept, filter-map)

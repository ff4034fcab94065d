use Rattle.std.proofs.Common.{rules}
use Rattle.std.specs.Prelude.{nat_lt}
use Rattle.std.proofs.lemmas.Map.Made.{filter_same_pairs}
use Rattle.mar_store.proofs.FrontPlaces.{places_kept}
use Rattle.mar_store.proofs.places.forget_from.Goals as goal

pub returns : goal.returns
returns g c =
    let kept = filter_same_pairs _ (λ e. nat_lt e.1 c.args.end) _ (λ k v b w f' t. search rules) _ _ c.retain.ensures.filtered in
    λ k. places_kept g.met.K.Ord.total c.args.places.now c.retain.new.self c.args.end kept c.retain.ensures.was_ordered k

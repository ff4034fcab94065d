use Rattle.std.proofs.Common.{IfOk, ap, refl, subst, sym, ◌≡◌, ◌∙◌}
use Rattle.mar_model.specs.Newest.{upto}
use Rattle.mar_model.proofs.Newest.{newest_round, no_newest_round}
use Rattle.mar_opening.proofs.derived.newest_round.Goals as goal

pub returns-in-None-clause-round : goal.returns-in-None-clause-round
returns-in-None-clause-round g c = no_newest_round _ c.args.height c.requires.once (sym (ap (λ rs. upto rs c.args.height) (c.as_slice.ensures ∙ c.certificates_held.ensures c.requires.intact)) ∙ (sym c.last_upto.ensures ∙ c.in-None.is))

pub returns-in-Some-clause-round : goal.returns-in-Some-clause-round
returns-in-Some-clause-round g c =
    subst (λ o. IfOk c.round_at.result (λ r. r ≡ o)) (newest_round _ c.args.height _ c.in-Some.newest c.requires.once (sym (ap (λ rs. upto rs c.args.height) (c.as_slice.ensures ∙ c.certificates_held.ensures c.requires.intact)) ∙ (sym c.last_upto.ensures ∙ c.in-Some.is)) refl) c.round_at.ensures.found

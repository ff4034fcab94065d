use Rattle.std.proofs.Common.{sym, ◌∙◌}
use Rattle.mar_model.proofs.OpeningJudged.{holds_last}
use Rattle.mar_opening.proofs.reopened.holds_last_certificate.Goals as goal

pub returns : goal.returns
returns g c = c.is_last.ensures.value ∙ sym (holds_last _ _ c.last_certificate.ensures c.is_last.ensures.fits)

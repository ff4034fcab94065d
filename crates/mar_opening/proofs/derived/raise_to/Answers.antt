use Rattle.std.proofs.Common.{ap, subst, sym}
use Rattle.std.proofs.lemmas.Result.{err_from_is_err_and}
use Rattle.mar_model.specs.Held.{nothing_written, written_pair, WithinWritten}
use Rattle.mar_model.specs.Metadata.{pair_of}
use Rattle.mar_model.proofs.Growing.{Grew-refl, WithinWritten-nothing, WithinWritten-refl}
use Rattle.mar_model.proofs.Outcomes.{passed_then}
use Rattle.mar_opening.proofs.derived.raise_to.Goals as goal

pub returns-in_err-set_cutoff-clause-lost : goal.returns-in_err-set_cutoff-clause-lost
returns-in_err-set_cutoff-clause-lost g c =
    let p = err_from_is_err_and c.from_residual.result c.from_residual.ensures.1 in
    rw (p.1, p.2) (λ start all grew within. c.in_err-set_cutoff.ensures.goes_on start all grew (WithinWritten-nothing all))

pub returns-clause-lost : goal.returns-clause-lost
returns-clause-lost g c = λ start all grew within. c.sync_metadata.ensures.lost start all (c.in_ok-set_cutoff.ensures.goes_on start all grew (WithinWritten-nothing all)) (subst (λ q. WithinWritten (written_pair q) all) (sym (ap (λ h. pair_of h.processed h.cutoff) c.in_ok-set_cutoff.ensures.ok)) within)

pub returns-clause-passed : goal.returns-clause-passed
returns-clause-passed g c = passed_then _ _ _ c.sync_metadata.result (c.in_ok-set_cutoff.ensures.goes_on _ nothing_written (Grew-refl _ _ (c.law.ensures.blocks c.requires.intact) (c.law.ensures.certs c.requires.intact)) (WithinWritten-refl _)).passed c.sync_metadata.ensures.passed

use Rattle.std.proofs.Common.{ap, subst, sym}
use Rattle.std.proofs.lemmas.Result.{err_from_is_err_and}
use Rattle.mar_model.specs.Held.{WithinWritten, written_pair, written_prunes}
use Rattle.mar_model.specs.Metadata.{pair_of}
use Rattle.mar_model.proofs.Growing.{Grew-refl, WithinWritten-refl}
use Rattle.mar_model.proofs.Passing.{ArePassed-then}
use Rattle.mar_rules.proofs.Pruned.{WithinWritten-noted_pair, WithinWritten-noted_prunes}
use Rattle.mar_rules.proofs.Raised.{on_both}
use Rattle.mar_rules.proofs.raising.witness_durably.Goals as goal

pub returns-in_err-witness-clause-lost : goal.returns-in_err-witness-clause-lost
returns-in_err-witness-clause-lost g c =
    let p = err_from_is_err_and c.from_residual.result c.from_residual.ensures.1 in
    rw (p.1, p.2) (λ start all grew within. c.in_err-witness.ensures.goes_on start all grew (WithinWritten-noted_prunes _ _ all within))

pub returns-clause-lost : goal.returns-clause-lost
returns-clause-lost g c = λ start all grew within. c.sync_metadata.ensures.lost start all (c.in_ok-witness.ensures.goes_on start all grew (WithinWritten-noted_prunes _ _ all within)) (subst (λ q. WithinWritten (written_pair q) all) (sym (ap (λ h. pair_of h.processed h.cutoff) c.in_ok-witness.ensures.ok)) (WithinWritten-noted_pair _ _ all within))

pub returns-clause-passed : goal.returns-clause-passed
returns-clause-passed g c = on_both c.sync_metadata.result (ArePassed-then _ _ _ (c.in_ok-witness.ensures.goes_on _ (written_prunes _) (Grew-refl _ _ (c.law.ensures.blocks c.requires.intact) (c.law.ensures.certs c.requires.intact)) (WithinWritten-refl _)).passed) c.sync_metadata.ensures.passed

use Rattle.std.proofs.Common.{◌≡◌, ◌∷◌, inl, inr, rules, subst, sym}
use Rattle.std.proofs.lemmas.Result.{err_from_is_err_and}
use Rattle.mar_key.specs.Views.{cutoff_of}
use Rattle.mar_model.specs.Held.{WithinWritten, nothing_written, written_pair}
use Rattle.mar_model.specs.Metadata.{pair_of}
use Rattle.mar_model.specs.Opening.{derived_pair}
use Rattle.mar_model.proofs.Growing.{Grew-refl, Grew-wider, WithinWritten-nothing, WithinWritten-pair, WithinWritten-refl}
use Rattle.mar_model.proofs.Passing.{ArePassed-then}
use Rattle.mar_opening.proofs.derived.derive.Goals as goal

pub returns-in_err-successor-clause-lost : goal.returns-in_err-successor-clause-lost
returns-in_err-successor-clause-lost g c =
    let p = err_from_is_err_and c.from_residual.result c.from_residual.ensures.1 in
    rw (p.1, p.2) (λ start all grew. inl (c.in_err-successor.ensures.goes_on start all grew (WithinWritten-nothing all)))

pub returns-in_err-newest-clause-lost : goal.returns-in_err-newest-clause-lost
returns-in_err-newest-clause-lost g c =
    let p = err_from_is_err_and c.from_residual-in_err-newest.result c.from_residual-in_err-newest.ensures.1 in
    rw (p.1, p.2) (λ start all grew. inl (c.in_err-newest.ensures.goes_on start all (c.in_ok-successor.ensures.goes_on start all grew (WithinWritten-nothing all)) (WithinWritten-nothing all)))

pub returns-in_err-raise_to-clause-lost : goal.returns-in_err-raise_to-clause-lost
returns-in_err-raise_to-clause-lost g c =
    let p = err_from_is_err_and c.from_residual-in_err-raise_to.result c.from_residual-in_err-raise_to.ensures.1 in
    let pair = derived_pair (g.E.Epocher.epochs c.args.epocher.now) (g.S.HoldsCache.held c.args.stores.now) in
    let pair_is : pair_of (g.S.HoldsCache.held c.processed_round.new.stores).processed (cutoff_of c.derived_cutoff-cutoff.result) ≡ derived_pair (g.E.Epocher.epochs c.args.epocher.now) (g.S.HoldsCache.held c.args.stores.now) = search rules in
    rw (p.1, p.2) (λ start all grew. inr (c.in_ok-successor.ensures.none, c.in_err-raise_to.ensures.lost start (record all { pairs = pair ∷ all.pairs }) (Grew-wider start all pair _ (c.in_ok-newest.ensures.goes_on start all (c.in_ok-successor.ensures.goes_on start all grew (WithinWritten-nothing all)) (WithinWritten-nothing all))) (subst (λ q. WithinWritten (written_pair q) (record all { pairs = pair ∷ all.pairs })) (sym pair_is) (WithinWritten-pair pair all))))

pub returns-clause-passed : goal.returns-clause-passed
returns-clause-passed g c =
    let first = c.in_ok-successor.ensures.goes_on (g.S.HoldsCache.held c.args.stores.now) nothing_written (Grew-refl _ _ (c.law.ensures.blocks c.requires.intact) (c.law.ensures.certs c.requires.intact)) (WithinWritten-refl _) in
    let read = c.in_ok-newest.ensures.goes_on (g.S.HoldsCache.held c.args.stores.now) nothing_written first (WithinWritten-refl _) in
    rw (c.note_round-2.ensures, c.note_round.ensures) (ArePassed-then _ _ _ read.passed c.in_ok-raise_to.ensures.passed)

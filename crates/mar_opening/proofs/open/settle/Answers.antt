use Rattle.std.proofs.Common.{ap, ◌∙◌}
use Rattle.std.proofs.lemmas.Result.{err_from_is_err_and}
use Rattle.mar_model.specs.Held.{written_block}
use Rattle.mar_model.specs.Stored.{at_own_height}
use Rattle.mar_model.proofs.Growing.{Grew-refl, WithinWritten-refl}
use Rattle.mar_model.proofs.Reopenings.{Grew-opened}
use Rattle.mar_model.specs.Views.{fault_of}
use Rattle.mar_opening.proofs.Opened.{fails_beginning, settled_fails, settled_opens}
use Rattle.mar_opening.proofs.open.settle.Goals as goal

pub returns-in_err-begin-clause-fails : goal.returns-in_err-begin-clause-fails
returns-in_err-begin-clause-fails g c =
    let p = err_from_is_err_and c.from_residual.result c.from_residual.ensures.1 in
    rw (p.1, p.2) (λ old luck reopens. fails_beginning (g.E.Epocher.epochs c.args.epocher.now) old luck (g.V.Variant.plain c.args.genesis.now) (g.S.HoldsCache.held c.args.stores.now) reopens _ (c.in_err-begin.ensures.goes_on (g.S.HoldsCache.held c.args.stores.now) (written_block (at_own_height (g.V.Variant.plain c.args.genesis.now))) (Grew-opened _ _ _ _ reopens) (WithinWritten-refl _)) c.in_err-begin.ensures.kind)

pub returns-clause-opens : goal.returns-clause-opens
returns-clause-opens g c = λ old luck reopens.
    let grew = c.in_ok-begin.ensures.goes_on (g.S.HoldsCache.held c.args.stores.now) (written_block (at_own_height (g.V.Variant.plain c.args.genesis.now))) (Grew-opened _ _ _ _ reopens) (WithinWritten-refl _) in
    settled_opens (g.E.Epocher.epochs c.args.epocher.now) old luck (g.V.Variant.plain c.args.genesis.now) (g.S.HoldsCache.held c.args.stores.now) (g.S.HoldsCache.held c.begin.new.stores) reopens c.in_ok-begin.ensures.ok grew (fault_of g.V.Commitment.Named.bytes) (g.S.HoldsCache.held c.derive.new.stores) c.derive.result c.derive.ensures.ok c.derive.ensures.passed

pub returns-clause-fails : goal.returns-clause-fails
returns-clause-fails g c = λ old luck reopens.
    let grew = c.in_ok-begin.ensures.goes_on (g.S.HoldsCache.held c.args.stores.now) (written_block (at_own_height (g.V.Variant.plain c.args.genesis.now))) (Grew-opened _ _ _ _ reopens) (WithinWritten-refl _) in
    let intact = ap (λ h. h.intact) c.in_ok-begin.ensures.ok.same ∙ c.requires.intact in
    settled_fails (g.E.Epocher.epochs c.args.epocher.now) old luck (g.V.Variant.plain c.args.genesis.now) (g.S.HoldsCache.held c.args.stores.now) (g.S.HoldsCache.held c.begin.new.stores) reopens c.in_ok-begin.ensures.ok grew (fault_of g.V.Commitment.Named.bytes) (g.S.HoldsCache.held c.derive.new.stores) (Grew-refl _ _ (c.law.ensures.blocks intact) (c.law.ensures.certs intact)) c.derive.result c.derive.ensures.lost c.derive.ensures.kind

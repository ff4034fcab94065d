use Rattle.std.proofs.Common.{ap, ap₂, subst, ◌∙◌}
use Rattle.mar_store.specs.Changes.{IsReopened, left_of}
use Rattle.mar_store.specs.Entries.{kept_of}
use Rattle.mar_store.specs.Luck.{half_of, is_lucky, lucky_found}
use Rattle.mar_store.proofs.Settled.{fails_same, reopened}
use Rattle.mar_store.proofs.mem_archive.MemArchiveArchive.reopen.Goals as goal

pub returns-in-Ok-drawn-clause-done : goal.returns-in-Ok-drawn-clause-done
returns-in-Ok-drawn-clause-done g c =
    subst (λ p. IsReopened (left_of (kept_of p.items.items p.synced)) (kept_of c.in-Ok-drawn.entries.pile.items.items c.in-Ok-drawn.entries.pile.synced)) c.in-Ok.ensures.pile
    (reopened (is_lucky c.of.result) c.in-Ok.archive.entries.pile.items.items c.in-Ok-drawn.entries.pile.items.items c.in-Ok.archive.entries.pile.synced c.in-Ok-drawn.entries.pile.synced c.in-Ok.archive.entries.pile.within c.in-Ok-drawn.entries.pile.once c.in-Ok-drawn.ensures.found)

pub returns-in-Ok-clause-done : goal.returns-in-Ok-clause-done
returns-in-Ok-clause-done g c = fails_same _ _ _ _ (ap (λ p. p.items.items) (c.in-Err-drawn.ensures.err ∙ c.in-Ok.ensures.pile)) (ap (λ p. p.synced) (c.in-Err-drawn.ensures.err ∙ c.in-Ok.ensures.pile))

pub returns-in-Ok-open-clause-done : goal.returns-in-Ok-open-clause-done
returns-in-Ok-open-clause-done g c =
    subst (λ p. IsReopened (left_of (kept_of p.items.items p.synced)) (kept_of c.in-Ok-open.entries.pile.items.items c.in-Ok-open.entries.pile.synced)) c.in-Err.ensures.pile
    (reopened (is_lucky c.of-in-Err.result) c.in-Err.wreck.pile.items.items c.in-Ok-open.entries.pile.items.items c.in-Err.wreck.pile.synced c.in-Ok-open.entries.pile.synced c.in-Err.wreck.pile.within c.in-Ok-open.entries.pile.once c.in-Ok-open.ensures.found)

pub returns-in-Ok-open-clause-lucky : goal.returns-in-Ok-open-clause-lucky
returns-in-Ok-open-clause-lucky g c =
    ap (λ k. k.held) c.in-Ok-open.ensures.found
    ∙ ap₂ (λ half p. lucky_found (is_lucky half) (left_of (kept_of p.items.items p.synced))) (c.of-in-Err.ensures ∙ ap (λ half. half_of half c.args.luck) c.in-Err.ensures.half) c.in-Err.ensures.pile

pub returns-clause-done : goal.returns-clause-done
returns-clause-done g c = fails_same _ _ _ _ (ap (λ p. p.items.items) (c.in-Err-open.ensures.err ∙ c.in-Err.ensures.pile)) (ap (λ p. p.synced) (c.in-Err-open.ensures.err ∙ c.in-Err.ensures.pile))

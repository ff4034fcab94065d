use Rattle.std.proofs.Common.{◌∙◌, sym}
use Rattle.std.proofs.lemmas.Bool.{both_ways}
use Rattle.mar_store.proofs.Stores.{puts_ignored, puts_entry, fails_put, still_put, covers_push}
use Rattle.mar_store.proofs.entries.Entries.put.Goals as goal

pub returns-then-holds-clause-done : goal.returns-then-holds-clause-done
returns-then-holds-clause-done g c = puts_ignored _ _ _ _ (sym c.holds.ensures ∙ c.if-holds.true)

pub returns-in-Ok-clause-done : goal.returns-in-Ok-clause-done
returns-in-Ok-clause-done g c = puts_entry _ _ _ _ _ _ c.args.self.pile.within (sym c.holds.ensures ∙ c.if-holds.false) c.in-Ok.ensures.ok c.in-Ok.ensures.synced

pub returns-in-Err-clause-done : goal.returns-in-Err-clause-done
returns-in-Err-clause-done g c = fails_put _ _ _ _ _ c.args.self.pile.within c.in-Err.ensures.err c.in-Err.ensures.synced

pub returns-in-Ok-clause-covers : goal.returns-in-Ok-clause-covers
returns-in-Ok-clause-covers g c = covers_push _ _ _ c.in-Ok.ensures.ok

pub returns-in-Err-clause-still : goal.returns-in-Err-clause-still
returns-in-Err-clause-still g c = still_put _ _ _ _ _ c.args.self.pile.within c.in-Err.ensures.err c.in-Err.ensures.synced

pub returns-in-Ok-clause-ignored : goal.returns-in-Ok-clause-ignored
returns-in-Ok-clause-ignored g c = λ taken. absurd (both_ways _ (sym c.holds.ensures ∙ c.if-holds.false) taken)

pub returns-in-Err-clause-ignored : goal.returns-in-Err-clause-ignored
returns-in-Err-clause-ignored g c = λ taken. both_ways _ (sym c.holds.ensures ∙ c.if-holds.false) taken

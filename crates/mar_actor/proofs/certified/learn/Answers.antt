use Rattle.std.proofs.Common.{refl, subst}
use Rattle.mar_model.specs.Answers.{own_and_parent}
use Rattle.mar_model.specs.Faults.{want_of_memory}
use Rattle.mar_model.proofs.Outcomes.{memory-loses}
use Rattle.mar_actor.specs.Known.{TakesNote}
use Rattle.mar_actor.proofs.certified.learn.Goals as goal

pub returns-in-Ok-clause-notes : goal.returns-in-Ok-clause-notes
returns-in-Ok-clause-notes g c tip least = subst (λ o. TakesNote g.V.Commitment.Named.bytes tip (own_and_parent o) c.args.certified.now c.note_block.new.certified) (rw c.in-Ok-Some.field-0-is at c.in-Ok-Some.ensures.found) (c.in-Ok.ensures.notes tip least)

pub returns-in-Ok-Some-clause-goes_on : goal.returns-in-Ok-Some-clause-goes_on
returns-in-Ok-Some-clause-goes_on g c start all grew within = memory-loses start all (g.S.HoldsCache.held c.block_at_hand.new.stores) (c.in-Ok-Some.ensures.goes_on start all grew within) want_of_memory refl

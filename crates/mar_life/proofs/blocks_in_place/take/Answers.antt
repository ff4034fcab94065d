use Rattle.std.proofs.Common.{Some}
use Rattle.mar_model.specs.Faults.{block_store}
use Rattle.mar_model.proofs.FoundBlocks.{own_height}
use Rattle.mar_model.specs.Views.{fault_of}
use Rattle.mar_life.proofs.Awaiting.{AreHeld-taken, held_taken}
use Rattle.mar_life.proofs.Answered.{answer_failed, answer_passed, answer_so}
use Rattle.mar_life.proofs.blocks_in_place.take.Goals as goal

pub returns-clause-own : goal.returns-clause-own
returns-clause-own g c = answer_so (fault_of g.V.Commitment.Named.bytes) block_store c.get.result c.answered.result c.answered.ensures c.get.ensures.found (λ o found. own_height g.V.Variant.plain o _ _ found (g.met.FB.Blocks.own c.in-Open.blocks).heights)

pub returns-clause-passed : goal.returns-clause-passed
returns-clause-passed g c = rw c.in-Open.is (answer_passed (fault_of g.V.Commitment.Named.bytes) block_store _ _ c.get.result c.answered.result c.answered.ensures c.get.ensures.watched)

pub returns-clause-failed : goal.returns-clause-failed
returns-clause-failed g c = rw c.in-Open.is (answer_failed (fault_of g.V.Commitment.Named.bytes) block_store _ _ c.get.result c.answered.result c.answered.ensures c.get.ensures.watched)

pub returns-in-Some-clause-held : goal.returns-in-Some-clause-held
returns-in-Some-clause-held g c = AreHeld-taken g.V.Variant.plain _ c.args.height c.args.staged.now c.retain.ensures c.remove.ensures.rest (rw c.in-Open.is at c.requires.held)

pub returns-in-Some-clause-found : goal.returns-in-Some-clause-found
returns-in-Some-clause-found g c = rw c.in-Open.is (held_taken g.V.Variant.plain _ c.args.height c.args.staged.now c.in-Some.block c.retain.ensures c.in-Some.ensures.found (rw c.in-Open.is at c.requires.held))

pub returns-in-Some-clause-own : goal.returns-in-Some-clause-own
returns-in-Some-clause-own g c = own_height g.V.Variant.plain (Some c.in-Some.block) _ _ (held_taken g.V.Variant.plain _ c.args.height c.args.staged.now c.in-Some.block c.retain.ensures c.in-Some.ensures.found (rw c.in-Open.is at c.requires.held)) (g.met.FB.Blocks.own c.in-Open.blocks).heights

pub returns-clause-held : goal.returns-clause-held
returns-clause-held g c = rw c.get.ensures.same (AreHeld-taken g.V.Variant.plain _ c.args.height c.args.staged.now c.retain.ensures c.remove.ensures.rest (rw c.in-Open.is at c.requires.held))

use Rattle.std.proofs.Common.{Err, Ok, ap, ◌∙◌, subst}
use Rattle.mar_replay.proofs.EventTurns.{promise_since, sent_taken, takes_err, takes_ok}
use Rattle.mar_replay.proofs.play.step.Goals as goal
use Rattle.mar_replay.proofs.Events.{no_parents}
use Rattle.mar_model.specs.Queries.{Learns, commitments_found}
use Rattle.mar_actor.specs.Views.{event_of}
use Rattle.mar_script.specs.Lines.{plain_block, plain_finalization}

pub returns-in-Ok : goal.returns-in-Ok
returns-in-Ok g c =
    let blocks = ap (λ b. b.blocks) c.take_sent.ensures.left ∙ (c.in-Ok.ensures.blocks ∙ ap (λ b. b.blocks) c.take_sent-earlier.ensures.left) in
    takes_ok c.args.actor c.args.buffer _ _ _ c.requires.silent c.in-Ok.actor _ c.args.pending blocks
    (promise_since c.args.actor c.args.buffer _ _ _ _ _ _ _ _ _ _ _ (Ok c.in-Ok.actor) c.take_sent-earlier.ensures.left c.requires.silent (sent_taken _ _ c.take_sent.ensures.taken) c.in-Ok.ensures.promise)
    c.in-Ok.ensures.same_life.1 c.in-Ok.ensures.same_life.2 c.in-Ok.ensures.watches (record {
      tickets = (c.in-Ok.ensures.tickets, c.in-Ok.ensures.sync_tickets);
      no_parents = no_parents (λ digest. digest.bytes) plain_block plain_finalization plain_finalization c.args.event;
      learns = subst (λ bs. Learns c.args.actor.certified (commitments_found (λ commitment. commitment) c.args.actor.held bs (event_of (λ digest. digest.bytes) plain_block plain_finalization plain_finalization c.args.event)) c.in-Ok.actor.life.tip c.in-Ok.actor.certified) (ap (λ b. b.blocks) c.take_sent-earlier.ensures.left) c.in-Ok.ensures.certified;
      unlearned = c.in-Ok.ensures.unlearned;
    }) c.in-Ok.ensures.loaded

pub returns-in-Err : goal.returns-in-Err
returns-in-Err g c =
    let is = c.parts_of-fault.ensures in
    takes_err c.args.actor c.args.buffer _ _ _ c.requires.silent c.args.pending _ _ _ is
    (promise_since c.args.actor c.args.buffer _ _ _ _ _ _ _ _ _ _ _ (Err _) c.take_sent-earlier.ensures.left c.requires.silent (sent_taken _ _ c.take_sent.ensures.taken) c.in-Err.ensures.promise)
    (rw is at c.in-Err.ensures.cause) (rw is at c.in-Err.ensures.runs_out)

use Rattle.std.proofs.Common.{filter, map, subst, take}
use Rattle.std.proofs.lemmas.List.{take_all}
use Rattle.mar_key.specs.Received.{received}
use Rattle.mar_model.specs.Judge.{is_delivery}
use Rattle.mar_judge.specs.Entered.{AreEntriesOf}
use Rattle.mar_judge.specs.EntryViews.{entries_of}
use Rattle.mar_judge.specs.Groups.{claims_of}
use Rattle.mar_judge.proofs.Entering.{more_messages}
use Rattle.mar_judge.proofs.batch.enter_all.Goals as goal

pub messages-preserved : goal.messages-preserved
messages-preserved g c = record {
  groups = c.in_ok-enter_message.ensures.groups;
  entries = λ config. subst (λ ms. AreEntriesOf (g.J.Judge.rules c.args.judge.now) config (claims_of g.J.Judge.claimed c.enter_message.new.groups.items) (filter is_delivery ms)
      (entries_of g.J.Commitment.Named.bytes g.J.Judge.plain g.J.Judge.finalization g.J.Judge.notarization c.enter_message.new.entries.items))
      (more_messages (received g.J.Commitment.Named.bytes) c.args.messages.now c.messages.message-index c.message-item.result c.messages-test.true c.message-item.is)
      (c.in_ok-enter_message.ensures.entries config (map (received g.J.Commitment.Named.bytes) (take c.messages.message-index c.args.messages.now)) (c.messages.invariant.entries config));
}

pub returns-clause-entries : goal.returns-clause-entries
returns-clause-entries g c = λ config.
    subst (λ ms. AreEntriesOf (g.J.Judge.rules c.args.judge.now) config (claims_of g.J.Judge.claimed c.messages.groups.items) (filter is_delivery (map (received g.J.Commitment.Named.bytes) ms))
    (entries_of g.J.Commitment.Named.bytes g.J.Judge.plain g.J.Judge.finalization g.J.Judge.notarization c.messages.entries.items))
    (take_all c.messages.message-index c.args.messages.now c.messages-test.false) (c.messages.invariant.entries config)

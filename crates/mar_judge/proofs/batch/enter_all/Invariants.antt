use Rattle.std.proofs.Common.{filter, map, take}
use Rattle.mar_key.specs.Received.{received}
use Rattle.mar_model.specs.Config.{Config}
use Rattle.mar_model.specs.Judge.{is_delivery}
use Rattle.mar_judge.specs.Entered.{AreEntriesOf}
use Rattle.mar_judge.specs.EntryViews.{entries_of}
use Rattle.mar_judge.specs.Groups.{AreGroups, claims_of}
use Rattle.mar_judge.proofs.batch.enter_all.Given as goal

abbrev pub invariant-messages : goal.invariant-messages
invariant-messages g l = record {
  groups : AreGroups g.J.Judge.claimed (g.J.Judge.judges l.judge) (g.J.Judge.rules l.judge).scoped l.groups.items;
  entries : (config : Config) → AreEntriesOf (g.J.Judge.rules l.judge) config (claims_of g.J.Judge.claimed l.groups.items)
      (filter is_delivery (map (received g.J.Commitment.Named.bytes) (take l.message-index l.messages)))
      (entries_of g.J.Commitment.Named.bytes g.J.Judge.plain g.J.Judge.finalization g.J.Judge.notarization l.entries.items);
}

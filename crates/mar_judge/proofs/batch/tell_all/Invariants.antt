use Rattle.std.proofs.Common.{List, map, ◌++◌, ◌≡◌}
use Rattle.std.specs.Vec.{vec_items}
use Rattle.mar_key.specs.PeerQueue.{PeerMessage}
use Rattle.mar_model.specs.Config.{Config}
use Rattle.mar_judge.specs.Entered.{AreEntriesOf, JudgedSoFar}
use Rattle.mar_judge.specs.EntryViews.{entries_of}
use Rattle.mar_judge.specs.Groups.{claims_of, verdicts_on}
use Rattle.mar_judge.specs.Rules.{settled}
use Rattle.mar_judge.specs.Views.{plain_verdict}
use Rattle.mar_judge.proofs.batch.tell_all.Given as goal

abbrev pub invariant-entries : goal.invariant-entries
invariant-entries g l = (config : Config) (messages : List PeerMessage)
    → map vec_items l.fn.told ≡ verdicts_on (g.J.Judge.rules l.fn.judge) (claims_of g.J.Judge.claimed l.fn.groups)
    → AreEntriesOf (g.J.Judge.rules l.fn.judge) config (claims_of g.J.Judge.claimed l.fn.groups) messages
    (entries_of g.J.Commitment.Named.bytes g.J.Judge.plain g.J.Judge.finalization g.J.Judge.notarization l.fn.entries.items)
    → (done : List PeerMessage) × (rest : List PeerMessage) × (messages ≡ done ++ rest)
    × AreEntriesOf (g.J.Judge.rules l.fn.judge) config (claims_of g.J.Judge.claimed l.fn.groups) rest
    (entries_of g.J.Commitment.Named.bytes g.J.Judge.plain g.J.Judge.finalization g.J.Judge.notarization l.entry-iterator.rest.items)
    × JudgedSoFar (g.J.Judge.rules l.fn.judge).reading (settled (g.J.Judge.rules l.fn.judge) config) done
    (map (plain_verdict g.J.Commitment.Named.bytes g.J.Judge.plain g.J.Judge.finalization g.J.Judge.notarization) l.first.items)
    (map (plain_verdict g.J.Commitment.Named.bytes g.J.Judge.plain g.J.Judge.finalization g.J.Judge.notarization) l.second.items)

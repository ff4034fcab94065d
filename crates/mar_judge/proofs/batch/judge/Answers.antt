use Rattle.std.proofs.Common.{ap, filter, map, subst, sym, ◌∙◌}
use Rattle.std.specs.Vec.{vec_items}
use Rattle.mar_key.specs.Received.{received}
use Rattle.mar_model.specs.Judge.{is_delivery}
use Rattle.mar_judge.specs.Entered.{AreEntriesOf}
use Rattle.mar_judge.specs.EntryViews.{entries_of}
use Rattle.mar_judge.specs.Groups.{claims_of, verdicts_on}
use Rattle.mar_judge.specs.Views.{plain_verdict}
use Rattle.mar_judge.proofs.Grouped.{ok_as}
use Rattle.mar_judge.proofs.Judged.{judges_each}
use Rattle.mar_judge.proofs.batch.judge.Goals as goal

pub returns : goal.returns
returns g c = λ config.
    let messages = map (received g.J.Commitment.Named.bytes) c.args.messages.now in
    let told = ap (map vec_items) c.as_slice-3.ensures.value ∙ c.in_ok-told.ensures
    ∙ ap (λ gs. verdicts_on (g.J.Judge.rules c.args.judge.now) (claims_of g.J.Judge.claimed gs)) (c.as_slice.ensures.value ∙ sym c.as_slice-2.ensures.value) in
    let entries = subst (λ gs. AreEntriesOf (g.J.Judge.rules c.args.judge.now) config (claims_of g.J.Judge.claimed gs) (filter is_delivery messages)
    (entries_of g.J.Commitment.Named.bytes g.J.Judge.plain g.J.Judge.finalization g.J.Judge.notarization c.enter_all.new.entries.items)) (sym c.as_slice-2.ensures.value)
    (c.in_ok-enter_all.ensures.entries config) in
    ok_as c.tell_all.result
    (λ v all. judges_each (g.J.Judge.rules c.args.judge.now) config messages (map
    (plain_verdict g.J.Commitment.Named.bytes g.J.Judge.plain g.J.Judge.finalization g.J.Judge.notarization) v.items) all)
    (c.tell_all.ensures config (filter is_delivery messages) told entries)

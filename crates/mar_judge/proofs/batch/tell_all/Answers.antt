use Rattle.std.proofs.Common.{ap, arith, map, sym, ◌∙◌}
use Rattle.std.proofs.lemmas.List.{map-append}
use Rattle.mar_judge.specs.EntryViews.{entry_of, entries_of}
use Rattle.mar_judge.specs.Groups.{claims_of}
use Rattle.mar_judge.specs.Views.{plain_verdict}
use Rattle.mar_judge.proofs.Judged.{stands_first, stands_last, turned_first, turned_second}
use Rattle.mar_judge.proofs.Grouped.{appended, no_items}
use Rattle.mar_judge.proofs.batch.tell_all.Goals as goal

pub entries-init : goal.entries-init
entries-init g c = λ config messages told are.
    let view = plain_verdict g.J.Commitment.Named.bytes g.J.Judge.plain g.J.Judge.finalization g.J.Judge.notarization in
    rw (c.into_iter-entry-iterator.ensures.into_iter_gives.0, c.new-first.ensures.items, c.new-second.ensures.items)
    (stands_first (g.J.Judge.rules c.args.judge.now) config (claims_of g.J.Judge.claimed c.args.groups.now) messages _ are)

pub entries-preserved-in-Continue-1 : goal.entries-preserved-in-Continue-1
entries-preserved-in-Continue-1 g c = λ config messages told are.
    turned_second (g.J.Judge.rules c.args.judge.now) config (claims_of g.J.Judge.claimed c.args.groups.now) messages _ _
    (entry_of g.J.Commitment.Named.bytes g.J.Judge.plain g.J.Judge.finalization g.J.Judge.notarization c.in-Some.entry) _ _ _
    (c.entries.invariant config messages told are)
    (ap (entries_of g.J.Commitment.Named.bytes g.J.Judge.plain g.J.Judge.finalization g.J.Judge.notarization) c.in-Some.ensures.steps.0)
    (sym (c.waits.ensures g.J.Judge.plain g.J.Judge.finalization g.J.Judge.notarization) ∙ c.if-waits.true)
    (λ bytes annotations placed. c.in_ok-tell.ensures config bytes annotations told placed)

pub entries-preserved : goal.entries-preserved
entries-preserved g c = λ config messages told are.
    turned_first (g.J.Judge.rules c.args.judge.now) config (claims_of g.J.Judge.claimed c.args.groups.now) messages _ _
    (entry_of g.J.Commitment.Named.bytes g.J.Judge.plain g.J.Judge.finalization g.J.Judge.notarization c.in-Some.entry) _ _ _
    (c.entries.invariant config messages told are)
    (ap (entries_of g.J.Commitment.Named.bytes g.J.Judge.plain g.J.Judge.finalization g.J.Judge.notarization) c.in-Some.ensures.steps.0)
    (sym (c.waits.ensures g.J.Judge.plain g.J.Judge.finalization g.J.Judge.notarization) ∙ c.if-waits.false)
    (λ bytes annotations placed. c.in_ok-tell-2.ensures config bytes annotations told placed)

pub returns-in-Ok : goal.returns-in-Ok
returns-in-Ok g c = λ config messages told are.
    let view = plain_verdict g.J.Commitment.Named.bytes g.J.Judge.plain g.J.Judge.finalization g.J.Judge.notarization in
    stands_last (g.J.Judge.rules c.args.judge.now) config (claims_of g.J.Judge.claimed c.args.groups.now) messages _ (map view c.entries.first.items) (map view c.entries.second.items) _
    (ap (entries_of g.J.Commitment.Named.bytes g.J.Judge.plain g.J.Judge.finalization g.J.Judge.notarization) (no_items c.entries.entry-iterator.rest.items (omega (
      arith,
      c.in-None.ensures.steps.0,
      c.entries.entry-iterator.rest.ok.0,
    ))))
    (c.entries.invariant config messages told are)
    (ap (map view) (appended _ _ c.entries.first.items c.entries.second.items _ c.in-Ok.is c.append.ensures.items) ∙ map-append view c.entries.first.items c.entries.second.items)

use Rattle.std.proofs.Common.{arith, refl, ◌∙◌}
use Rattle.mar_script.specs.declared.Status.TheVariants as status
use Rattle.mar_script.specs.declared.Why.TheVariants as why
use Rattle.mar_replay.proofs.Headlines.{begins_head, head_never, no_fault, stops_at_end, stops_reading, stops_turn, turn_goes_further, turned_set, turned_small}
use Rattle.mar_script.proofs.ReadSteps.{begins, ends_never, ends_next, ends_ok, ends_unwritten, goes_on}
use Rattle.mar_script.proofs.SmallLines.{small_line}
use Rattle.mar_replay.proofs.replays.later_lines.Goals as goal

pub lines-init : goal.lines-init
lines-init g c = record {
  source_calm = refl;
  sink_calm = refl;
  so_far = λ start taken gives is. begins _ _ _ _ _ gives is;
  set = c.requires.set;
  small = c.requires.small;
  head = λ start taken sunk before gives is stopped takes. begins_head start c.args.settings c.requires.settings before sunk _ _ taken c.args.state _ gives is stopped takes;
}

pub turn-next-requires-clause-small_line : goal.turn-next-requires-clause-small_line
turn-next-requires-clause-small_line g c = let next = rw c.in-Ok-Some.field-0-is at c.in-Ok-Some.ensures.next in small_line _ _ next.next.1

pub lines-preserved : goal.lines-preserved
lines-preserved g c =
    let next = rw c.in-Ok-Some.field-0-is at c.in-Ok-Some.ensures.next in
    record {
      source_calm = c.in-Ok-Some.ensures.calm (no_fault _) ∙ c.lines.invariant.source_calm;
      sink_calm = (rw c.in_default.is at c.turn-next.ensures.calm) (no_fault _) ∙ c.lines.invariant.sink_calm;
      so_far = λ start taken gives is. goes_on _ _ _ _ _ _ _ _ (c.lines.invariant.so_far start taken gives is) next;
      set = turned_set _ _ _ _ _ _ _ c.turn-next.ensures.turned c.lines.invariant.set;
      small = turned_small _ _ _ _ _ _ _ c.turn-next.ensures.turned (small_line _ _ next.next.1) c.lines.invariant.small;
      head = λ start taken sunk before gives is stopped takes.
          turn_goes_further start c.args.settings c.requires.settings before sunk _ _ _ _ _ (c.lines.invariant.head start taken sunk before gives is stopped takes) _ _ _ next _ _ _ _ c.lines.invariant.set c.turn-next.ensures.turned c.in_default.is;
    }

pub returns-in-Ok-None-clause-reads : goal.returns-in-Ok-None-clause-reads
returns-in-Ok-None-clause-reads g c = λ start taken gives is. ends_ok _ _ _ _ _ _ _ c.requires.settings (c.lines.invariant.so_far start taken gives is) (rw c.in-Ok-None.field-0-is at c.in-Ok-None.ensures.next)

pub returns-in-Err-clause-reads : goal.returns-in-Err-clause-reads
returns-in-Err-clause-reads g c = λ start taken gives is. ends_next _ _ _ _ _ _ _ _ c.requires.settings (c.lines.invariant.so_far start taken gives is) c.in-Err.ensures.next

-- the line behind the most lines is refused in the loop
pub returns-clause-reads : goal.returns-clause-reads
returns-clause-reads g c = λ start taken gives is. ends_never _ _ _ _ _ (status.Script 1_000_001 why.TooMany) (c.lines.invariant.so_far start taken gives is) (omega arith)

pub returns-in-Ok-None-clause-headline : goal.returns-in-Ok-None-clause-headline
returns-in-Ok-None-clause-headline g c = λ start taken sunk before gives is stopped takes hands.
    stops_at_end start c.args.settings c.requires.settings before sunk _ _ _ _ _ (c.lines.invariant.head start taken sunk before gives is stopped takes) hands _ _ (rw c.in-Ok-None.field-0-is at c.in-Ok-None.ensures.next)

pub returns-in-Err-clause-headline : goal.returns-in-Err-clause-headline
returns-in-Err-clause-headline g c = λ start taken sunk before gives is stopped takes hands.
    stops_reading start c.args.settings c.requires.settings before sunk _ _ _ _ _ (c.lines.invariant.head start taken sunk before gives is stopped takes) hands _ _ _ c.in-Err.ensures.end c.in-Err.ensures.next

pub returns-in-Err-written-clause-reads : goal.returns-in-Err-written-clause-reads
returns-in-Err-written-clause-reads g c = λ start taken gives is.
    ends_unwritten _ _ _ _ _ _ c.requires.settings (goes_on _ _ _ _ _ _ _ _ (c.lines.invariant.so_far start taken gives is) (rw c.in-Ok-Some.field-0-is at c.in-Ok-Some.ensures.next)) (rw c.in-Err-written.is at c.turn-next.ensures.end)

pub returns-in-Err-written-clause-headline : goal.returns-in-Err-written-clause-headline
returns-in-Err-written-clause-headline g c = λ start taken sunk before gives is stopped takes hands.
    stops_turn start c.args.settings c.requires.settings before sunk _ _ _ _ _ (c.lines.invariant.head start taken sunk before gives is stopped takes) _ _ _ (rw c.in-Ok-Some.field-0-is at c.in-Ok-Some.ensures.next) _ _ _ _ c.lines.invariant.set c.turn-next.ensures.turned
    c.in-Err-written.is (rw c.in-Err-written.is at c.turn-next.ensures.end) hands

-- nor does it say anything
pub returns-clause-headline : goal.returns-clause-headline
returns-clause-headline g c = λ start taken sunk before gives is stopped takes hands. head_never start c.args.settings c.requires.settings before sunk _ _ _ _ _ (c.lines.invariant.head start taken sunk before gives is stopped takes) (omega arith)

use Rattle.std.proofs.Common.{List, Some, [], ap, arith, subst, sym, ℕ, ◌+◌, ◌∙◌, ◌≡◌, ◌≤◌}
use Rattle.mar_script.specs.Refused.{max_lines}
use Rattle.mar_script.specs.Script.{config_of}
use Rattle.mar_script.specs.Lines.{plain_line}
use Rattle.mar_gen.specs.Output.{blocks_in}
use Rattle.mar_replay.specs.Gen.{ComesBehind, gen_settings}
use Rattle.mar_replay.specs.Playing.{TurnsLine}
use Rattle.mar_replay.specs.declared.generate.Coming.TheVariants as coming
use Rattle.mar_replay.proofs.Generating.{GenSoFar, gen_first, gen_further, gen_short, gen_unwritten, gen_whole}
use Rattle.mar_replay.proofs.Headlines.{turned_set, turned_small}
use Rattle.mar_replay.proofs.MadeScript.{settings_fit, small_made}
use Rattle.mar_replay.proofs.generate.made_lines.Goals as goal

pub lines-init : goal.lines-init
lines-init g c = record { set = c.requires.set; small = c.requires.small; so = λ before stopped is. gen_first _ _ before c.args.state _ stopped is }

pub turn-next-requires-clause-settings : goal.turn-next-requires-clause-settings
turn-next-requires-clause-settings g c = rw c.settings.ensures settings_fit

pub turn-next-requires-clause-small_line : goal.turn-next-requires-clause-small_line
turn-next-requires-clause-small_line g c =
    let comes = rw c.in-Next.is at c.in-Ok.ensures.coming in small_made c.args.made.now.seed c.args.made.now.last (plain_line c.in-Next.line) c.args.made.now.seed_fits c.args.made.now.most comes.3

pub lines-preserved : goal.lines-preserved
lines-preserved g c =
    let seed : ℕ = c.args.made.now.seed in
    let n : ℕ = c.args.made.now.last in
    let last : List ℕ = c.lines.latest.text.items in
    let comes : ComesBehind seed n c.lines.place last (coming.Next c.in-Next.line c.in-Next.after) = subst (λ t. ComesBehind seed n c.lines.place t (coming.Next c.in-Next.line c.in-Next.after)) c.deref.ensures.value (rw c.in-Next.is at c.in-Ok.ensures.coming) in
    let counted : c.in-Ok.found.0 ≡ blocks_in last = c.in-Ok.ensures.delivered ∙ ap blocks_in c.deref.ensures.value in
    let turned : TurnsLine (config_of gen_settings) c.lines.state (plain_line c.in-Next.line) (Some []) c.turn-next.result.0 (Some c.turn-next.new.sink.text.items) c.turn-next.result.1 = rw (c.settings.ensures, c.clear.ensures.items) at c.turn-next.ensures.turned in
    record {
      set = turned_set _ _ _ _ _ _ _ turned c.lines.invariant.set;
      small = turned_small _ _ _ _ _ _ _ turned (small_made seed n (plain_line c.in-Next.line) c.args.made.now.seed_fits c.args.made.now.most comes.3) c.lines.invariant.small;
      so = λ before stopped is.
          subst (λ k. GenSoFar seed n c.in-Next.after (c.lines._number + 1) k before c.turn-next.result.0 c.turn-next.new.sink.text.items) (sym c.saturating_add-delivered.ensures)
          (gen_further seed n c.args.made.now.seed_fits c.args.made.now.most c.lines.place c.lines._number c.lines.delivered before c.lines.state last (c.lines.invariant.so before stopped is) c.in-Next.line c.in-Next.after comes c.turn-next.result.0 c.turn-next.new.sink.text.items
          c.turn-next.result.1 c.in_default.field-0 c.in-Ok.found.0 c.lines.invariant.set turned (omega (arith, c.lines-test.true)) c.in_default.is counted);
    }

pub returns-in-Err : goal.returns-in-Err
returns-in-Err g c = λ before stopped is hands.
    gen_short _ _ c.args.made.now.seed_fits c.args.made.now.most _ _ _ before c.lines.state _ (c.lines.invariant.so before stopped is) (let low : c.lines._number ≤ max_lines + 1 = omega (arith, c.lines-test.true) in low) hands

pub returns-in-End : goal.returns-in-End
returns-in-End g c =
    let seed : ℕ = c.args.made.now.seed in
    let n : ℕ = c.args.made.now.last in
    let last : List ℕ = c.lines.latest.text.items in
    let comes : ComesBehind seed n c.lines.place last (coming.End c.in-End.processed) = subst (λ t. ComesBehind seed n c.lines.place t (coming.End c.in-End.processed)) c.deref.ensures.value (rw c.in-End.is at c.in-Ok.ensures.coming) in
    let counted : c.in-Ok.found.0 ≡ blocks_in last = c.in-Ok.ensures.delivered ∙ ap blocks_in c.deref.ensures.value in
    λ before stopped is hands.
    rw c.saturating_add-delivered.ensures
    (gen_whole seed n c.args.made.now.seed_fits c.args.made.now.most c.lines.place c.lines._number c.lines.delivered before c.lines.state last (c.lines.invariant.so before stopped is) c.in-Ok.found.0 c.in-End.processed counted comes (omega (arith, c.lines-test.true)) hands)

pub returns-in-Err-written : goal.returns-in-Err-written
returns-in-Err-written g c =
    let seed : ℕ = c.args.made.now.seed in
    let n : ℕ = c.args.made.now.last in
    let last : List ℕ = c.lines.latest.text.items in
    let comes : ComesBehind seed n c.lines.place last (coming.Next c.in-Next.line c.in-Next.after) = subst (λ t. ComesBehind seed n c.lines.place t (coming.Next c.in-Next.line c.in-Next.after)) c.deref.ensures.value (rw c.in-Next.is at c.in-Ok.ensures.coming) in
    let turned : TurnsLine (config_of gen_settings) c.lines.state (plain_line c.in-Next.line) (Some []) c.turn-next.result.0 (Some c.turn-next.new.sink.text.items) c.turn-next.result.1 = rw (c.settings.ensures, c.clear.ensures.items) at c.turn-next.ensures.turned in
    λ before stopped is hands.
    gen_unwritten seed n c.args.made.now.seed_fits c.args.made.now.most c.lines.place c.lines._number c.lines.delivered before c.lines.state last (c.lines.invariant.so before stopped is) c.in-Next.line c.in-Next.after comes c.turn-next.result.0 c.turn-next.new.sink.text.items
    c.turn-next.result.1 c.in-Err-written._status c.lines.invariant.set turned (omega (arith, c.lines-test.true)) c.in-Err-written.is hands

pub returns : goal.returns
returns g c = λ before stopped is hands.
    gen_short _ _ c.args.made.now.seed_fits c.args.made.now.most _ _ _ before c.lines.state _ (c.lines.invariant.so before stopped is) (let low : c.lines._number ≤ max_lines + 1 = omega (arith, c.lines.auto._number-end) in low) hands

use Rattle.std.proofs.Common.{List, Option, ap, subst, ℕ, ◌∙◌, ◌≡◌}
use Rattle.std.specs.List.{count_by}
use Rattle.mar_gen.specs.Output.{summary}
use Rattle.mar_gen.specs.Plan.{is_open, plan}
use Rattle.mar_script.specs.Endings.{IsWritersEnd}
use Rattle.mar_script.specs.Streams.{TakesFront}
use Rattle.mar_script.specs.declared.Status.{Status}
use Rattle.mar_script.specs.declared.Status.TheVariants as status
use Rattle.mar_replay.specs.Gen.{WritesLine}
use Rattle.mar_replay.proofs.generate.sum_up.Goals as goal

-- a front of the line was written
fails : (sunk : Option (List ℕ)) (line : List ℕ) (sunk' : Option (List ℕ)) (code : Status) → IsWritersEnd code → TakesFront sunk line sunk' → WritesLine sunk line sunk' code
fails sunk line sunk' status.Memory end (front, is, takes) = (front, takes)
fails sunk line sunk' status.WriteFault end takes = takes
fails sunk line sunk' (status.Script n why) end takes = absurd end
fails sunk line sunk' status.ReadFault end takes = absurd end
fails sunk line sunk' status.Ok end takes = absurd end
fails sunk line sunk' status.Usage end takes = absurd end

pub returns-clause-writes : goal.returns-clause-writes
returns-clause-writes g c =
    let line : List ℕ = summary c.args.made.now.seed c.args.made.now.last c.args.tally.now.delivered c.args.tally.now.processed.items (count_by is_open (plan c.args.made.now.seed c.args.made.now.last)) in
    let delivered : ℕ = c.args.tally.now.delivered in
    let line_is : c.deref-2.result.now ≡ line =
    c.deref-2.ensures.value ∙ c.in-Ok.ensures ∙ ap (λ x. summary x c.last.result delivered c.deref.result.now c.openings.result) c.seed.ensures ∙ ap (λ x. summary c.args.made.now.seed x delivered c.deref.result.now c.openings.result) c.last.ensures
    ∙ ap (λ x. summary c.args.made.now.seed c.args.made.now.last delivered x c.openings.result) c.deref.ensures.value ∙ ap (λ x. summary c.args.made.now.seed c.args.made.now.last delivered c.args.tally.now.processed.items x) c.openings.ensures in
    fails _ line _ _ c.in-Err-write_text.ensures.end (subst (λ l. TakesFront (g.K.Sink.written c.args.sink.now) l (g.K.Sink.written c.write_text.new.sink)) line_is c.in-Err-write_text.ensures.err)

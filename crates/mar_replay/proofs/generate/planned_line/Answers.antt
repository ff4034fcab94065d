use Rattle.std.proofs.Common.{ap, sym, ℕ, ◌∙◌, ◌≡◌}
use Rattle.mar_model.specs.Messages.{report_finalization}
use Rattle.mar_script.specs.Lines.{plain_finalization}
use Rattle.mar_script.specs.Script.{tell_line}
use Rattle.mar_gen.specs.Chain.{finalized, made_block}
use Rattle.mar_replay.specs.Gen.{planned_line}
use Rattle.mar_replay.proofs.generate.planned_line.Goals as goal

pub returns-in_ok-finalization-in-Final : goal.returns-in_ok-finalization-in-Final
returns-in_ok-finalization-in-Final c =
    let seed : ℕ = c.args.made.now.seed in
    let h : ℕ = c.in-Final.height in
    let digest : c.digest-digest.result.bytes ≡ (made_block seed h).digest = c.digest-digest.ensures ∙ ap (λ b. b.digest) c.block-in-Final.ensures in
    let finalization : plain_finalization c.in_ok-finalization-in-Final.finalization ≡ finalized h c.digest-digest.result.bytes = c.in_ok-finalization-in-Final.ensures in
    ap (λ f. tell_line (report_finalization f)) (finalization ∙ ap (finalized h) digest) ∙ ap (planned_line seed) (sym c.in-Final.is)

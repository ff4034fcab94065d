use Rattle.std.proofs.Common.{[], ◌≡◌}
use Rattle.mar_model.specs.Held.{Remains}
use Rattle.mar_script.specs.Script.{config_of}
use Rattle.mar_script.specs.Text.{text}
use Rattle.mar_replay.specs.Gen.{gen_settings}
use Rattle.mar_replay.specs.Playing.{HasSmallBlocks, IsSetAs}
use Rattle.mar_replay.specs.declared.play.State.TheVariants as state
use Rattle.mar_replay.proofs.Generating.{GenSoFar}
use Rattle.mar_replay.proofs.generate.made_lines.Given as goal

-- the settings stand, blocks are small, and what was made was done
abbrev pub invariant-lines : goal.invariant-lines
invariant-lines g l = record {
  set : IsSetAs (config_of gen_settings) l.state;
  small : HasSmallBlocks l.state;
  so : (before : Remains) → l.fn.state ≡ state.Stopped before 0 → l.fn.latest.text.items ≡ text before.ended [] → GenSoFar l.made.seed l.made.last l.place l._number l.delivered before l.state l.latest.text.items;
}

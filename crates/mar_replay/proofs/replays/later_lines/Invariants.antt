use Rattle.std.proofs.Common.{List, Option, [], ℕ, ◌++◌, ◌≡◌}
use Rattle.mar_model.specs.Held.{Remains}
use Rattle.mar_replay.specs.Playing.{HasSmallBlocks, IsSetAs}
use Rattle.mar_replay.specs.declared.play.State.TheVariants as state
use Rattle.mar_script.specs.Script.{config_of, settings_bytes}
use Rattle.mar_script.specs.Streams.{Gives, Takes}
use Rattle.mar_script.specs.Text.{text}
use Rattle.mar_replay.proofs.Headlines.{HeadSoFar}
use Rattle.mar_script.proofs.ReadSteps.{SoFar}
use Rattle.mar_replay.proofs.replays.later_lines.Given as goal

-- no count has risen, and the lines that were read are those that were done and written
abbrev pub invariant-lines : goal.invariant-lines
invariant-lines g l = record {
  source_calm : g.S.Source.faults l.source ≡ g.S.Source.faults l.initial.source;
  sink_calm : g.K.Sink.faults l.sink ≡ g.K.Sink.faults l.initial.sink;
  so_far : (start : Option (List ℕ)) (taken : List ℕ) → Gives start taken (g.S.Source.left l.initial.source) → taken ≡ settings_bytes l.settings ++ l.initial.reader → SoFar start l.settings l.reader (g.S.Source.left l.source) l.number;
  set : IsSetAs (config_of l.settings) l.state;
  small : HasSmallBlocks l.state;
  head : (start : Option (List ℕ)) (taken : List ℕ) (sunk : Option (List ℕ)) (before : Remains) → Gives start taken (g.S.Source.left l.initial.source) → taken ≡ settings_bytes l.settings ++ l.initial.reader → l.fn.state ≡ state.Stopped before 0
      → Takes sunk (text before.ended []) (g.K.Sink.written l.initial.sink) → HeadSoFar start l.settings l.reader (g.S.Source.left l.source) l.number before l.state sunk (g.K.Sink.written l.sink);
}

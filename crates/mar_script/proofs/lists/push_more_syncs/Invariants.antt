use Rattle.std.proofs.Common.{string_bytes, take, ◌++◌, ◌∷◌, ◌≡◌}
use Rattle.std.specs.List.{flat_map}
use Rattle.mar_model.specs.Views.{pooled_of}
use Rattle.mar_script.specs.Text.{sync_text}
use Rattle.mar_script.proofs.lists.push_more_syncs.Given as goal

abbrev pub invariant-loop-sync : goal.invariant-loop-sync
invariant-loop-sync l = string_bytes l.text ≡ string_bytes l.initial.text ++ flat_map (λ s. 44 ∷ sync_text (pooled_of s).sync) (take l.sync-index l.syncs)

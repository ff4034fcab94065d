-- What a node shows as the lines of the output need it.
use Rattle.std.specs.Prelude.{List, Option, [], codes, decimal, map, option_map, ℕ, ◌++◌, ◌∷◌}
use Rattle.mar_key.specs.Cutoff.{Cutoff}
use Rattle.mar_key.specs.Processed.{Processed}
use Rattle.mar_model.specs.Acks.{Outstanding}
use Rattle.mar_model.specs.Faults.{Fault}
use Rattle.mar_model.specs.Node.{OpenSync}
use Rattle.mar_store.specs.Ranges.{Range}
use Rattle.mar_types.specs.declared.Sha256Digest.{Sha256Digest}
use Rattle.mar_model.specs.Views.{fault_of}
use Rattle.mar_model.specs.declared.Fault.{Fault as FaultCode}
use Rattle.mar_script.specs.Script.{comma_numbers}
use Rattle.mar_script.specs.Text.{Remark, comma_list, cutoff_text, or_dash, outstanding_text, processed_text, range_text, remark_ignored, remark_running, remark_stopped, sync_text}
use Rattle.mar_script.specs.declared.text.RemarkShown.{RemarkShown}
use Rattle.mar_script.specs.declared.text.RemarkShown.TheVariants.{Ignored, Running, Stopped}

abbrev pub remark_of : RemarkShown → Remark
remark_of Ignored = remark_ignored
remark_of Stopped = remark_stopped
remark_of Running = remark_running

abbrev pub plain_fault : FaultCode Sha256Digest → Fault
plain_fault fault = fault_of (λ digest. digest.bytes) fault

abbrev pub ranges_shown : List Range → List ℕ
ranges_shown rs = comma_list (map range_text rs)

-- a node that awaits no floor
abbrev pub shown_words : Option Processed → List Outstanding → Cutoff → List Range → List Range → List Range → List Range
    → List ℕ → List OpenSync → List ℕ → List (List ℕ)
shown_words processed out cutoff blocks blocks_sure certs certs_sure uncovered syncs tickets =
    codes "node"
    ∷ (codes "p=" ++ or_dash (option_map processed_text processed))
    ∷ (codes "o=" ++ comma_list (map outstanding_text out))
    ∷ (codes "c=" ++ cutoff_text cutoff)
    ∷ codes "w=-"
    ∷ (codes "b=" ++ ranges_shown blocks)
    ∷ (codes "bs=" ++ ranges_shown blocks_sure)
    ∷ (codes "f=" ++ ranges_shown certs)
    ∷ (codes "fs=" ++ ranges_shown certs_sure)
    ∷ (codes "u=" ++ comma_numbers uncovered)
    ∷ (codes "s=" ++ comma_list (map sync_text syncs))
    ∷ (codes "y=" ++ comma_numbers tickets)
    ∷ []

abbrev pub ended_shown_words : Option ℕ → Cutoff → List Range → List Range → List Range → List Range → List (List ℕ)
ended_shown_words processed cutoff blocks_sure blocks_may certs_sure certs_may =
    codes "node" ∷ codes "end"
    ∷ (codes "p=" ++ or_dash (option_map decimal processed))
    ∷ (codes "c=" ++ cutoff_text cutoff)
    ∷ (codes "bs=" ++ ranges_shown blocks_sure)
    ∷ (codes "bm=" ++ ranges_shown blocks_may)
    ∷ (codes "fs=" ++ ranges_shown certs_sure)
    ∷ (codes "fm=" ++ ranges_shown certs_may)
    ∷ []

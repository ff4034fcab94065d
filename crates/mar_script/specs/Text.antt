-- What a script writes.
use Rattle.std.specs.List.{flat_map, join_with_byte}
use Rattle.std.specs.Prelude.{List, None, Option, Some, [], codes, decimal, map, option_map, ℕ, ◌++◌, ◌∷◌}
use Rattle.mar_types.specs.Round.{Round}
use Rattle.mar_key.specs.Cutoff.{Cutoff, at_epoch, at_round}
use Rattle.mar_key.specs.Processed.{Processed, at_absent, at_block}
use Rattle.mar_store.specs.Kept.{At}
use Rattle.mar_key.specs.Keys.{Annotation, Call, Retain, above_height, above_round, certified_at, fetch, finalized_by_height, finalized_by_round, for_notarization, key_bytes, retain, untrusted_at}
use Rattle.mar_key.specs.Asked.{Judged, Outcome, judged_complete, judged_ignored, judged_invalid}
use Rattle.mar_model.specs.Acks.{Mark, Outstanding, mark_dropped, mark_given, mark_waiting}
use Rattle.mar_model.specs.Node.{Ended, Node, OpenSync}
use Rattle.mar_model.specs.Metadata.{Pair}
use Rattle.mar_model.specs.Faults.{Fault, TicketKind, ack_kind, answer_kind, corrupt, damaged, dropped_ack, floor_epoch_unavailable, floor_invalid, floor_parent_mismatch, genesis_height, genesis_mismatch, height_limit, store_fault, sync_kind, ticket_limit, unbacked, want_of_memory}
use Rattle.mar_model.specs.Answers.{Sent, TicketAnswer, Value, anchor_value, bytes_value, closed_value, info_value, no_value, processed_value, sync_value, true_value}
use Rattle.mar_model.specs.Step.{Made, Report, handed_over, new_tip, nothing_made}
use Rattle.mar_script.specs.Accounts.{Account}
use Rattle.mar_script.specs.Script.{Line, comma_numbers, hex, peers_text, sentence, store_name}
use Rattle.mar_store.specs.Ranges.{Range, ranges}

-- why a line did nothing, or where a `put` went
pub data Remark : Type 0 where
  remark_ignored : Remark
  remark_unasked : Remark
  remark_stopped : Remark
  remark_running : Remark
  remark_empty : Remark
  remark_ok : Remark
  remark_overflowed : Remark

-- what one line writes of, but for the node
pub record Output : Type 0 where
  pub made : Made
  pub outcomes : List Judged
  pub remark : Option Remark
  pub fault : Option Fault

-- a node while a life runs, else what is left
pub data State : Type 0 where
  running : Node → State
  stopped : Ended → State

-- one line of a script, what it did, and what the stores tell then
pub record Done : Type 0 where
  pub line : Line
  pub output : Output
  pub after : State
  pub account : Account

-- PARTS

abbrev pub round_text : Round → List ℕ
round_text r = decimal r.epoch ++ codes "." ++ decimal r.view

abbrev pub cutoff_text : Cutoff → List ℕ
cutoff_text (at_round r) = round_text r
cutoff_text (at_epoch e) = decimal e ++ codes ".*"

abbrev pub processed_text : Processed → List ℕ
processed_text (at_block h) = codes "b" ++ decimal h
processed_text (at_absent h) = codes "a" ++ decimal h

-- texts with a comma between, `-` for none
abbrev pub comma_list : List (List ℕ) → List ℕ
comma_list [] = codes "-"
comma_list (x ∷ xs) = join_with_byte 44 (x ∷ xs)

abbrev pub or_dash : Option (List ℕ) → List ℕ
or_dash None = codes "-"
or_dash (Some text) = text

abbrev pub range_text : Range → List ℕ
range_text r = decimal r.from ++ codes "-" ++ decimal r.to

abbrev pub ranges_text : {T : Type 0} → List (At T) → List ℕ
ranges_text xs = comma_list (map range_text (ranges (map (λ x. x.height) xs)))

abbrev pub mark_text : Mark → List ℕ
mark_text mark_waiting = []
mark_text mark_given = codes "+"
mark_text mark_dropped = codes "x"

abbrev pub outstanding_text : Outstanding → List ℕ
outstanding_text a = decimal a.ticket ++ codes ":" ++ decimal a.height ++ mark_text a.mark

abbrev pub sync_text : OpenSync → List ℕ
sync_text s = decimal s.ticket ++ codes ":" ++ decimal s.position

-- LINES

abbrev pub report_words : Report → List (List ℕ)
report_words (new_tip r h d) = codes "tip" ∷ round_text r ∷ decimal h ∷ hex d ∷ []
report_words (handed_over t b) = codes "block" ∷ decimal t ∷ decimal b.height ∷ hex b.digest ∷ []

abbrev pub annotation_words : Annotation → List (List ℕ)
annotation_words (for_notarization r) = codes "not" ∷ (codes "r" ++ round_text r) ∷ []
annotation_words (untrusted_at h) = codes "unt" ∷ (codes "h" ++ decimal h) ∷ []
annotation_words (certified_at h) = codes "cer" ∷ (codes "h" ++ decimal h) ∷ []
annotation_words (finalized_by_height h) = codes "fin" ∷ (codes "h" ++ decimal h) ∷ []
annotation_words (finalized_by_round r) = codes "fin" ∷ (codes "r" ++ round_text r) ∷ []

abbrev pub target_words : Option (List ℕ) → List (List ℕ)
target_words None = []
target_words (Some peers) = codes "to" ∷ comma_numbers peers ∷ []

abbrev pub retain_words : Retain → List (List ℕ)
retain_words (above_height h) = codes "height" ∷ decimal h ∷ []
retain_words (above_round (at_round r)) = codes "round" ∷ round_text r ∷ []
retain_words (above_round (at_epoch e)) = codes "epoch" ∷ decimal e ∷ []

abbrev pub ask_words : Call → List (List ℕ)
ask_words (fetch key annotation targets) = codes "fetch" ∷ hex (key_bytes key) ∷ annotation_words annotation ++ target_words targets
ask_words (retain keep) = codes "retain" ∷ retain_words keep

abbrev pub sent_words : Sent → List (List ℕ)
sent_words s = codes "send" ∷ round_text s.round ∷ hex s.digest ∷ peers_text s.peers ∷ []

abbrev pub value_words : Value → List (List ℕ)
value_words no_value = codes "none" ∷ []
value_words (info_value h d) = decimal h ∷ hex d ∷ []
value_words (bytes_value bytes) = hex bytes ∷ []
value_words (processed_value p) = processed_text p ∷ []
value_words (anchor_value p b) = processed_text p ∷ hex b.encoded ∷ []
value_words (sync_value t) = codes "sync" ∷ decimal t ∷ []
value_words true_value = codes "true" ∷ []
value_words closed_value = codes "closed" ∷ []

abbrev pub answer_words : TicketAnswer → List (List ℕ)
answer_words a = codes "answer" ∷ decimal a.ticket ∷ value_words a.value

abbrev pub outcome_name : Outcome → List ℕ
outcome_name judged_complete = codes "complete"
outcome_name judged_invalid = codes "invalid"
outcome_name judged_ignored = codes "ignored"

abbrev pub outcome_words : Judged → List (List ℕ)
outcome_words j = codes "outcome" ∷ decimal j.ticket ∷ outcome_name j.outcome ∷ []

abbrev pub remark_words : Remark → List (List ℕ)
remark_words remark_ignored = codes "ignored" ∷ []
remark_words remark_unasked = codes "unasked" ∷ []
remark_words remark_stopped = codes "stopped" ∷ []
remark_words remark_running = codes "running" ∷ []
remark_words remark_empty = codes "empty" ∷ []
remark_words remark_ok = codes "feedback" ∷ codes "ok" ∷ []
remark_words remark_overflowed = codes "feedback" ∷ codes "overflowed" ∷ []

abbrev pub kind_name : TicketKind → List ℕ
kind_name answer_kind = codes "answer"
kind_name sync_kind = codes "sync"
kind_name ack_kind = codes "ack"

-- a fault by its name and values
abbrev pub fault_words : Fault → List (List ℕ)
fault_words (store_fault store) = codes "StoreFault" ∷ store_name store ∷ []
fault_words (damaged store at) = codes "Damaged" ∷ store_name store ∷ decimal at ∷ []
fault_words (dropped_ack h) = codes "AckDropped" ∷ decimal h ∷ []
fault_words (floor_epoch_unavailable e) = codes "FloorEpochUnavailable" ∷ decimal e ∷ []
fault_words (floor_invalid r) = codes "FloorInvalid" ∷ round_text r ∷ []
fault_words (floor_parent_mismatch h parent inner) = codes "FloorParentMismatch" ∷ decimal h ∷ hex parent ∷ hex inner ∷ []
fault_words (genesis_height h) = codes "GenesisHeight" ∷ decimal h ∷ []
fault_words (genesis_mismatch configured stored) = codes "GenesisMismatch" ∷ hex configured ∷ hex stored ∷ []
fault_words (corrupt h block payload) = codes "Corrupt" ∷ decimal h ∷ hex block ∷ hex payload ∷ []
fault_words (unbacked h) = codes "Unbacked" ∷ decimal h ∷ []
fault_words (height_limit h) = codes "HeightLimit" ∷ decimal h ∷ []
fault_words (ticket_limit kind) = codes "TicketLimit" ∷ kind_name kind ∷ []
fault_words want_of_memory = codes "Memory" ∷ []

-- a node while a life runs
abbrev pub node_words : Node → List (List ℕ)
node_words n =
    codes "node"
    ∷ (codes "p=" ++ or_dash (option_map processed_text n.processed))
    ∷ (codes "o=" ++ comma_list (map outstanding_text n.out))
    ∷ (codes "c=" ++ cutoff_text n.cutoff)
    ∷ (codes "w=" ++ or_dash (option_map (λ a. round_text a.round) n.awaited))
    ∷ (codes "b=" ++ ranges_text n.blocks.held)
    ∷ (codes "bs=" ++ ranges_text n.blocks.sure)
    ∷ (codes "f=" ++ ranges_text n.certs.held)
    ∷ (codes "fs=" ++ ranges_text n.certs.sure)
    ∷ (codes "u=" ++ comma_numbers n.uncovered)
    ∷ (codes "s=" ++ comma_list (map sync_text n.syncs))
    ∷ (codes "y=" ++ comma_numbers (map (λ s. s.ticket) n.cache_syncs))
    ∷ []

-- the pair that the last metadata sync left, the first of `meta`
abbrev pub pair_words : List Pair → List (List ℕ)
pair_words [] = []
pair_words (p ∷ pairs) = (codes "p=" ++ or_dash (option_map decimal p.processed)) ∷ (codes "c=" ++ cutoff_text p.cutoff) ∷ []

-- what is left where no life runs
abbrev pub ended_words : Ended → List (List ℕ)
ended_words e =
    codes "node" ∷ codes "end" ∷ pair_words e.meta
    ++ (codes "bs=" ++ ranges_text e.blocks_sure)
    ∷ (codes "bm=" ++ ranges_text e.blocks_may)
    ∷ (codes "fs=" ++ ranges_text e.certs_sure)
    ∷ (codes "fm=" ++ ranges_text e.certs_may)
    ∷ []

abbrev pub state_words : State → List (List ℕ)
state_words (running n) = node_words n
state_words (stopped e) = ended_words e

-- words as a line
abbrev pub line_of : List (List ℕ) → List ℕ
line_of words = sentence words ++ 10 ∷ []

abbrev pub some_words : Option (List (List ℕ)) → List ℕ
some_words None = []
some_words (Some words) = line_of words

-- reports, resolver lines, sends, answers, outcomes, a remark, a fault, then the node
unfoldable pub output_text : Output → State → List ℕ
output_text out after =
    flat_map (λ r. line_of (report_words r)) out.made.reports
    ++ flat_map (λ a. line_of (ask_words a)) out.made.asks
    ++ flat_map (λ s. line_of (sent_words s)) out.made.sends
    ++ flat_map (λ a. line_of (answer_words a)) out.made.answers
    ++ flat_map (λ j. line_of (outcome_words j)) out.outcomes
    ++ some_words (option_map remark_words out.remark)
    ++ some_words (option_map (λ f. codes "fault" ∷ fault_words f) out.fault)
    ++ line_of (state_words after)

-- a line that makes nothing
abbrev pub silent_output : Output
silent_output = record { made = nothing_made; outcomes = []; remark = None; fault = None }

abbrev pub remark_output : Remark → Output
remark_output remark = record silent_output { remark = Some remark }

-- the config line writes what is left, then each line its output
abbrev pub text : Ended → List Done → List ℕ
text before run = output_text silent_output (stopped before) ++ flat_map (λ d. output_text d.output d.after) run

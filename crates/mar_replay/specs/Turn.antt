-- What one line of a script writes of, by what a run keeps of it.
use Rattle.std.specs.List.{flat_map}
use Rattle.std.specs.Prelude.{List, None, Option, Some, [], codes, map, option_map, ℕ, ◌++◌, ◌∷◌}
use Rattle.mar_types.specs.declared.Sha256.{Sha256}
use Rattle.mar_types.specs.declared.Sha256Digest.{Sha256Digest}
use Rattle.mar_block.specs.declared.EmptyBlock.{EmptyBlock}
use Rattle.mar_inbox.specs.Answers.{told}
use Rattle.mar_inbox.specs.Views.{value_of}
use Rattle.mar_key.specs.Asked.{Asked}
use Rattle.mar_model.specs.Faults.{Fault}
use Rattle.mar_model.specs.Held.{Remains, remains_of}
use Rattle.mar_model.specs.Node.{CertifiedCommitment}
use Rattle.mar_model.specs.Promise.{Waiting, node_of}
use Rattle.mar_model.specs.Step.{Made, Report}
use Rattle.mar_actor.specs.Views.{report_of}
use Rattle.mar_actor.specs.declared.Update.{Update}
use Rattle.mar_script.specs.Lines.{plain_block, plain_finalization, plain_sent}
use Rattle.mar_script.specs.Shown.{plain_fault, remark_of}
use Rattle.mar_script.specs.Text.{Output, Remark, State, answer_words, ask_words, fault_words, line_of, remark_words, report_words, running, sent_words, silent_output, some_words, stopped}
use Rattle.mar_replay.specs.declared.heard.Heard.{Heard}
use Rattle.mar_replay.specs.declared.play.Outcome.{Outcome}
use Rattle.mar_replay.specs.declared.play.Outcome.TheVariants as outcome
use Rattle.mar_replay.specs.declared.play.State.{State as StateCode}
use Rattle.mar_replay.specs.declared.play.State.TheVariants as state

abbrev pub plain_report : Update Sha256Digest (EmptyBlock Sha256 Sha256Digest) → Report
plain_report update = report_of (λ digest. digest.bytes) plain_block update

abbrev pub report_text : Update Sha256Digest (EmptyBlock Sha256 Sha256Digest) → List ℕ
report_text update = line_of (report_words (plain_report update))

abbrev pub remark_in : Outcome → Option Remark
remark_in outcome.Done = None
remark_in (outcome.Remark remark) = Some (remark_of remark)
remark_in (outcome.Fault fault) = None

abbrev pub fault_in : Outcome → Option Fault
fault_in outcome.Done = None
fault_in (outcome.Remark remark) = None
fault_in (outcome.Fault fault) = Some (plain_fault fault)

-- what was made, by what was heard
abbrev pub made_in : Heard → Made
made_in heard = record {
  reports = map plain_report heard.told.updates.items;
  asks = heard.asked;
  sends = map plain_sent heard.sent.items;
  answers = told (value_of (λ digest. digest.bytes) plain_block plain_finalization) heard.answers;
}

-- what is written of what was made, but for the reports
abbrev pub asks_text : Made → List ℕ
asks_text made = flat_map (λ a. line_of (ask_words a)) made.asks

abbrev pub sends_text : Made → List ℕ
sends_text made = flat_map (λ s. line_of (sent_words s)) made.sends

abbrev pub answers_text : Made → List ℕ
answers_text made = flat_map (λ a. line_of (answer_words a)) made.answers

-- the remark or the fault of a line
abbrev pub outcome_text : Outcome → List ℕ
outcome_text o = some_words (option_map remark_words (remark_in o)) ++ some_words (option_map (λ f. codes "fault" ∷ fault_words f) (fault_in o))

-- what a line writes, but for the node
abbrev pub heard_text : Heard → Outcome → List ℕ
heard_text heard o = flat_map report_text heard.told.updates.items ++ (asks_text (made_in heard) ++ (sends_text (made_in heard) ++ (answers_text (made_in heard) ++ outcome_text o)))

-- what a line writes of, but for the node
abbrev pub output_of : Made → Outcome → Output
output_of made outcome = record silent_output { made = made; remark = remark_in outcome; fault = fault_in outcome }

-- between two lines each caller has its answer
abbrev pub waiting_with : List Asked → ℕ → List CertifiedCommitment → Waiting
waiting_with asked next certified = record { requests = asked; unanswered = []; next_answer = next; certified = certified }

-- the state of a run as plain data, were these requests open
abbrev pub state_with : {H R : Type 0} → List Asked → StateCode H R → State
state_with asked (state.Running seen buffer pending) = running (node_of seen buffer.blocks (waiting_with asked pending.next_answer seen.certified))
state_with asked (state.Stopped left luck) = stopped left.ended

-- the requests that are open in it: none where no life runs
abbrev pub open_in : {H R : Type 0} → StateCode H R → List Asked
open_in (state.Running seen buffer pending) = pending.requests
open_in (state.Stopped left luck) = []

-- the state of a run as plain data
abbrev pub state_of : {H R : Type 0} → StateCode H R → State
state_of code = state_with (open_in code) code

-- with these requests open, where a life runs
abbrev pub with_open : {H R : Type 0} → List Asked → StateCode H R → StateCode H R
with_open opened (state.Running seen buffer pending) = state.Running seen buffer (record pending { requests = opened })
with_open opened (state.Stopped left luck) = state.Stopped left luck

-- what is left of its stores
abbrev pub remains_in : {H R : Type 0} → StateCode H R → Remains
remains_in (state.Running seen buffer pending) = remains_of seen.held
remains_in (state.Stopped left luck) = left

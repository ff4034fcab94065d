-- What each script line does, runs of lines, and the headline.
use Rattle.std.specs.List.{AllByRecursion, filter_map, flat_map, list_any}
use Rattle.std.specs.Prelude.{Any, Bool, Contains, IfSome, IsFalse, IsTrue, List, None, Option, Some, [], bytes_eq, false, filter, if◌then◌else◌, length, map, not, true, ℕ, ⊤, ◌&&◌, ◌++◌, ◌+◌, ◌<◌, ◌==◌, ◌||◌, ◌∷◌, ◌≡◌, ◌⊎◌}
use Rattle.mar_types.specs.Causes.{Rose}
use Rattle.mar_cert.specs.Block.{Block, IsBlock}
use Rattle.mar_cert.specs.Finalization.{Finalization, finalization_bytes}
use Rattle.mar_key.specs.Cutoff.{covers, cutoff_zero}
use Rattle.mar_types.specs.Epochs.{IsPartition}
use Rattle.mar_model.specs.Cached.{Cached, cached_block}
use Rattle.mar_model.specs.Chain.{Chain, IsBlockAt, IsLawful}
use Rattle.mar_store.specs.Kept.{At, has_height}
use Rattle.mar_key.specs.Keys.{Annotation}
use Rattle.mar_key.specs.Asked.{Judged, annotations_of, asked_after}
use Rattle.mar_model.specs.Messages.{Message, Queued, certify, close_ticket, get_anchor, get_block, get_finalization, get_info, get_processed, get_verified, message_blocks, proposed, report_finalization, set_floor, subscribe_commitment, subscribe_digest, verified}
use Rattle.mar_key.specs.PeerQueue.{PeerMessage, after_peer_close, after_peer_enqueue, after_peer_take, deliver, is_open, peer_room, produce}
use Rattle.mar_model.specs.Config.{Config}
use Rattle.mar_model.specs.Acks.{is_unmarked}
use Rattle.mar_model.specs.Held.{IsUsual, Remains, Watches, picks_of, watch_of}
use Rattle.mar_model.specs.Node.{Awaited, Ended, IsFinalized, Node, left_by}
use Rattle.mar_model.specs.Event.{Event, ack_dropped, ack_given, block_buffered, buffer_ended, message_told, sync_finished}
use Rattle.mar_cert.specs.MockScheme.{IsFinalization}
use Rattle.mar_model.specs.Faults.{Begin, Fault, StoreName, dropped_ack, from_floor, from_genesis, want_of_memory}
use Rattle.mar_model.specs.Answers.{TicketAnswer, is_wanted, no_value, produced_value, to}
use Rattle.mar_model.specs.Step.{IsFront, Made, Steps, nothing_made}
use Rattle.mar_model.specs.Lives.{Cuts, CutsOpening, Finds, IsGoodEnded, Opens, Picks}
use Rattle.mar_script.specs.Accounts.{Account, AccountsFor, first_account, fresh_watches}
use Rattle.mar_script.specs.Refused.{IsRefused, IsUnended, max_lines}
use Rattle.mar_script.specs.Script.{IsLine, IsSettings, Line, Settings, ack_line, ask_line, bufclose_line, buffer_line, config_of, crash_line, drop_line, fail_line, line_bytes, open_line, peer_line, put_line, script_bytes, serve_line, settings_bytes, sync_line, take_line, tell_line}
use Rattle.mar_script.specs.Text.{Done, Output, Remark, State, remark_empty, remark_ignored, remark_ok, remark_output, remark_overflowed, remark_running, remark_stopped, remark_unasked, running, silent_output, stopped, text}
use Rattle.mar_inbox.specs.Policy.{Feedback, after_enqueue, after_take, drops_closed, feedback, feedback_accepted, feedback_overflowed, feedback_refused}
use Rattle.mar_model.specs.Judge.{Delivery, Reads, in_turn, judged_of, mock_reading, serve_events}
use Rattle.mar_script.specs.declared.status.Why.{Why}

-- LINES

-- a message whose sender holds a ticket
abbrev pub takes_ticket : Message → Bool
takes_ticket (verified r b) = true
takes_ticket (proposed r peers b) = true
takes_ticket (certify r b) = true
takes_ticket (get_info id) = true
takes_ticket (get_block id) = true
takes_ticket (get_finalization h) = true
takes_ticket get_processed = true
takes_ticket get_anchor = true
takes_ticket (get_verified r) = true
takes_ticket (subscribe_digest d fallback) = true
takes_ticket (subscribe_commitment c fallback) = true
takes_ticket _ = false

-- the answer ticket that a message takes
abbrev pub ticket_for : Node → Message → Option ℕ
ticket_for n m = if takes_ticket m then Some n.next_answer else None

abbrev pub queued_of : Node → Message → Queued
queued_of n m = record { ticket = ticket_for n m; message = m }

-- the next answer ticket is taken; no answer and no closing has come for it
abbrev pub with_answer_ticket : Node → Node
with_answer_ticket n = record n { next_answer = n.next_answer + 1; unanswered = n.unanswered ++ n.next_answer ∷ [] }

abbrev pub with_ticket : Message → Node → Node
with_ticket m n = if takes_ticket m then with_answer_ticket n else n

-- a closing that is stepped on is told to the peer queue too
abbrev pub with_close : Message → Node → Node
with_close (close_ticket t) n = record n { peers = after_peer_close n.peers t; unanswered = filter (λ k. not (k == t)) n.unanswered }
with_close _ n = n

-- it has neither an answer nor a closing; `sync N` is an answer, and so is the judgement of a `peer` line
abbrev pub is_unanswered : Node → ℕ → Bool
is_unanswered n t = list_any (λ k. k == t) n.unanswered

-- the tickets that a line leaves without an answer
abbrev pub still_unanswered : List TicketAnswer → List Judged → List ℕ → List ℕ
still_unanswered answers outcomes = filter (λ t. not (list_any (λ a. a.ticket == t) answers || list_any (λ j. j.ticket == t) outcomes))

-- why a line does nothing while a life runs
abbrev pub none_queued : {T : Type 0} → List T → Option Remark
none_queued [] = Some remark_empty
none_queued (x ∷ xs) = None

abbrev pub none_open : List Annotation → Option Remark
none_open [] = Some remark_unasked
none_open (a ∷ annotations) = None

-- the remark of a line that does nothing while a life runs
abbrev pub refusal : Node → Line → Option Remark
refusal n (open_line begin) = Some remark_running
refusal n (sync_line t) = if list_any (λ s. s.ticket == t) n.syncs || list_any (λ s. s.ticket == t) n.cache_syncs then None else Some remark_ignored
refusal n (ack_line t) = if list_any (is_unmarked t) n.out then None else Some remark_ignored
refusal n (drop_line t) = if list_any (is_unmarked t) n.out then None else Some remark_ignored
refusal n (buffer_line b) = if n.buffer_closed then Some remark_ignored else None
refusal n (tell_line (close_ticket t)) = if is_unanswered n t then None else Some remark_ignored
refusal n (peer_line key value) = none_open (annotations_of n.asked key)
refusal n serve_line = none_queued n.peers.ready
refusal n take_line = none_queued n.inbox.ready
refusal n _ = None

-- the buffer has an open subscription of this block: an awaited floor's, or a caller's
abbrev pub is_awaited : Option Awaited → Block → Bool
is_awaited None b = false
is_awaited (Some a) b = bytes_eq b.commitment a.commitment

-- some caller or an awaited floor waits for this block through the buffer
abbrev pub is_subscribed : Node → Block → Bool
is_subscribed n b = is_awaited n.awaited b || list_any (λ s. s.through_buffer && is_wanted b s.wanted) n.subscriptions

-- A step that finished, or was cut. `outcomes` are its judgements, `at_end` what it answers at its end; a
-- cut step has made a front of its judgements.
abbrev pub StepDone : Config → Chain → Node → List Event → List Judged → (Node → List TicketAnswer) → Output → State → Type 0
StepDone config chain n events outcomes at_end out (running n') =
    (made : Made) × Steps config chain n events made (record n' { unanswered = n.unanswered }) × (n'.asked ≡ asked_after n.asked outcomes made.asks)
    × (out ≡ record silent_output { made = record made { answers = made.answers ++ at_end n' }; outcomes = outcomes })
    × (n'.unanswered ≡ still_unanswered out.made.answers outcomes n.unanswered)
StepDone config chain n events outcomes at_end out (stopped left) =
    (fault : Fault) × (out.remark ≡ None) × (out.fault ≡ Some fault) × Cuts config chain n events out.made fault left × IsFront out.outcomes outcomes

-- a line without an event writes nothing
abbrev pub EventsDone : Config → Chain → Node → List Event → List Judged → (Node → List TicketAnswer) → Output → State → Type 0
EventsDone config chain n [] outcomes at_end out after = (out ≡ silent_output) × (after ≡ running n)
EventsDone config chain n (e ∷ events) outcomes at_end out after = StepDone config chain n (e ∷ events) outcomes at_end out after

-- a line without judgements
abbrev pub OneDone : Config → Chain → Node → List Event → Output → State → Type 0
OneDone config chain n events out after = EventsDone config chain n events [] (λ m. []) out after

-- an opening that finished, or was cut
abbrev pub OpenDone : Config → Chain → Ended → Picks → Begin → Output → State → Type 0
OpenDone config chain e picks begin out (running n) =
    (made : Made) × Opens config chain e picks begin made n × (n.asked ≡ asked_after [] [] made.asks)
    × (out ≡ record silent_output { made = made })
OpenDone config chain e picks begin out (stopped left) =
    (fault : Fault) × (out.remark ≡ None) × (out.fault ≡ Some fault) × CutsOpening config chain e picks begin out.made fault left × (out.outcomes ≡ [])

-- what the messages that ask for bytes are answered, at the end
abbrev pub produced_answers : List PeerMessage → Node → List TicketAnswer
produced_answers [] n = []
produced_answers (produce t key ∷ messages) n = to t (produced_value n key) ∷ produced_answers messages n
produced_answers (deliver t key bytes annotations ∷ messages) n = produced_answers messages n

-- the first messages that are queued, those of closed tickets counted and left out
abbrev pub ServeDone : Config → Chain → Node → List PeerMessage → Output → State → Type 0
ServeDone config chain n messages out after =
    (ds : List (Delivery (mock_reading config) config)) × Reads (mock_reading config) config messages ds × EventsDone config chain n (serve_events messages ds) (map judged_of (in_turn ds)) (produced_answers messages) out after

-- a closing of a ticket that has an answer or a closing
abbrev pub closes_nothing : Node → Message → Bool
closes_nothing n (close_ticket t) = not (is_unanswered n t)
closes_nothing n m = false

-- the ticket of a message was closed, by a step or by a closing that came to the inbox
abbrev pub is_ended : Node → Option ℕ → Bool
is_ended n None = false
is_ended n (Some t) = not (is_unanswered n t) || list_any (λ k. k == t) n.inbox.closed

-- a query or subscription whose ticket was closed does nothing; another closed ticket gets no answer
abbrev pub told_events : Node → Queued → List Event
told_events n q =
    if is_ended n q.ticket
    then (if drops_closed q.message then [] else message_told None q.message ∷ [])
    else message_told q.ticket q.message ∷ []

abbrev pub TakenDone : Bool → Config → Chain → Node → Queued → Output → State → Type 0
TakenDone true config chain n q out after = (out ≡ remark_output remark_ignored) × (after ≡ running n)
TakenDone false config chain n q out after = OneDone config chain (with_close q.message n) (told_events n q) out after

-- the first message of the inbox is stepped on
abbrev pub TakeDone : Config → Chain → Node → Option Queued → Output → State → Type 0
TakeDone config chain n None out after = ⊥
TakeDone config chain n (Some q) out after = TakenDone (closes_nothing n q.message) config chain n q out after

abbrev pub feedback_remark : Feedback → Remark
feedback_remark feedback_accepted = remark_ok
feedback_remark feedback_overflowed = remark_overflowed
feedback_remark feedback_refused = remark_overflowed

-- a `produce` that overflows is answered at once
abbrev pub asked_answers : Node → List TicketAnswer
asked_answers n = if peer_room n.peers then [] else to n.next_answer no_value ∷ []

-- a line that is not refused, while a life runs
abbrev pub Acts : Config → Chain → Node → Line → Output → State → Type 0
Acts config chain n (tell_line m) out after = OneDone config chain (with_close m (with_ticket m n)) (told_events (with_ticket m n) (queued_of n m)) out after
Acts config chain n (sync_line t) out after = OneDone config chain n (sync_finished t ∷ []) out after
Acts config chain n (ack_line t) out after = OneDone config chain n (ack_given t ∷ []) out after
Acts config chain n (drop_line t) out after = OneDone config chain n (ack_dropped t ∷ []) out after
Acts config chain n (buffer_line b) out after =
    OneDone config chain (record n { buffer = n.buffer ++ b ∷ [] }) (if is_subscribed n b then block_buffered b ∷ [] else []) out after
Acts config chain n bufclose_line out after = OneDone config chain (record n { buffer_closed = true }) (buffer_ended ∷ []) out after
Acts config chain n (peer_line key value) out after =
    (out ≡ silent_output) × (after ≡ running (record (with_answer_ticket n) { peers = after_peer_enqueue n.peers (deliver n.next_answer key value (annotations_of n.asked key)) }))
Acts config chain n (ask_line key) out after =
    (out ≡ record silent_output { made = record nothing_made { answers = asked_answers n } })
    × (after ≡ running (record n {
      next_answer = n.next_answer + 1;
      unanswered = (if peer_room n.peers then n.unanswered ++ n.next_answer ∷ [] else n.unanswered);
      peers = after_peer_enqueue n.peers (produce n.next_answer key);
    }))
Acts config chain n serve_line out after =
    let took = after_peer_take config.max_repair n.peers in
    ServeDone config chain (record n { peers = took.1 }) (filter (is_open n.peers.closed) took.0) out after
Acts config chain n (put_line m) out after =
    (out ≡ remark_output (feedback_remark (feedback n.inbox)))
    × (after ≡ running (record (with_ticket m n) { inbox = after_enqueue n.inbox (queued_of n m) }))
Acts config chain n take_line out after = TakeDone config chain (record n { inbox = (after_take n.inbox).1 }) (after_take n.inbox).0 out after
-- answered before
Acts config chain n (open_line begin) out after = ⊥
Acts config chain n (fail_line store k) out after = (out ≡ silent_output) × (after ≡ running n)
Acts config chain n (crash_line luck) out after = (out ≡ silent_output) × (after ≡ stopped (left_by n))

abbrev pub RunningDone : Config → Chain → Node → Line → Option Remark → Output → State → Type 0
RunningDone config chain n line (Some remark) out after = (out ≡ remark_output remark) × (after ≡ running n)
RunningDone config chain n line None out after = Acts config chain n line out after

-- what the next opening picks of what is left
abbrev pub next_picks : Account → Ended → Picks
next_picks account e = picks_of (record { ended = e; watches = account.watches }) account.luck

-- What one line may write, and the state after it; what the stores told before it picks what an opening finds.
abbrev pub LineDone : Config → Chain → Account → State → Line → Output → State → Type 0
LineDone config chain account (running n) line out after = RunningDone config chain n line (refusal n line) out after
LineDone config chain account (stopped e) (open_line begin) out after = OpenDone config chain e (next_picks account e) begin out after
LineDone config chain account (stopped e) (fail_line store k) out after = (out ≡ silent_output) × (after ≡ stopped e)
LineDone config chain account (stopped e) (crash_line luck) out after = (out ≡ silent_output) × (after ≡ stopped e)
LineDone config chain account (stopped e) _ out after = (out ≡ remark_output remark_stopped) × (after ≡ stopped e)

-- one line after another
abbrev pub Run : Config → Chain → Account → State → List Done → State → Type 0
Run config chain account state [] last = last ≡ state
Run config chain account state (d ∷ run) last =
    LineDone config chain account state d.line d.output d.after × AccountsFor account d.line d.output.fault d.account × Run config chain d.account d.after run last

-- what the stores tell behind the last line
abbrev pub account_after : Account → List Done → Account
account_after account [] = account
account_after account (d ∷ run) = account_after d.account run

-- LAWFUL SCRIPTS

-- the message of a line
abbrev pub messages_of : Line → List Message
messages_of (tell_line m) = m ∷ []
messages_of (put_line m) = m ∷ []
messages_of _ = []

abbrev pub line_blocks : Line → List Block
line_blocks (open_line (from_genesis b)) = b ∷ []
line_blocks (buffer_line b) = b ∷ []
line_blocks line = flat_map message_blocks (messages_of line)

-- a block at the end of peer bytes
abbrev pub EndsWith : Block → Line → Type 0
EndsWith b (peer_line key value) = IsBlock b × (front : List ℕ) × (value ≡ front ++ b.encoded)
EndsWith b _ = ⊥

-- a block of the chain, of a line, at the end of peer bytes, or in a cache that may be left from before
abbrev pub Appears : Chain → List Line → List Cached → Block → Type 0
Appears chain lines cached b = Contains chain.blocks b ⊎ Contains (flat_map line_blocks lines) b ⊎ Any (EndsWith b) lines ⊎ Contains (filter_map cached_block cached) b

-- a finalization in peer bytes that verifies is the chain's
abbrev pub HonestBytes : Config → Chain → Line → Type 0
HonestBytes config chain (peer_line key value) = (f : Finalization) (more : List ℕ) → IsFinalization config.members f → value ≡ finalization_bytes f ++ more → IsTrue (config.verifies f) → IsFinalized chain f.round f.payload
HonestBytes config chain _ = ⊤

-- What is asked of a script, over stores in which this may be left cached: its finalizations that count are of the chain, its
-- genesis is block 0, and equal digests mean equal blocks.
pub record IsLawfulScript (config : Config) (chain : Chain) (lines : List Line) (cached : List Cached) : Type 0 where
  pub genesis : (b : Block) → Contains lines (open_line (from_genesis b)) → IsBlockAt chain 0 b
  pub reported : (f : Finalization) → Contains (flat_map messages_of lines) (report_finalization f) → IsFinalized chain f.round f.payload
  pub floors : (f : Finalization) → Contains (flat_map messages_of lines) (set_floor f) → IsTrue (config.verifies f) → IsFinalized chain f.round f.payload
  pub first_floor : (f : Finalization) → Contains lines (open_line (from_floor f)) → IsTrue (config.verifies f) → IsFinalized chain f.round f.payload
  pub peer_bytes : (line : Line) → Contains lines line → HonestBytes config chain line
  pub inner : (b : Block) → Appears chain lines cached b → config.inner b.commitment ≡ b.digest
  pub one_block : (a b : Block) → Appears chain lines cached a → Appears chain lines cached b → a.digest ≡ b.digest → a ≡ b

-- HEADLINE

-- how a replay ended
pub data Status : Type 0 where
  read_to_end : Status
  outside_grammar : ℕ → Why → Status  -- this line is outside the grammar, and why
  read_failed : Status
  write_failed : Status
  out_of_memory : Status

-- How far the source was read: `rest` is what was taken behind the lines that were done, `left` what was
-- not taken. `k` is the number of the line that would follow, `IsSpelled` what it may be.
abbrev pub StopsAt : ℕ → (List ℕ → Type 0) → List ℕ → List ℕ → Status → Type 0
StopsAt k IsSpelled rest left read_to_end = (1 < k) × (rest ≡ []) × (left ≡ [])
StopsAt k IsSpelled rest left (outside_grammar j why) = (j ≡ k) × IsRefused k IsSpelled rest left why
StopsAt k IsSpelled rest left read_failed = IsUnended rest
StopsAt k IsSpelled rest left write_failed = 1 < k
StopsAt k IsSpelled rest left out_of_memory = ⊤

-- a config line, and a later one
abbrev pub IsConfigBytes : List ℕ → Type 0
IsConfigBytes bytes = (s : Settings) × IsSettings s × (bytes ≡ settings_bytes s)

-- the bytes of some line
abbrev pub IsLineBytes : ℕ → List ℕ → Type 0
IsLineBytes members bytes = (line : Line) × IsLine members line × (bytes ≡ line_bytes line)

-- all of the text, or a front of it where writing or memory failed
abbrev pub IsOutput : Status → List ℕ → List ℕ → Type 0
IsOutput read_to_end bytes text = bytes ≡ text
IsOutput (outside_grammar k why) bytes text = bytes ≡ text
IsOutput read_failed bytes text = bytes ≡ text
IsOutput write_failed bytes text = IsFront bytes text
IsOutput out_of_memory bytes text = IsFront bytes text

-- the same heights stand in both
abbrev pub SameHeights : {T : Type 0} → List (At T) → List (At T) → Type 0
SameHeights xs ys = (h : ℕ) → has_height xs h ≡ has_height ys h

-- the stores handed back are those of the last state
abbrev pub HandsBack : State → Ended → Type 0
HandsBack (running n) after =
    SameHeights n.blocks.sure after.blocks_sure × SameHeights n.certs.sure after.certs_sure × (n.meta ≡ after.meta)
    × ((h : ℕ) → IsTrue (has_height n.blocks.held h) → IsTrue (has_height after.blocks_may h))
    × ((h : ℕ) → IsTrue (has_height n.certs.held h) → IsTrue (has_height after.certs_may h))
HandsBack (stopped e) after =
    SameHeights e.blocks_sure after.blocks_sure × SameHeights e.certs_sure after.certs_sure × (e.meta ≡ after.meta)
    × SameHeights e.blocks_may after.blocks_may × SameHeights e.certs_may after.certs_may

-- stores in which nothing was ever put
abbrev pub empty_stores : Ended
empty_stores = record {
  blocks_sure = [];
  blocks_may = [];
  certs_sure = [];
  certs_may = [];
  cache_sure = [];
  cache_may = [];
  lowests = 0 ∷ [];
  meta = record { processed = None; cutoff = cutoff_zero } ∷ [];
}

-- and that never failed
abbrev pub fresh_stores : Remains
fresh_stores = record { ended = empty_stores; watches = fresh_watches }

-- What the headline asks: a partition into epochs, a lawful chain, a lawful script on it, and stores that are good for the chain, as an
-- earlier run hands them back; those in which nothing was ever put are.
pub record Premises (config : Config) (chain : Chain) (lines : List Line) (before : Ended) : Type 0 where
  pub partition : IsPartition config.epochs
  pub lawful : IsLawful config.epochs chain
  pub script : IsLawfulScript config chain lines before.cache_may
  pub good : IsGoodEnded chain before
  pub some_pair : 0 < length before.meta

-- COMPLETENESS

-- the epoch is scoped and the certificate verifies, or a cutoff that stands covers the round
abbrev pub IsSmoothFloor : Config → Node → Finalization → Type 0
IsSmoothFloor config n f = (IsTrue (config.scoped f.round.epoch) × IsTrue (config.verifies f)) ⊎ IsTrue (covers n.cutoff f.round)

abbrev pub IsSmoothMessage : Config → Node → Message → Type 0
IsSmoothMessage config n (set_floor f) = IsSmoothFloor config n f
IsSmoothMessage config n m = ⊤

-- Said of the state in which a line is done: no armed fault, no `drop` of an outstanding ticket, floors
-- that are covered or hold.
abbrev pub IsSmooth : Config → Account → State → Line → Type 0
IsSmooth config account state (fail_line store k) = ⊥
IsSmooth config account (running n) (drop_line t) = IsFalse (list_any (λ a. a.ticket == t) n.out)
IsSmooth config account (running n) (tell_line m) = IsSmoothMessage config n m
IsSmooth config account (running n) take_line = IfSome (after_take n.inbox).0 (λ q. IsSmoothMessage config n q.message)
IsSmooth config account (stopped e) (open_line (from_floor f)) = (n : Node) → Finds config e (next_picks account e) (from_floor f) n → IsSmoothFloor config n f
IsSmooth config account state line = ⊤

-- each line is smooth in the state in which it is done
abbrev pub AreSmooth : Config → Account → State → List Done → Type 0
AreSmooth config account state [] = ⊤
AreSmooth config account state (d ∷ run) = IsSmooth config account state d.line × AreSmooth config d.account d.after run

-- no count of a store's failures rose
abbrev pub IsQuiet : Watches → Watches → Type 0
IsQuiet before now = (s : StoreName) → Rose (watch_of before s).faults (watch_of now s).faults → ⊥

-- no fault but want of memory
abbrev pub IsFaultFree : Done → Type 0
IsFaultFree d = (d.output.fault ≡ None) ⊎ (d.output.fault ≡ Some want_of_memory)

-- want of memory ends the run
abbrev pub MemoryEnds : Status → List Done → Type 0
MemoryEnds status [] = ⊤
MemoryEnds status (d ∷ []) = d.output.fault ≡ Some want_of_memory → status ≡ out_of_memory
MemoryEnds status (d ∷ e ∷ run) = (d.output.fault ≡ Some want_of_memory → ⊥) × MemoryEnds status (e ∷ run)

-- a store's fault or want of memory, if any
abbrev pub HasUsualFault : Done → Type 0
HasUsualFault d = IfSome d.output.fault IsUsual

-- or that the lowest block that isn't acknowledged was dropped
abbrev pub IsExcusedFault : Fault → Type 0
IsExcusedFault (dropped_ack h) = ⊤
IsExcusedFault fault = IsUsual fault

abbrev pub IsExcused : Done → Type 0
IsExcused d = IfSome d.output.fault IsExcusedFault

-- The output is the text of a run of lives on the lines, and the stores are those of its last state.
pub record Replays (config : Config) (chain : Chain) (lines : List Line) (bytes : List ℕ) (status : Status) (before after : Remains) : Type 0 where
  pub run : List Done
  pub lines_done : map (λ d. d.line) run ≡ lines
  pub last : State
  pub lives : Run config chain (first_account before.watches) (stopped before.ended) run last
  pub output : IsOutput status bytes (text before.ended run)
  pub hands_back : HandsBack last after.ended
  pub watches_are : (account_after (first_account before.watches) run).watches ≡ after.watches
  pub good : IsGoodEnded chain after.ended
  pub some_pair : 0 < length after.ended.meta
  pub memory : MemoryEnds status run
  pub excused : AllByRecursion IsExcused run
  pub complete : IsQuiet before.watches after.watches → AreSmooth config (first_account before.watches) (stopped before.ended) run → AllByRecursion IsFaultFree run

-- how far a source was read: the settings, the lines that were done, and the rest that was taken behind them
abbrev pub ReadsLines : Option Settings → List Line → List ℕ → Status → List ℕ → List ℕ → Type 0
ReadsLines None lines rest status taken left = (lines ≡ []) × (taken ≡ rest) × StopsAt 1 IsConfigBytes rest left status
ReadsLines (Some s) lines rest status taken left =
    (taken ≡ script_bytes s lines ++ rest) × IsSettings s × AllByRecursion (IsLine s.members) lines × (length lines < max_lines) × StopsAt (length lines + 2) (IsLineBytes s.members) rest left status

-- what the lines that were done made of the stores, and what they wrote
abbrev pub RunsLines : Option Settings → List Line → Status → List ℕ → Remains → Remains → Type 0
RunsLines None lines status bytes before after =
    (bytes ≡ []) × HandsBack (stopped before.ended) after.ended × (after.watches ≡ before.watches) × ((chain : Chain) → IsGoodEnded chain before.ended → IsGoodEnded chain after.ended)
RunsLines (Some s) lines status bytes before after = (chain : Chain) → Premises (config_of s) chain lines before.ended → Replays (config_of s) chain lines bytes status before after

-- of the lines that were done, and of bytes taken, left and written
abbrev pub ReplaysLines : Option Settings → List Line → List ℕ → Status → List ℕ → List ℕ → List ℕ → Remains → Remains → Type 0
ReplaysLines settings lines rest status taken left bytes before after =
    ReadsLines settings lines rest status taken left × RunsLines settings lines status bytes before after

-- THE HEADLINE: what `replay` took of its source and left in it, what it wrote, what it answered, and
-- its stores before and after, with what each tells of its failures.
pub record Headline (taken left bytes : List ℕ) (status : Status) (before after : Remains) : Type 0 where
  pub settings : Option Settings
  pub lines : List Line
  pub rest : List ℕ
  pub told : ReplaysLines settings lines rest status taken left bytes before after

-- where a source or sink tells its bytes, they are these
abbrev pub IsShownAs : Option (List ℕ) → List ℕ → Type 0
IsShownAs None bytes = ⊤
IsShownAs (Some told) bytes = told ≡ bytes

-- The headline as a contract cites it: of what source and sink hold before and after, where they tell it; the run and
-- the stores are spoken of in any case.
abbrev pub HeadlineWhereTold : Option (List ℕ) → Option (List ℕ) → Option (List ℕ) → Option (List ℕ) → Status → Remains → Remains → Type 0
HeadlineWhereTold source left sink sunk status before after =
    (taken untaken front bytes : List ℕ) × IsShownAs source (taken ++ untaken) × IsShownAs left untaken × IsShownAs sink front × IsShownAs sunk (front ++ bytes)
    × Headline taken untaken bytes status before after

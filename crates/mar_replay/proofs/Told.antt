-- A line that tells a message: its event is told under the next answer ticket, where it takes one, and answered at once.
use Rattle.std.proofs.Common.{Bool, Contains, List, None, Option, Some, [], ap, arith, false, if◌then◌else◌, is_some, not, refl, subst, sym, true, ℕ, ◌++◌, ◌+◌, ◌-◌, ◌<◌, ◌^◌, ◌∙◌, ◌∷◌, ◌≡◌, ◌||◌}
use Rattle.std.proofs.lemmas.Bool.{eq-eqb}
use Rattle.std.proofs.lemmas.List.Elements.{Contains-append_left}
use Rattle.mar_block.specs.Sent.{Held}
use Rattle.mar_inbox.specs.Policy.{drops_closed}
use Rattle.mar_cert.specs.Block.{Block}
use Rattle.mar_cert.specs.Finalization.{Finalization}
use Rattle.mar_model.specs.Answers.{Value, answers_of, to}
use Rattle.mar_model.specs.Chain.{Chain}
use Rattle.mar_model.specs.Config.{Config}
use Rattle.mar_model.specs.Event.{effect_of, message_told}
use Rattle.mar_model.specs.Messages.{Message, certify, close_ticket, get_anchor, get_block, get_finalization, get_info, get_processed, get_verified, hint_finalized, message_blocks, prepared, proposed, report_certification, report_finalization, report_notarization, verified}
use Rattle.mar_model.specs.Node.{Node}
use Rattle.mar_model.specs.Promise.{node_of}
use Rattle.mar_model.specs.Step.{Made, Steps}
use Rattle.mar_script.specs.Accounts.{Account}
use Rattle.mar_script.specs.Run.{LineDone, OneDone, StepDone, queued_of, still_unanswered, takes_ticket, told_events, with_answer_ticket, with_ticket}
use Rattle.mar_script.specs.Script.{IsBuiltMessage, tell_line}
use Rattle.mar_script.specs.Text.{Output, State, running}
use Rattle.mar_replay.specs.Playing.{PlaysLine, SeenNode, TakesEvent}
use Rattle.mar_replay.specs.Turn.{output_of}
use Rattle.mar_replay.specs.declared.play.Outcome.{Outcome}
use Rattle.mar_replay.specs.declared.play.Pending.{Pending}
use Rattle.mar_replay.specs.declared.play.State.{State as StateCode}
use Rattle.mar_replay.proofs.Lasting.{tells}
use Rattle.mar_replay.proofs.LinePlays.{Running, between, plays_event}
use Rattle.mar_replay.proofs.LineTurns.{waits}

-- whom it answers waits no more
none_left : (t : ℕ) (v : Value) → still_unanswered (to t v ∷ []) [] (t ∷ []) ≡ []
none_left t v = ap (λ b. if not ((b || false) || false) then t ∷ [] else []) (eq-eqb t t refl)

module _ (config : Config) (chain : Chain) (seen : SeenNode) (buffer : List Block) (pending : Pending) (m : Message) (built : IsBuiltMessage m) where
  abbrev before : Node
  before = node_of seen buffer (between seen pending)

  abbrev asking : Node
  asking = node_of seen buffer (waits (between seen pending) (pending.next_answer ∷ []) (pending.next_answer + 1))

  -- a message that takes a ticket answers the one who asks
  answers_one : (lowest : ℕ) → takes_ticket m ≡ true → (v : Value) × (answers_of config asking lowest (message_told (Some pending.next_answer) m) (effect_of config asking (message_told (Some pending.next_answer) m)) ≡ to pending.next_answer v ∷ [])
  answers_one lowest takes = by m built takes
    where
      by : (x : Message) → IsBuiltMessage x → takes_ticket x ≡ true → (v : Value) × (answers_of config asking lowest (message_told (Some pending.next_answer) x) (effect_of config asking (message_told (Some pending.next_answer) x)) ≡ to pending.next_answer v ∷ [])
      by (get_info id) read is = (_, refl)
      by (get_block id) read is = (_, refl)
      by (get_finalization h) read is = (_, refl)
      by get_processed read is = (_, refl)
      by get_anchor read is = (_, refl)
      by (get_verified r) read is = (_, refl)
      by (verified r b) read is = (_, refl)
      by (proposed r peers b) read is = (_, refl)
      by (certify r b) read is = (_, refl)
      by (report_finalization f) read is = absurd cc
      by (report_notarization f) read is = absurd cc
      by (report_certification f) read is = absurd cc
      by (prepared r peers b) read is = absurd cc
      by (hint_finalized h peers) read is = absurd cc
      by x read is = absurd read

  answered : takes_ticket m ≡ true → (made : Made) (n' : Node) → Steps config chain asking (message_told (Some pending.next_answer) m ∷ []) made n' → still_unanswered made.answers [] (pending.next_answer ∷ []) ≡ []
  answered takes made n' steps =
      let one = answers_one steps.unticketed.lowest takes in
      ap (λ answers. still_unanswered answers [] (pending.next_answer ∷ [])) (steps.advances.beside.answers ∙ one.1) ∙ none_left pending.next_answer one.0

  -- what the event did the line did
  line_told : (account : Account) (b : Bool) → takes_ticket m ≡ b → (out : Output) (s : State) → OneDone config chain (if b then with_answer_ticket before else before) (told_events (if b then with_answer_ticket before else before) (record { ticket = (if b then Some pending.next_answer else None); message = m })) out s → LineDone config chain account (running before) (tell_line m) out s
  line_told account b is out s done = by m built (subst (λ c. OneDone config chain (if c then with_answer_ticket before else before) (told_events (if c then with_answer_ticket before else before) (record { ticket = (if c then Some pending.next_answer else None); message = m })) out s) (sym is) done)
    where
      by : (x : Message) → IsBuiltMessage x → OneDone config chain (with_ticket x before) (told_events (with_ticket x before) (queued_of before x)) out s → LineDone config chain account (running before) (tell_line x) out s
      by (close_ticket t) read acts = absurd read
      by x read acts = acts

  -- its ticket is open, so that it is told
  told_open : (out : Output) (s : State) → StepDone config chain asking (message_told (Some pending.next_answer) m ∷ []) [] (λ n. []) out s → OneDone config chain asking (told_events asking (record { ticket = Some pending.next_answer; message = m })) out s
  told_open out s done =
      subst (λ b. OneDone config chain asking (if not (b || false) || false then (if drops_closed m then [] else message_told None m ∷ []) else message_told (Some pending.next_answer) m ∷ []) out s) (sym (eq-eqb pending.next_answer pending.next_answer refl)) done

-- the event that a message is, under the ticket that it took, if any
abbrev pub ticket_behind : Pending → Bool → Option ℕ
ticket_behind pending takes = if takes then Some pending.next_answer else None

-- a line that tells a message; `now` is pending beside its event
pub plays_told : {H R : Type 0} (seen : SeenNode) (buffer : Held) (pending now : Pending) (m : Message) → IsBuiltMessage m → (t : Option ℕ) → t ≡ ticket_behind pending (takes_ticket m) → now.requests ≡ pending.requests → (takes_ticket m ≡ false → now.next_answer ≡ pending.next_answer)
    → (takes_ticket m ≡ true → pending.next_answer < 2 ^ 64 - 1 → now.next_answer ≡ pending.next_answer + 1) → (made : Made) (after : StateCode H R) (o : Outcome) → TakesEvent seen buffer now (message_told t m) made after o → (config : Config) → PlaysLine config (Running seen buffer pending) (tell_line m) (output_of made o) after
plays_told {H = H} {R = R} seen buffer pending now m built t ticket requests kept taken made after o takes config = by (takes_ticket m) refl (subst (λ x. TakesEvent seen buffer now (message_told x m) made after o) ticket takes)
  where
    reported : (x : Option ℕ) (y : Option ℕ) (f : Finalization) → message_told x m ≡ message_told y (report_finalization f) → tell_line m ≡ tell_line (report_finalization f)
    reported x y f is = let same : m ≡ report_finalization f = cc in ap tell_line same

    -- the blocks that it tells are the line's
    brings : (b : Block) → Contains (message_blocks m) b → Contains (message_blocks m ++ []) b
    brings b has = Contains-append_left (message_blocks m) [] b has

    by : (b : Bool) → takes_ticket m ≡ b → TakesEvent seen buffer now (message_told (ticket_behind pending b) m) made after o → PlaysLine config (Running {H = H} {R = R} seen buffer pending) (tell_line m) (output_of made o) after
    by true is event = plays_event seen buffer pending now (pending.next_answer ∷ []) (pending.next_answer + 1) (tell_line m) (message_told (Some pending.next_answer) m) made after o (tells (Some pending.next_answer) m built) (λ config account smooth t is. cc) (reported (Some pending.next_answer)) brings (λ before now fault calls. calls) (omega arith) requests (taken is)
        (λ config chain n' steps. answered config chain seen buffer.blocks pending m built is made n' steps)
        (λ config chain account out s done. line_told config chain seen buffer.blocks pending m built account true is out s (told_open config chain seen buffer.blocks pending m built out s done)) event config
    by false is event = plays_event seen buffer pending now [] pending.next_answer (tell_line m) (message_told None m) made after o (tells None m built) (λ config account smooth t is. cc) (reported None) brings (λ before now fault calls. calls) (omega arith) requests (λ low. kept is) (λ config chain n' steps. refl)
        (λ config chain account out s done. line_told config chain seen buffer.blocks pending m built account false is out s done) event config

-- a message took a ticket exactly where such a message takes one
pub took_ticket : (b took : Bool) (t : Option ℕ) (next : ℕ) → t ≡ (if b then Some next else None) → took ≡ is_some t → took ≡ b
took_ticket true took t next is same = same ∙ ap is_some is
took_ticket false took t next is same = same ∙ ap is_some is

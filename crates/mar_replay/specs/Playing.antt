-- What one line of a script makes of a run's state.
use Rattle.std.specs.Prelude.{IsErrOf, List, MatchResult, Ok, Err, Option, Result, Some, [], ℕ, ⊤, ◌+◌, ◌-◌, ◌∷◌, ◌≡◌, ◌≤◌, ◌⊎◌, ◌^◌, true}
use Rattle.mar_types.specs.Epochs.{fixed_epochs}
use Rattle.mar_types.specs.declared.FixedEpocher.{FixedEpocher}
use Rattle.mar_cert.specs.Block.{Block}
use Rattle.mar_block.specs.Sent.{Held}
use Rattle.mar_cert.specs.Provided.{Provided}
use Rattle.mar_key.specs.Asked.{Asked, asked_after}
use Rattle.mar_model.specs.Cached.{Cached}
use Rattle.mar_model.specs.Chain.{Chain}
use Rattle.mar_model.specs.Config.{Config}
use Rattle.mar_model.specs.Event.{Event, life_started}
use Rattle.mar_model.specs.Faults.{Fault, ack_kind, sync_kind, ticket_limit, want_of_memory}
use Rattle.mar_model.specs.Held.{Seen}
use Rattle.mar_model.specs.Lives.{Cuts, TakesUp}
use Rattle.mar_model.specs.Moves.{syncs_at_most}
use Rattle.mar_model.specs.Node.{Node}
use Rattle.mar_model.specs.Promise.{IsLawfulStep, IsSetTo, Waiting, asked_since, knowing, node_of}
use Rattle.mar_model.specs.Step.{Made, Steps}
use Rattle.mar_model.specs.Stored.{AreSmall}
use Rattle.mar_script.specs.Accounts.{Account, Calls, CallsEnd, luck_after}
use Rattle.mar_script.specs.Plays.{IsLawfulLine, IsSmallLine, Plays}
use Rattle.mar_script.specs.Script.{Line}
use Rattle.mar_script.specs.Streams.{Takes, TakesFront}
use Rattle.mar_script.specs.Text.{Output, output_text}
use Rattle.mar_script.specs.Shown.{plain_fault}
use Rattle.mar_replay.specs.Turn.{fault_in, open_in, output_of, remains_in, state_of, state_with, with_open}
use Rattle.mar_replay.specs.declared.play.Outcome.{Outcome}
use Rattle.mar_replay.specs.declared.play.Outcome.TheVariants as outcome
use Rattle.mar_replay.specs.declared.play.Pending.{Pending}
use Rattle.mar_replay.specs.declared.play.State.{State as StateCode}
use Rattle.mar_replay.specs.declared.play.State.TheVariants as state
use Rattle.mar_script.specs.declared.Status.{Status as StatusCode}
use Rattle.mar_script.specs.declared.Status.TheVariants as status

-- what a script's node is seen as
abbrev pub SeenNode : Type 0
SeenNode = Seen Provided FixedEpocher

-- the life was opened with these settings
abbrev pub IsSetNode : Config → SeenNode → Type 0
IsSetNode config seen = IsSetTo config seen.life.sizes (fixed_epochs seen.life.epocher.length) (λ commitment. commitment)

-- it was, and has taken up what a crash left of its cache
abbrev pub IsSetAs : {H R : Type 0} → Config → StateCode H R → Type 0
IsSetAs config (state.Running seen buffer pending) = IsSetNode config seen × (seen.held.cache.loaded ≡ true)
IsSetAs config (state.Stopped left luck) = ⊤

-- each block of the buffer is small enough for a store
abbrev pub HasSmallBlocks : {H R : Type 0} → StateCode H R → Type 0
HasSmallBlocks (state.Running seen buffer pending) = AreSmall buffer.blocks
HasSmallBlocks (state.Stopped left luck) = ⊤

-- where no life runs, the next opening has this luck
abbrev pub HasLuck : {H R : Type 0} → ℕ → StateCode H R → Type 0
HasLuck luck (state.Running seen buffer pending) = ⊤
HasLuck luck (state.Stopped left now) = now ≡ luck

-- what the stores tell beside the state
abbrev pub account_in : {H R : Type 0} → ℕ → StateCode H R → Account
account_in luck code = record { watches = (remains_in code).watches; luck = luck }

-- where a life runs, these requests are open
abbrev pub IsOpenAs : {H R : Type 0} → List Asked → StateCode H R → Type 0
IsOpenAs opened (state.Running seen buffer pending) = pending.requests ≡ opened
IsOpenAs opened (state.Stopped left luck) = ⊤

-- where a life runs, just this is pending
abbrev pub IsPendingAs : {H R : Type 0} → Pending → StateCode H R → Type 0
IsPendingAs before (state.Running seen buffer pending) = pending ≡ before
IsPendingAs before (state.Stopped left luck) = ⊤

-- A line that was done, for each chain for which it is lawful, behind any number of lines; what it asked is
-- yet to be taken in among what is open.
pub record PlaysLine {H R : Type 0} (config : Config) (before : StateCode H R) (line : Line) (out : Output) (after : StateCode H R) : Type 0 where
  pub set : IsSetAs config before → IsSetAs config after
  pub small : IsSmallLine line → HasSmallBlocks before → HasSmallBlocks after
  pub calls : Calls (remains_in before).watches line out.fault (remains_in after).watches
  pub lucky : (luck : ℕ) → HasLuck luck before → HasLuck (luck_after luck line out.fault) after
  pub opened : IsOpenAs (open_in before) after
  pub plays : IsSetAs config before → (luck : ℕ) → HasLuck luck before → (chain : Chain) (k : ℕ) → IsLawfulLine config chain k (state_of before) line
      → Plays config chain k (account_in luck before) (state_of before) line out (state_with (asked_after (open_in before) [] out.made.asks) after)

-- it was done, or memory ran out before it did anything
abbrev pub PlaysOrNot : {H R E : Type 0} → Config → StateCode H R → Line → Made → StateCode H R → Result Outcome E → Type 0
PlaysOrNot config before line made after result = MatchResult result (λ o. PlaysLine config before line (output_of made o) after) (λ e. after ≡ before)

-- what was written of a text that doesn't depend on the open requests: all of it, or a front
abbrev pub WritesText : {U : Type 0} → Option (List ℕ) → (List Asked → List ℕ) → Option (List ℕ) → Result U StatusCode → Type 0
WritesText sunk text sunk' (Ok u) = (asked : List Asked) → Takes sunk (text asked) sunk'
WritesText sunk text sunk' (Err s) = (asked : List Asked) → TakesFront sunk (text asked) sunk'

-- What a line asked was taken in among what is open, unless memory ran out.
pub record TakesIn {H R U : Type 0} (made : Made) (before after : StateCode H R) (written : Result U StatusCode) : Type 0 where
  pub opened : List Asked
  pub same : after ≡ with_open opened before
  pub all : (u : U) → written ≡ Ok u → opened ≡ asked_after (open_in before) [] made.asks

-- A line that was done and written, as far as writing went.
pub record Turned {H R U : Type 0} (config : Config) (before : StateCode H R) (line : Line) (sunk : Option (List ℕ)) (after : StateCode H R) (sunk' : Option (List ℕ)) (written : Result U StatusCode) : Type 0 where
  pub out : Output
  pub done : StateCode H R
  pub plays : PlaysLine config before line out done
  pub takes_in : TakesIn out.made done after written
  pub wrote : WritesText sunk (λ asked. output_text out (state_with asked after)) sunk' written
  pub memory : out.fault ≡ Some want_of_memory → IsErrOf written status.Memory

abbrev pub TurnsLine : {H R U : Type 0} → Config → StateCode H R → Line → Option (List ℕ) → StateCode H R → Option (List ℕ) → Result U StatusCode → Type 0
TurnsLine config before line sunk after sunk' written = (IsErrOf written status.Memory × (after ≡ before) × Takes sunk [] sunk') ⊎ Turned config before line sunk after sunk' written

-- ONE EVENT

-- a buffer that was not used
abbrev pub empty_buffer : Held
empty_buffer = record { blocks = []; is_open = true; sent = [] }

-- a window of tickets was given at most, and as many of syncs as such an event may start
abbrev pub GivesFew : Event → SeenNode → SeenNode → Type 0
GivesFew e seen new = (new.life.next_ack ≤ seen.life.next_ack + seen.life.sizes.window) × (new.held.writes.next_sync ≤ seen.held.writes.next_sync + syncs_at_most e)

-- where tickets ran out, no more were left than a window needs, or than the syncs of such an event
abbrev pub IsNearLast : Event → SeenNode → Fault → Type 0
IsNearLast e seen fault = (fault ≡ ticket_limit ack_kind → 2 ^ 64 - 1 ≤ seen.life.next_ack + seen.life.sizes.window) × (fault ≡ ticket_limit sync_kind → 2 ^ 64 ≤ seen.held.writes.next_sync + syncs_at_most e)

-- A step from this node that finished and gave few tickets, with the buffer as it was; or a cut.
abbrev pub AfterEvent : {H R : Type 0} → Config → Chain → Node → SeenNode → List Block → Waiting → Event → Made → StateCode H R → Outcome → Type 0
AfterEvent config chain n seen buffer waiting e made (state.Running new same pending) outcome.Done =
    Steps config chain n (e ∷ []) made (node_of new same.blocks (knowing new.certified (asked_since waiting made.asks))) × (same.blocks ≡ buffer) × GivesFew e seen new
AfterEvent config chain n seen buffer waiting e made (state.Stopped left luck) (outcome.Fault fault) =
    Cuts config chain n (e ∷ []) made (plain_fault fault) left.ended × IsNearLast e seen (plain_fault fault)
AfterEvent config chain n seen buffer waiting e made after outcome = ⊥

-- where a start steps from: what a crash left of the cache was taken up, unless it was cut before that
abbrev pub StartsFrom : Outcome → Option (List Cached) → Node → Node → Type 0
StartsFrom outcome.Done picked n begun = TakesUp picked n begun
StartsFrom _ picked n begun = (begun ≡ n) ⊎ TakesUp picked n begun

-- what a start makes of a life, where nothing was put into the cache nor taken up before it
abbrev pub DoesStart : {H R : Type 0} → SeenNode → Held → Event → Made → StateCode H R → Outcome → Type 0
DoesStart seen buffer e made after outcome =
    seen.held.cache.fresh ≡ true → (config : Config) (chain : Chain) (waiting : Waiting) → waiting.certified ≡ seen.certified → IsSetNode config seen → IsLawfulStep config chain (node_of seen buffer.blocks waiting) (e ∷ [])
    → (begun : Node) × StartsFrom outcome seen.held.cache.finds (node_of seen buffer.blocks waiting) begun × AfterEvent config chain begun seen buffer.blocks waiting e made after outcome

-- an event but the start finds that taken up
abbrev pub FindsTakenUp : Event → SeenNode → Type 0
FindsTakenUp (life_started f) seen = ⊤
FindsTakenUp _ seen = seen.held.cache.loaded ≡ true

-- what an event makes of a life that has begun
abbrev pub DoesStep : {H R : Type 0} → SeenNode → Held → Event → Made → StateCode H R → Outcome → Type 0
DoesStep seen buffer e made after outcome =
    seen.held.cache.loaded ≡ true → (config : Config) (chain : Chain) (waiting : Waiting) → waiting.certified ≡ seen.certified → IsSetNode config seen → IsLawfulStep config chain (node_of seen buffer.blocks waiting) (e ∷ [])
    → AfterEvent config chain (node_of seen buffer.blocks waiting) seen buffer.blocks waiting e made after outcome

-- the one or the other
abbrev pub DoesEvent : {H R : Type 0} → SeenNode → Held → Event → Made → StateCode H R → Outcome → Type 0
DoesEvent seen buffer (life_started f) made after outcome = DoesStart seen buffer (life_started f) made after outcome
DoesEvent seen buffer e made after outcome = DoesStep seen buffer e made after outcome

-- What one event makes of a life, whoever waits beside it.
pub record TakesEvent {H R : Type 0} (seen : SeenNode) (buffer : Held) (pending : Pending) (e : Event) (made : Made) (after : StateCode H R) (outcome : Outcome) : Type 0 where
  pub set : (config : Config) → IsSetNode config seen → FindsTakenUp e seen → IsSetAs config after
  pub small : AreSmall buffer.blocks → HasSmallBlocks after
  pub calls : CallsEnd seen.held.watches (fault_in outcome) (remains_in after).watches
  pub lucky : (luck : ℕ) (line : Line) → HasLuck (luck_after luck line (fault_in outcome)) after
  pub pending_as : IsPendingAs pending after
  pub done : DoesEvent seen buffer e made after outcome

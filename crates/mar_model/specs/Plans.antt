-- What each event does: its plan.
use Rattle.std.specs.Prelude.{Bool, List, MatchResult, None, Option, Result, Some, [], false, if◌then◌else◌, is_some, map, nat_lt, option_to_list, true, ◌++◌, ◌==◌, ◌∷◌, ◌≡◌, ℕ}
use Rattle.mar_types.specs.Round.{Round}
use Rattle.mar_cert.specs.Block.{Block}
use Rattle.mar_cert.specs.Finalization.{Finalization, Notarization}
use Rattle.mar_key.specs.Processed.{height_of}
use Rattle.mar_store.specs.Kept.{At, value_at}
use Rattle.mar_model.specs.Acks.{Mark, Outstanding, given_oldest, is_given, mark_dropped, mark_given, mark_waiting, with_mark}
use Rattle.mar_model.specs.Answers.{Sent, TicketAnswer, to}
use Rattle.mar_model.specs.Event.{Event, ack_marked, life_started, message_told, sync_finished}
use Rattle.mar_model.specs.Faults.{Fault, dropped_ack, height_limit, last_height}
use Rattle.mar_model.specs.Held.{Ending, Held, Seen}
use Rattle.mar_model.specs.Messages.{Message, Peers, certify, hint_finalized, prepared, proposed, report_finalization, report_notarization, verified}
use Rattle.mar_model.specs.Moves.{found_at_hand, is_verified_in, lacks_finalization}
use Rattle.mar_model.specs.OpenSyncs.{is_cache_sync}
use Rattle.mar_model.specs.Promise.{Heard}
use Rattle.mar_model.specs.Queries.{value_found}
use Rattle.mar_model.specs.Requests.{hint_asks, want_asks}
use Rattle.mar_model.specs.Stored.{newest}
use Rattle.mar_model.specs.Acts.{reply, ask, caches, finish_kept, finish_sync, keep_certified, keep_notarization, keep_notarized, keep_verified, keeps_for, load_cache, mark, note, process, progresses, put_finalization, says, send, start_sync, store, store_late, stores, sync_progress, sync_writes, tell}
use Rattle.mar_model.specs.Ran.{Breaks, Does, Runs, Task, dispatches, does, ends, repairs}
use Rattle.mar_model.specs.Scene.{Scene, scene, window_of}
use Rattle.mar_gate.specs.Writing.{is_open_sync}

-- the sync of a ticket of both archives finishes, where it was open
abbrev pub let_go_plan : Bool → ℕ → List Task
let_go_plan was_open t = if was_open then does (stores (finish_sync t)) ∷ [] else []

-- and more may be handed over
abbrev pub sync_plan : Bool → ℕ → List Task
sync_plan was_open t = if was_open then does (stores (finish_sync t)) ∷ dispatches ∷ [] else []

-- a finalized block above the processed height is stored, told, gaps are filled, and a sync started
abbrev pub store_plan : List Block → Finalization → Block → List Task
store_plan buffer f b =
    if b.height == last_height
    then ends (height_limit b.height) ∷ []
    else does (stores (store f b)) ∷ does (says (tell f.round b.height b.digest)) ∷ repairs buffer ∷ does (stores start_sync) ∷ []

-- the finalization of a held block is stored where it is missing, and told
abbrev pub late_plan : Bool → Finalization → Block → List Task
late_plan lacking f b = does (stores (store_late f b)) ∷ (if lacking then does (says (tell f.round b.height b.digest)) ∷ [] else [])

-- one at or below it has its round noted
abbrev pub note_plan : Held → Finalization → Block → List Task
note_plan h f b = does (progresses (note f.round)) ∷ late_plan (lacks_finalization h b) f b

abbrev pub at_hand_plan : List Block → Held → Finalization → Option Block → List Task
at_hand_plan buffer h f None = does (says (ask (want_asks h.cutoff f.round f.payload))) ∷ []
at_hand_plan buffer h f (Some b) = if nat_lt (height_of h.processed) b.height then store_plan buffer f b else note_plan h f b

-- a reported finalization is cached first
abbrev pub final_plan : List Block → Held → Finalization → Option Block → List Task
final_plan buffer h f found = does (caches (put_finalization f)) ∷ at_hand_plan buffer h f found

-- WHAT AN EVENT FINDS

-- What an event finds of its block: that block where it is at hand, and whether it was verified in the event's round.
pub record Found : Type 0 where
  pub block : Option Block
  pub is_verified : Bool

abbrev pub found_of : Held → Round → Option Block → Found
found_of h r None = record { block = None; is_verified = false }
found_of h r (Some b) = record { block = Some b; is_verified = is_verified_in h r b }

-- what it finds where what a crash left of the cache was taken up
abbrev pub found_by : (List ℕ → List ℕ) → List Block → Held → Event → Found
found_by inner buffer h (message_told t (report_finalization f)) = found_of h f.round (found_at_hand inner buffer h.cache.kept.held h.blocks.held f.payload)
found_by inner buffer h (message_told t (report_notarization f)) = found_of h f.round (found_at_hand inner buffer h.cache.kept.held h.blocks.held f.payload)
found_by inner buffer h _ = record { block = None; is_verified = false }

-- THE OTHER EVENTS

-- a prepared block is sent
abbrev pub prepared_plan : Sent → List Task
prepared_plan x = does (says (send x)) ∷ []

-- a hinted finalization is asked for
abbrev pub hint_plan : Held → ℕ → List ℕ → List Task
hint_plan h height peers = does (says (ask (hint_asks h.processed height peers (value_at h.certs.held height)))) ∷ []

-- a notarized block is kept where it is at hand and wasn't verified in its round
abbrev pub keep_plan : Round → Option Block → Bool → List Task
keep_plan r None is_verified = []
keep_plan r (Some b) true = []
keep_plan r (Some b) false = does (caches (keep_notarized r b)) ∷ []

abbrev pub kept_plan : Round → Found → List Task
kept_plan r found = keep_plan r found.block found.is_verified

-- its notarization is kept first
abbrev pub notar_plan : Notarization → Found → List Task
notar_plan f found = does (caches (keep_notarization f)) ∷ kept_plan f.round found

-- a life begins with the tip of its newest finalization
abbrev pub newest_plan : (List ℕ → List ℕ) → Option (At Finalization) → List Task
newest_plan inner None = []
newest_plan inner (Some x) = does (says (tell x.value.round x.height (inner x.value.payload))) ∷ []

-- takes up the cache, fills gaps, and makes durable what that wrote before it hands over
abbrev pub start_plan : (List ℕ → List ℕ) → List Block → Held → List Task
start_plan inner buffer h = newest_plan inner (newest h.certs.held) ++ does (caches load_cache) ∷ repairs buffer ∷ does (stores sync_writes) ∷ dispatches ∷ []

-- the oldest block is processed where it was given, and ends the life where it was dropped
abbrev pub oldest_plan : Mark → ℕ → List Task
oldest_plan mark_waiting h = []
oldest_plan mark_given h = does (progresses (process h)) ∷ []
oldest_plan mark_dropped h = ends (dropped_ack h) ∷ []

abbrev pub next_plan : List Outstanding → List Task
next_plan [] = []
next_plan (o ∷ out) = oldest_plan o.mark o.height

-- the given blocks at the front of the window are processed, and a dropped one behind them ends the life
abbrev pub drain_plan : List Outstanding → List Task
drain_plan [] = []
drain_plan (o ∷ out) = oldest_plan o.mark o.height ++ (if is_given o.mark then drain_plan out else [])

-- where any was, that is made durable, and the next blocks are handed over
abbrev pub settle_plan : Bool → List Task
settle_plan true = does (progresses sync_progress) ∷ dispatches ∷ []
settle_plan false = []

-- a block is marked, and what that lets go is processed
abbrev pub marked_plan : List Outstanding → List Task
marked_plan out = drain_plan out ++ settle_plan (is_some (given_oldest out))

abbrev pub ack_plan : List Outstanding → ℕ → Mark → List Task
ack_plan out ticket m = does (progresses (mark ticket m)) ∷ marked_plan (with_mark ticket m out)

-- a sync of the cache finishes, or one of both archives
abbrev pub finish_plan : Held → ℕ → List Task
finish_plan h t = if is_cache_sync h.cache.syncs t then does (keeps_for (finish_kept t)) ∷ [] else sync_plan (is_open_sync h.writes.syncs t) t

-- those that are answered
abbrev pub answer_plan : List TicketAnswer → List Task
answer_plan answers = map (λ a. does (says (reply a))) answers

abbrev pub sent_block : Round → Peers → Block → Sent
sent_block r peers b = record { round = r; digest = b.digest; peers = peers }

-- a message that asks is answered by what stands
abbrev pub message_plan : (List ℕ → List ℕ) → List Block → Held → Option ℕ → Message → Found → List Task
message_plan inner buffer h t (report_finalization f) found = final_plan buffer h f found.block
message_plan inner buffer h t (report_notarization f) found = notar_plan f found
message_plan inner buffer h (Some t) (verified r b) found = does (keeps_for (keep_verified r b t)) ∷ []
message_plan inner buffer h (Some t) (proposed r peers b) found = does (says (send (sent_block r peers b))) ∷ does (keeps_for (keep_verified r b t)) ∷ []
message_plan inner buffer h t (prepared r peers b) found = prepared_plan (sent_block r peers b)
message_plan inner buffer h (Some t) (certify r b) found = does (keeps_for (keep_certified r b t)) ∷ []
message_plan inner buffer h t (hint_finalized k peers) found = hint_plan h k peers
message_plan inner buffer h (Some t) m found = answer_plan (map (to t) (option_to_list (value_found inner h buffer m)))
message_plan inner buffer h None m found = []

-- THE PLAN OF AN EVENT
abbrev pub plan_of : (List ℕ → List ℕ) → List Block → Scene → Event → Found → List Task
plan_of inner buffer s (life_started f) found = start_plan inner buffer s.held
plan_of inner buffer s (message_told t m) found = message_plan inner buffer s.held t m found
plan_of inner buffer s (sync_finished t) found = finish_plan s.held t
plan_of inner buffer s (ack_marked t m) found = ack_plan s.life.out t m
plan_of inner buffer s _ found = []

-- An event does its plan. What it finds in the cache is said where what a crash left of that was taken up: before, a put shows
-- what a crash left.
pub record DoesEvent {T C : Type 0} (inner : List ℕ → List ℕ) (fault : C → Fault) (buffer : List Block) (e : Event) (old new : Scene) (result : Result T C) : Type 0 where
  pub found : Found
  pub finds : old.held.cache.loaded ≡ true → found ≡ found_by inner buffer old.held e
  pub runs : Does inner fault (plan_of inner buffer old e found) old new result

-- THE CLAUSE OF A STEP: its plan ran, or broke, from this scene on; what was heard since is what its tasks say.
pub record RunsPlan {P E : Type 0} (inner : List ℕ → List ℕ) (buffer : List Block) (e : Event) (old : Scene) (heard : Heard) (result : Result (Seen P E) Ending) : Type 0 where
  pub found : Found
  pub finds : old.held.cache.loaded ≡ true → found ≡ found_by inner buffer old.held e
  pub ran : MatchResult result (λ n. Runs inner old (plan_of inner buffer old e found) (scene n.held (window_of n.life) old.standing heard)) (λ x. Breaks inner old (plan_of inner buffer old e found) x heard)

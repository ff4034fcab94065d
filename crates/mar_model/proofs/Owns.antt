-- What a plan must own of its event, so that a front of it leaves a cut.
use Rattle.std.specs.Prelude.{Bool, Contains, List, Option, Some, [], false, true, ⊤, ◌++◌, ◌∷◌, ◌≡◌, ℕ}
use Rattle.mar_types.specs.Round.{Round}
use Rattle.mar_cert.specs.Block.{Block}
use Rattle.mar_store.specs.Changes.{Within}
use Rattle.mar_key.specs.Cutoff.{Cutoff, at_round, greatest_of}
use Rattle.mar_key.specs.Processed.{Processed}
use Rattle.mar_key.specs.Keys.{Call}
use Rattle.mar_model.specs.Answers.{Sent, TicketAnswer, finished_answers, started_value, to}
use Rattle.mar_model.specs.Requests.{raise_asks}
use Rattle.mar_model.specs.Chain.{Chain, IsFinal, digest_at}
use Rattle.mar_model.specs.Config.{Config}
use Rattle.mar_model.specs.Event.{Event, cutoff_after, kept_blocks, no_floor, processed_after}
use Rattle.mar_model.specs.Faults.{event_fault}
use Rattle.mar_model.specs.Held.{Held, WithinWritten, Written}
use Rattle.mar_model.specs.Lives.{is_dropped_ack, later_round}
use Rattle.mar_model.specs.Metadata.{Pair, pair_of}
use Rattle.mar_model.specs.Moves.{pruned_by}
use Rattle.mar_model.specs.Node.{Node}
use Rattle.mar_model.specs.Promise.{Waiting, node_of}
use Rattle.mar_model.specs.Acts.{KeepAct, finish_kept, keep_certified, keep_verified, reply, ask, caches, keeps_for, mark, note, process, progresses, says, send, stores, sync_progress, tell, written_cached, written_kept, written_stored}
use Rattle.mar_model.specs.Ran.{Task, dispatches, does, ends, repairs}
use Rattle.mar_model.specs.Scene.{Scene, seen_of}

-- what is determined between two tasks
pub record Course : Type 0 where
  pub processed : Option Processed
  pub cutoff : Cutoff
  pub witnessed : Round
  pub pair : Pair  -- what the metadata holds
  pub unwritten : Bool  -- no call wrote anything yet

abbrev pub noted_cutoff : Course → Round → Cutoff
noted_cutoff c r = greatest_of c.cutoff (at_round r ∷ [])

abbrev pub written_in : Course → Course
written_in c = record c { unwritten = false }

abbrev pub after_task : Course → Task → Course
after_task c (does (progresses (note r))) = record { processed = c.processed; cutoff = noted_cutoff c r; witnessed = later_round c.witnessed (Some r); pair = pair_of c.processed (noted_cutoff c r); unwritten = false }
after_task c (does (caches a)) = written_in c
after_task c (does (keeps_for a)) = written_in c
after_task c (does (stores a)) = written_in c
after_task c k = c

-- what a plan asks, sends and answers
abbrev pub asks_in : Cutoff → List Task → List Call
asks_in c [] = []
asks_in c (does (says (ask calls)) ∷ plan) = calls ++ asks_in c plan
asks_in c (does (progresses (note r)) ∷ plan) = raise_asks c (at_round r ∷ []) ++ asks_in (greatest_of c (at_round r ∷ [])) plan
asks_in c (k ∷ plan) = asks_in c plan

abbrev pub sends_in : List Task → List Sent
sends_in [] = []
sends_in (does (says (send x)) ∷ plan) = x ∷ sends_in plan
sends_in (k ∷ plan) = sends_in plan

abbrev pub answers_for : KeepAct → Held → List TicketAnswer
answers_for (keep_verified r b t) h = to t (started_value h.writes.next_sync h.lowest r) ∷ []
answers_for (keep_certified r b t) h = to t (started_value h.writes.next_sync h.lowest r) ∷ []
answers_for (finish_kept t) h = finished_answers t h.cache.syncs

abbrev pub answers_in : Held → List Task → List TicketAnswer
answers_in h [] = []
answers_in h (does (keeps_for a) ∷ plan) = answers_for a h ++ answers_in h plan
answers_in h (does (says (reply y)) ∷ plan) = y ∷ answers_in h plan
answers_in h (k ∷ plan) = answers_in h plan

abbrev pub own_pair : Scene → Pair
own_pair s = pair_of s.held.processed s.held.cutoff

abbrev pub course_of : Scene → Course
course_of s = record { processed = s.held.processed; cutoff = s.held.cutoff; witnessed = s.held.witnessed; pair = own_pair s; unwritten = true }

abbrev pub node_at : Scene → List Block → Waiting → Node
node_at s buffer waiting = node_of (seen_of s) buffer waiting

abbrev pub pair_after : Config → Node → Event → Pair
pair_after config n e = pair_of (processed_after n e no_floor) (cutoff_after config n e no_floor)

-- Each task is the event's own: it writes no more than the event, keeps for a caller before anything else is written, tells a finalized block, makes the event's pair durable, once, and
-- hands over last, once that pair is durable.
abbrev pub Owns : Config → Chain → Node → Event → Written → ℕ → Pair → Course → List Task → Type 0
Owns config chain n e all retention own c [] = ⊤
Owns config chain n e all retention own c (does (caches a) ∷ plan) = (c.pair ≡ own) × WithinWritten (written_cached a) all × Owns config chain n e all retention own
    (after_task c (does (caches a))) plan
Owns config chain n e all retention own c (does (stores a) ∷ plan) = WithinWritten (written_stored a) all × Owns config chain n e all retention own (after_task c (does (stores a))) plan
Owns config chain n e all retention own c (does (progresses (note r)) ∷ plan) =
    (c.pair ≡ own) × (pair_of c.processed (noted_cutoff c r) ≡ pair_after config n e) × Within (pruned_by retention c.witnessed (r ∷ [])) all.prunes × Contains all.pairs (pair_after config n e)
    × Owns config chain n e all retention own (after_task c (does (progresses (note r)))) plan
Owns config chain n e all retention own c (does (says (tell r h d)) ∷ plan) = IsFinal chain r h × (digest_at chain h ≡ Some d) × Owns config chain n e all retention own c plan
Owns config chain n e all retention own c (does (says (ask calls)) ∷ plan) = Owns config chain n e all retention own c plan
Owns config chain n e all retention own c (does (keeps_for a) ∷ plan) =
    (c.pair ≡ own) × WithinWritten (written_kept a) all × (c.unwritten ≡ true) × Owns config chain n e all retention own (after_task c (does (keeps_for a))) plan
Owns config chain n e all retention own c (does (progresses (mark ticket m)) ∷ plan) = ⊥
Owns config chain n e all retention own c (does (progresses (process h)) ∷ plan) = ⊥
Owns config chain n e all retention own c (does (progresses sync_progress) ∷ plan) = ⊥
Owns config chain n e all retention own c (does (says (reply a)) ∷ plan) = Owns config chain n e all retention own c plan
Owns config chain n e all retention own c (does (says (send x)) ∷ plan) = Owns config chain n e all retention own c plan
Owns config chain n e all retention own c (repairs buffer ∷ plan) = ⊥
Owns config chain n e all retention own c (dispatches ∷ plan) = (plan ≡ []) × (c.pair ≡ pair_after config n e) × (c.processed ≡ processed_after n e no_floor) × (n.out ≡ kept_blocks n e no_floor)
Owns config chain n e all retention own c (ends fault ∷ plan) = (c.pair ≡ own) × (event_fault config n e ≡ Some fault) × (is_dropped_ack fault ≡ false) × Owns config chain n e all retention own c plan

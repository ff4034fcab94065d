-- What a step answers, and what it takes up of the cache: read off its plan.
use Rattle.std.proofs.Common.{◌≡◌, ◌∷◌, [], List, Option, None, Some, Bool, true, false, cond, nat_lt, map, option_to_list, Ok, ◌++◌, ◌==◌, ℕ, refl, sym, ◌∙◌, ap, subst, append-nil, append_assoc, is_some}
use Rattle.std.specs.Prelude.{⊤}
use Rattle.std.specs.List.{AllByRecursion}
use Rattle.mar_types.specs.Round.{Round}
use Rattle.mar_cert.specs.Block.{Block}
use Rattle.mar_cert.specs.Finalization.{Finalization}
use Rattle.mar_gate.specs.Writing.{is_open_sync}
use Rattle.mar_store.specs.Kept.{At}
use Rattle.mar_key.specs.Processed.{height_of}
use Rattle.mar_model.specs.Acks.{Mark, Outstanding, given_oldest, is_given, mark_dropped, mark_given, mark_waiting, with_mark}
use Rattle.mar_model.specs.Answers.{TicketAnswer, finished_answers, started_value, to, true_value}
use Rattle.mar_model.specs.Event.{Event, ack_marked, block_buffered, buffer_ended, life_started, message_told, peer_answered, serve_ended, sync_finished}
use Rattle.mar_model.specs.Faults.{height_limit, last_height}
use Rattle.mar_model.specs.Held.{Held, Remembered, Seen}
use Rattle.mar_model.specs.Messages.{Message, certify, close_ticket, forward, get_anchor, get_block, get_finalization, get_info, get_processed, get_verified, hint_finalized, hint_notarized, prepared, proposed, prune_below, report_certification, report_finalization, report_notarization, set_floor, subscribe_commitment, subscribe_digest, verified}
use Rattle.mar_model.specs.Moves.{KeepsInCache, KeepsTakenUp, lacks_finalization}
use Rattle.mar_model.specs.OpenSyncs.{is_cache_sync}
use Rattle.mar_model.specs.Promise.{Heard}
use Rattle.mar_model.specs.Queries.{answers_found, value_found}
use Rattle.mar_model.specs.Stored.{newest}
use Rattle.mar_model.specs.Acts.{Act, AreLawful, IsDone, KeepAct, ask, caches, finish_kept, keep_certified, keep_notarization, keep_verified, keeps_for, load_cache, mark, note, process, progresses, put_finalization, reply, says, send, start_sync, store, stores, sync_progress, sync_writes, tell}
use Rattle.mar_model.specs.Plans.{Found, RunsPlan, ack_plan, answer_plan, drain_plan, final_plan, hint_plan, keep_plan, late_plan, newest_plan, oldest_plan, plan_of, sent_block, settle_plan, sync_plan}
use Rattle.mar_model.specs.Ran.{DoesTask, Runs, RunsActs, Task, dispatches, does, ends, repairs}
use Rattle.mar_model.proofs.Acting.{IsPassAct, ran-passes}
use Rattle.mar_model.specs.Scene.{Scene, scene, window_of}
use Rattle.mar_model.proofs.Living.{Runs-keeps}
use Rattle.mar_model.proofs.OpenSyncs.{waits-none}
use Rattle.mar_model.proofs.Shapes.{seen_at}
use Rattle.mar_model.proofs.PromisedFinalization.{none_of}
use Rattle.mar_model.proofs.Unread.{runs_first}
use Rattle.mar_model.proofs.KeptEach.{told_kept}

-- WHO IS ANSWERED

abbrev pub answers_by : Task → Bool
answers_by (does (caches a)) = false
answers_by (does (keeps_for a)) = true
answers_by (does (stores a)) = false
answers_by (does (progresses a)) = false
answers_by (does (says (tell r h d))) = false
answers_by (does (says (ask calls))) = false
answers_by (does (says (send x))) = false
answers_by (does (says (reply a))) = true
answers_by (repairs buffer) = false
answers_by dispatches = false
answers_by (ends fault) = false

-- nobody is
abbrev pub Unanswering : List Bool → Type 0
Unanswering [] = ⊤
Unanswering (true ∷ xs) = ⊥
Unanswering (false ∷ xs) = Unanswering xs

unanswering_first : (b : Bool) (rest : List Bool) → Unanswering (b ∷ rest) → (b ≡ false) × Unanswering rest
unanswering_first true rest none = absurd none
unanswering_first false rest none = (refl, none)

-- no act of a pass of repair answers
act_unanswered : (inner : List ℕ → List ℕ) (a : Act) (s t : Scene) → IsPassAct a → IsDone inner a s t → t.heard.answers ≡ s.heard.answers
act_unanswered inner (stores a) s t is (done, joins, law, same) = ap (λ (y : Scene). y.heard.answers) same
act_unanswered inner (says (tell r h d)) s t is (heard, same) = ap (λ (y : Scene). y.heard.answers) same
act_unanswered inner (says (ask calls)) s t is (heard, same) = ap (λ (y : Scene). y.heard.answers) same
act_unanswered inner _ s t is did = absurd is

row_unanswered : (inner : List ℕ → List ℕ) (acts : List Act) (s t : Scene) → AllByRecursion IsPassAct acts → RunsActs inner s acts t → t.heard.answers ≡ s.heard.answers
row_unanswered inner [] s t are reads = ap (λ (y : Scene). y.heard.answers) reads.same
row_unanswered inner (a ∷ acts) s t are (mid, after, reads, did, runs) =
    row_unanswered inner acts after t are.1 runs ∙ (act_unanswered inner a mid after are.0 did ∙ ap (λ (y : Scene). y.heard.answers) reads.same)

task_unanswered : (inner : List ℕ → List ℕ) (k : Task) (s t : Scene) → answers_by k ≡ false → DoesTask inner k s t → t.heard.answers ≡ s.heard.answers
task_unanswered inner (does (caches a)) s t none (is, joins, law, same) = ap (λ (y : Scene). y.heard.answers) same
task_unanswered inner (does (keeps_for a)) s t none did = absurd (let both : true ≡ false = none in cc)
task_unanswered inner (does (stores a)) s t none (is, joins, law, same) = ap (λ (y : Scene). y.heard.answers) same
task_unanswered inner (does (progresses (note r))) s t none (is, law, heard, same) = ap (λ (y : Scene). y.heard.answers) same
task_unanswered inner (does (progresses (mark ticket m))) s t none same = ap (λ (y : Scene). y.heard.answers) same
task_unanswered inner (does (progresses (process h))) s t none (is, joins, law, heard, same) = ap (λ (y : Scene). y.heard.answers) same
task_unanswered inner (does (progresses sync_progress)) s t none (is, law, same) = ap (λ (y : Scene). y.heard.answers) same
task_unanswered inner (does (says (tell r h d))) s t none (heard, same) = ap (λ (y : Scene). y.heard.answers) same
task_unanswered inner (does (says (ask calls))) s t none (heard, same) = ap (λ (y : Scene). y.heard.answers) same
task_unanswered inner (does (says (send x))) s t none (heard, same) = ap (λ (y : Scene). y.heard.answers) same
task_unanswered inner (does (says (reply a))) s t none same = absurd (let both : true ≡ false = none in cc)
task_unanswered inner (repairs buffer) s t none pass = let (acts, are, ran) = ran-passes inner buffer s t pass in row_unanswered inner acts s t are ran
task_unanswered inner dispatches s t none hands = ap (λ (y : Scene). y.heard.answers) hands.same
task_unanswered inner (ends fault) s t none did = absurd did

pub Runs-unanswered : (inner : List ℕ → List ℕ) (plan : List Task) (s t : Scene) → Unanswering (map answers_by plan) → Runs inner s plan t → t.heard.answers ≡ s.heard.answers
Runs-unanswered inner [] s t none reads = ap (λ (y : Scene). y.heard.answers) reads.same
Runs-unanswered inner (k ∷ plan) s t none (mid, after, reads, did, runs) =
    let (first, rest) = unanswering_first (answers_by k) (map answers_by plan) none in
    Runs-unanswered inner plan after t rest runs ∙ (task_unanswered inner k mid after first did ∙ ap (λ (y : Scene). y.heard.answers) reads.same)

-- those of a plan of answers
Runs-answers : (inner : List ℕ → List ℕ) (answers : List TicketAnswer) (s t : Scene) → Runs inner s (answer_plan answers) t → t.heard.answers ≡ s.heard.answers ++ answers
Runs-answers inner [] s t reads = ap (λ (y : Scene). y.heard.answers) reads.same ∙ sym (append-nil s.heard.answers)
Runs-answers inner (a ∷ answers) s t (mid, after, reads, did, runs) =
    Runs-answers inner answers after t runs ∙ (ap (λ (y : Scene). y.heard.answers ++ answers) did ∙
    (append_assoc mid.heard.answers (a ∷ []) answers ∙ ap (λ (y : Scene). y.heard.answers ++ a ∷ answers) reads.same))

-- PLANS THAT ANSWER NOBODY

settle-none : (b : Bool) → Unanswering (map answers_by (settle_plan b))
settle-none true = tt
settle-none false = tt

drain-none : (out : List Outstanding) (rest : List Task) → Unanswering (map answers_by rest) → Unanswering (map answers_by (drain_plan out ++ rest))
drain-none [] rest none = none
drain-none (o ∷ out) rest none = by o.mark (drain-none out rest none)
  where
    by : (m : Mark) → Unanswering (map answers_by (drain_plan out ++ rest)) → Unanswering (map answers_by ((oldest_plan m o.height ++ cond (is_given m) (drain_plan out) []) ++ rest))
    by mark_waiting left = none
    by mark_given left = left
    by mark_dropped left = none

marked-none : (out : List Outstanding) (t : ℕ) (m : Mark) → Unanswering (map answers_by (ack_plan out t m))
marked-none out t m = drain-none (with_mark t m out) (settle_plan (is_some (given_oldest (with_mark t m out)))) (settle-none (is_some (given_oldest (with_mark t m out))))

-- what a start does behind the tip of its newest finalization
abbrev behind_newest : List Block → List Task
behind_newest buffer = does (caches load_cache) ∷ repairs buffer ∷ does (stores sync_writes) ∷ dispatches ∷ []

start-none : (inner : List ℕ → List ℕ) (buffer : List Block) (o : Option (At Finalization)) → Unanswering (map answers_by (newest_plan inner o ++ behind_newest buffer))
start-none inner buffer None = tt
start-none inner buffer (Some x) = tt

sync-none : (b : Bool) (t : ℕ) → Unanswering (map answers_by (sync_plan b t))
sync-none true t = tt
sync-none false t = tt

keep-none : (r : Round) (o : Option Block) (c : Bool) → Unanswering (map answers_by (keep_plan r o c))
keep-none r None c = tt
keep-none r (Some b) true = tt
keep-none r (Some b) false = tt

final-none : (buffer : List Block) (h : Held) (f : Finalization) (o : Option Block) → Unanswering (map answers_by (final_plan buffer h f o))
final-none buffer h f None = tt
final-none buffer h f (Some b) = by (nat_lt (height_of h.processed) b.height) (b.height == last_height) (lacks_finalization h b)
  where
    by : (c last lacking : Bool) → Unanswering (map answers_by
        (does (caches (put_finalization f)) ∷ cond c
        (cond last (ends (height_limit b.height) ∷ []) (does (stores (store f b)) ∷ does (says (tell f.round b.height b.digest)) ∷ repairs buffer ∷ does (stores start_sync) ∷ []))
        (does (progresses (note f.round)) ∷ late_plan lacking f b)))
    by true true lacking = tt
    by true false lacking = tt
    by false last true = tt
    by false last false = tt

module _ {P E : Type 0} (life : Remembered P E) (inner : List ℕ → List ℕ) (buffer : List Block) (s : Scene) (found : Found) (law : AreLawful s.held) (t : Scene) where
  abbrev Answered : Event → Type 0
  Answered e = Runs inner s (plan_of inner buffer s e found) t → KeepsInCache e (seen_at life s) → t.heard.answers ≡ s.heard.answers ++ answers_found inner s.held buffer e

  -- nobody is
  nobody : (plan : List Task) → Unanswering (map answers_by plan) → Runs inner s plan t → t.heard.answers ≡ s.heard.answers ++ []
  nobody plan none runs = Runs-unanswered inner plan s t none runs ∙ sym (append-nil s.heard.answers)

  -- the holder of a ticket is, by what was kept
  holder : (a : KeepAct) (answers : List TicketAnswer) (begun : Scene) → begun.heard.answers ≡ s.heard.answers → AreLawful begun.held
      → ((new : Scene) (answered : List TicketAnswer) → (did : DoesTask inner (does (keeps_for a)) begun new) → did.0 ≡ answers) → Runs inner begun (does (keeps_for a) ∷ []) t
      → t.heard.answers ≡ s.heard.answers ++ answers
  holder a answers begun before lawful are runs =
      let (m, did, reads) = runs_first inner (does (keeps_for a)) [] begun t lawful runs in
      ap (λ (y : Scene). y.heard.answers) reads.same ∙ (ap (λ (y : Scene). y.heard.answers) did.4 ∙ (ap (λ xs. xs ++ did.0) before ∙ ap (λ xs. s.heard.answers ++ xs) (are m did.0 did)))

  answered-message : (k : Option ℕ) (m : Message) → Answered (message_told k m)
  answered-message None (report_finalization f) runs in_cache = nobody (final_plan buffer s.held f found.block) (final-none buffer s.held f found.block) runs
  answered-message (Some k) (report_finalization f) runs in_cache = nobody (final_plan buffer s.held f found.block) (final-none buffer s.held f found.block) runs
  answered-message None (report_notarization n) runs in_cache = nobody (does (caches (keep_notarization n)) ∷ keep_plan n.round found.block found.is_verified)
      (keep-none n.round found.block found.is_verified) runs
  answered-message (Some k) (report_notarization n) runs in_cache = nobody (does (caches (keep_notarization n)) ∷ keep_plan n.round found.block found.is_verified)
      (keep-none n.round found.block found.is_verified) runs
  answered-message None (prepared r peers b) runs in_cache = nobody (does (says (send (sent_block r peers b))) ∷ []) tt runs
  answered-message (Some k) (prepared r peers b) runs in_cache = nobody (does (says (send (sent_block r peers b))) ∷ []) tt runs
  answered-message (Some k) (verified r b) runs loaded = holder (keep_verified r b k) (to k (started_value s.held.writes.next_sync s.held.lowest r) ∷ []) s refl law
      (λ new answered did. told_kept r _ _ k s.held new.held did.0 did.1 loaded) runs
  answered-message (Some k) (certify r b) runs loaded = holder (keep_certified r b k) (to k (started_value s.held.writes.next_sync s.held.lowest r) ∷ []) s refl law
      (λ new answered did. told_kept r _ _ k s.held new.held did.0 did.1 loaded) runs
  answered-message (Some k) (proposed r peers b) runs loaded =
      let (m, did, rest) = runs_first inner (does (says (send (sent_block r peers b)))) (does (keeps_for (keep_verified r b k)) ∷ []) s t law runs in
      let held_is : m.held ≡ s.held = ap (λ (y : Scene). y.held) did.1 in
      holder (keep_verified r b k) (to k (started_value s.held.writes.next_sync s.held.lowest r) ∷ []) m (ap (λ (y : Scene). y.heard.answers) did.1) (subst AreLawful (sym held_is) law)
      (λ new answered kept. told_kept r _ _ k m.held new.held kept.0 kept.1 (ap (λ h. h.cache.loaded) held_is ∙ loaded) ∙ ap (λ h. to k (started_value h.writes.next_sync h.lowest r) ∷ [])
      held_is) rest
  answered-message (Some k) (report_certification n) runs in_cache = Runs-answers inner (map (to k) (option_to_list (value_found inner s.held buffer (report_certification n)))) s t runs
  answered-message (Some k) (get_info id) runs in_cache = Runs-answers inner (map (to k) (option_to_list (value_found inner s.held buffer (get_info id)))) s t runs
  answered-message (Some k) (get_block id) runs in_cache = Runs-answers inner (map (to k) (option_to_list (value_found inner s.held buffer (get_block id)))) s t runs
  answered-message (Some k) (get_finalization h) runs in_cache = Runs-answers inner (map (to k) (option_to_list (value_found inner s.held buffer (get_finalization h)))) s t runs
  answered-message (Some k) get_processed runs in_cache = Runs-answers inner (map (to k) (option_to_list (value_found inner s.held buffer get_processed))) s t runs
  answered-message (Some k) get_anchor runs in_cache = Runs-answers inner (map (to k) (option_to_list (value_found inner s.held buffer get_anchor))) s t runs
  answered-message (Some k) (get_verified r) runs in_cache = Runs-answers inner (map (to k) (option_to_list (value_found inner s.held buffer (get_verified r)))) s t runs
  answered-message (Some k) (hint_finalized h ps) runs in_cache = nobody (hint_plan s.held h ps) tt runs
  answered-message (Some k) (set_floor f) runs in_cache = Runs-answers inner (map (to k) (option_to_list (value_found inner s.held buffer (set_floor f)))) s t runs
  answered-message (Some k) (prune_below h) runs in_cache = Runs-answers inner (map (to k) (option_to_list (value_found inner s.held buffer (prune_below h)))) s t runs
  answered-message (Some k) (hint_notarized r c) runs in_cache = Runs-answers inner (map (to k) (option_to_list (value_found inner s.held buffer (hint_notarized r c)))) s t runs
  answered-message (Some k) (subscribe_digest d c) runs in_cache = Runs-answers inner (map (to k) (option_to_list (value_found inner s.held buffer (subscribe_digest d c)))) s t runs
  answered-message (Some k) (subscribe_commitment c d) runs in_cache = Runs-answers inner (map (to k) (option_to_list (value_found inner s.held buffer (subscribe_commitment c d)))) s t runs
  answered-message (Some k) (forward r d ps) runs in_cache = Runs-answers inner (map (to k) (option_to_list (value_found inner s.held buffer (forward r d ps)))) s t runs
  answered-message (Some k) (close_ticket c) runs in_cache = Runs-answers inner (map (to k) (option_to_list (value_found inner s.held buffer (close_ticket c)))) s t runs
  answered-message None (report_certification n) runs in_cache = nobody [] tt runs
  answered-message None (get_info id) runs in_cache = nobody [] tt runs
  answered-message None (get_block id) runs in_cache = nobody [] tt runs
  answered-message None (get_finalization h) runs in_cache = nobody [] tt runs
  answered-message None get_processed runs in_cache = nobody [] tt runs
  answered-message None get_anchor runs in_cache = nobody [] tt runs
  answered-message None (get_verified r) runs in_cache = nobody [] tt runs
  answered-message None (hint_finalized h ps) runs in_cache = nobody (hint_plan s.held h ps) tt runs
  answered-message None (set_floor f) runs in_cache = nobody [] tt runs
  answered-message None (prune_below h) runs in_cache = nobody [] tt runs
  answered-message None (hint_notarized r c) runs in_cache = nobody [] tt runs
  answered-message None (subscribe_digest d c) runs in_cache = nobody [] tt runs
  answered-message None (subscribe_commitment c d) runs in_cache = nobody [] tt runs
  answered-message None (forward r d ps) runs in_cache = nobody [] tt runs
  answered-message None (close_ticket c) runs in_cache = nobody [] tt runs
  answered-message None (verified r b) runs in_cache = nobody [] tt runs
  answered-message None (proposed r peers b) runs in_cache = nobody [] tt runs
  answered-message None (certify r b) runs in_cache = nobody [] tt runs

  answered-sync : (k : ℕ) → Answered (sync_finished k)
  answered-sync k runs in_cache = by (is_cache_sync s.held.cache.syncs k) refl runs
    where
      by : (c : Bool) → is_cache_sync s.held.cache.syncs k ≡ c → Runs inner s (cond c (does (keeps_for (finish_kept k)) ∷ []) (sync_plan (is_open_sync s.held.writes.syncs k) k)) t
          → t.heard.answers ≡ s.heard.answers ++ finished_answers k s.held.cache.syncs
      by true is runs = holder (finish_kept k) (finished_answers k s.held.cache.syncs) s refl law (λ new answered did. did.1.1) runs
      by false is runs = nobody (sync_plan (is_open_sync s.held.writes.syncs k) k) (sync-none (is_open_sync s.held.writes.syncs k) k) runs ∙ ap
          (λ o. s.heard.answers ++ map (λ a. to a true_value) (option_to_list o)) (sym (waits-none k s.held.cache.syncs (none_of k s.held.cache.syncs is)))

  answered : (e : Event) → Answered e
  answered (life_started f) runs in_cache = nobody (newest_plan inner (newest s.held.certs.held) ++ behind_newest buffer)
      (start-none inner buffer (newest s.held.certs.held)) runs
  answered (message_told k m) runs in_cache = answered-message k m runs in_cache
  answered (sync_finished k) runs in_cache = answered-sync k runs in_cache
  answered (ack_marked k m) runs in_cache = nobody (ack_plan s.life.out k m) (marked-none s.life.out k m) runs
  answered (peer_answered x) runs in_cache = nobody [] tt runs
  answered serve_ended runs in_cache = nobody [] tt runs
  answered (block_buffered b) runs in_cache = nobody [] tt runs
  answered buffer_ended runs in_cache = nobody [] tt runs

-- WHAT IS TAKEN UP

loads_rest : (inner : List ℕ → List ℕ) (buffer : List Block) (m t : Scene) → AreLawful m.held → Runs inner m (behind_newest buffer) t → t.held.cache.loaded ≡ true
loads_rest inner buffer m t law runs =
    let (u, did, rest) = runs_first inner (does (caches load_cache)) (repairs buffer ∷ does (stores sync_writes) ∷ dispatches ∷ []) m t law runs in
    (Runs-keeps inner u.life.sizes.window (repairs buffer ∷ does (stores sync_writes) ∷ dispatches ∷ []) u t refl rest).loaded did.0.loaded

loads : (inner : List ℕ → List ℕ) (buffer : List Block) (s t : Scene) (o : Option (At Finalization)) → AreLawful s.held → Runs inner s (newest_plan inner o ++ behind_newest buffer) t
    → t.held.cache.loaded ≡ true
loads inner buffer s t None law runs = loads_rest inner buffer s t law runs
loads inner buffer s t (Some x) law runs =
    let (m, did, rest) = runs_first inner (does (says (tell x.value.round x.height (inner x.value.payload)))) (behind_newest buffer) s t law runs in
    loads_rest inner buffer m t (subst AreLawful (sym (ap (λ (y : Scene). y.held) did.1)) law) rest

-- THE CLAUSES OF A STEP

module _ {P E : Type 0} (life : Remembered P E) (inner : List ℕ → List ℕ) (buffer : List Block) (s : Scene) (law : AreLawful s.held) (heard : Heard) (n : Seen P E) where
  pub step_answered : (e : Event) → RunsPlan inner buffer e s heard (Ok n) → KeepsInCache e (seen_at life s) → heard.answers ≡ s.heard.answers ++ answers_found inner s.held buffer e
  step_answered e plan in_cache = answered life inner buffer s plan.found law (scene n.held (window_of n.life) s.standing heard) e plan.ran in_cache

  kept_loaded : (e : Event) → RunsPlan inner buffer e s heard (Ok n) → s.held.cache.loaded ≡ true → n.held.cache.loaded ≡ true
  kept_loaded e plan was = (Runs-keeps inner s.life.sizes.window (plan_of inner buffer s e plan.found) s (scene n.held (window_of n.life) s.standing heard) refl plan.ran).loaded was

  pub step_loaded : (e : Event) → RunsPlan inner buffer e s heard (Ok n) → KeepsTakenUp e (seen_at life s) n
  step_loaded (life_started f) plan = loads inner buffer s (scene n.held (window_of n.life) s.standing heard) (newest s.held.certs.held) law plan.ran
  step_loaded (message_told t m) plan = kept_loaded (message_told t m) plan
  step_loaded (ack_marked t m) plan = kept_loaded (ack_marked t m) plan
  step_loaded (sync_finished t) plan = kept_loaded (sync_finished t) plan
  step_loaded (peer_answered x) plan = kept_loaded (peer_answered x) plan
  step_loaded serve_ended plan = kept_loaded serve_ended plan
  step_loaded (block_buffered b) plan = kept_loaded (block_buffered b) plan
  step_loaded buffer_ended plan = kept_loaded buffer_ended plan

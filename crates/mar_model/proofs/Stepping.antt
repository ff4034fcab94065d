-- What a step of any event keeps of a life, why it ends one, what fault it ends in and what it tells: read off its plan.
use Rattle.std.proofs.Common.{◌≡◌, ◌⊎◌, inl, inr, ◌∷◌, [], List, Option, None, Some, Bool, true, false, cond, nat_lt, map, option_to_list, Result, Ok, Err, IfOk, ◌++◌, ◌+◌, ◌≤◌, ◌==◌, ◌&&◌, ◌^◌, ◌-◌, ℕ, arith, refl, sym, ◌∙◌, ap, subst, is_some, IsTrue}
use Rattle.mar_types.specs.Round.{Round}
use Rattle.mar_cert.specs.Block.{Block}
use Rattle.mar_cert.specs.Finalization.{Finalization, Notarization}
use Rattle.mar_gate.specs.Writing.{is_open_sync}
use Rattle.mar_store.specs.Kept.{At}
use Rattle.mar_key.specs.Processed.{height_of}
use Rattle.mar_key.specs.Hears.{Hears}
use Rattle.mar_model.specs.Acks.{Mark, Outstanding, after_given, given_oldest, is_given, mark_dropped, mark_given, mark_waiting, with_mark}
use Rattle.mar_model.specs.Answers.{TicketAnswer, to}
use Rattle.mar_model.specs.Event.{Event, ack_marked, block_buffered, buffer_ended, life_started, message_told, peer_answered, serve_ended, sync_finished}
use Rattle.mar_model.specs.Faults.{Fault, dropped_ack, dropped_first, height_limit, last_height}
use Rattle.mar_model.specs.Held.{Ending, Remembered, Seen}
use Rattle.mar_model.specs.Messages.{Message, certify, close_ticket, forward, get_anchor, get_block, get_finalization, get_info, get_processed, get_verified, hint_finalized, hint_notarized, prepared, proposed, prune_below, report_certification, report_finalization, report_notarization, set_floor, subscribe_commitment, subscribe_digest, verified}
use Rattle.mar_model.specs.Moves.{FindsInCache, LivesOnGiving, found_at_hand, lacks_finalization, late_tips, newest_tips, syncs_at_most, tip_reports}
use Rattle.mar_model.specs.OpenSyncs.{is_cache_sync}
use Rattle.mar_model.specs.Promise.{Heard}
use Rattle.mar_model.specs.Requests.{may_repair}
use Rattle.mar_model.specs.Step.{Report}
use Rattle.mar_model.specs.Stored.{newest}
use Rattle.mar_model.specs.Acts.{AreLawful, caches, finish_kept, keep_notarization, keeps_for, load_cache, note, progresses, put_finalization, says, start_sync, store, stores, sync_writes, tell}
use Rattle.mar_model.specs.Plans.{Found, RunsPlan, ack_plan, answer_plan, drain_plan, final_plan, found_by, keep_plan, late_plan, marked_plan, newest_plan, oldest_plan, plan_of, settle_plan, sync_plan}
use Rattle.mar_model.specs.Queries.{value_found}
use Rattle.mar_model.specs.Ran.{Task, dispatches, does, ends, repairs}
use Rattle.mar_model.specs.Scene.{Scene, scene, window_of}
use Rattle.mar_model.specs.Due.{EndsWhereDue, due_fault, dropping_due, storing_due}
use Rattle.mar_model.specs.Told.{TellsInOrder, finalized_tips, tips_of}
use Rattle.mar_model.proofs.Handing.{Hears-nothing}
use Rattle.mar_model.proofs.Living.{Breaks-ends, EndByValue, Runs-keeps, syncs, windows}
use Rattle.mar_model.proofs.Shapes.{seen_at, Breaks-due, Breaks-mute, Breaks-tells, InOrder, Mute, Runs-tells, Runs-undue, Tells, TellsOr, Untold, due_in, fill_tips-may, fills_in, said, tips_in, untold_unfilled}
use Rattle.mar_model.proofs.Planned.{found_block}

-- A plan gives no more than that, ends in this fault by value, fills in only where it may, and tells these tips first.
record Shape (may : Bool) (most w tip : ℕ) (due : Option Fault) (tips : List Report) (plan : List Task) : Type 0 where
  pub windows_most : windows plan w ≤ w
  pub syncs_most : syncs plan ≤ most
  pub by_value : EndByValue plan
  pub due_is : due_in plan ≡ due
  pub order : InOrder (map said plan)
  pub fills_may : IsTrue (fills_in (map said plan)) → IsTrue may
  -- or it says nothing, and ends
  pub tips_are : (tips_in tip (map said plan) ≡ tips) ⊎ ((due ≡ None → ⊥) × Mute (map said plan))

-- without a pass of repair
unfilled : (may : Bool) → IsTrue false → IsTrue may
unfilled may fills = absurd (let no : false ≡ true = fills in cc)

-- It tells nothing, and its fault is this.
record Silent (w : ℕ) (due : Option Fault) (plan : List Task) : Type 0 where
  pub windows_most : windows plan w ≤ w
  pub syncs_none : syncs plan ≡ 0
  pub by_value : EndByValue plan
  pub due_is : due_in plan ≡ due
  pub untold : Untold (map said plan)
  pub order : InOrder (map said plan)
  pub tips_none : (tip : ℕ) → tips_in tip (map said plan) ≡ []

module _ (w : ℕ) where
  answers-silent : (answers : List TicketAnswer) → Silent w None (answer_plan answers)
  answers-silent [] = record { windows_most = omega arith; syncs_none = refl; by_value = tt; due_is = refl; untold = tt; order = tt; tips_none = λ tip. refl }
  answers-silent (a ∷ answers) = let rest = answers-silent answers in let none : syncs (answer_plan answers) ≡ 0 = rest.syncs_none in record
      { windows_most = rest.windows_most; syncs_none = omega arith; by_value = rest.by_value; due_is = rest.due_is; untold = rest.untold; order = rest.order; tips_none = rest.tips_none }

  settle-silent : (b : Bool) → Silent w None (settle_plan b)
  settle-silent true = record { windows_most = omega arith; syncs_none = refl; by_value = tt; due_is = refl; untold = tt; order = tt; tips_none = λ tip. refl }
  settle-silent false = record { windows_most = omega arith; syncs_none = refl; by_value = tt; due_is = refl; untold = tt; order = tt; tips_none = λ tip. refl }

  drain-silent : (out : List Outstanding) (rest : List Task) → Silent w None rest → Silent w (dropped_first (after_given out)) (drain_plan out ++ rest)
  drain-silent [] rest silent = silent
  drain-silent (o ∷ out) rest silent = by o.mark refl (drain-silent out rest silent)
    where
      dropped_is : Mark → Option Fault
      dropped_is mark_waiting = None
      dropped_is mark_given = dropped_first (after_given out)
      dropped_is mark_dropped = Some (dropped_ack o.height)

      is : (m : Mark) → o.mark ≡ m → dropped_is m ≡ dropped_first (after_given (o ∷ out))
      is mark_waiting marked = rw marked refl
      is mark_given marked = rw marked refl
      is mark_dropped marked = rw marked refl

      by : (m : Mark) → o.mark ≡ m → Silent w (dropped_first (after_given out)) (drain_plan out ++ rest)
          → Silent w (dropped_first (after_given (o ∷ out))) ((oldest_plan m o.height ++ cond (is_given m) (drain_plan out) []) ++ rest)
      by mark_waiting marked left = subst (λ d. Silent w d rest) (is mark_waiting marked) silent
      by mark_given marked left = subst (λ d. Silent w d ((oldest_plan mark_given o.height ++ drain_plan out) ++ rest)) (is mark_given marked)
          (record {
            windows_most = left.windows_most;
            syncs_none = let none : syncs (drain_plan out ++ rest) ≡ 0 = left.syncs_none in omega arith;
            by_value = left.by_value;
            due_is = left.due_is;
            untold = left.untold;
            order = left.order;
            tips_none =
                left.tips_none;
          })
      by mark_dropped marked left = subst (λ d. Silent w d ((oldest_plan mark_dropped o.height ++ []) ++ rest)) (is mark_dropped marked)
          (record {
            windows_most = silent.windows_most;
            syncs_none = silent.syncs_none;
            by_value = (refl, silent.by_value);
            due_is = refl;
            untold = silent.untold;
            order = silent.order;
            tips_none = silent.tips_none;
          })

  silent-shape : (may : Bool) (most tip : ℕ) (due : Option Fault) (plan : List Task) → Silent w due plan → Shape may most w tip due [] plan
  silent-shape may most tip due plan silent = record {
    windows_most = silent.windows_most;
    syncs_most = (let none : syncs plan ≡ 0 = silent.syncs_none in omega arith);
    by_value =
        silent.by_value;
    due_is = silent.due_is;
    order = silent.order;
    fills_may = λ fills. absurd (untold_unfilled (map said plan) silent.untold fills);
    tips_are = inl (silent.tips_none tip);
  }

  -- a plan of few tasks that tells nothing
  none-shape : (may : Bool) (most tip : ℕ) → Shape may most w tip None [] []
  none-shape may most tip = record { windows_most = omega arith; syncs_most = omega arith; by_value = tt; due_is = refl; order = tt; fills_may = unfilled may; tips_are = inl refl }

  start-shape : (tip : ℕ) (inner : List ℕ → List ℕ) (buffer : List Block) (o : Option (At Finalization))
      → Shape true 1 w tip None (newest_tips inner tip o)
      (newest_plan inner o ++ does (caches load_cache) ∷ repairs buffer ∷ does (stores sync_writes) ∷ dispatches ∷ [])
  start-shape tip inner buffer None = record
      { windows_most = omega arith; syncs_most = omega arith; by_value = tt; due_is = refl; order = tt; fills_may = λ fills. fills; tips_are = inl refl }
  start-shape tip inner buffer (Some x) = record
      { windows_most = omega arith; syncs_most = omega arith; by_value = tt; due_is = refl; order = tt; fills_may = λ fills. fills; tips_are = inl refl }

  finish-shape : (may : Bool) (tip t : ℕ) (kept open_there : Bool) → Shape may 1 w tip None [] (cond kept (does (keeps_for (finish_kept t)) ∷ []) (sync_plan open_there t))
  finish-shape may tip t true open_there = record { windows_most = omega arith; syncs_most = omega arith; by_value = tt; due_is = refl; order = tt; fills_may = unfilled may; tips_are = inl refl }
  finish-shape may tip t false true = record { windows_most = omega arith; syncs_most = omega arith; by_value = tt; due_is = refl; order = tt; fills_may = unfilled may; tips_are = inl refl }
  finish-shape may tip t false false = record { windows_most = omega arith; syncs_most = omega arith; by_value = tt; due_is = refl; order = tt; fills_may = unfilled may; tips_are = inl refl }

module _ {P E : Type 0} (life : Remembered P E) (inner : List ℕ → List ℕ) (buffer : List Block) (s : Scene) (found : Found) (w : ℕ) where
  abbrev a : Seen P E
  a = seen_at life s

  final-shape : (f : Finalization) (o : Option Block) → Shape true 1 w s.life.tip (storing_due s.held o) (finalized_tips a f o) (final_plan buffer s.held f o)
  final-shape f None = record { windows_most = omega arith; syncs_most = omega arith; by_value = tt; due_is = refl; order = tt; fills_may = λ fills. refl; tips_are = inl refl }
  final-shape f (Some b) = by (nat_lt (height_of s.held.processed) b.height) (b.height == last_height) (lacks_finalization s.held b)
    where
      by : (c last lacking : Bool) → Shape true 1 w s.life.tip (cond (c && last) (Some (height_limit b.height)) None) (cond c (tip_reports s.life.tip f b) (late_tips lacking s.life.tip f b))
          (does (caches (put_finalization f)) ∷ cond c (cond last (ends (height_limit b.height) ∷ [])
          (does (stores (store f b)) ∷ does (says (tell f.round b.height b.digest)) ∷ repairs buffer ∷ does (stores start_sync) ∷ []))
          (does (progresses (note f.round)) ∷ late_plan lacking f b))
      by true true lacking = record {
        windows_most = omega arith;
        syncs_most = omega arith;
        by_value = (refl, tt);
        due_is = refl;
        order = tt;
        fills_may = λ fills. refl;
        tips_are = inr
            ((λ none. let some : ◌≡◌ {A = Option Fault} (Some (height_limit b.height)) None = none in absurd cc), tt);
      }
      by true false lacking = record { windows_most = omega arith; syncs_most = omega arith; by_value = tt; due_is = refl; order = tt; fills_may = λ fills. refl; tips_are = inl refl }
      by false last true = record { windows_most = omega arith; syncs_most = omega arith; by_value = tt; due_is = refl; order = tt; fills_may = λ fills. refl; tips_are = inl refl }
      by false last false = record { windows_most = omega arith; syncs_most = omega arith; by_value = tt; due_is = refl; order = tt; fills_may = λ fills. refl; tips_are = inl refl }

  -- what an event's plan may give, end in and tell
  record Stepped (e : Event) : Type 0 where
    pub due : Option Fault
    pub tips : List Report
    pub shape : Shape (may_repair e) (syncs_at_most e) w s.life.tip due tips (plan_of inner buffer s e found)
    pub due_is : (s.held.cache.loaded ≡ true → found ≡ found_by inner buffer s.held e) → FindsInCache e a → due ≡ due_fault inner a buffer e
    pub tips_is : (s.held.cache.loaded ≡ true → found ≡ found_by inner buffer s.held e) → FindsInCache e a → tips ≡ tips_of inner a buffer e

  plain : (e : Event) → due_fault inner a buffer e ≡ None → tips_of inner a buffer e ≡ [] → Shape (may_repair e) (syncs_at_most e) w s.life.tip None [] (plan_of inner buffer s e found) → Stepped e
  plain e due tips shape = record { due = None; tips = []; shape = shape; due_is = λ finds in_cache. sym due; tips_is = λ finds in_cache. sym tips }

  answering : (most : ℕ) (t : ℕ) (m : Message) → Shape false most w s.life.tip None [] (answer_plan (map (to t) (option_to_list (value_found inner s.held buffer m))))
  answering most t m = silent-shape w false most s.life.tip None _ (answers-silent w (map (to t) (option_to_list (value_found inner s.held buffer m))))

  notar-shape : (r : Round) (n : Notarization) (o : Option Block) (c : Bool) → Shape false 2 w s.life.tip None [] (does (caches (keep_notarization n)) ∷ keep_plan r o c)
  notar-shape r n None c = record { windows_most = omega arith; syncs_most = omega arith; by_value = tt; due_is = refl; order = tt; fills_may = unfilled false; tips_are = inl refl }
  notar-shape r n (Some b) true = record { windows_most = omega arith; syncs_most = omega arith; by_value = tt; due_is = refl; order = tt; fills_may = unfilled false; tips_are = inl refl }
  notar-shape r n (Some b) false = record { windows_most = omega arith; syncs_most = omega arith; by_value = tt; due_is = refl; order = tt; fills_may = unfilled false; tips_are = inl refl }

  message-told : (t : Option ℕ) (m : Message) → Stepped (message_told t m)
  message-told t (report_finalization f) = record {
    due = storing_due s.held found.block;
    tips = finalized_tips a f found.block;
    shape = final-shape f found.block;
    due_is = λ finds in_cache. ap (storing_due s.held) (block_is finds in_cache);
    tips_is = λ finds in_cache. ap (finalized_tips a f) (block_is finds in_cache);
  }
    where
      block_is : (s.held.cache.loaded ≡ true → found ≡ found_by inner buffer s.held (message_told t (report_finalization f))) → s.held.cache.loaded ≡ true
          → found.block ≡ found_at_hand inner buffer s.held.cache.kept.held s.held.blocks.held f.payload
      block_is finds loaded = ap (λ (x : Found). x.block) (finds loaded) ∙ found_block s.held f.round (found_at_hand inner buffer s.held.cache.kept.held s.held.blocks.held f.payload)
  message-told t (report_notarization n) = plain (message_told t (report_notarization n)) refl refl (notar-shape n.round n found.block found.is_verified)
  message-told t (prepared r peers b) = plain (message_told t (prepared r peers b)) refl refl
      (record { windows_most = omega arith; syncs_most = omega arith; by_value = tt; due_is = refl; order = tt; fills_may = unfilled false; tips_are = inl refl })
  message-told t (hint_finalized h ps) = plain (message_told t (hint_finalized h ps)) refl refl
      (record { windows_most = omega arith; syncs_most = omega arith; by_value = tt; due_is = refl; order = tt; fills_may = unfilled false; tips_are = inl refl })
  message-told (Some t) (verified r b) = plain (message_told (Some t) (verified r b)) refl refl
      (record { windows_most = omega arith; syncs_most = omega arith; by_value = tt; due_is = refl; order = tt; fills_may = unfilled false; tips_are = inl refl })
  message-told (Some t) (proposed r peers b) = plain (message_told (Some t) (proposed r peers b)) refl refl
      (record { windows_most = omega arith; syncs_most = omega arith; by_value = tt; due_is = refl; order = tt; fills_may = unfilled false; tips_are = inl refl })
  message-told (Some t) (certify r b) = plain (message_told (Some t) (certify r b)) refl refl
      (record { windows_most = omega arith; syncs_most = omega arith; by_value = tt; due_is = refl; order = tt; fills_may = unfilled false; tips_are = inl refl })
  message-told (Some t) (report_certification n) = plain (message_told (Some t) (report_certification n)) refl refl (answering 1 t (report_certification n))
  message-told (Some t) (get_info id) = plain (message_told (Some t) (get_info id)) refl refl (answering 1 t (get_info id))
  message-told (Some t) (get_block id) = plain (message_told (Some t) (get_block id)) refl refl (answering 1 t (get_block id))
  message-told (Some t) (get_finalization h) = plain (message_told (Some t) (get_finalization h)) refl refl (answering 1 t (get_finalization h))
  message-told (Some t) get_processed = plain (message_told (Some t) get_processed) refl refl (answering 1 t get_processed)
  message-told (Some t) get_anchor = plain (message_told (Some t) get_anchor) refl refl (answering 1 t get_anchor)
  message-told (Some t) (get_verified r) = plain (message_told (Some t) (get_verified r)) refl refl (answering 1 t (get_verified r))
  message-told (Some t) (set_floor f) = plain (message_told (Some t) (set_floor f)) refl refl (answering 1 t (set_floor f))
  message-told (Some t) (prune_below h) = plain (message_told (Some t) (prune_below h)) refl refl (answering 1 t (prune_below h))
  message-told (Some t) (hint_notarized r c) = plain (message_told (Some t) (hint_notarized r c)) refl refl (answering 1 t (hint_notarized r c))
  message-told (Some t) (subscribe_digest d k) = plain (message_told (Some t) (subscribe_digest d k)) refl refl (answering 1 t (subscribe_digest d k))
  message-told (Some t) (subscribe_commitment c k) = plain (message_told (Some t) (subscribe_commitment c k)) refl refl (answering 1 t (subscribe_commitment c k))
  message-told (Some t) (forward r d ps) = plain (message_told (Some t) (forward r d ps)) refl refl (answering 1 t (forward r d ps))
  message-told (Some t) (close_ticket k) = plain (message_told (Some t) (close_ticket k)) refl refl (answering 1 t (close_ticket k))
  message-told None (report_certification n) = plain (message_told None (report_certification n)) refl refl (none-shape w false 1 s.life.tip)
  message-told None (get_info id) = plain (message_told None (get_info id)) refl refl (none-shape w false 1 s.life.tip)
  message-told None (get_block id) = plain (message_told None (get_block id)) refl refl (none-shape w false 1 s.life.tip)
  message-told None (get_finalization h) = plain (message_told None (get_finalization h)) refl refl (none-shape w false 1 s.life.tip)
  message-told None get_processed = plain (message_told None get_processed) refl refl (none-shape w false 1 s.life.tip)
  message-told None get_anchor = plain (message_told None get_anchor) refl refl (none-shape w false 1 s.life.tip)
  message-told None (get_verified r) = plain (message_told None (get_verified r)) refl refl (none-shape w false 1 s.life.tip)
  message-told None (set_floor f) = plain (message_told None (set_floor f)) refl refl (none-shape w false 1 s.life.tip)
  message-told None (prune_below h) = plain (message_told None (prune_below h)) refl refl (none-shape w false 1 s.life.tip)
  message-told None (hint_notarized r c) = plain (message_told None (hint_notarized r c)) refl refl (none-shape w false 1 s.life.tip)
  message-told None (subscribe_digest d k) = plain (message_told None (subscribe_digest d k)) refl refl (none-shape w false 1 s.life.tip)
  message-told None (subscribe_commitment c k) = plain (message_told None (subscribe_commitment c k)) refl refl (none-shape w false 1 s.life.tip)
  message-told None (forward r d ps) = plain (message_told None (forward r d ps)) refl refl (none-shape w false 1 s.life.tip)
  message-told None (close_ticket k) = plain (message_told None (close_ticket k)) refl refl (none-shape w false 1 s.life.tip)
  message-told None (verified r b) = plain (message_told None (verified r b)) refl refl (none-shape w false 1 s.life.tip)
  message-told None (proposed r peers b) = plain (message_told None (proposed r peers b)) refl refl (none-shape w false 1 s.life.tip)
  message-told None (certify r b) = plain (message_told None (certify r b)) refl refl (none-shape w false 1 s.life.tip)

  marked-shape : (t : ℕ) (m : Mark) → Shape false 1 w s.life.tip (dropped_first (after_given (with_mark t m s.life.out))) [] (ack_plan s.life.out t m)
  marked-shape t m =
      let silent = drain-silent w (with_mark t m s.life.out) (settle_plan (is_some (given_oldest (with_mark t m s.life.out))))
      (settle-silent w (is_some (given_oldest (with_mark t m s.life.out)))) in
      let shape = silent-shape w false 1 s.life.tip _ (marked_plan (with_mark t m s.life.out)) silent in
      record {
        windows_most = shape.windows_most;
        syncs_most = let most : syncs (marked_plan (with_mark t m s.life.out)) ≤ 1 = shape.syncs_most in omega arith;
        by_value = shape.by_value;
        due_is = shape.due_is;
        order = shape.order;
        fills_may = shape.fills_may;
        tips_are = inl
            (silent.tips_none s.life.tip);
      }

  stepped : (e : Event) → Stepped e
  stepped (life_started f) = record {
    due = None;
    tips = newest_tips inner s.life.tip (newest s.held.certs.held);
    shape = start-shape w s.life.tip inner buffer (newest s.held.certs.held);
    due_is =
        λ finds in_cache. refl;
    tips_is = λ finds in_cache. refl;
  }
  stepped (message_told t m) = message-told t m
  stepped (sync_finished t) = plain (sync_finished t) refl refl (finish-shape w false s.life.tip t (is_cache_sync s.held.cache.syncs t) (is_open_sync s.held.writes.syncs t))
  stepped (ack_marked t m) = record { due = dropping_due s.life.out t m; tips = []; shape = marked-shape t m; due_is = λ finds in_cache. refl; tips_is = λ finds in_cache. refl }
  stepped (peer_answered x) = plain (peer_answered x) refl refl (none-shape w false 1 s.life.tip)
  stepped serve_ended = plain serve_ended refl refl (none-shape w false 1 s.life.tip)
  stepped (block_buffered b) = plain (block_buffered b) refl refl (none-shape w false 1 s.life.tip)
  stepped buffer_ended = plain buffer_ended refl refl (none-shape w false 1 s.life.tip)

-- THE CLAUSES OF A STEP

module _ {P E : Type 0} (life : Remembered P E) (inner : List ℕ → List ℕ) (buffer : List Block) (e : Event) (s : Scene) (law : AreLawful s.held) (heard : Heard) where
  pub step_lives : (result : Result (Seen P E) Ending) → RunsPlan inner buffer e s heard result → IfOk result (λ n. (n.life.provider ≡ life.provider) × (n.life.epocher ≡ life.epocher))
      → LivesOnGiving (syncs_at_most e) (seen_at life s) result
  step_lives (Ok n) plan same =
      let shape = (stepped life inner buffer s plan.found s.life.sizes.window e).shape in
      let kept = Runs-keeps inner s.life.sizes.window (plan_of inner buffer s e plan.found) s (scene n.held (window_of n.life) s.standing heard) refl plan.ran in
      record {
        passed = kept.passed law;
        tickets = let given : n.life.next_ack ≤ s.life.next_ack + windows (plan_of inner buffer s e plan.found) s.life.sizes.window = kept.tickets in let few : windows
            (plan_of inner buffer s e plan.found) s.life.sizes.window ≤ s.life.sizes.window = shape.windows_most in omega arith;
        sync_tickets = let given : n.held.writes.next_sync ≤ s.held.writes.next_sync + syncs (plan_of inner buffer s e plan.found) = kept.sync_tickets in let few : syncs
            (plan_of inner buffer s e plan.found) ≤ syncs_at_most e = shape.syncs_most in omega arith;
        rises = kept.rises;
        provider = same.0;
        epocher = same.1;
        sizes = kept.sizes;
        intact = kept.intact;
        loaded = kept.loaded;
      }
  step_lives (Err x) plan same =
      let shape = (stepped life inner buffer s plan.found s.life.sizes.window e).shape in
      let ended = Breaks-ends inner s.life.sizes.window (plan_of inner buffer s e plan.found) s x heard refl law shape.by_value plan.ran in
      record {
        cause = ended.cause;
        tickets = (
          (λ is. let low : 2 ^ 64 - 1 ≤ s.life.next_ack + windows (plan_of inner buffer s e plan.found) s.life.sizes.window = ended.acks_out is in let few : windows
              (plan_of inner buffer s e plan.found) s.life.sizes.window ≤ s.life.sizes.window = shape.windows_most in omega arith),
          (λ is. let low : 2 ^ 64 ≤ s.held.writes.next_sync + syncs (plan_of inner buffer s e plan.found) = ended.syncs_out is in let few : syncs (plan_of inner buffer s e plan.found) ≤
              syncs_at_most e = shape.syncs_most in omega arith),
        );
      }

  pub step_by_value : (result : Result (Seen P E) Ending) → RunsPlan inner buffer e s heard result → FindsInCache e (seen_at life s)
      → EndsWhereDue (due_fault inner (seen_at life s) buffer e) result
  step_by_value (Ok n) plan in_cache =
      let step = stepped life inner buffer s plan.found s.life.sizes.window e in
      sym (step.due_is plan.finds in_cache) ∙ (sym step.shape.due_is ∙ Runs-undue inner (plan_of inner buffer s e plan.found) s (scene n.held (window_of n.life) s.standing heard)
      plan.ran)
  step_by_value (Err x) plan in_cache =
      let step = stepped life inner buffer s plan.found s.life.sizes.window e in
      λ by. sym (step.due_is plan.finds in_cache) ∙ (sym step.shape.due_is ∙ Breaks-due inner (plan_of inner buffer s e plan.found) s x heard plan.ran by)

  pub step_tells : (result : Result (Seen P E) Ending) → RunsPlan inner buffer e s heard result → FindsInCache e (seen_at life s)
      → TellsInOrder (may_repair e) s.heard.reports (tips_of inner (seen_at life s) buffer e) heard.reports result
  step_tells (Ok n) plan in_cache = by step.shape.tips_are
    where
      step : Stepped life inner buffer s plan.found s.life.sizes.window e
      step = stepped life inner buffer s plan.found s.life.sizes.window e

      told : Tells (may_repair e) s.heard.reports (tips_in s.life.tip (map said (plan_of inner buffer s e plan.found))) heard.reports
      told =
          let (fills, are, handed, heard_is) =
          Runs-tells inner (plan_of inner buffer s e plan.found) s (scene n.held (window_of n.life) s.standing heard) step.shape.order plan.ran in
          (fills, fill_tips-may _ (may_repair e) step.shape.fills_may fills are, handed, heard_is)

      by : (tips_in s.life.tip (map said (plan_of inner buffer s e plan.found)) ≡ step.tips) ⊎ ((step.due ≡ None → ⊥) × Mute (map said (plan_of inner buffer s e plan.found)))
          → Tells (may_repair e) s.heard.reports (tips_of inner (seen_at life s) buffer e) heard.reports
      by (inl is) = subst (λ tips. Tells (may_repair e) s.heard.reports tips heard.reports) (is ∙ step.tips_is plan.finds in_cache) told
      by (inr (some, mute)) = absurd (some (sym step.shape.due_is ∙ Runs-undue inner (plan_of inner buffer s e plan.found) s (scene n.held (window_of n.life) s.standing heard) plan.ran))
  step_tells (Err x) plan in_cache = by step.shape.tips_are
    where
      step : Stepped life inner buffer s plan.found s.life.sizes.window e
      step = stepped life inner buffer s plan.found s.life.sizes.window e

      told : TellsOr (may_repair e) s.heard.reports (tips_in s.life.tip (map said (plan_of inner buffer s e plan.found))) heard.reports
      told =
          let (fills, are, handed, heard_is) = Breaks-tells inner (plan_of inner buffer s e plan.found) s x heard step.shape.order plan.ran in
          (fills, fill_tips-may _ (may_repair e) step.shape.fills_may fills are, handed, heard_is)

      by : (tips_in s.life.tip (map said (plan_of inner buffer s e plan.found)) ≡ step.tips) ⊎ ((step.due ≡ None → ⊥) × Mute (map said (plan_of inner buffer s e plan.found)))
          → TellsOr (may_repair e) s.heard.reports (tips_of inner (seen_at life s) buffer e) heard.reports
      by (inl is) = subst (λ tips. TellsOr (may_repair e) s.heard.reports tips heard.reports) (is ∙ step.tips_is plan.finds in_cache) told
      by (inr (some, mute)) = (
        [],
        tt,
        [],
        inl (subst (λ r. Hears s.heard.reports [] r) (sym (Breaks-mute inner (plan_of inner buffer s e plan.found) s x heard mute plan.ran))
            (Hears-nothing s.heard.reports)),
      )

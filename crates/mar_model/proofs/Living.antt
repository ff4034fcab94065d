-- What a plan keeps of a life, and why it ends one: read off the plan.
use Rattle.std.specs.Prelude.{⊤}
use Rattle.std.specs.List.{AllByRecursion}
use Rattle.std.proofs.Common.{Option, None, Some, ◌≡◌, ◌⊎◌, inl, inr, ◌∷◌, [], List, Bool, true, false, cond, nat_lt, length, ℕ, zero, suc, ◌+◌, ◌-◌, ◌^◌, ◌<◌, ◌≤◌, arith, refl, sym, ◌∙◌, ap, subst}
use Rattle.std.proofs.lemmas.Bool.Decides.{nat_tests}
use Rattle.mar_model.specs.Faults.{Fault, TicketKind, ack_kind, is_by_value, store_fault, sync_kind, ticket_limit, want_of_memory}
use Rattle.mar_model.specs.Held.{ArePassed, Ending, IsArchiveFault, IsEndedBy, IsNoStores, IsUsual, Written, ended_on, nothing_written}
use Rattle.mar_model.specs.Step.{HandedBlock}
use Rattle.mar_model.specs.Held.{Held, Seen}
use Rattle.mar_model.specs.Moves.{HasRoom, IsLastTicket, KeepsFor, risen_to, ticketed}
use Rattle.mar_model.specs.Promise.{Heard}
use Rattle.mar_model.proofs.Cutting.{usual_from_archive}
use Rattle.mar_model.proofs.Growing.{Grew-refl, WithinWritten-refl}
use Rattle.mar_model.proofs.Passing.{ArePassed-refl, ArePassed-then, FailsBy-nothing, FailsBy-then}
use Rattle.mar_model.specs.Acts.{Act, AreLawful, IsKeepFault, Joins, LosesOver, reply, ask, caches, finish_kept, finish_sync, keep_certified, keep_notarization, keep_notarized, keep_verified, keeps_for, load_cache, mark, note, process, progresses, put_finalization, says, send, start_sync, store, store_block, store_late, stores, sync_progress, sync_writes, tell, IsLost}
use Rattle.mar_model.specs.Cached.{Cached}
use Rattle.mar_gate.specs.Writing.{Writing}
use Rattle.mar_model.specs.Ran.{Breaks, BreaksActs, DoesTask, FailsTask, Reads, Runs, RunsActs, Task, dispatches, does, ends, repairs}
use Rattle.mar_model.proofs.Acting.{IsPassAct, broke-passes, ran-passes, synced_as}
use Rattle.mar_model.specs.Scene.{Scene, seen_of}

-- so many windows may be handed over, and so many syncs started
abbrev pub windows : List Task → ℕ → ℕ
windows [] w = 0
windows (dispatches ∷ plan) w = w + windows plan w
windows (does a ∷ plan) w = windows plan w
windows (repairs buffer ∷ plan) w = windows plan w
windows (ends fault ∷ plan) w = windows plan w

abbrev pub act_syncs : Act → ℕ
act_syncs (stores start_sync) = 1
act_syncs (caches (keep_notarization f)) = 1
act_syncs (caches (keep_notarized r b)) = 1
act_syncs (keeps_for (keep_verified r b t)) = 1
act_syncs (keeps_for (keep_certified r b t)) = 1
act_syncs _ = 0

abbrev pub syncs : List Task → ℕ
syncs [] = 0
syncs (does a ∷ plan) = syncs plan + act_syncs a
syncs (repairs buffer ∷ plan) = syncs plan
syncs (dispatches ∷ plan) = syncs plan
syncs (ends fault ∷ plan) = syncs plan

-- What is kept of a life, and how many tickets are given at most.
pub record Keeps (acks starts : ℕ) (s t : Scene) : Type 0 where
  pub lawful : AreLawful s.held → AreLawful t.held
  pub passed : AreLawful s.held → ArePassed s.held.watches t.held.watches
  pub tickets : t.life.next_ack ≤ s.life.next_ack + acks
  pub sync_tickets : t.held.writes.next_sync ≤ s.held.writes.next_sync + starts
  pub rises : s.life.tip ≤ t.life.tip
  pub sizes : t.life.sizes ≡ s.life.sizes
  pub intact : t.held.intact ≡ s.held.intact
  pub loaded : s.held.cache.loaded ≡ true → t.held.cache.loaded ≡ true

Keeps-then : (acks starts acks' starts' : ℕ) (s t u : Scene) → Keeps acks starts s t → Keeps acks' starts' t u → Keeps (acks + acks') (starts + starts') s u
Keeps-then acks starts acks' starts' s t u first second = record {
  lawful = λ law. second.lawful (first.lawful law);
  passed = λ law. ArePassed-then s.held.watches t.held.watches u.held.watches (first.passed law) (second.passed (first.lawful law));
  tickets = let a : t.life.next_ack ≤ s.life.next_ack + acks = first.tickets in let b : u.life.next_ack ≤ t.life.next_ack + acks' = second.tickets in omega arith;
  sync_tickets = let a : t.held.writes.next_sync ≤ s.held.writes.next_sync + starts = first.sync_tickets in let b : u.held.writes.next_sync ≤ t.held.writes.next_sync + starts' = second.sync_tickets in omega arith;
  rises = let a : s.life.tip ≤ t.life.tip = first.rises in let b : t.life.tip ≤ u.life.tip = second.rises in omega arith;
  sizes = second.sizes ∙ first.sizes;
  intact = second.intact ∙ first.intact;
  loaded = λ is. second.loaded (first.loaded is);
}

-- what joined whatever was written passed
joined-passed : (s t : Scene) (written : Written) → Joins s.held written t.held → AreLawful s.held → ArePassed s.held.watches t.held.watches
joined-passed s t written joins law = (joins s.held written (Grew-refl s.held written law.blocks law.certs) (WithinWritten-refl written)).passed

-- where the stores are others, and the window keeps its tickets, its sizes and its tip
moved : (s t : Scene) → t.life.next_ack ≡ s.life.next_ack → t.life.tip ≡ s.life.tip → t.life.sizes ≡ s.life.sizes → (AreLawful s.held → AreLawful t.held) → (AreLawful s.held → ArePassed s.held.watches t.held.watches)
    → (starts : ℕ) → t.held.writes.next_sync ≤ s.held.writes.next_sync + starts → t.held.intact ≡ s.held.intact → (s.held.cache.loaded ≡ true → t.held.cache.loaded ≡ true) → Keeps 0 starts s t
moved s t acks tip sizes law passed starts given intact loaded = record {
  lawful = law;
  passed = passed;
  tickets = omega arith;
  sync_tickets = given;
  rises = omega arith;
  sizes = sizes;
  intact = intact;
  loaded = loaded;
}

-- where the stores are others, and the window as it was
over : (s t : Scene) (same : t.life ≡ s.life) → (law : AreLawful s.held → AreLawful t.held) → (AreLawful s.held → ArePassed s.held.watches t.held.watches) → (starts : ℕ) → t.held.writes.next_sync ≤ s.held.writes.next_sync + starts → t.held.intact ≡ s.held.intact → (s.held.cache.loaded ≡ true → t.held.cache.loaded ≡ true) → Keeps 0 starts s t
over s t same = moved s t (ap (λ l. l.next_ack) same) (ap (λ l. l.tip) same) (ap (λ l. l.sizes) same)

-- A TASK

pub Keeps-read : (s t : Scene) → Reads s t → Keeps 0 0 s t
Keeps-read s t reads = over s t (ap (λ (x : Scene). x.life) reads.same) (λ law. lawful law) (λ law. joined-passed s t nothing_written reads.joins law) 0 (let is : t.held.writes.next_sync ≡ s.held.writes.next_sync = ap (λ (x : Scene). x.held.writes.next_sync) reads.same in omega arith) (ap (λ (x : Scene). x.held.intact) reads.same) (λ is. ap (λ (x : Scene). x.held.cache.loaded) reads.same ∙ is)
  where
    lawful : AreLawful s.held → AreLawful t.held
    lawful law = subst (λ (x : Scene). AreLawful x.held) (sym reads.same) (record { blocks = law.blocks; certs = law.certs; written = record { blocks = law.written.blocks; certs = law.written.certs; ordered = law.written.ordered }; cached = record { nested = law.cached.nested; own_lowest = law.cached.own_lowest; own_tickets = law.cached.own_tickets } })

-- the stores are as they were
beside : (s t : Scene) → t.held ≡ s.held → t.life.next_ack ≡ s.life.next_ack → t.life.sizes ≡ s.life.sizes → s.life.tip ≤ t.life.tip → Keeps 0 0 s t
beside s t held acks sizes rises = record {
  lawful = λ law. subst AreLawful (sym held) law;
  passed = λ law. subst (λ h. ArePassed s.held.watches h.watches) (sym held) (ArePassed-refl s.held.watches);
  tickets = omega arith;
  sync_tickets = let is : t.held.writes.next_sync ≡ s.held.writes.next_sync = ap (λ h. h.writes.next_sync) held in omega arith;
  rises = rises;
  sizes = sizes;
  intact = ap (λ h. h.intact) held;
  loaded = λ is. ap (λ h. h.cache.loaded) held ∙ is;
}

risen_from : (tip height : ℕ) → tip ≤ risen_to tip height
risen_from tip height = by (nat_lt tip height) refl
  where
    by : (c : Bool) → nat_lt tip height ≡ c → tip ≤ cond c height tip
    by true above = grind (arith, nat_tests)
    by false low = omega arith

room_within : {P E : Type 0} (a : Seen P E) (handed : List HandedBlock) → HasRoom a handed → length handed ≤ a.life.sizes.window
room_within a handed room = by (length handed) room
  where
    by : (k : ℕ) → (0 < k → length a.life.out + k ≤ a.life.sizes.window) → k ≤ a.life.sizes.window
    by zero fits = omega arith
    by (suc k) fits = let low : length a.life.out + suc k ≤ a.life.sizes.window = fits (omega arith) in omega arith

-- a sync that is started takes one ticket
ticketed-next : (ticket : Option ℕ) (w : Writing) → (ticketed ticket w).next_sync ≤ w.next_sync + 1
ticketed-next None w = omega arith
ticketed-next (Some t) w = omega arith

module _ (inner : List ℕ → List ℕ) (s t : Scene) where
  -- an entry was put with a sync of its archive
  kept-over : (life : t.life ≡ s.life) (written : Written) (epoch : ℕ) (put : List Cached) (covered : Cached → Bool) (answer ticket : Option ℕ) → KeepsFor epoch put covered answer ticket s.held t.held → Joins s.held written t.held → AreLawful t.held → Keeps 0 1 s t
  kept-over life written epoch put covered answer ticket kept joins law =
      over s t life (λ before. law) (λ before. joined-passed s t written joins before) 1
      (subst (λ (h : Held). h.writes.next_sync ≤ s.held.writes.next_sync + 1) (sym kept.same) (ticketed-next ticket s.held.writes))
      (ap (λ h. h.intact) kept.same) (λ was. kept.loaded ∙ was)

  Keeps-act : (a : Act) → DoesTask inner (does a) s t → Keeps 0 (syncs (does a ∷ [])) s t
  Keeps-act (caches (put_finalization f)) (is, joins, law, same) = over s t (ap (λ (x : Scene). x.life) same) (λ before. law) (λ before. joined-passed s t _ joins before) 0 (let n : t.held.writes.next_sync ≡ s.held.writes.next_sync = ap (λ h. h.writes.next_sync) is.same in omega arith) (ap (λ h. h.intact) is.same) (λ was. is.loaded ∙ was)
  Keeps-act (caches (keep_notarization f)) ((ticket, kept), joins, law, same) = kept-over (ap (λ (x : Scene). x.life) same) _ _ _ _ _ ticket kept joins law
  Keeps-act (caches (keep_notarized r b)) ((ticket, kept), joins, law, same) = kept-over (ap (λ (x : Scene). x.life) same) _ _ _ _ _ ticket kept joins law
  Keeps-act (caches load_cache) (is, joins, law, same) =
      over s t (ap (λ (x : Scene). x.life) same) (λ before. law) (λ before. joined-passed s t _ joins before) 0 (let n : t.held.writes.next_sync ≡ s.held.writes.next_sync = ap (λ h. h.writes.next_sync) is.same in omega arith) (ap (λ h. h.intact) is.same) (λ was. is.loaded)
  Keeps-act (keeps_for (keep_verified r b k)) (answered, is, joins, law, same) = kept-over (ap (λ (x : Scene). x.life) same) _ _ _ _ _ is.sync is.kept joins law
  Keeps-act (keeps_for (keep_certified r b k)) (answered, is, joins, law, same) = kept-over (ap (λ (x : Scene). x.life) same) _ _ _ _ _ is.sync is.kept joins law
  Keeps-act (keeps_for (finish_kept k)) (answered, is, joins, law, same) =
      over s t (ap (λ (x : Scene). x.life) same) (λ before. law) (λ before. joined-passed s t _ joins before) 0 (let n : t.held.writes.next_sync ≡ s.held.writes.next_sync = ap (λ h. h.writes.next_sync) is.0.same in omega arith) (ap (λ h. h.intact) is.0.same) (λ was. is.0.loaded ∙ was)
  Keeps-act (stores (store f b)) (is, joins, law, same) = over s t (ap (λ (x : Scene). x.life) same) (λ before. law) (λ before. joined-passed s t _ joins before) 0 (let n : t.held.writes.next_sync ≡ s.held.writes.next_sync = ap (λ h. h.writes.next_sync) is.same in omega arith) (ap (λ h. h.intact) is.same) (λ was. ap (λ h. h.cache.loaded) is.same ∙ was)
  Keeps-act (stores (store_block b)) (is, joins, law, same) = over s t (ap (λ (x : Scene). x.life) same) (λ before. law) (λ before. joined-passed s t _ joins before) 0 (let n : t.held.writes.next_sync ≡ s.held.writes.next_sync = ap (λ h. h.writes.next_sync) is.same in omega arith) (ap (λ h. h.intact) is.same) (λ was. ap (λ h. h.cache.loaded) is.same ∙ was)
  Keeps-act (stores (store_late f b)) (is, joins, law, same) = over s t (ap (λ (x : Scene). x.life) same) (λ before. law) (λ before. joined-passed s t _ joins before) 0 (let n : t.held.writes.next_sync ≡ s.held.writes.next_sync = ap (λ h. h.writes.next_sync) is.same in omega arith) (ap (λ h. h.intact) is.same) (λ was. ap (λ h. h.cache.loaded) is.same ∙ was)
  Keeps-act (stores start_sync) (is, joins, law, same) = over s t (ap (λ (x : Scene). x.life) same) (λ before. law) (λ before. joined-passed s t _ joins before) 1 (let n : t.held.writes.next_sync ≡ s.held.writes.next_sync + 1 = ap (λ h. h.writes.next_sync) is in omega arith) (ap (λ h. h.intact) is) (λ was. ap (λ h. h.cache.loaded) is ∙ was)
  Keeps-act (stores (finish_sync k)) (is, joins, law, same) = over s t (ap (λ (x : Scene). x.life) same) (λ before. law) (λ before. joined-passed s t _ joins before) 0 (let n : t.held.writes.next_sync ≡ s.held.writes.next_sync = ap (λ h. h.writes.next_sync) is.same in omega arith) (ap (λ h. h.intact) is.same) (λ was. ap (λ h. h.cache.loaded) is.same ∙ was)
  Keeps-act (stores sync_writes) (is, joins, law, same) =
      let (kept, given) = synced_as s.held.writes.uncovered s.held t.held is in
      over s t (ap (λ (x : Scene). x.life) same) (λ before. law) (λ before. joined-passed s t _ joins before) 0 (let n : t.held.writes.next_sync ≡ s.held.writes.next_sync = given in omega arith) (ap (λ h. h.intact) kept) (λ was. ap (λ h. h.cache.loaded) kept ∙ was)
  Keeps-act (progresses (note r)) (is, law, heard, same) =
      moved s t (ap (λ (x : Scene). x.life.next_ack) same) (ap (λ (x : Scene). x.life.tip) same) (ap (λ (x : Scene). x.life.sizes) same) (λ before. law) (λ before. is.passed) 0
      (let n : t.held.writes.next_sync ≡ s.held.writes.next_sync = ap (λ h. h.writes.next_sync) is.same in omega arith) (ap (λ h. h.intact) is.same) (λ was. is.prunes.loaded ∙ was)
  Keeps-act (progresses (mark ticket m)) same = beside s t (ap (λ (x : Scene). x.held) same) (ap (λ (x : Scene). x.life.next_ack) same) (ap (λ (x : Scene). x.life.sizes) same) (let n : t.life.tip ≡ s.life.tip = ap (λ (x : Scene). x.life.tip) same in omega arith)
  Keeps-act (progresses (process h)) (is, joins, law, heard, same) =
      moved s t (ap (λ (x : Scene). x.life.next_ack) same) (ap (λ (x : Scene). x.life.tip) same) (ap (λ (x : Scene). x.life.sizes) same) (λ before. law) (λ before. joined-passed s t _ joins before) 0
      (let n : t.held.writes.next_sync ≡ s.held.writes.next_sync = ap (λ h. h.writes.next_sync) is.same in omega arith) (ap (λ h. h.intact) is.same) (λ was. is.prunes.loaded ∙ was)
  Keeps-act (progresses sync_progress) (is, law, same) =
      moved s t (ap (λ (x : Scene). x.life.next_ack) same) (ap (λ (x : Scene). x.life.tip) same) (ap (λ (x : Scene). x.life.sizes) same) (λ before. law) (λ before. is.passed) 0
      (let n : t.held.writes.next_sync ≡ s.held.writes.next_sync = ap (λ h. h.writes.next_sync) is.same in omega arith) (ap (λ h. h.intact) is.same) (λ was. ap (λ h. h.cache.loaded) is.same ∙ was)
  Keeps-act (says (reply a)) same = beside s t (ap (λ (x : Scene). x.held) same) (ap (λ (x : Scene). x.life.next_ack) same) (ap (λ (x : Scene). x.life.sizes) same) (let n : t.life.tip ≡ s.life.tip = ap (λ (x : Scene). x.life.tip) same in omega arith)
  Keeps-act (says (tell r h d)) (heard, same) = beside s t (ap (λ (x : Scene). x.held) same) (ap (λ (x : Scene). x.life.next_ack) same) (ap (λ (x : Scene). x.life.sizes) same) (subst (λ (x : Scene). s.life.tip ≤ x.life.tip) (sym same) (risen_from s.life.tip h))
  Keeps-act (says (ask calls)) (heard, same) = beside s t (ap (λ (x : Scene). x.held) same) (ap (λ (x : Scene). x.life.next_ack) same) (ap (λ (x : Scene). x.life.sizes) same) (let n : t.life.tip ≡ s.life.tip = ap (λ (x : Scene). x.life.tip) same in omega arith)
  Keeps-act (says (send x)) (heard, same) = beside s t (ap (λ (y : Scene). y.held) same) (ap (λ (y : Scene). y.life.next_ack) same) (ap (λ (y : Scene). y.life.sizes) same) (let n : t.life.tip ≡ s.life.tip = ap (λ (y : Scene). y.life.tip) same in omega arith)

-- an act of a pass of repair starts no sync
starts_none : (a : Act) → IsPassAct a → syncs (does a ∷ []) ≡ 0
starts_none (stores (store f b)) is = refl
starts_none (stores (store_block b)) is = refl
starts_none (says a) is = refl
starts_none _ is = absurd is

-- such acts in a row
keeps_row : (inner : List ℕ → List ℕ) (acts : List Act) (s t : Scene) → AllByRecursion IsPassAct acts → RunsActs inner s acts t → Keeps 0 0 s t
keeps_row inner [] s t are reads = Keeps-read s t reads
keeps_row inner (a ∷ acts) s t are (mid, after, reads, did, runs) =
    let one : Keeps 0 0 mid after = subst (λ k. Keeps 0 k mid after) (starts_none a are.0) (Keeps-act inner mid after a did) in
    Keeps-then 0 0 0 0 s after t (Keeps-then 0 0 0 0 s mid after (Keeps-read s mid reads) one) (keeps_row inner acts after t are.1 runs)

module _ (inner : List ℕ → List ℕ) (s t : Scene) where
  Keeps-task : (k : Task) (w : ℕ) → s.life.sizes.window ≡ w → DoesTask inner k s t → Keeps (windows (k ∷ []) w) (syncs (k ∷ [])) s t
  Keeps-task (does a) w is did = Keeps-act inner s t a did
  Keeps-task (repairs buffer) w is did = let (acts, are, ran) = ran-passes inner buffer s t did in keeps_row inner acts s t are ran
  Keeps-task dispatches w is did = record {
    lawful = λ law. subst (λ (h : Held). AreLawful h) (sym (ap (λ x. x.held) did.ran.same)) (record { blocks = law.blocks; certs = law.certs; written = record { blocks = law.written.blocks; certs = law.written.certs; ordered = law.written.ordered }; cached = record { nested = law.cached.nested; own_lowest = law.cached.own_lowest; own_tickets = law.cached.own_tickets } });
    passed = λ law. did.ran.grew.passed;
    tickets = let given : t.life.next_ack ≡ s.life.next_ack + length did.handed = ap (λ x. x.life.next_ack) did.ran.same in let room : length did.handed ≤ s.life.sizes.window = room_within (seen_of s) did.handed did.ran.room in omega arith;
    sync_tickets = let n : t.held.writes.next_sync ≡ s.held.writes.next_sync = ap (λ x. x.held.writes.next_sync) did.ran.same in omega arith;
    rises = let n : t.life.tip ≡ s.life.tip = ap (λ x. x.life.tip) did.ran.same in omega arith;
    sizes = ap (λ x. x.life.sizes) did.ran.same;
    intact = ap (λ x. x.held.intact) did.ran.same;
    loaded = λ was. ap (λ x. x.held.cache.loaded) did.ran.same ∙ was;
  }
  Keeps-task (ends fault) w is did = absurd did

-- A PLAN

windows-one : (k : Task) (plan : List Task) (w : ℕ) → windows (k ∷ plan) w ≡ windows (k ∷ []) w + windows plan w
windows-one (does a) plan w = omega arith
windows-one _ plan w = omega arith

syncs-one : (k : Task) (plan : List Task) → syncs (k ∷ plan) ≡ syncs (k ∷ []) + syncs plan
syncs-one (does a) plan = omega arith
syncs-one _ plan = omega arith

Keeps-as : (a b a' b' : ℕ) (s t : Scene) → a ≡ a' → b ≡ b' → Keeps a b s t → Keeps a' b' s t
Keeps-as a b a' b' s t is_a is_b keeps = subst (λ k. Keeps k b' s t) is_a (subst (λ k. Keeps a k s t) is_b keeps)

-- what was done by a plan keeps a life, and gives no more tickets than the plan says
pub Runs-keeps : (inner : List ℕ → List ℕ) (w : ℕ) (plan : List Task) (s t : Scene) → s.life.sizes.window ≡ w → Runs inner s plan t → Keeps (windows plan w) (syncs plan) s t
Runs-keeps inner w [] s t is reads = Keeps-read s t reads
Runs-keeps inner w (k ∷ plan) s t is (mid, after, reads, did, runs) =
    let read = Keeps-read s mid reads in
    let does_it = Keeps-task inner mid after k w (ap (λ z. z.window) read.sizes ∙ is) did in
    let rest = Runs-keeps inner w plan after t (ap (λ z. z.window) (does_it.sizes ∙ read.sizes) ∙ is) runs in
    Keeps-as _ _ _ _ s t (let e : windows (k ∷ plan) w ≡ windows (k ∷ []) w + windows plan w = windows-one k plan w in omega arith) (let e : syncs (k ∷ plan) ≡ syncs (k ∷ []) + syncs plan = syncs-one k plan in omega arith) (Keeps-then _ _ _ _ s after t (Keeps-then _ _ _ _ s mid after read does_it) rest)

-- WHERE IT ENDS A LIFE

-- Why a life ended: the tickets run out only where fewer are left than may be given.
pub record Ends (acks starts : ℕ) (s : Scene) (e : Ending) : Type 0 where
  pub cause : IsEndedBy s.held.watches e
  pub acks_out : e.fault ≡ ticket_limit ack_kind → 2 ^ 64 - 1 ≤ s.life.next_ack + acks
  pub syncs_out : e.fault ≡ ticket_limit sync_kind → 2 ^ 64 ≤ s.held.writes.next_sync + starts

Ends-other : (acks starts : ℕ) (s : Scene) (e : Ending) → IsEndedBy s.held.watches e → ((kind : TicketKind) → e.fault ≡ ticket_limit kind → ⊥) → Ends acks starts s e
Ends-other acks starts s e cause other = record { cause = cause; acks_out = λ is. absurd (other ack_kind is); syncs_out = λ is. absurd (other sync_kind is) }

Ends-usual : (acks starts : ℕ) (s : Scene) (e : Ending) → IsEndedBy s.held.watches e → IsUsual e.fault → Ends acks starts s e
Ends-usual acks starts s e cause usual = Ends-other acks starts s e cause (λ kind is. subst IsUsual is usual)

Ends-more : (a b a' b' : ℕ) (s : Scene) (e : Ending) → a ≤ a' → b ≤ b' → Ends a b s e → Ends a' b' s e
Ends-more a b a' b' s e more_a more_b ends_it = record {
  cause = ends_it.cause;
  acks_out = λ is. let low : 2 ^ 64 - 1 ≤ s.life.next_ack + a = ends_it.acks_out is in omega arith;
  syncs_out = λ is. let low : 2 ^ 64 ≤ s.held.writes.next_sync + b = ends_it.syncs_out is in omega arith;
}

Ends-then : (a b a' b' : ℕ) (s t : Scene) (e : Ending) → AreLawful s.held → Keeps a b s t → Ends a' b' t e → Ends (a + a') (b + b') s e
Ends-then a b a' b' s t e law keeps ends_it = record {
  cause = FailsBy-then s.held.watches t.held.watches e.fault e.remains.watches (keeps.passed law) ends_it.cause;
  acks_out = λ is. let low : 2 ^ 64 - 1 ≤ t.life.next_ack + a' = ends_it.acks_out is in let given : t.life.next_ack ≤ s.life.next_ack + a = keeps.tickets in omega arith;
  syncs_out = λ is. let low : 2 ^ 64 ≤ t.held.writes.next_sync + b' = ends_it.syncs_out is in let given : t.held.writes.next_sync ≤ s.held.writes.next_sync + b = keeps.sync_tickets in omega arith;
}

-- the faults by value that a plan may end in
abbrev pub EndByValue : List Task → Type 0
EndByValue [] = ⊤
EndByValue (does a ∷ plan) = EndByValue plan
EndByValue (repairs buffer ∷ plan) = EndByValue plan
EndByValue (dispatches ∷ plan) = EndByValue plan
EndByValue (ends fault ∷ plan) = (is_by_value fault ≡ true) × EndByValue plan

by_value_unstored : (fault : Fault) → is_by_value fault ≡ true → IsNoStores fault
by_value_unstored (store_fault s) is = absurd (let no : false ≡ true = is in cc)
by_value_unstored _ is = tt

lost-cause : (s : Scene) (written : Written) (e : Ending) → AreLawful s.held → LosesOver s.held written e → IsEndedBy s.held.watches e
lost-cause s written e law loses = (loses s.held written (Grew-refl s.held written law.blocks law.certs) (WithinWritten-refl written)).cause

unstored-cause : (s : Scene) (e : Ending) (fault : Fault) → e ≡ ended_on fault s.held → IsNoStores fault → IsEndedBy s.held.watches e
unstored-cause s e fault is none = subst (IsEndedBy s.held.watches) (sym is) (FailsBy-nothing s.held.watches fault none)

module _ (s : Scene) (e : Ending) (heard : Heard) (law : AreLawful s.held) where
  memory-ends : e ≡ ended_on want_of_memory s.held → Ends 0 0 s e
  memory-ends is = Ends-usual 0 0 s e (unstored-cause s e want_of_memory is tt) (subst (λ x. IsUsual x.fault) (sym is) tt)

  -- what is kept for a sync finds no ticket where none is left
  unkept-ends : (epoch : ℕ) (written : Written) → LosesOver s.held written e → IsKeepFault epoch s.held e.fault → Ends 0 1 s e
  unkept-ends epoch written loses (inl usual) = Ends-usual _ _ s e (lost-cause s written e law loses) usual
  unkept-ends epoch written loses (inr (limit, last, high)) = record { cause = lost-cause s written e law loses; acks_out = λ is. absurd (let no : ticket_limit sync_kind ≡ ticket_limit ack_kind = sym limit ∙ is in cc); syncs_out = λ is. omega (arith, last) }

  Ends-act : (a : Act) → IsLost a s e heard → Ends 0 (syncs (does a ∷ [])) s e
  Ends-act (caches (put_finalization f)) (loses, usual, same) = Ends-usual _ _ s e (lost-cause s _ e law loses) usual
  Ends-act (caches (keep_notarization f)) (loses, kind, same) = unkept-ends _ _ loses kind
  Ends-act (caches (keep_notarized r b)) (loses, kind, same) = unkept-ends _ _ loses kind
  Ends-act (caches load_cache) (loses, usual, same) = Ends-usual _ _ s e (lost-cause s _ e law loses) usual
  Ends-act (keeps_for (keep_verified r b t)) (loses, kind, same) = unkept-ends _ _ loses kind
  Ends-act (keeps_for (keep_certified r b t)) (loses, kind, same) = unkept-ends _ _ loses kind
  Ends-act (keeps_for (finish_kept t)) (loses, usual, same) = Ends-usual _ _ s e (lost-cause s _ e law loses) usual
  Ends-act (progresses (mark ticket m)) fails = absurd fails
  Ends-act (progresses (process h)) (loses, usual, asks, same) = Ends-usual _ _ s e (lost-cause s _ e law loses) usual
  Ends-act (progresses sync_progress) (loses, usual, same) = Ends-usual _ _ s e (lost-cause s _ e law loses) usual
  Ends-act (says (reply a)) (is, same) = memory-ends is
  Ends-act (stores (store f b)) (loses, archive, same) = Ends-usual _ _ s e (lost-cause s _ e law loses) (usual_from_archive e.fault archive)
  Ends-act (stores (store_block b)) (loses, archive, same) = Ends-usual _ _ s e (lost-cause s _ e law loses) (usual_from_archive e.fault archive)
  Ends-act (stores sync_writes) (loses, archive, same) = Ends-usual _ _ s e (lost-cause s _ e law loses) (usual_from_archive e.fault archive)
  Ends-act (stores (store_late f b)) (loses, archive, same) = Ends-usual _ _ s e (lost-cause s _ e law loses) (usual_from_archive e.fault archive)
  Ends-act (stores (finish_sync t)) (loses, archive, same) = Ends-usual _ _ s e (lost-cause s _ e law loses) (usual_from_archive e.fault archive)
  Ends-act (stores start_sync) (loses, inl archive, same) = Ends-usual _ _ s e (lost-cause s _ e law loses) (usual_from_archive e.fault archive)
  Ends-act (stores start_sync) (loses, inr (limit, last), same) = record { cause = lost-cause s _ e law loses; acks_out = λ is. absurd (let no : ticket_limit sync_kind ≡ ticket_limit ack_kind = sym limit ∙ is in cc); syncs_out = λ is. omega (arith, last) }
  Ends-act (progresses (note r)) (loses, usual, asks, same) = Ends-usual _ _ s e (lost-cause s _ e law loses) usual
  Ends-act (says (tell r h d)) (is, heard, same) = memory-ends is
  Ends-act (says (ask calls)) (is, heard, same) = memory-ends is
  Ends-act (says (send x)) (is, heard, same) = memory-ends is

-- a row of them broke
ends_row : (inner : List ℕ → List ℕ) (acts : List Act) (s : Scene) (e : Ending) (heard : Heard) → AreLawful s.held → AllByRecursion IsPassAct acts → BreaksActs inner s acts e heard → Ends 0 0 s e
ends_row inner [] s e heard law are fails = Ends-usual 0 0 s e (lost-cause s _ e law fails.loses) fails.usual
ends_row inner (a ∷ acts) s e heard law are (inl fails) = Ends-usual 0 0 s e (lost-cause s _ e law fails.loses) fails.usual
ends_row inner (a ∷ acts) s e heard law are (inr (mid, reads, inl lost)) =
    let read = Keeps-read s mid reads in
    Ends-then 0 0 0 0 s mid e law read (subst (λ k. Ends 0 k mid e) (starts_none a are.0) (Ends-act mid e heard (read.lawful law) a lost))
ends_row inner (a ∷ acts) s e heard law are (inr (mid, reads, inr (after, did, breaks))) =
    let both = Keeps-then 0 0 0 0 s mid after (Keeps-read s mid reads) (subst (λ k. Keeps 0 k mid after) (starts_none a are.0) (Keeps-act inner mid after a did)) in
    Ends-then 0 0 0 0 s after e law both (ends_row inner acts after e heard (both.lawful law) are.1 breaks)

module _ (inner : List ℕ → List ℕ) (s : Scene) (e : Ending) (heard : Heard) (law : AreLawful s.held) where
  Ends-task : (k : Task) (w : ℕ) → s.life.sizes.window ≡ w → EndByValue (k ∷ []) → FailsTask inner k s e heard → Ends (windows (k ∷ []) w) (syncs (k ∷ [])) s e
  Ends-task (does a) w is by fails = Ends-act s e heard law a fails
  Ends-task (repairs buffer) w is by fails = let (acts, are, broke) = broke-passes inner buffer s e heard fails in ends_row inner acts s e heard law are broke
  Ends-task dispatches w is by fails = stopped fails.stops.kind
    where
      room : length fails.handed ≤ s.life.sizes.window
      room = room_within (seen_of s) fails.handed fails.stops.room

      stopped : IsArchiveFault e.fault ⊎ ((e.fault ≡ ticket_limit ack_kind) × IsLastTicket (seen_of s) (length fails.handed)) → Ends (windows (dispatches ∷ []) w) (syncs (dispatches ∷ [])) s e
      stopped (inl archive) = Ends-usual _ _ s e fails.stops.lost.cause (usual_from_archive e.fault archive)
      stopped (inr (limit, last)) = record { cause = fails.stops.lost.cause; acks_out = λ at. omega (arith, last, room, is); syncs_out = λ at. absurd (let no : ticket_limit ack_kind ≡ ticket_limit sync_kind = sym limit ∙ at in cc) }
  Ends-task (ends fault) w is by (ended, same) = Ends-other _ _ s e (unstored-cause s e fault ended (by_value_unstored fault by.0)) (λ kind at. let no : false ≡ true = ap is_by_value (sym at ∙ ap (λ (x : Ending). x.fault) ended) ∙ by.0 in cc)

EndByValue-first : (k : Task) (plan : List Task) → EndByValue (k ∷ plan) → EndByValue (k ∷ []) × EndByValue plan
EndByValue-first (does a) plan by = (tt, by)
EndByValue-first (repairs buffer) plan by = (tt, by)
EndByValue-first dispatches plan by = (tt, by)
EndByValue-first (ends fault) plan by = ((by.0, tt), by.1)

-- what a plan broke in ends a life for a cause
pub Breaks-ends : (inner : List ℕ → List ℕ) (w : ℕ) (plan : List Task) (s : Scene) (e : Ending) (heard : Heard) → s.life.sizes.window ≡ w → AreLawful s.held → EndByValue plan → Breaks inner s plan e heard → Ends (windows plan w) (syncs plan) s e
Breaks-ends inner w [] s e heard is law by fails = Ends-usual _ _ s e (lost-cause s _ e law fails.loses) fails.usual
Breaks-ends inner w (k ∷ plan) s e heard is law by (inl fails) = Ends-usual _ _ s e (lost-cause s _ e law fails.loses) fails.usual
Breaks-ends inner w (k ∷ plan) s e heard is law by (inr (mid, reads, inl fails)) =
    let read = Keeps-read s mid reads in
    let one : windows (k ∷ plan) w ≡ windows (k ∷ []) w + windows plan w = windows-one k plan w in
    let two : syncs (k ∷ plan) ≡ syncs (k ∷ []) + syncs plan = syncs-one k plan in
    Ends-more _ _ _ _ s e (omega arith) (omega arith) (Ends-then _ _ _ _ s mid e law read (Ends-task inner mid e heard (read.lawful law) k w (ap (λ z. z.window) read.sizes ∙ is) (EndByValue-first k plan by).0 fails))
Breaks-ends inner w (k ∷ plan) s e heard is law by (inr (mid, reads, inr (after, did, breaks))) =
    let read = Keeps-read s mid reads in
    let did_it = Keeps-task inner mid after k w (ap (λ z. z.window) read.sizes ∙ is) did in
    let both = Keeps-then _ _ _ _ s mid after read did_it in
    let one : windows (k ∷ plan) w ≡ windows (k ∷ []) w + windows plan w = windows-one k plan w in
    let two : syncs (k ∷ plan) ≡ syncs (k ∷ []) + syncs plan = syncs-one k plan in
    Ends-more _ _ _ _ s e (omega arith) (omega arith) (Ends-then _ _ _ _ s after e law both (Breaks-ends inner w plan after e heard (ap (λ z. z.window) both.sizes ∙ is) (both.lawful law) (EndByValue-first k plan by).1 breaks))

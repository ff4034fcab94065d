-- A task behind a read is that task: what it does of the scene before the read.
use Rattle.std.proofs.Common.{◌⊎◌, inl, inr, ◌∷◌, [], List, ℕ, refl, sym, ◌∙◌, ap, subst, ◌≡◌}
use Rattle.mar_types.specs.Round.{Round}
use Rattle.mar_model.specs.Held.{ArePassed, Ending, Grew, Held, LeavesMore, Loses, Watches, Written, nothing_written}
use Rattle.mar_model.specs.Moves.{PrunesCacheBy}
use Rattle.mar_model.specs.Node.{Ended}
use Rattle.mar_model.specs.Promise.{Heard}
use Rattle.mar_model.specs.Acts.{Act, AreLawful, Joins, LosesOver, ask, caches, finish_kept, finish_sync, keep_certified, keep_notarization, keep_notarized, keep_verified, keeps_for, load_cache, mark, note, process, progresses, put_finalization, reply, says, send, start_sync, store, store_block, store_late, stores, sync_progress, sync_writes, tell, SyncsUncovered}
use Rattle.mar_model.specs.Ran.{Breaks, DoesTask, FailsRead, FailsTask, Reads, Runs, StopsHands, Task, dispatches, does, ends, repairs}
use Rattle.mar_model.proofs.Acting.{RunsActs-read}
use Rattle.mar_model.specs.Scene.{Scene}
use Rattle.mar_model.proofs.Growing.{Grew-refl, WithinWritten-nothing, WithinWritten-refl}
use Rattle.mar_model.proofs.KeptEach.{KeepsFor-unread}
use Rattle.mar_model.proofs.Passing.{ArePassed-then, FailsBy-then}
use Rattle.mar_model.proofs.Running.{Reads-refl, Reads-then, FailsRead-then}

-- what is left of stores that were read is left of them
over_read : (s : Held) (w : Watches) (written : Written) (left : Ended) → LeavesMore (record s { watches = w }) written left → LeavesMore s written left
over_read s w written left leaves = record { blocks = leaves.blocks; certs = leaves.certs; pairs = leaves.pairs; cache = leaves.cache }

pruned_read : (s : Held) (w : Watches) (rounds : List Round) (new : Held) → PrunesCacheBy rounds (record s { watches = w }) new → PrunesCacheBy rounds s new
pruned_read s w rounds new prunes = record { prunes = prunes.prunes; loaded = prunes.loaded; still_open = prunes.still_open; lowest = prunes.lowest; own_lowest = prunes.own_lowest }

synced_read : (s : Held) (w : Watches) (new : Held) → SyncsUncovered s.writes.uncovered (record s { watches = w }) new → SyncsUncovered s.writes.uncovered s new
synced_read s w new is = by s.writes.uncovered is
  where
    by : (uncovered : List ℕ) → SyncsUncovered uncovered (record s { watches = w }) new → SyncsUncovered uncovered s new
    by [] none = none
    by (h ∷ uncovered) both = record { blocks = both.blocks; certs = both.certs; written = both.written; same = both.same }

module _ (inner : List ℕ → List ℕ) (s : Scene) (w : Watches) (joins : Joins s.held nothing_written (record s.held { watches = w })) (law : AreLawful s.held) where
  abbrev read : Scene
  read = record s { held = record s.held { watches = w } }

  passed : ArePassed s.held.watches w
  passed = (joins s.held nothing_written (Grew-refl s.held nothing_written law.blocks law.certs) (WithinWritten-refl nothing_written)).passed

  joins_from : (written : Written) (new : Held) → Joins read.held written new → Joins s.held written new
  joins_from written new more = λ start all grew within. more start all (joins start all grew (WithinWritten-nothing all)) within

  grew_from : (written : Written) (new : Held) → Grew read.held written new → Grew s.held written new
  grew_from written new grew = record { leaves = over_read s.held w written _ grew.leaves; blocks = grew.blocks; certs = grew.certs; passed = ArePassed-then _ _ _ passed grew.passed }

  lost_from : (written : Written) (e : Ending) → Loses read.held written e → Loses s.held written e
  lost_from written e lost = record { leaves = over_read s.held w written _ lost.leaves; cause = FailsBy-then _ _ _ _ passed lost.cause }

  -- where the stores stay as they were read, they may be read afterwards
  read_on : (t : Scene) → t.held ≡ read.held → Reads (record t { held = s.held }) t
  read_on t is = record {
    joins = λ start all grew within. subst (Grew start all) (sym is) (joins start all grew within);
    same = ap (λ h. record t { held = h }) is ∙ ap (λ (h : Held). record t { held = record s.held { watches = h.watches } }) (sym is);
  }

  -- an act does that of the scene before the read, and then it was read
  abbrev Did : Task → Scene → Type 0
  Did k t = (u : Scene) × DoesTask inner k s u × Reads u t

  here : (k : Task) (t : Scene) → DoesTask inner k s t → Did k t
  here k t did = (t, did, Reads-refl t)

  unread-act : (a : Act) (t : Scene) → DoesTask inner (does a) read t → Did (does a) t
  unread-act (caches (put_finalization f)) t (is, more, lawful, same) = here (does (caches (put_finalization f))) t
      (record { puts = is.puts; loaded = is.loaded; still_open = is.still_open; same = is.same }, joins_from _ _ more, lawful, same)
  unread-act (caches (keep_notarization f)) t ((ticket, kept), more, lawful, same) = here (does (caches (keep_notarization f))) t
      ((ticket, KeepsFor-unread _ _ _ _ _ s.held t.held w kept), joins_from _ _ more, lawful, same)
  unread-act (caches (keep_notarized r b)) t ((ticket, kept), more, lawful, same) = here (does (caches (keep_notarized r b))) t
      ((ticket, KeepsFor-unread _ _ _ _ _ s.held t.held w kept), joins_from _ _ more, lawful, same)
  unread-act (caches load_cache) t (is, more, lawful, same) = here (does (caches load_cache)) t
      (record { loads = is.loads; by_luck = is.by_luck; loaded = is.loaded; still_open = is.still_open; same = is.same }, joins_from _ _ more, lawful, same)
  unread-act (keeps_for (keep_verified r b k)) t (answered, is, more, lawful, same) = here (does (keeps_for (keep_verified r b k))) t
      (answered, record { sync = is.sync; kept = KeepsFor-unread _ _ _ _ _ s.held t.held w is.kept; told = is.told }, joins_from _ _ more, lawful, same)
  unread-act (keeps_for (keep_certified r b k)) t (answered, is, more, lawful, same) = here (does (keeps_for (keep_certified r b k))) t
      (answered, record { sync = is.sync; kept = KeepsFor-unread _ _ _ _ _ s.held t.held w is.kept; told = is.told }, joins_from _ _ more, lawful, same)
  unread-act (keeps_for (finish_kept k)) t (answered, (is, told), more, lawful, same) = here (does (keeps_for (finish_kept k))) t
      (answered, (record { finishes = is.finishes; loaded = is.loaded; fresh = is.fresh; still_open = is.still_open; same = is.same }, told), joins_from _ _ more, lawful, same)
  unread-act (stores (store f b)) t (is, more, lawful, same) = here (does (stores (store f b))) t
      (record { blocks = is.blocks; certs = is.certs; same = is.same }, joins_from _ _ more, lawful, same)
  unread-act (stores (store_block b)) t (is, more, lawful, same) = here (does (stores (store_block b))) t (record { blocks = is.blocks; same = is.same }, joins_from _ _ more, lawful, same)
  unread-act (stores sync_writes) t (is, more, lawful, same) = here (does (stores sync_writes)) t (synced_read s.held w t.held is, joins_from _ _ more, lawful, same)
  unread-act (stores (store_late f b)) t (is, more, lawful, same) = here (does (stores (store_late f b))) t (record { certs = is.certs; same = is.same }, joins_from _ _ more, lawful, same)
  unread-act (stores start_sync) t (is, more, lawful, same) = here (does (stores start_sync)) t (is, joins_from _ _ more, lawful, same)
  unread-act (stores (finish_sync k)) t (is, more, lawful, same) = here (does (stores (finish_sync k))) t
      (record { blocks = is.blocks; certs = is.certs; written = is.written; same = is.same }, joins_from _ _ more, lawful, same)
  unread-act (progresses (note r)) t (is, lawful, heard, same) = here (does (progresses (note r))) t
      (record { prunes = pruned_read s.held w _ t.held is.prunes; passed = ArePassed-then _ _ _ passed is.passed; same = is.same }, lawful, heard, same)
  unread-act (progresses (mark ticket m)) t same = (record t { held = s.held }, ap (λ (x : Scene). record x { held = s.held }) same, read_on t (ap (λ (x : Scene). x.held) same))
  unread-act (progresses (process h)) t (is, more, lawful, heard, same) = here (does (progresses (process h))) t
      (record { prunes = pruned_read s.held w _ t.held is.prunes; same = is.same }, joins_from _ _ more, lawful, heard, same)
  unread-act (progresses sync_progress) t (is, lawful, same) = here (does (progresses sync_progress)) t
      (record { passed = ArePassed-then _ _ _ passed is.passed; same = is.same }, lawful, same)
  unread-act (says (tell r h d)) t (heard, same) = (record t { held = s.held }, (heard, ap (λ (x : Scene). record x { held = s.held }) same), read_on t (ap (λ (x : Scene). x.held) same))
  unread-act (says (ask calls)) t (heard, same) = (record t { held = s.held }, (heard, ap (λ (x : Scene). record x { held = s.held }) same), read_on t (ap (λ (x : Scene). x.held) same))
  unread-act (says (send y)) t (heard, same) = (record t { held = s.held }, (heard, ap (λ (x : Scene). record x { held = s.held }) same), read_on t (ap (λ (x : Scene). x.held) same))
  unread-act (says (reply a)) t same = (record t { held = s.held }, ap (λ (x : Scene). record x { held = s.held }) same, read_on t (ap (λ (x : Scene). x.held) same))

  unread-task : (k : Task) (t : Scene) → DoesTask inner k read t → Did k t
  unread-task (does a) t did = unread-act a t did
  unread-task (repairs buffer) t pass = here (repairs buffer) t (record { fills = pass.fills; are = pass.are; ends = pass.ends; ran = RunsActs-read inner _ s read t (record { joins = joins; same = refl }) pass.ran })
  unread-task dispatches t hands = here dispatches t (record {
    handed = hands.handed;
    heard = hands.heard;
    ran = record
        { next = hands.ran.next; below_barrier = hands.ran.below_barrier; room = hands.ran.room; same = hands.ran.same; grew = grew_from _ _ hands.ran.grew; still = hands.ran.still };
    same =
        hands.same;
  })
  unread-task (ends fault) t did = absurd did

  unread-stops : (e : Ending) (heard : Heard) → StopsHands read e heard → StopsHands s e heard
  unread-stops e heard stops = record {
    handed = stops.handed;
    told = stops.told;
    stops = record
        { next = stops.stops.next; below_barrier = stops.stops.below_barrier; room = stops.stops.room; lost = lost_from _ _ stops.stops.lost; kind = stops.stops.kind };
    same = stops.same;
  }

module _ (inner : List ℕ → List ℕ) where
  -- the first task of a plan that ran, of the scene that it ran from
  runs-read : (plan : List Task) (s u t : Scene) → Reads s u → Runs inner u plan t → Runs inner s plan t
  runs-read [] s u t reads runs = Reads-then s u t reads runs
  runs-read (k ∷ plan) s u t reads (mid, after, read, did, runs) = (mid, after, Reads-then s u mid reads read, did, runs)

  breaks-read : (plan : List Task) (s u : Scene) (e : Ending) (heard : Heard) → Reads s u → Breaks inner u plan e heard → Breaks inner s plan e heard
  breaks-read [] s u e heard reads fails = FailsRead-then s u e heard reads fails
  breaks-read (k ∷ plan) s u e heard reads (inl fails) = inl (FailsRead-then s u e heard reads fails)
  breaks-read (k ∷ plan) s u e heard reads (inr (mid, read, how)) = inr (mid, Reads-then s u mid reads read, how)

  did_first : (k : Task) (s mid t : Scene) → AreLawful s.held → Reads s mid → DoesTask inner k mid t → (u : Scene) × DoesTask inner k s u × Reads u t
  did_first k s mid t law reads did = unread-task inner s mid.held.watches (subst (λ (x : Scene). Joins s.held nothing_written x.held) reads.same reads.joins) law k t
      (subst (λ x. DoesTask inner k x t) reads.same did)

  pub runs_first : (k : Task) (plan : List Task) (s t : Scene) → AreLawful s.held → Runs inner s (k ∷ plan) t → (u : Scene) × DoesTask inner k s u × Runs inner u plan t
  runs_first k plan s t law (mid, after, reads, did, runs) =
      let first = did_first k s mid after law reads did in
      (first.0, first.1, runs-read plan first.0 after t first.2 runs)

  -- the first task of one that broke: it failed behind a read, or was done
  pub breaks_first : (k : Task) (plan : List Task) (s : Scene) (e : Ending) (heard : Heard) → AreLawful s.held → Breaks inner s (k ∷ plan) e heard
      → FailsRead s e heard ⊎ (((mid : Scene) × Reads s mid × FailsTask inner k mid e heard) ⊎ ((u : Scene) × DoesTask inner k s u × Breaks inner u plan e heard))
  breaks_first k plan s e heard law (inl fails) = inl fails
  breaks_first k plan s e heard law (inr (mid, reads, inl fails)) = inr (inl (mid, reads, fails))
  breaks_first k plan s e heard law (inr (mid, reads, inr (after, did, breaks))) =
      let first = did_first k s mid after law reads did in
      inr (inr (first.0, first.1, breaks-read plan first.0 after e heard first.2 breaks))

  -- what a failed task lost of the scene before a read, where it failed with stores
  pub lost_before : (s mid : Scene) (written : Written) (e : Ending) → Reads s mid → LosesOver mid.held written e → LosesOver s.held written e
  lost_before s mid written e reads lost = λ start all grew within. lost start all (reads.joins start all grew (WithinWritten-nothing all)) within

  pub stopped_before : (s mid : Scene) (e : Ending) (heard : Heard) → AreLawful s.held → Reads s mid → StopsHands mid e heard → StopsHands s e heard
  stopped_before s mid e heard law reads stops = unread-stops inner s mid.held.watches (subst (λ (x : Scene). Joins s.held nothing_written x.held) reads.same reads.joins) law e heard
      (subst (λ x. StopsHands x e heard) reads.same stops)

-- What was done since an event began, by how much of its plan is left; and where it broke.
use Rattle.std.specs.Prelude.{List, MatchResult, Result, [], map, ◌++◌, ◌∷◌, ◌≡◌, ◌⊎◌, ℕ}
use Rattle.mar_cert.specs.Block.{Block}
use Rattle.mar_key.specs.Hears.{Hears}
use Rattle.mar_model.specs.Faults.{Fault, meta_store, store_fault}
use Rattle.mar_model.specs.Held.{Ending, IsUsual, ended_on, nothing_written}
use Rattle.mar_model.specs.Moves.{Dispatches, StopsHanding, handed_report}
use Rattle.mar_model.specs.Promise.{Heard}
use Rattle.mar_model.specs.Step.{HandedBlock}
use Rattle.mar_model.specs.Acts.{Act, IsDone, IsLost, Joins, LosesOver}
use Rattle.mar_model.specs.Repair.{AreFills, EndsFills, front_acts, gap_acts, search_of, walk_start, with_fills}
use Rattle.mar_model.specs.Scene.{Scene, seen_of}

-- READS, which are in no plan

-- The stores were read: nothing changed but how many calls were counted.
pub record Reads (s t : Scene) : Type 0 where
  pub joins : Joins s.held nothing_written t.held
  pub same : t ≡ record s { held = record s.held { watches = t.held.watches } }

-- A read failed.
pub record FailsRead (s : Scene) (e : Ending) (heard : Heard) : Type 0 where
  pub loses : LosesOver s.held nothing_written e
  pub usual : IsUsual e.fault
  pub unsynced : e.fault ≡ store_fault meta_store → ⊥  -- the metadata is read in memory
  pub same : heard ≡ s.heard

-- ACTS IN A ROW

-- each was done, behind the reads that it needed
abbrev pub RunsActs : (List ℕ → List ℕ) → Scene → List Act → Scene → Type 0
RunsActs inner s [] t = Reads s t
RunsActs inner s (a ∷ acts) t = (mid : Scene) × (after : Scene) × Reads s mid × IsDone inner a mid after × RunsActs inner after acts t

-- a front of them was done, and then a read failed, or the next act
abbrev pub BreaksActs : (List ℕ → List ℕ) → Scene → List Act → Ending → Heard → Type 0
BreaksActs inner s [] e heard = FailsRead s e heard
BreaksActs inner s (a ∷ acts) e heard = FailsRead s e heard ⊎ ((mid : Scene) × Reads s mid × (IsLost a mid e heard ⊎ ((after : Scene) × IsDone inner a mid after × BreaksActs inner after acts e heard)))

-- A PASS OF REPAIR: the block of the newest certificate, then the parents that are wanted until one isn't found, and then
-- what is missing is asked for.
pub record RunsPass (inner : List ℕ → List ℕ) (buffer : List Block) (s t : Scene) : Type 0 where
  pub fills : List Block
  pub are : AreFills (search_of inner buffer s.held) (walk_start inner buffer s.held) fills
  pub ends : EndsFills (search_of inner buffer s.held) (with_fills (walk_start inner buffer s.held) fills)
  pub ran : RunsActs inner s (front_acts inner buffer s.held fills ++ gap_acts (search_of inner buffer s.held) s.life.sizes.max_repair (with_fills (walk_start inner buffer s.held) fills)) t

-- A front of it was done, where it ends before it asks or as it does.
pub record BreaksPass (inner : List ℕ → List ℕ) (buffer : List Block) (s : Scene) (e : Ending) (heard : Heard) : Type 0 where
  pub fills : List Block
  pub are : AreFills (search_of inner buffer s.held) (walk_start inner buffer s.held) fills
  pub asks : List Act
  pub last : (asks ≡ []) ⊎ (EndsFills (search_of inner buffer s.held) (with_fills (walk_start inner buffer s.held) fills)
      × (asks ≡ gap_acts (search_of inner buffer s.held) s.life.sizes.max_repair (with_fills (walk_start inner buffer s.held) fills)))
  pub broke : BreaksActs inner s (front_acts inner buffer s.held fills ++ asks) e heard

-- A TASK

pub data Task : Type 0 where
  does : Act → Task
  repairs : List Block → Task  -- gaps are filled out of this buffer and the cache
  dispatches : Task  -- blocks are handed over until none can be
  ends : Fault → Task  -- the life ends here, by value

-- Blocks were handed over until none could be.
pub record Hands (s t : Scene) : Type 0 where
  pub handed : List HandedBlock
  pub heard : Hears s.heard.reports (map handed_report handed) t.heard.reports
  pub ran : Dispatches (seen_of s) handed (seen_of t)
  pub same : t ≡ record s { held = t.held; life = t.life; heard = record s.heard { reports = t.heard.reports } }

-- Some were, and then the life ended.
pub record StopsHands (s : Scene) (e : Ending) (heard : Heard) : Type 0 where
  pub handed : List HandedBlock
  pub told : Hears s.heard.reports (map handed_report handed) heard.reports
  pub stops : StopsHanding (seen_of s) handed e
  pub same : heard ≡ record s.heard { reports = heard.reports }

-- what a task does of a scene, and what it leaves where it fails
abbrev pub DoesTask : (List ℕ → List ℕ) → Task → Scene → Scene → Type 0
DoesTask inner (does a) s t = IsDone inner a s t
DoesTask inner (repairs buffer) s t = RunsPass inner buffer s t
DoesTask inner dispatches s t = Hands s t
DoesTask inner (ends fault) s t = ⊥

abbrev pub FailsTask : (List ℕ → List ℕ) → Task → Scene → Ending → Heard → Type 0
FailsTask inner (does a) s e heard = IsLost a s e heard
FailsTask inner (repairs buffer) s e heard = BreaksPass inner buffer s e heard
FailsTask inner dispatches s e heard = StopsHands s e heard
FailsTask inner (ends fault) s e heard = (e ≡ ended_on fault s.held) × (heard ≡ s.heard)

-- A PLAN

-- all of it was done, each task behind the reads that it needed
abbrev pub Runs : (List ℕ → List ℕ) → Scene → List Task → Scene → Type 0
Runs inner s [] t = Reads s t
Runs inner s (k ∷ plan) t = (mid : Scene) × (after : Scene) × Reads s mid × DoesTask inner k mid after × Runs inner after plan t

-- a front of it was done, and then a read failed, or the next task
abbrev pub Breaks : (List ℕ → List ℕ) → Scene → List Task → Ending → Heard → Type 0
Breaks inner s [] e heard = FailsRead s e heard
Breaks inner s (k ∷ plan) e heard = FailsRead s e heard ⊎ ((mid : Scene) × Reads s mid × (FailsTask inner k mid e heard ⊎ ((after : Scene) × DoesTask inner k mid after × Breaks inner after plan e heard)))

-- WHAT HAS HAPPENED SO FAR: whatever comes of what is left of a plan comes of the whole of it.
pub record Reached (inner : List ℕ → List ℕ) (start : Scene) (whole rest : List Task) (now : Scene) : Type 0 where
  pub runs : (t : Scene) → Runs inner now rest t → Runs inner start whole t
  pub breaks : (e : Ending) (heard : Heard) → Breaks inner now rest e heard → Breaks inner start whole e heard

-- THE CLAUSE OF EVERY RULE: it does this much of whatever plan is left
abbrev pub Does : {T C : Type 0} → (List ℕ → List ℕ) → (C → Fault) → List Task → Scene → Scene → Result T C → Type 0
Does inner fault plan old new result =
    (start : Scene) (whole rest : List Task) → Reached inner start whole (plan ++ rest) old → MatchResult result (λ _. Reached inner start whole rest new) (λ c. Breaks inner start whole (ended_on (fault c) new.held) new.heard)

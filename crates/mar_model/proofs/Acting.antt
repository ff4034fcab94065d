-- Acts in a row: as tasks of a plan, one row behind another, and those of a pass of repair.
use Rattle.std.proofs.Common.{◌≡◌, ◌⊎◌, inl, inr, ◌∷◌, [], List, Option, None, Some, Bool, true, false, cond, map, ◌++◌, ◌==◌, ℕ, refl, sym, ◌∙◌, ap, subst, ⊎_elim, append-nil}
use Rattle.std.specs.List.{AllByRecursion}
use Rattle.std.specs.Prelude.{⊤}
use Rattle.mar_cert.specs.Block.{Block}
use Rattle.mar_cert.specs.Finalization.{Finalization}
use Rattle.mar_store.specs.Kept.{At}
use Rattle.mar_store.proofs.Lookups.{AllByRecursion-append}
use Rattle.mar_model.specs.Acts.{Act, IsDone, SyncsUncovered, ask, says, store, store_block, stores, tell}
use Rattle.mar_model.specs.Held.{Ending, Held}
use Rattle.mar_model.specs.Promise.{Heard}
use Rattle.mar_model.specs.Ran.{Breaks, BreaksActs, BreaksPass, DoesTask, FailsRead, Reads, Runs, RunsActs, RunsPass, Task, does, repairs}
use Rattle.mar_model.specs.Repair.{AreFills, EndsFills, Search, alone_in, certified_acts, fill_acts, fills_acts, front_acts, gap_acts, newest_acts, search_of, walk_start, with_fills}
use Rattle.mar_model.specs.Scene.{Scene}
use Rattle.mar_model.proofs.Running.{FailsRead-then, Reads-then}

-- AS TASKS

abbrev pub as_tasks : List Act → List Task
as_tasks acts = map (λ a. does a) acts

module _ (inner : List ℕ → List ℕ) where
  -- ONE ROW BEHIND ANOTHER

  pub RunsActs-read : (acts : List Act) (s u t : Scene) → Reads s u → RunsActs inner u acts t → RunsActs inner s acts t
  RunsActs-read [] s u t reads runs = Reads-then s u t reads runs
  RunsActs-read (a ∷ acts) s u t reads (mid, after, read, did, runs) = (mid, after, Reads-then s u mid reads read, did, runs)

  pub BreaksActs-read : (acts : List Act) (s u : Scene) (e : Ending) (heard : Heard) → Reads s u → BreaksActs inner u acts e heard → BreaksActs inner s acts e heard
  BreaksActs-read [] s u e heard reads fails = FailsRead-then s u e heard reads fails
  BreaksActs-read (a ∷ acts) s u e heard reads (inl fails) = inl (FailsRead-then s u e heard reads fails)
  BreaksActs-read (a ∷ acts) s u e heard reads (inr (mid, read, how)) = inr (mid, Reads-then s u mid reads read, how)

  pub RunsActs-append : (xs ys : List Act) (s t u : Scene) → RunsActs inner s xs t → RunsActs inner t ys u → RunsActs inner s (xs ++ ys) u
  RunsActs-append [] ys s t u reads runs = RunsActs-read ys s t u reads runs
  RunsActs-append (a ∷ xs) ys s t u (mid, after, reads, did, first) runs = (mid, after, reads, did, RunsActs-append xs ys after t u first runs)

  pub BreaksActs-append : (xs ys : List Act) (s t : Scene) (e : Ending) (heard : Heard) → RunsActs inner s xs t → BreaksActs inner t ys e heard → BreaksActs inner s (xs ++ ys) e heard
  BreaksActs-append [] ys s t e heard reads breaks = BreaksActs-read ys s t e heard reads breaks
  BreaksActs-append (a ∷ xs) ys s t e heard (mid, after, reads, did, first) breaks = inr (mid, reads, inr (after, did, BreaksActs-append xs ys after t e heard first breaks))

  -- what broke in a front broke in the whole
  pub BreaksActs-front : (xs ys : List Act) (s : Scene) (e : Ending) (heard : Heard) → BreaksActs inner s xs e heard → BreaksActs inner s (xs ++ ys) e heard
  BreaksActs-front [] [] s e heard fails = fails
  BreaksActs-front [] (y ∷ ys) s e heard fails = inl fails
  BreaksActs-front (a ∷ xs) ys s e heard (inl fails) = inl fails
  BreaksActs-front (a ∷ xs) ys s e heard (inr (mid, reads, inl lost)) = inr (mid, reads, inl lost)
  BreaksActs-front (a ∷ xs) ys s e heard (inr (mid, reads, inr (after, did, breaks))) = inr (mid, reads, inr (after, did, BreaksActs-front xs ys after e heard breaks))

  -- a read that failed breaks any row
  pub acts_unread : (s : Scene) (e : Ending) (heard : Heard) (acts : List Act) → FailsRead s e heard → BreaksActs inner s acts e heard
  acts_unread s e heard [] fails = fails
  acts_unread s e heard (a ∷ acts) fails = inl fails

-- A PASS OF REPAIR

-- what it is made of: blocks are stored, tips told, and blocks asked for
abbrev pub IsPassAct : Act → Type 0
IsPassAct (stores (store f b)) = ⊤
IsPassAct (stores (store_block b)) = ⊤
IsPassAct (says (tell r h d)) = ⊤
IsPassAct (says (ask calls)) = ⊤
IsPassAct _ = ⊥

fill-passes : (o : Option Finalization) (b : Block) → AllByRecursion IsPassAct (fill_acts o b)
fill-passes None b = (tt, tt)
fill-passes (Some f) b = (tt, (tt, tt))

fills-pass : (s : Search) (fills : List Block) → AllByRecursion IsPassAct (fills_acts s fills)
fills-pass s [] = tt
fills-pass s (b ∷ fills) = AllByRecursion-append IsPassAct (fill_acts _ b) (fills_acts s fills) (fill-passes _ b) (fills-pass s fills)

certified-passes : (x : At Finalization) (o : Option Block) → AllByRecursion IsPassAct (certified_acts x o)
certified-passes x None = (tt, tt)
certified-passes x (Some b) = by (b.height == x.height)
  where
    by : (c : Bool) → AllByRecursion IsPassAct (cond c (stores (store_block b) ∷ []) [])
    by true = (tt, tt)
    by false = tt

newest-passes : (s : Search) (held : List (At Block)) (o : Option (At Finalization)) → AllByRecursion IsPassAct (newest_acts s held o)
newest-passes s held None = tt
newest-passes s held (Some x) = certified-passes x _

pub front-passes : (inner : List ℕ → List ℕ) (buffer : List Block) (h : Held) (fills : List Block) → AllByRecursion IsPassAct (front_acts inner buffer h fills)
front-passes inner buffer h fills = AllByRecursion-append IsPassAct (newest_acts (search_of inner buffer h) h.blocks.held (alone_in h)) (fills_acts (search_of inner buffer h) fills)
    (newest-passes (search_of inner buffer h) h.blocks.held (alone_in h)) (fills-pass (search_of inner buffer h) fills)

-- all its acts are such
pub ran-passes : (inner : List ℕ → List ℕ) (buffer : List Block) (s t : Scene) → RunsPass inner buffer s t → (acts : List Act) × AllByRecursion IsPassAct acts × RunsActs inner s acts t
ran-passes inner buffer s t pass = (
  front_acts inner buffer s.held pass.fills ++ gap_acts (search_of inner buffer s.held) s.life.sizes.max_repair (with_fills (walk_start inner buffer s.held) pass.fills),
  AllByRecursion-append IsPassAct (front_acts inner buffer s.held pass.fills) _ (front-passes inner buffer s.held pass.fills) (tt, tt),
  pass.ran,
)

pub broke-passes : (inner : List ℕ → List ℕ) (buffer : List Block) (s : Scene) (e : Ending) (heard : Heard) → BreaksPass inner buffer s e heard
    → (acts : List Act) × AllByRecursion IsPassAct acts × BreaksActs inner s acts e heard
broke-passes inner buffer s e heard pass = (
  front_acts inner buffer s.held pass.fills ++ pass.asks,
  AllByRecursion-append IsPassAct (front_acts inner buffer s.held pass.fills) pass.asks (front-passes inner buffer s.held pass.fills) (by pass.last),
  pass.broke,
)
  where
    by : (pass.asks ≡ []) ⊎ (EndsFills (search_of inner buffer s.held) (with_fills (walk_start inner buffer s.held) pass.fills)
        × (pass.asks ≡ gap_acts (search_of inner buffer s.held) s.life.sizes.max_repair (with_fills (walk_start inner buffer s.held) pass.fills))) → AllByRecursion IsPassAct pass.asks
    by (inl none) = subst (AllByRecursion IsPassAct) (sym none) tt
    by (inr (ends, is)) = subst (AllByRecursion IsPassAct) (sym is) (tt, tt)

-- the application and the resolver alone hear of it
act_quiet : (inner : List ℕ → List ℕ) (a : Act) (s t : Scene) → IsPassAct a → IsDone inner a s t → t.heard ≡ record s.heard { reports = t.heard.reports; asks = t.heard.asks }
act_quiet inner (stores (store f b)) s t is (done, joins, law, same) = subst (λ (x : Scene). x.heard ≡ record s.heard { reports = x.heard.reports; asks = x.heard.asks }) (sym same) refl
act_quiet inner (stores (store_block b)) s t is (done, joins, law, same) = subst (λ (x : Scene). x.heard ≡ record s.heard { reports = x.heard.reports; asks = x.heard.asks }) (sym same) refl
act_quiet inner (says (tell r h d)) s t is (heard, same) = subst (λ (x : Scene). x.heard ≡ record s.heard { reports = x.heard.reports; asks = x.heard.asks }) (sym same) refl
act_quiet inner (says (ask calls)) s t is (heard, same) = subst (λ (x : Scene). x.heard ≡ record s.heard { reports = x.heard.reports; asks = x.heard.asks }) (sym same) refl
act_quiet inner _ s t is did = absurd is

row_quiet : (inner : List ℕ → List ℕ) (acts : List Act) (s t : Scene) → AllByRecursion IsPassAct acts → RunsActs inner s acts t → t.heard ≡ record s.heard { reports = t.heard.reports; asks = t.heard.asks }
row_quiet inner [] s t are reads = subst (λ (x : Scene). x.heard ≡ record s.heard { reports = x.heard.reports; asks = x.heard.asks }) (sym reads.same) refl
row_quiet inner (a ∷ acts) s t are (mid, after, reads, did, runs) =
    row_quiet inner acts after t are.1 runs ∙ ap (λ (h : Heard). record h { reports = t.heard.reports; asks = t.heard.asks }) (act_quiet inner a mid after are.0 did ∙ ap (λ (x : Scene). record x.heard { reports = after.heard.reports; asks = after.heard.asks }) reads.same)

pub pass_quiet : (inner : List ℕ → List ℕ) (buffer : List Block) (s t : Scene) → RunsPass inner buffer s t → t.heard ≡ record s.heard { reports = t.heard.reports; asks = t.heard.asks }
pass_quiet inner buffer s t pass = let (acts, are, ran) = ran-passes inner buffer s t pass in row_quiet inner acts s t are ran

-- A SYNC OF WHAT IS UNCOVERED

pub synced_as : (uncovered : List ℕ) (old new : Held) → SyncsUncovered uncovered old new
    → (new ≡ record old { blocks = new.blocks; certs = new.certs; writes = new.writes; watches = new.watches }) × (new.writes.next_sync ≡ old.writes.next_sync)
synced_as [] old new is = (
  subst (λ (h : Held). h ≡ record old { blocks = h.blocks; certs = h.certs; writes = h.writes; watches = h.watches }) (sym is) refl,
  ap (λ h. h.writes.next_sync) is,
)
synced_as (h ∷ uncovered) old new is = (
  is.same ∙ ap (λ w. record old { blocks = new.blocks; certs = new.certs; writes = w; watches = new.watches }) (sym (ap (λ h. h.writes) is.same)),
  ap (λ h. h.writes.next_sync) is.same,
)

-- A plan with a pass of repair comes to one of acts alone: those of the pass that were done, and what stood behind it.

-- These acts are of a pass that began here: what is stored until some blocks are filled in, and then what it asks for, where it
-- came to that.
pub record IsPass (inner : List ℕ → List ℕ) (buffer : List Block) (s : Scene) (acts : List Act) : Type 0 where
  pub fills : List Block
  pub are : AreFills (search_of inner buffer s.held) (walk_start inner buffer s.held) fills
  pub asks : List Act
  pub last : (asks ≡ []) ⊎ (EndsFills (search_of inner buffer s.held) (with_fills (walk_start inner buffer s.held) fills)
      × (asks ≡ gap_acts (search_of inner buffer s.held) s.life.sizes.max_repair (with_fills (walk_start inner buffer s.held) fills)))
  pub acts_are : acts ≡ front_acts inner buffer s.held fills ++ asks

module _ (inner : List ℕ → List ℕ) where
  -- reads before it are in no plan
  breaks_read : (plan : List Task) (s u : Scene) (e : Ending) (heard : Heard) → Reads s u → Breaks inner u plan e heard → Breaks inner s plan e heard
  breaks_read [] s u e heard reads fails = FailsRead-then s u e heard reads fails
  breaks_read (k ∷ plan) s u e heard reads (inl fails) = inl (FailsRead-then s u e heard reads fails)
  breaks_read (k ∷ plan) s u e heard reads (inr (mid, read, how)) = inr (mid, Reads-then s u mid reads read, how)

  -- a plan was done, and the next broke
  pub runs_breaks : (front rest : List Task) (s t : Scene) (e : Ending) (heard : Heard) → Runs inner s front t → Breaks inner t rest e heard → Breaks inner s (front ++ rest) e heard
  runs_breaks [] rest s t e heard reads breaks = breaks_read rest s t e heard reads breaks
  runs_breaks (k ∷ front) rest s t e heard (mid, after, reads, did, runs) breaks = inr (mid, reads, inr (after, did, runs_breaks front rest after t e heard runs breaks))

  row_broke : (acts : List Act) (s : Scene) (e : Ending) (heard : Heard) → BreaksActs inner s acts e heard → Breaks inner s (as_tasks acts) e heard
  row_broke [] s e heard fails = fails
  row_broke (a ∷ acts) s e heard (inl fails) = inl fails
  row_broke (a ∷ acts) s e heard (inr (mid, reads, inl lost)) = inr (mid, reads, inl lost)
  row_broke (a ∷ acts) s e heard (inr (mid, reads, inr (after, did, breaks))) = inr (mid, reads, inr (after, did, row_broke acts after e heard breaks))

  row_ran : (acts : List Act) (s t : Scene) → RunsActs inner s acts t → Runs inner s (as_tasks acts) t
  row_ran [] s t reads = reads
  row_ran (a ∷ acts) s t (mid, after, reads, did, runs) = (mid, after, reads, did, row_ran acts after t runs)

  -- What came of a plan that had a pass behind some tasks, where it broke in the pass or behind it: the pass began in this scene,
  -- and this much of it and of what stood behind was to be done.
  pub record BreaksBehind (buffer : List Block) (front rest : List Task) (s : Scene) (e : Ending) (heard : Heard) : Type 0 where
    pub began : Scene
    pub done : Runs inner s front began
    pub acts : List Act
    pub is_pass : IsPass inner buffer began acts
    pub left : List Task
    pub left_is : (left ≡ []) ⊎ (left ≡ rest)
    pub broke : Breaks inner s (front ++ as_tasks acts ++ left) e heard

  module _ (buffer : List Block) (rest : List Task) (e : Ending) (heard : Heard) where
    behind-broke : (s mid : Scene) → Reads s mid → BreaksPass inner buffer mid e heard → BreaksBehind buffer [] rest s e heard
    behind-broke s mid reads pass = record {
      began = mid;
      done = reads;
      acts = front_acts inner buffer mid.held pass.fills ++ pass.asks;
      is_pass = record { fills = pass.fills; are = pass.are; asks = pass.asks; last = pass.last; acts_are = refl };
      left = [];
      left_is = inl refl;
      broke = breaks_read _ s mid e heard reads (subst (λ plan. Breaks inner mid plan e heard) (sym (append-nil (as_tasks (front_acts inner buffer mid.held pass.fills ++ pass.asks)))) (row_broke _ mid e heard pass.broke));
    }

    behind-ran : (s mid after : Scene) → Reads s mid → RunsPass inner buffer mid after → Breaks inner after rest e heard → BreaksBehind buffer [] rest s e heard
    behind-ran s mid after reads pass breaks = record {
      began = mid;
      done = reads;
      acts = front_acts inner buffer mid.held pass.fills ++ gap_acts (search_of inner buffer mid.held) mid.life.sizes.max_repair (with_fills (walk_start inner buffer mid.held) pass.fills);
      is_pass = record { fills = pass.fills; are = pass.are; asks = gap_acts (search_of inner buffer mid.held) mid.life.sizes.max_repair (with_fills (walk_start inner buffer mid.held) pass.fills); last = inr (pass.ends, refl); acts_are = refl };
      left = rest;
      left_is = inr refl;
      broke = breaks_read _ s mid e heard reads (runs_breaks (as_tasks _) rest mid after e heard (row_ran _ mid after pass.ran) breaks);
    }

    behind-more : (k : Task) (front : List Task) (s mid after : Scene) → Reads s mid → DoesTask inner k mid after → BreaksBehind buffer front rest after e heard → BreaksBehind buffer (k ∷ front) rest s e heard
    behind-more k front s mid after reads did behind = record {
      began = behind.began;
      done = (mid, after, reads, did, behind.done);
      acts = behind.acts;
      is_pass = behind.is_pass;
      left = behind.left;
      left_is = behind.left_is;
      broke = inr (mid, reads, inr (after, did, behind.broke));
    }

    -- FLATTENED: it broke before the pass, in it or behind it
    pub flattened : (front : List Task) (s : Scene) → Breaks inner s (front ++ repairs buffer ∷ rest) e heard → Breaks inner s front e heard ⊎ BreaksBehind buffer front rest s e heard
    flattened [] s (inl fails) = inl fails
    flattened [] s (inr (mid, reads, inl pass)) = inr (behind-broke s mid reads pass)
    flattened [] s (inr (mid, reads, inr (after, pass, breaks))) = inr (behind-ran s mid after reads pass breaks)
    flattened (k ∷ front) s (inl fails) = inl (inl fails)
    flattened (k ∷ front) s (inr (mid, reads, inl fails)) = inl (inr (mid, reads, inl fails))
    flattened (k ∷ front) s (inr (mid, reads, inr (after, did, breaks))) =
        ⊎_elim (λ broke. inl (inr (mid, reads, inr (after, did, broke)))) (λ behind. inr (behind-more k front s mid after reads did behind)) (flattened front after breaks)

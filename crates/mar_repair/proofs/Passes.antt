-- A pass of its parts.
use Rattle.std.proofs.Common.{◌≡◌, ◌∷◌, ◌++◌, [], List, Result, Ok, Err, ℕ, refl, sym, ◌∙◌, ap, subst, append-nil, append_assoc, inl, inr}
use Rattle.mar_cert.specs.Block.{Block}
use Rattle.mar_model.specs.Acts.{Act}
use Rattle.mar_model.specs.Faults.{Fault}
use Rattle.mar_model.specs.Held.{Ending, Held, ended_on}
use Rattle.mar_model.specs.Promise.{Heard}
use Rattle.mar_model.specs.Ran.{BreaksActs, BreaksPass, Does, Reached, RunsActs, RunsPass, Task, Breaks, repairs}
use Rattle.mar_model.specs.Repair.{AreFills, EndsFills, alone_in, fills_acts, front_acts, gap_acts, newest_acts, search_of, walk_start, with_fills}
use Rattle.mar_model.specs.Scene.{Scene}
use Rattle.mar_model.proofs.Acting.{BreaksActs-append, BreaksActs-front, RunsActs-append}
use Rattle.mar_model.proofs.Running.{Breaks-now, Does-task}
use Rattle.mar_repair.specs.Walk.{DoesActs, OnlyStores, StopsWalk, Walks}
use Rattle.mar_repair.proofs.Rows.{same_search}

module _ (inner : List ℕ → List ℕ) (buffer : List Block) (s : Scene) where
  abbrev first : List Act
  first = newest_acts (search_of inner buffer s.held) s.held.blocks.held (alone_in s.held)

  -- it broke as it looked for the newest certificate's block
  pub broke_first : {e : Ending} {heard : Heard} → BreaksActs inner s first e heard → BreaksPass inner buffer s e heard
  broke_first {e} {heard} broke = record {
    fills = [];
    are = tt;
    asks = [];
    last = inl refl;
    broke = subst (λ acts. BreaksActs inner s acts e heard) (sym (append-nil (first ++ []))) (subst (λ acts. BreaksActs inner s acts e heard) (sym (append-nil first)) broke);
  }

  module _ (m : Scene) (ran : RunsActs inner s first m) (kept : OnlyStores s.held m.held) (start : m.held.blocks.held ≡ walk_start inner buffer s.held) where
    same : search_of inner buffer m.held ≡ search_of inner buffer s.held
    same = same_search inner buffer s.held m.held kept

    fills_are : (fills : List Block) → AreFills (search_of inner buffer m.held) m.held.blocks.held fills → AreFills (search_of inner buffer s.held) (walk_start inner buffer s.held) fills
    fills_are fills are = subst (λ k. AreFills k (walk_start inner buffer s.held) fills) same (subst (λ held. AreFills (search_of inner buffer m.held) held fills) start are)

    -- as it walked
    pub broke_walk : {e : Ending} {heard : Heard} → StopsWalk inner buffer m e heard → BreaksPass inner buffer s e heard
    broke_walk {e} {heard} stops = record {
      fills = stops.fills;
      are = fills_are stops.fills stops.are;
      asks = [];
      last = inl refl;
      broke = subst (λ acts. BreaksActs inner s acts e heard) (sym (append-nil (first ++ fills_acts (search_of inner buffer s.held) stops.fills)))
          (BreaksActs-append inner first (fills_acts (search_of inner buffer s.held) stops.fills) s m e heard ran (subst (λ k. BreaksActs inner m (fills_acts k stops.fills) e heard) same stops.broke));
    }

    module _ (n : Scene) (walked : Walks inner buffer m n) (kept_on : OnlyStores m.held n.held) (ends : EndsFills (search_of inner buffer m.held) n.held.blocks.held) (most : ℕ) (is : s.life.sizes.max_repair ≡ most) where
      held_is : n.held.blocks.held ≡ with_fills (walk_start inner buffer s.held) walked.fills
      held_is = walked.held ∙ ap (λ held. with_fills held walked.fills) start

      search_is : search_of inner buffer n.held ≡ search_of inner buffer s.held
      search_is = same_search inner buffer m.held n.held kept_on ∙ same

      abbrev last_acts : List Act
      last_acts = gap_acts (search_of inner buffer s.held) s.life.sizes.max_repair (with_fills (walk_start inner buffer s.held) walked.fills)

      acts_are : gap_acts (search_of inner buffer n.held) most n.held.blocks.held ≡ last_acts
      acts_are = ap (λ k. gap_acts k most n.held.blocks.held) search_is ∙ (ap (λ k. gap_acts (search_of inner buffer s.held) k n.held.blocks.held) (sym is) ∙ ap (λ held. gap_acts (search_of inner buffer s.held) s.life.sizes.max_repair held) held_is)

      ended : EndsFills (search_of inner buffer s.held) (with_fills (walk_start inner buffer s.held) walked.fills)
      ended = subst (λ k. EndsFills k (with_fills (walk_start inner buffer s.held) walked.fills)) same (subst (λ held. EndsFills (search_of inner buffer m.held) held) held_is ends)

      front : RunsActs inner s (front_acts inner buffer s.held walked.fills) n
      front = RunsActs-append inner first (fills_acts (search_of inner buffer s.held) walked.fills) s m n ran (subst (λ k. RunsActs inner m (fills_acts k walked.fills) n) same walked.ran)

      -- whole
      pub ran_whole : (t : Scene) → RunsActs inner n (gap_acts (search_of inner buffer n.held) most n.held.blocks.held) t → RunsPass inner buffer s t
      ran_whole t asked = record {
        fills = walked.fills;
        are = fills_are walked.fills walked.are;
        ends = ended;
        ran = RunsActs-append inner (front_acts inner buffer s.held walked.fills) last_acts s n t front (subst (λ acts. RunsActs inner n acts t) acts_are asked);
      }

      -- or as it asked
      pub broke_last : {e : Ending} {heard : Heard} → BreaksActs inner n (gap_acts (search_of inner buffer n.held) most n.held.blocks.held) e heard → BreaksPass inner buffer s e heard
      broke_last {e} {heard} broke = record {
        fills = walked.fills;
        are = fills_are walked.fills walked.are;
        asks = last_acts;
        last = inr (ended, refl);
        broke = BreaksActs-append inner (front_acts inner buffer s.held walked.fills) last_acts s n e heard front (subst (λ acts. BreaksActs inner n acts e heard) acts_are broke);
      }

      pub does_pass : {T C : Type 0} (fault : C → Fault) (t : Scene) (result : Result T C) → DoesActs inner fault (gap_acts (search_of inner buffer n.held) most n.held.blocks.held) n t result → Does inner fault (repairs buffer ∷ []) s t result
      does_pass fault t (Ok x) asked = Does-task inner fault (repairs buffer) s t (Ok x) (ran_whole t asked) tt
      does_pass {T = T} fault t (Err c) asked = Does-task {T = T} inner fault (repairs buffer) s t (Err c) tt (broke_last asked)

  pub breaks_pass : (start : Scene) (whole rest : List Task) {e : Ending} {heard : Heard} → BreaksPass inner buffer s e heard → Reached inner start whole (repairs buffer ∷ rest) s → Breaks inner start whole e heard
  breaks_pass start whole rest {e} {heard} broke reached = Breaks-now inner start whole (repairs buffer) rest s e heard reached broke

-- The clauses of a step, by the plan that its event ran.
use Rattle.std.proofs.Common.{◌≡◌, ◌∷◌, [], List, Result, Ok, Err, IfOk, ap, refl, ℕ}
use Rattle.mar_types.specs.Epochs.{Epochs, IsPartition}
use Rattle.mar_cert.specs.Block.{Block}
use Rattle.mar_model.specs.Acts.{AreLawful}
use Rattle.mar_model.specs.Due.{EndsWhereDue, due_fault}
use Rattle.mar_model.specs.Event.{Event}
use Rattle.mar_model.specs.Held.{Ending, Held, Remembered, Seen}
use Rattle.mar_model.specs.Moves.{FindsInCache, LivesOnGiving, syncs_at_most}
use Rattle.mar_model.specs.Plans.{RunsPlan}
use Rattle.mar_model.specs.Promise.{Heard, KeepsPromise, none_waiting}
use Rattle.mar_model.specs.Requests.{may_repair}
use Rattle.mar_model.specs.Scene.{Scene, Standing, scene, window_of}
use Rattle.mar_model.specs.Told.{TellsInOrder, tips_of}
use Rattle.mar_parts.specs.Certified.{Certified}
use Rattle.mar_actor.specs.Known.{seen_knowing}
use Rattle.mar_model.proofs.Promised.{IsTaken, keeps_promise}
use Rattle.mar_model.proofs.Stepping.{step_by_value, step_lives, step_tells}

-- what else stands as a step begins
abbrev pub standing_in : {P E : Type 0} → Epochs → Seen P E → Standing
standing_in epochs old = record { epochs = epochs; known = old.certified; waits = [] }

abbrev pub scene_in : {P E : Type 0} → Epochs → Seen P E → Heard → Scene
scene_in epochs old before = scene old.held (window_of old.life) (standing_in epochs old) before

-- What a step promises, however it ended.
pub record Stepped {P E : Type 0} (epochs : Epochs) (inner : List ℕ → List ℕ) (buffer : List Block) (old : Seen P E) (before after : Heard) (e : Event) (result : Result (Seen P E) Ending) : Type 0 where
  pub promise : KeepsPromise (e ∷ []) epochs inner old buffer before after result
  pub lives : LivesOnGiving (syncs_at_most e) old result
  pub by_value : FindsInCache e old → EndsWhereDue (due_fault inner old buffer e) result
  pub tells : FindsInCache e old → TellsInOrder (may_repair e) before.reports (tips_of inner old buffer e) after.reports result

pub stepped : {P E : Type 0} (epochs : Epochs) (inner : List ℕ → List ℕ) → IsPartition epochs → (buffer : List Block) (old : Seen P E) (before after : Heard) → AreLawful old.held → (e : Event) → IsTaken e → (result : Result (Seen P E) Ending)
    → RunsPlan inner buffer e (scene_in epochs old before) after result → IfOk result (λ n. (n.life.provider ≡ old.life.provider) × (n.life.epocher ≡ old.life.epocher)) → Stepped epochs inner buffer old before after e result
stepped epochs inner partition buffer old before after law e taken result plan same = record {
  promise = keeps_promise epochs inner partition buffer old (standing_in epochs old) refl before after law e taken result plan;
  lives = step_lives old.life inner buffer e (scene_in epochs old before) law after result plan same;
  by_value = step_by_value old.life inner buffer e (scene_in epochs old before) law after result plan;
  tells = step_tells old.life inner buffer e (scene_in epochs old before) law after result plan;
}

-- the same node, by what it is made of
pub same_seen : {P E C : Type 0} (bytes : C → List ℕ) (h h' : Held) (l l' : Remembered P E) (c c' : Certified C) → h ≡ h' → l ≡ l' → c ≡ c' → seen_knowing bytes h l c ≡ seen_knowing bytes h' l' c'
same_seen bytes h h' l l' c c' held life certified = rw (held, life, certified) refl

pub same_result : {P E : Type 0} (new old : Seen P E) → new ≡ old → ◌≡◌ {A = Result (Seen P E) Ending} (Ok new) (Ok old)
same_result new old is = ap Ok is

pub no_ok : {T C : Type 0} (c : C) (x : T) → ◌≡◌ {A = Result T C} (Err c) (Ok x) → ⊥
no_ok c x is = cc

-- A life with the window of a scene; and what is promised of it behind a read.
use Rattle.std.proofs.Common.{◌≡◌, ◌∷◌, List, Ok, ℕ, sym, ap, subst, Err, []}
use Rattle.mar_types.specs.Epochs.{Epochs}
use Rattle.mar_cert.specs.Block.{Block}
use Rattle.mar_model.specs.Event.{Event}
use Rattle.mar_model.specs.Held.{Remembered, Seen, seen, Ending}
use Rattle.mar_model.specs.Promise.{Heard, KeepsStep, StepsOrCuts, node_of}
use Rattle.mar_model.specs.Ran.{Reads, Breaks, Runs, Task}
use Rattle.mar_model.specs.Scene.{Scene, Window}

module _ {P E : Type 0} (life : Remembered P E) where
  abbrev pub with_window : Window → Remembered P E
  with_window w = record life { sizes = w.sizes; out = w.out; tip = w.tip; next_ack = w.next_ack }

  abbrev pub at : Scene → Seen P E
  at s = seen s.held (with_window s.life)

  module _ (epochs : Epochs) (inner : List ℕ → List ℕ) (events : List Event) (buffer : List Block) (s : Scene) where
    pub read_behind : (before after : Heard) (m u : Scene) → Reads m u → KeepsStep epochs inner (at s) events buffer before after (Ok (at m))
        → KeepsStep epochs inner (at s) events buffer before after (Ok (at u))
    read_behind before after m u reads keeps loaded config chain waiting set step =
        let finishes = keeps loaded config chain waiting set step in
        subst (λ (y : Scene). StepsOrCuts config chain (node_of (at s) buffer waiting) events before after (Ok (at y))) (sym reads.same)
        (record { made = finishes.made; heard = finishes.heard; steps = finishes.steps })

    -- where this was reached, and then it was read
    pub done_as : (u t now : Scene) → u ≡ now → Reads u t → KeepsStep epochs inner (at s) events buffer s.heard now.heard (Ok (at now))
        → KeepsStep epochs inner (at s) events buffer s.heard t.heard (Ok (at t))
    done_as u t now same reads keeps = subst (λ h. KeepsStep epochs inner (at s) events buffer s.heard h (Ok (at t))) (sym (ap (λ (x : Scene). x.heard) reads.same))
        (read_behind s.heard u.heard u t reads (subst (λ (y : Scene). KeepsStep epochs inner (at s) events buffer s.heard y.heard (Ok (at y))) (sym same) keeps))

  -- What is promised of an event by its plan: where that ran, and where it broke.
  pub record KeepsPlan (epochs : Epochs) (inner : List ℕ → List ℕ) (buffer : List Block) (s : Scene) (plan : List Task) (e : Event) : Type 0 where
    pub ran : (t : Scene) → Runs inner s plan t → KeepsStep epochs inner (at s) (e ∷ []) buffer s.heard t.heard (Ok (at t))
    pub broke : (x : Ending) (heard : Heard) → Breaks inner s plan x heard → KeepsStep epochs inner (at s) (e ∷ []) buffer s.heard heard (Err x)

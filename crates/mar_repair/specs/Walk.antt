-- What the parts of a pass of repair do.
use Rattle.std.specs.Prelude.{List, MatchResult, Result, if◌then◌else◌, suc, zero, ℕ, ◌+◌, ◌≡◌}
use Rattle.mar_cert.specs.Block.{Block}
use Rattle.mar_store.specs.Kept.{At, has_height}
use Rattle.mar_model.specs.Acts.{Act}
use Rattle.mar_model.specs.Faults.{Fault}
use Rattle.mar_model.specs.Held.{Ending, Held, ended_on}
use Rattle.mar_model.specs.Promise.{Heard}
use Rattle.mar_model.specs.Ran.{BreaksActs, RunsActs}
use Rattle.mar_model.specs.Repair.{AreFills, fills_acts, search_of, with_fills}
use Rattle.mar_model.specs.Scene.{Scene, Standing, Window, scene}

-- these acts were done in a row, or a front of them
abbrev pub DoesActs : {T C : Type 0} → (List ℕ → List ℕ) → (C → Fault) → List Act → Scene → Scene → Result T C → Type 0
DoesActs inner fault acts s t result = MatchResult result (λ _. RunsActs inner s acts t) (λ c. BreaksActs inner s acts (ended_on (fault c) t.held) t.heard)

-- what a pass stores leaves all else as it was
abbrev pub OnlyStores : Held → Held → Type 0
OnlyStores old new = new ≡ record old { blocks = new.blocks; certs = new.certs; writes = new.writes; watches = new.watches }

-- a scene whose tip is this
abbrev pub at_tip : Held → Window → ℕ → Standing → Heard → Scene
at_tip held life tip standing heard = scene held (record life { tip = tip }) standing heard

-- These blocks were filled in, one after another.
pub record Walks (inner : List ℕ → List ℕ) (buffer : List Block) (s t : Scene) : Type 0 where
  pub fills : List Block
  pub are : AreFills (search_of inner buffer s.held) s.held.blocks.held fills
  pub held : t.held.blocks.held ≡ with_fills s.held.blocks.held fills
  pub ran : RunsActs inner s (fills_acts (search_of inner buffer s.held) fills) t

-- These were being filled in as the life ended.
pub record StopsWalk (inner : List ℕ → List ℕ) (buffer : List Block) (s : Scene) (e : Ending) (heard : Heard) : Type 0 where
  pub fills : List Block
  pub are : AreFills (search_of inner buffer s.held) s.held.blocks.held fills
  pub broke : BreaksActs inner s (fills_acts (search_of inner buffer s.held) fills) e heard

abbrev pub WalksOn : {T C : Type 0} → (List ℕ → List ℕ) → (C → Fault) → List Block → Scene → Scene → Result T C → Type 0
WalksOn inner fault buffer s t result = MatchResult result (λ _. Walks inner buffer s t) (λ c. StopsWalk inner buffer s (ended_on (fault c) t.held) t.heard)

-- how many heights below a bound have no block
abbrev pub unheld : ℕ → List (At Block) → ℕ
unheld zero held = 0
unheld (suc n) held = if has_height held n then unheld n held else unheld n held + 1

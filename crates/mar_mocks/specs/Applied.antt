-- What an application was told, and which acknowledgements it gives.
use Rattle.std.specs.Prelude.{Bool, List, None, Option, Some, [], drop, if◌then◌else◌, length, option_map, ℕ, ◌++◌, ◌==◌, ◌∷◌, ◌≡◌}
use Rattle.std.specs.Option.{option_or}
use Rattle.mar_cert.specs.Block.{Block}
use Rattle.mar_model.specs.Step.{Report, handed_over, new_tip}

-- the acknowledgement that is owed for a block: the block's height, and the ticket that names it
pub record Owed : Type 0 where
  pub height : ℕ
  pub ticket : ℕ

-- all that it was told, in order; the acknowledgements that weren't taken from it, in the order of their blocks; how many
-- of them, from the oldest on, are given; whether each is given as its block comes
pub record Applied : Type 0 where
  pub told : List Report
  pub owed : List Owed
  pub given : ℕ
  pub gives_at_once : Bool

-- those that aren't given yet
abbrev pub pending : Applied → List Owed
pending a = drop a.given a.owed

abbrev pub owed_for : Report → List Owed
owed_for (new_tip round height digest) = []
owed_for (handed_over ticket b) = record { height = b.height; ticket = ticket } ∷ []

-- it was told this behind what it was told before
abbrev pub after_report : Report → Applied → Applied
after_report report a = record a {
  told = a.told ++ report ∷ [];
  owed = a.owed ++ owed_for report;
  given = if a.gives_at_once then length (a.owed ++ owed_for report) else a.given;
}

-- a tip's height and digest
pub record Tip : Type 0 where
  pub height : ℕ
  pub digest : List ℕ

-- the tip that was told last
abbrev pub last_tip : List Report → Option Tip
last_tip [] = None
last_tip (new_tip round height digest ∷ later) = option_or (last_tip later) (Some (record { height = height; digest = digest }))
last_tip (handed_over ticket b ∷ later) = last_tip later

-- the block that was handed over last at a height
abbrev pub last_block : ℕ → List Report → Option Block
last_block height [] = None
last_block height (new_tip round h digest ∷ later) = last_block height later
last_block height (handed_over ticket b ∷ later) = option_or (last_block height later) (if b.height == height then Some b else None)

-- where the tip was the last that was told, it is once this was told too
abbrev pub KeepsTip : {T : Type 0} → (T → Tip) → Option T → Report → Option T → Type 0
KeepsTip tip old report new = (reports : List Report)
    → option_map tip old ≡ last_tip reports → option_map tip new ≡ last_tip (reports ++ report ∷ [])

-- where the blocks by height were the last that were told, they are once this was told too
abbrev pub KeepsBlocks : {B : Type 0} → (B → Block) → (ℕ → Option B) → Report → (ℕ → Option B) → Type 0
KeepsBlocks plain old report new = (reports : List Report)
    → ((h : ℕ) → option_map plain (old h) ≡ last_block h reports)
    → (h : ℕ) → option_map plain (new h) ≡ last_block h (reports ++ report ∷ [])

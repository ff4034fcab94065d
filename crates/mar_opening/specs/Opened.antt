-- What an opening makes of the stores that were left, before a life begins on them.
use Rattle.std.specs.Prelude.{None, Some, [], ◌∷◌, ◌≡◌, ◌⊎◌, ℕ}
use Rattle.mar_types.specs.Epochs.{Epochs}
use Rattle.mar_cert.specs.Block.{Block}
use Rattle.mar_store.specs.Changes.{KeepsValues}
use Rattle.mar_model.specs.Held.{ArePassed, Ending, FailsInOrder, Grew, Held, IsUsual, Loses, LosesOpening, Remains, ReopensAs, nothing_written, written_block}
use Rattle.mar_model.specs.Opening.{BeginsWith, Derives, IsBeginFault, derived_pair, next_fault}
use Rattle.mar_model.specs.Stored.{at_own_height}

-- They were reopened, a life may begin on them, and the cutoff is the derived one.
pub record OpensAs (epochs : Epochs) (old : Remains) (luck : ℕ) (g : Block) (new : Held) : Type 0 where
  pub first : Held
  pub begun : Held
  pub reopens : ReopensAs old luck first
  pub begins : BeginsWith g first begun
  pub grew : Grew first (written_block (at_own_height g)) begun
  pub derives : Derives epochs begun new
  pub passed : ArePassed begun.watches new.watches

-- They weren't reopened.
pub record FailsReopening (old : Remains) (e : Ending) : Type 0 where
  pub lost : LosesOpening old nothing_written e
  pub in_order : FailsInOrder old e
  pub usual : IsUsual e.fault

-- No life may begin on them.
pub record FailsBeginning (old : Remains) (luck : ℕ) (g : Block) (e : Ending) : Type 0 where
  pub first : Held
  pub reopens : ReopensAs old luck first
  pub lost : Loses first (written_block (at_own_height g)) e
  pub kind : IsUsual e.fault ⊎ IsBeginFault g first e.fault

-- The cutoff couldn't be derived or made durable.
pub record FailsDeriving (epochs : Epochs) (old : Remains) (luck : ℕ) (g : Block) (e : Ending) : Type 0 where
  pub first : Held
  pub begun : Held
  pub reopens : ReopensAs old luck first
  pub begins : BeginsWith g first begun
  pub grew : Grew first (written_block (at_own_height g)) begun
  pub lost : Loses first (written_block (at_own_height g)) e
      ⊎ (next_fault begun ≡ None) × Loses first (record (written_block (at_own_height g)) { pairs = derived_pair epochs begun ∷ [] }) e
  pub keeps : KeepsValues begun.blocks.sure e.remains.ended.blocks_sure
  pub kind : IsUsual e.fault ⊎ (next_fault begun ≡ Some e.fault)

abbrev pub FailsToOpen : Epochs → Remains → ℕ → Block → Ending → Type 0
FailsToOpen epochs old luck g e = FailsReopening old e ⊎ FailsBeginning old luck g e ⊎ FailsDeriving epochs old luck g e

-- What a call of a ledger tells where it gives no ledger.
use Rattle.std.specs.Prelude.{Contains, IfSome, List, [], false, ℕ, ◌∷◌, ◌≡◌}
use Rattle.mar_store.specs.Lost.{wreck_of}
use Rattle.mar_store.specs.Luck.{keeps_by, lucky_values}
use Rattle.mar_store.specs.Values.{LeavesValues, Values}
use Rattle.mar_store.specs.Watch.{LostHeeds, Watch, counted, is_due}
use Rattle.mar_store.specs.declared.lost.Lost.{Lost}
use Rattle.mar_ledger.specs.Ledger.{Delivered, HoldsLedger, IsForeign, KeptLedger, Ledger, LeavesLedger, entered, gap}
use Rattle.mar_ledger.specs.Writing.{LostWriting}
use Rattle.mar_ledger.specs.declared.applied.Applied.{Applied as Outcome}
use Rattle.mar_ledger.specs.declared.applied.Applied.TheVariants.{Seen}
use Rattle.mar_ledger.specs.declared.ends.LedgerEnd.{LedgerEnd}
use Rattle.mar_ledger.specs.declared.ends.LedgerEnd.TheVariants.{Gap, Store}
use Rattle.mar_ledger.specs.declared.ends.OpenEnd.{OpenEnd}
use Rattle.mar_ledger.specs.declared.ends.OpenEnd.TheVariants.{Foreign, Store as Unopened}

-- OPENINGS

-- a map that may be left, which luck picks where the store goes by it
pub record IsFound (left : List Values) (watch : Watch) (luck : ℕ) (values : Values) : Type 0 where
  pub one : Contains left values
  pub picked : IfSome watch.keeps (λ keeps. values ≡ lucky_values (keeps_by keeps luck 0) left)

-- The map that is found is the ledger's.
pub record OpensLedger (left : List Values) (watch : Watch) (luck : ℕ) (l : KeptLedger) : Type 0 where
  pub values : Values
  pub found : IsFound left watch luck values
  pub holds : HoldsLedger values l.ledger
  pub unarmed : is_due watch.due ≡ false
  pub watched : l.watch ≡ counted watch

-- The map that is found is no ledger's, and it alone is left.
pub record FindsForeign (left : List Values) (watch : Watch) (luck : ℕ) (left_now : List Values) (watch_now : Watch) : Type 0 where
  pub values : Values
  pub found : IsFound left watch luck values
  pub foreign : IsForeign values
  pub left_is : left_now ≡ values ∷ []
  pub unarmed : is_due watch.due ≡ false
  pub watched : watch_now ≡ counted watch

-- why no ledger is opened: what is found is no ledger's, or the store failed, which leaves what was left
abbrev pub EndsOpening : {W : Type 0} → (W → List Values) → (W → Watch) → W → ℕ → OpenEnd W → Type 0
EndsOpening left watch before luck (Foreign w) = FindsForeign (left before) (watch before) luck (left w) (watch w)
EndsOpening left watch before luck (Unopened lost) = LeavesValues (left before) [] (left (wreck_of lost)) × LostHeeds watch (watch before) lost

-- WRITING

-- the ledger was lost as this one was written: it is left, and maybe the new one
pub record LosesLedger {W : Type 0} (left : W → List Values) (watch : W → Watch) (l : KeptLedger) (new : Ledger) (lost : Lost W) : Type 0 where
  pub leaves : LeavesLedger l.ledger new (left (wreck_of lost))
  pub watched : LostWriting watch l.watch lost

-- the ledger is this one, by one sync
pub record WritesLedger (l : KeptLedger) (new : Ledger) (now : KeptLedger) : Type 0 where
  pub is : now.ledger ≡ new
  pub unarmed : is_due l.watch.due ≡ false
  pub watched : now.watch ≡ counted l.watch

-- DELIVERIES

-- a block that was seen changes nothing, each other one is one sync
abbrev pub Enters : KeptLedger → Outcome → KeptLedger → Type 0
Enters l Seen now = now ≡ l
Enters l how now = WritesLedger l now.ledger now

-- the block wasn't entered: heights are missing before it, and the ledger is as it was; or the store was lost as the ledger
-- behind it was written
abbrev pub EndsDelivery : {W : Type 0} → (W → List Values) → (W → Watch) → KeptLedger → Delivered → LedgerEnd KeptLedger W → Type 0
EndsDelivery left watch l made (Gap same expected got) = (made ≡ gap expected got) × (same ≡ l)
EndsDelivery left watch l made (Store lost) = (new : Ledger) × (how : Outcome) × (made ≡ entered new how) × (how ≡ Seen → ⊥) × LosesLedger left watch l new lost

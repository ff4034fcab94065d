-- Keys that are put one after another, and what is left where a store was lost.
use Rattle.std.proofs.Common.{◌≡◌, ℕ, ◌+◌, ◌<◌, List, Some, [], ◌∷◌, ap, arith, get_or, if◌then◌else◌, length, nat_lt, refl, ◌≤◌}
use Rattle.std.proofs.lemmas.List.{append-nil}
use Rattle.std.proofs.lemmas.List.Elements.{Contains-append_left}
use Rattle.mar_store.proofs.ChangedKeys.{fewer_others, one_key_more}
use Rattle.mar_store.specs.Values.{LeavesValues, Values, others_of, with_key}
use Rattle.mar_ledger.specs.Books.{Books}
use Rattle.mar_ledger.specs.Ledger.{written}
use Rattle.mar_ledger.specs.Writing.{LosesWriting}

-- the keys below i have their balances, the others what they had
abbrev pub PutUpto : List ℕ → ℕ → Values → Values → Type 0
PutUpto balances i old now = (k : ℕ) → now k ≡ (if nat_lt k i then Some (get_or balances k 0) else old k)

-- nothing new is left where a put failed
pub leaves_more : (before left : List Values) (values : Values) → LeavesValues before [] left → LeavesValues before (values ∷ []) left
leaves_more before left values leaves = record {
  some = leaves.some;
  synced = leaves.synced;
  kept = leaves.kept;
  within = λ x here. Contains-append_left before (values ∷ []) x (rw append-nil at (leaves.within x here));
}

pub loses_put : (height : ℕ) (books : Books) (old : Values) (before left : List Values) → LeavesValues before [] left → LosesWriting height books old before left
loses_put height books old before left leaves = record { values = written height books old; values_are = λ k. refl; leaves = leaves_more before left (written height books old) leaves }

-- between two syncs there is room for all keys of a ledger
pub room_for : (key : ℕ) (keys : List ℕ) → length keys ≤ 17 → length (others_of key keys) < 2048
room_for key keys few = omega (arith, few, fewer_others key keys)

-- one key more was changed
pub changed_more : (i key : ℕ) (keys now : List ℕ) → length keys ≤ i → now ≡ with_key key keys → length now ≤ i + 1
changed_more i key keys now few is = omega (arith, few, one_key_more key keys, ap length is)

-- The entries of the code as plain data.
use Rattle.std.specs.Prelude.{Bool, List, false, map, true, ℕ}
use Rattle.mar_cert.specs.Block.{Block}
use Rattle.mar_cert.specs.Finalization.{Finalization, Notarization}
use Rattle.mar_key.specs.Views.{key_of}
use Rattle.mar_judge.specs.Entered.{Entry}
use Rattle.mar_judge.specs.Found.{Place, final_at, finished, notarized_at}
use Rattle.mar_judge.specs.Views.{place_of}
use Rattle.mar_judge.specs.declared.place.Entry.{Entry as EntryCode}

-- an entry, by what commitments, blocks and certificates are as plain data
abbrev pub entry_of : {D B F N : Type 0} → (D → List ℕ) → (B → Block) → (F → Finalization) → (N → Notarization) → EntryCode D B F N → Entry
entry_of bytes plain finalization notarization e = record { ticket = e.ticket; key = key_of bytes e.key; place = place_of plain finalization notarization e.place }

abbrev pub entries_of : {D B F N : Type 0} → (D → List ℕ) → (B → Block) → (F → Finalization) → (N → Notarization) → List (EntryCode D B F N) → List Entry
entries_of bytes plain finalization notarization entries = map (entry_of bytes plain finalization notarization) entries

-- it waits for a verdict
abbrev pub is_waiting : Place → Bool
is_waiting (finished outcome answer) = false
is_waiting (final_at g p b) = true
is_waiting (notarized_at g p rest) = true

-- What the calls of a disk in memory make of its bytes, and what a crash behind them may leave.
use Rattle.std.specs.Prelude.{List, [], drop, if◌then◌else◌, length, replicate, take, ℕ, ◌%◌, ◌++◌, ◌+◌, ◌-◌, ◌/◌, ◌==◌, ◌^◌, ◌∷◌, ◌≡◌, ◌≤◌, Bool}
use Rattle.mar_journal.specs.Disk.{Elapses, Torn}
use Rattle.mar_cases.specs.declared.disk_call.DiskCall.{DiskCall}
use Rattle.mar_cases.specs.declared.disk_call.DiskCall.TheVariants.{Crash, Sync, Write}

-- the bytes after a write; where it begins past the end, zeros stand between
abbrev pub overwritten : List ℕ → ℕ → List ℕ → List ℕ
overwritten old at bytes = take at old ++ replicate (at - length old) 0 ++ bytes ++ drop (at + length bytes) old

-- the bytes, with zeros up to a length
abbrev pub padded : List ℕ → ℕ → List ℕ
padded old size = old ++ replicate (size - length old) 0

-- what a read gives after some calls
abbrev pub seen_after : List ℕ → List DiskCall → List ℕ
seen_after bytes [] = bytes
seen_after bytes (Write at written ∷ calls) = seen_after (overwritten bytes at written.items) calls
seen_after bytes (Sync ∷ calls) = seen_after bytes calls
seen_after bytes (Crash left ∷ calls) = seen_after left.items calls

-- an image before a write, torn by it
abbrev pub After : (List ℕ → Type 0) → ℕ → ℕ → List ℕ → Type 0
After images at size c = (d : List ℕ) × images d × Torn at size d c

-- what a crash may leave after some calls
abbrev pub Leaves : (List ℕ → Type 0) → List ℕ → List DiskCall → List ℕ → Type 0
Leaves images bytes [] c = images c
Leaves images bytes (Write at written ∷ calls) c = Leaves (After images at (length written.items)) (overwritten bytes at written.items) calls c
Leaves images bytes (Sync ∷ calls) c = Leaves (λ d. d ≡ bytes) bytes calls c
Leaves images bytes (Crash left ∷ calls) c = Leaves (λ d. d ≡ left.items) left.items calls c

-- of bytes that were there from the first on
abbrev pub LeavesOf : List ℕ → List DiskCall → List ℕ → Type 0
LeavesOf bytes calls c = Leaves (λ d. d ≡ bytes) bytes calls c

-- what a crash may have left behind so many calls or more
abbrev pub LeftSince : List ℕ → List DiskCall → ℕ → List ℕ → Type 0
LeftSince bytes calls t c = (k : ℕ) × (t ≤ k) × (k ≤ length calls) × LeavesOf bytes (take k calls) c

-- time goes on from some calls to more
abbrev pub GoesOn : List ℕ → List DiskCall → List DiskCall → Type 0
GoesOn bytes old new = Elapses (length old) (length new) (LeftSince bytes old) (LeftSince bytes new) (LeavesOf bytes new)

-- whether a luck keeps the write of a number: its bit, counted modulo 64, is set
abbrev pub keeps_write : ℕ → ℕ → Bool
keeps_write luck k = luck / 2 ^ (k % 64) % 2 == 1

-- What a crash leaves by luck: of the writes since the last sync, numbered from k on, those that luck keeps; for the
-- others zeros stand behind the old end.
abbrev pub crashed : ℕ → ℕ → List ℕ → List ℕ → List DiskCall → List ℕ
crashed luck k bytes left [] = left
crashed luck k bytes left (Write at written ∷ calls) =
    crashed luck (k + 1) (overwritten bytes at written.items) (if keeps_write luck k then overwritten left at written.items else padded left (length (overwritten bytes at written.items))) calls
crashed luck k bytes left (Sync ∷ calls) = crashed luck 0 bytes bytes calls
crashed luck k bytes left (Crash other ∷ calls) = crashed luck 0 other.items other.items calls

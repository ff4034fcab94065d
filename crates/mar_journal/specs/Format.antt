-- The versions of journal files, and which bytes stand for which records, and where a file is damaged, in version 1, which is
-- read and written.
use Rattle.std.specs.Prelude.{List, [], length, take, ℕ, ◌++◌, ◌^◌, ◌∷◌, ◌≤◌}
use Rattle.std.specs.Int.{to_be_bytes, w32, w64}
use Rattle.mar_journal.specs.Framing as framing
use Rattle.mar_journal.specs.Framing.{Version}

-- the first four bytes of a file
abbrev pub magic : List ℕ
magic = 77 ∷ 74 ∷ 49 ∷ 10 ∷ []

-- a number as four bytes, the high ones first
unfoldable pub four : ℕ → List ℕ
four n = to_be_bytes w32 n

-- the first gate stands right behind the magic; a length takes four bytes, a batch has 1 to 2,048 records
abbrev pub first_version : Version
first_version = record { magic = magic; head = magic; first_gate = 4; sized = four; limit = 2 ^ 32; most = 2048; value = 1_048_576 }

-- the same as eight bytes
unfoldable pub eight : ℕ → List ℕ
eight n = to_be_bytes w64 n

-- the version after it, which nothing reads or writes yet: a switch that is on stands between the magic and the first gate; a
-- length takes eight bytes, a batch has 1 to 65,536 records
abbrev pub second_version : Version
second_version = record { magic = 77 ∷ 74 ∷ 50 ∷ 10 ∷ []; head = 77 ∷ 74 ∷ 50 ∷ 10 ∷ 1 ∷ []; first_gate = 5; sized = eight; limit = 2 ^ 64; most = 65_536; value = 16_777_216 }

abbrev pub body : {R : Type 0} → (R → List ℕ) → List R → List ℕ
body spelled records = framing.body spelled records

abbrev pub IsBatch : {R : Type 0} → (R → List ℕ) → (R → Type 0) → List R → Type 0
IsBatch spelled Valid records = framing.IsBatch first_version spelled Valid records

abbrev pub behind_gate : {R : Type 0} → (R → List ℕ) → List R → List ℕ
behind_gate spelled records = framing.behind_gate first_version spelled records

abbrev pub frames : {R : Type 0} → (R → List ℕ) → List (List R) → List ℕ
frames spelled batches = framing.frames first_version spelled batches

abbrev pub joined : {R : Type 0} → List (List R) → List R
joined batches = framing.joined batches

abbrev pub IsJournal : {R : Type 0} → (R → List ℕ) → (R → Type 0) → List R → ℕ → List ℕ → Type 0
IsJournal spelled Valid records end file = framing.IsJournal first_version spelled Valid records end file

abbrev pub IsNew : List ℕ → Type 0
IsNew file = framing.IsNew file

abbrev pub Stands : {R : Type 0} → (R → List ℕ) → (R → Type 0) → List R → List ℕ → Type 0
Stands spelled Valid records file = framing.Stands first_version spelled Valid records file

abbrev pub IsNoBatch : {R : Type 0} → (R → List ℕ) → (R → Type 0) → List ℕ → Type 0
IsNoBatch spelled Valid bytes = framing.IsNoBatch first_version spelled Valid bytes

abbrev pub IsTornAt : {R : Type 0} → (R → List ℕ) → (R → Type 0) → ℕ → List ℕ → Type 0
IsTornAt spelled Valid at file = framing.IsTornAt first_version spelled Valid at file

abbrev pub IsDamaged : {R : Type 0} → (R → List ℕ) → (R → Type 0) → ℕ → List ℕ → Type 0
IsDamaged spelled Valid at file = framing.IsDamaged first_version spelled Valid at file

-- the file stands for these records and a front of more
abbrev pub StandsUpto : {R : Type 0} → (R → List ℕ) → (R → Type 0) → List R → List R → List ℕ → Type 0
StandsUpto spelled Valid records more file = (n : ℕ) × (n ≤ length more) × Stands spelled Valid (records ++ take n more) file

-- Journal files of any version: a head, batches behind open gates, and a closed gate.
use Rattle.std.specs.Prelude.{List, [], length, take, ℕ, ◌++◌, ◌+◌, ◌<◌, ◌∷◌, ◌≡◌, ◌≢◌, ◌≤◌, ◌⊎◌}
use Rattle.std.specs.List.{AllByRecursion, flat_map}

-- how a version frames its batches
pub record Version : Type 0 where
  -- the first four bytes of a file
  pub magic : List ℕ
  -- all that stands before the first gate, the magic first
  pub head : List ℕ
  -- the place of the first gate
  pub first_gate : ℕ
  -- the bytes that say how long a batch is, and the number below which that is
  pub sized : ℕ → List ℕ
  pub limit : ℕ
  -- the most records of a batch
  pub most : ℕ
  -- the most bytes of a value
  pub value : ℕ

-- A version begins with a magic of four bytes and tells lengths apart: each is spelled in so many bytes, and no two below the
-- limit have one spelling.
pub record IsVersion (version : Version) : Type 0 where
  pub begins : take 4 version.head ≡ version.magic
  pub placed : length version.head ≡ version.first_gate
  pub room : 4 ≤ version.first_gate
  pub width : ℕ
  pub wide : (n : ℕ) → length (version.sized n) ≡ width
  pub apart : (m n : ℕ) → m < version.limit → n < version.limit → version.sized m ≡ version.sized n → m ≡ n

-- the bytes of some records, by the bytes of each
abbrev pub body : {R : Type 0} → (R → List ℕ) → List R → List ℕ
body spelled records = flat_map spelled records

-- the records of one batch
pub record IsBatch {R : Type 0} (version : Version) (spelled : R → List ℕ) (Valid : R → Type 0) (records : List R) : Type 0 where
  pub some : 0 < length records
  pub few : length records ≤ version.most
  pub valid : AllByRecursion Valid records
  pub short : length (body spelled records) < version.limit

-- what stands behind an open gate: the length, and the records
abbrev pub behind_gate : {R : Type 0} → Version → (R → List ℕ) → List R → List ℕ
behind_gate version spelled records = version.sized (length (body spelled records)) ++ body spelled records

abbrev pub frames : {R : Type 0} → Version → (R → List ℕ) → List (List R) → List ℕ
frames version spelled batches = flat_map (λ b. 1 ∷ behind_gate version spelled b) batches

abbrev pub joined : {R : Type 0} → List (List R) → List R
joined batches = flat_map (λ b. b) batches

-- The head, batches behind open gates, and a closed gate at this place; what is behind that is no part of it.
pub record IsJournal {R : Type 0} (version : Version) (spelled : R → List ℕ) (Valid : R → Type 0) (records : List R) (end : ℕ) (file : List ℕ) : Type 0 where
  pub batches : List (List R)
  pub gate : ℕ
  pub rest : List ℕ
  pub shut : gate ≢ 1
  pub good : AllByRecursion (IsBatch version spelled Valid) batches
  pub records_are : joined batches ≡ records
  pub ends : end ≡ version.first_gate + length (frames version spelled batches)
  pub file_is : file ≡ version.head ++ (frames version spelled batches ++ gate ∷ rest)

-- A file of at most five bytes is new.
abbrev pub IsNew : List ℕ → Type 0
IsNew file = length file ≤ 5

-- the file stands for these records
abbrev pub Stands : {R : Type 0} → Version → (R → List ℕ) → (R → Type 0) → List R → List ℕ → Type 0
Stands version spelled Valid records file = (IsNew file × (records ≡ [])) ⊎ ((end : ℕ) × IsJournal version spelled Valid records end file)

-- what stands behind an open gate is no batch with a gate behind it
abbrev pub IsNoBatch : {R : Type 0} → Version → (R → List ℕ) → (R → Type 0) → List ℕ → Type 0
IsNoBatch version spelled Valid bytes = (records : _) (next : ℕ) (rest : List ℕ) → IsBatch version spelled Valid records → bytes ≡ behind_gate version spelled records ++ next ∷ rest → ⊥

-- An open gate behind whole batches has no batch behind it.
pub record IsTornAt {R : Type 0} (version : Version) (spelled : R → List ℕ) (Valid : R → Type 0) (at : ℕ) (file : List ℕ) : Type 0 where
  pub batches : List (List R)
  pub rest : List ℕ
  pub good : AllByRecursion (IsBatch version spelled Valid) batches
  pub ends : at ≡ version.first_gate + length (frames version spelled batches)
  pub file_is : file ≡ version.head ++ (frames version spelled batches ++ 1 ∷ rest)
  pub torn : IsNoBatch version spelled Valid rest

-- The file is damaged at this place: it isn't new, and has another magic, or an open gate without a batch.
abbrev pub IsDamaged : {R : Type 0} → Version → (R → List ℕ) → (R → Type 0) → ℕ → List ℕ → Type 0
IsDamaged version spelled Valid at file = (5 < length file) × (((at ≡ 0) × (take 4 file ≢ version.magic)) ⊎ IsTornAt version spelled Valid at file)

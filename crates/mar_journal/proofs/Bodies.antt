-- Why bytes are no batch, and what a file's front makes of the rest.
use Rattle.std.proofs.Common.{List, [], ap, append_assoc, arith, drop, false, get_or, length, length-append, length-drop, length-take, min, sym, take, take-append-drop, true, ℕ, ◌==◌, ◌++◌, ◌+◌, ◌-◌, ◌<◌, ◌∙◌, ◌∷◌, ◌≡◌, ◌≢◌, ◌≤◌, ◌^◌}
use Rattle.std.proofs.lemmas.Bool.Decides.{nat_tests}
use Rattle.std.proofs.lemmas.List.{append-nil, drop_at, drop_more, take_at, take_min}
use Rattle.std.specs.List.{AllByRecursion}
use Rattle.mar_store.proofs.Lookups.{AllByRecursion-push}
use Rattle.mar_journal.specs.Format.{IsBatch, IsJournal, IsNoBatch, IsTornAt, behind_gate, body, four, frames, joined, magic}
use Rattle.mar_journal.specs.Records.{BatchStandsFirst, StandsFirst}
use Rattle.mar_journal.proofs.WritingAll.{fronts}
use Rattle.mar_journal.proofs.Frames.{four_one, frames-push, length-four, length-frames-push}
use Rattle.mar_journal.proofs.Framings.{Follow, body_follows, body_some, joined-push}

module _ {R : Type 0} (spelled : R → List ℕ) (Valid : R → Type 0)
    (one : (r s : R) (a b : List ℕ) → Valid r → Valid s → spelled r ++ a ≡ spelled s ++ b → r ≡ s) (some : (r : R) → 0 < length (spelled r)) where
  -- 2,048 records and more bytes
  pub too_many : (records : List R) (rest bytes : List ℕ) → AllByRecursion Valid records → body spelled records ++ rest ≡ bytes → length records ≡ 2048 → 0 < length rest
      → (others : List R) → IsBatch spelled Valid others → bytes ≡ body spelled others → ⊥
  too_many records rest bytes valid read full more others is e = by_others f.others f.are f.bytes_are
    where
      f : Follow spelled Valid one some records others rest
      f = body_follows spelled Valid one some records others rest valid is.valid (read ∙ e)

      by_others : (left : List R) → others ≡ records ++ left → rest ≡ body spelled left → ⊥
      by_others [] are bytes_are = omega (arith, more, ap length bytes_are)
      by_others (r ∷ left) are bytes_are = omega (arith, full, is.few, ap length are, length-append records (r ∷ left))

  -- some records and bytes that begin with none
  pub none_first : (records : List R) (rest bytes : List ℕ) → AllByRecursion Valid records → body spelled records ++ rest ≡ bytes → 0 < length rest
      → ((r : R) (behind : List ℕ) → Valid r → rest ≡ spelled r ++ behind → ⊥) → (others : List R) → IsBatch spelled Valid others → bytes ≡ body spelled others → ⊥
  none_first records rest bytes valid read more none others is e = by_others f.others f.valid f.bytes_are
    where
      f : Follow spelled Valid one some records others rest
      f = body_follows spelled Valid one some records others rest valid is.valid (read ∙ e)

      by_others : (left : List R) → AllByRecursion Valid left → rest ≡ body spelled left → ⊥
      by_others [] good bytes_are = omega (arith, more, ap length bytes_are)
      by_others (r ∷ left) good bytes_are = none r (body spelled left) good.0 bytes_are

  -- no records and no bytes
  pub nothing : (records : List R) (rest bytes : List ℕ) → body spelled records ++ rest ≡ bytes → length records ≡ 0 → length rest ≡ 0 → (others : List R) → IsBatch spelled Valid others → bytes ≡ body spelled others → ⊥
  nothing [] rest bytes read none empty others is e = omega (arith, empty, ap length read, ap length e, body_some spelled Valid one some others is.some)
  nothing (r ∷ records) rest bytes read none empty others is e = omega (arith, none)

  -- one record more
  pub one_more : (records : List R) (rest bytes : List ℕ) (r : R) (size : ℕ) → body spelled records ++ rest ≡ bytes → StandsFirst spelled Valid r size rest
      → body spelled (records ++ r ∷ []) ++ drop size rest ≡ bytes
  one_more records rest bytes r size read first =
      ap (λ l. l ++ drop size rest) (body_push records r) ∙ append_assoc (body spelled records) (spelled r) (drop size rest) ∙ ap (λ l. body spelled records ++ l) (sym first.bytes_are) ∙ read
    where
      body_push : (rs : List R) (s : R) → body spelled (rs ++ s ∷ []) ≡ body spelled rs ++ spelled s
      body_push [] s = append-nil (spelled s)
      body_push (q ∷ rs) s = ap (λ l. spelled q ++ l) (body_push rs s) ∙ sym (append_assoc (spelled q) (body spelled rs) (spelled s))

  pub all_valid : (records : List R) (r : R) → AllByRecursion Valid records → Valid r → AllByRecursion Valid (records ++ r ∷ [])
  all_valid records r all is = AllByRecursion-push Valid records r all is

-- what the length says of a batch
pub record Parts {R : Type 0} (spelled : R → List ℕ) (records : List R) (n : ℕ) (bytes behind : List ℕ) : Type 0 where
  pub size : n ≡ length (body spelled records)
  pub body_is : drop 4 bytes ≡ body spelled records ++ behind

pub parts_of : {R : Type 0} (spelled : R → List ℕ) (Valid : R → Type 0) (bytes : List ℕ) (n : ℕ) (records : List R) (behind : List ℕ) → n < 2 ^ 32 → take 4 bytes ≡ four n → IsBatch spelled Valid records
    → bytes ≡ behind_gate spelled records ++ behind → Parts spelled records n bytes behind
parts_of spelled Valid bytes n records behind small four_is is e =
    let m = length (body spelled records) in
    let whole : bytes ≡ four m ++ (body spelled records ++ behind) = e ∙ append_assoc (four m) (body spelled records) behind in
    let first : take 4 bytes ≡ four m = ap (λ (l : List ℕ). take 4 l) whole ∙ take_at (four m) (body spelled records ++ behind) 4 (length-four m) in
    record {
      size = four_one n m small is.short (sym four_is ∙ first);
      body_is = ap (λ (l : List ℕ). drop 4 l) whole ∙ drop_at (four m) (body spelled records ++ behind) 4 (length-four m);
    }

length-behind : {R : Type 0} (spelled : R → List ℕ) (records : List R) (next : ℕ) (rest : List ℕ) → length (behind_gate spelled records ++ next ∷ rest) ≡ 4 + length (body spelled records) + 1 + length rest
length-behind spelled records next rest =
    omega (arith, length-append (behind_gate spelled records) (next ∷ rest), length-append (four (length (body spelled records))) (body spelled records), length-four (length (body spelled records)))

-- fewer than four bytes
pub too_short : {R : Type 0} (spelled : R → List ℕ) (Valid : R → Type 0) (bytes : List ℕ) → length bytes < 4 → IsNoBatch spelled Valid bytes
too_short spelled Valid bytes short records next rest is e = omega (arith, short, ap length e, length-behind spelled records next rest)

-- fewer than the length says, and a gate
pub cut_off : {R : Type 0} (spelled : R → List ℕ) (Valid : R → Type 0) (bytes : List ℕ) (n : ℕ) → n < 2 ^ 32 → take 4 bytes ≡ four n → length bytes ≤ 4 + n → IsNoBatch spelled Valid bytes
cut_off spelled Valid bytes n small four_is short records next rest is e =
    let p = parts_of spelled Valid bytes n records (next ∷ rest) small four_is is e in
    omega (arith, short, p.size, ap length e, length-behind spelled records next rest)

-- a body that is none
pub no_body : {R : Type 0} (spelled : R → List ℕ) (Valid : R → Type 0) (bytes : List ℕ) (n : ℕ) → n < 2 ^ 32 → take 4 bytes ≡ four n
    → ((records : List R) → IsBatch spelled Valid records → take n (drop 4 bytes) ≡ body spelled records → ⊥) → IsNoBatch spelled Valid bytes
no_body spelled Valid bytes n small four_is none records next rest is e =
    let p = parts_of spelled Valid bytes n records (next ∷ rest) small four_is is e in
    none records is (ap (λ (l : List ℕ). take n l) p.body_is ∙ take_at (body spelled records) (next ∷ rest) n (sym p.size))

-- one piece more of some bytes
pub record OnePiece (bytes piece seen : List ℕ) : Type 0 where
  pub some : 0 < length piece
  pub within : length (bytes ++ piece) ≤ length seen
  pub read : bytes ++ piece ≡ take (length (bytes ++ piece)) seen

pub one_piece : (seen bytes piece : List ℕ) (size : ℕ) → bytes ≡ take (length bytes) seen → length bytes < length seen → 0 < size → piece ≡ take size (drop (length bytes) seen) → OnePiece bytes piece seen
one_piece seen bytes piece size so_far more big is =
    let m = length bytes in
    let piece_size : length piece ≡ min size (length seen - m) = omega (arith, ap length is, length-take size (drop m seen), length-drop m seen) in
    let whole : bytes ++ piece ≡ take (m + size) seen = ap (λ (l : List ℕ). l ++ piece) so_far ∙ ap (λ (l : List ℕ). take m seen ++ l) is ∙ fronts m size seen in
    let long : length (bytes ++ piece) ≡ min (m + size) (length seen) = omega (arith, piece_size, more, length-append bytes piece) in
    record {
      some = omega (arith, piece_size, more, big);
      within = omega (arith, long);
      read = whole ∙ sym (ap (λ (n : ℕ). take n seen) long ∙ take_min (m + size) seen);
    }

-- a batch that stands first
pub batch_first : {R : Type 0} (spelled : R → List ℕ) (Valid : R → Type 0) (bytes : List ℕ) (n : ℕ) (records : List R) → take 4 bytes ≡ four n → 4 + n < length bytes → IsBatch spelled Valid records
    → take n (drop 4 bytes) ≡ body spelled records → BatchStandsFirst spelled Valid records (4 + n) bytes
batch_first spelled Valid bytes n records four_is long is e =
    let size : length (body spelled records) ≡ n = omega (arith, ap length e, length-take n (drop 4 bytes), length-drop 4 bytes) in
    let behind : behind_gate spelled records ≡ take (4 + n) bytes = ap (λ m. four m ++ body spelled records) size ∙ ap (λ l. l ++ body spelled records) (sym four_is) ∙ ap (λ l. take 4 bytes ++ l) (sym e) ∙ fronts 4 n bytes in
    record {
      good = is;
      size_is = omega (arith, ap length behind, length-take (4 + n) bytes);
      followed = long;
      bytes_are = sym (take-append-drop (4 + n) bytes) ∙ ap (λ l. l ++ drop (4 + n) bytes) (sym behind);
    }

-- a file by its front, the byte behind it, and the rest
pub file_at : (file front : List ℕ) (gate : ℕ) → take gate file ≡ front → gate < length file → file ≡ front ++ get_or file gate 0 ∷ drop (gate + 1) file
file_at file front gate is within =
    sym (take-append-drop gate file) ∙ ap (λ (l : List ℕ). l ++ drop gate file) is ∙ ap (λ (l : List ℕ). front ++ l) (drop_more file gate 0 within)

-- what a test of a length says
pub some_from : (n : ℕ) → false ≡ (n == 0) → 0 < n
some_from n e = grind (arith, nat_tests)

pub none_from : (n : ℕ) → true ≡ (n == 0) → n ≡ 0
none_from n e = grind (arith, nat_tests)

-- one batch more in front of the gate
pub record Front {R : Type 0} (spelled : R → List ℕ) (Valid : R → Type 0) (batches : List (List R)) (records : List R) (gate : ℕ) (file : List ℕ) : Type 0 where
  pub good : AllByRecursion (IsBatch spelled Valid) batches
  pub records_are : joined batches ≡ records
  pub ends : gate ≡ 4 + length (frames spelled batches)
  pub within : gate < length file
  pub read : take gate file ≡ magic ++ frames spelled batches

module _ {R : Type 0} (spelled : R → List ℕ) (Valid : R → Type 0) (batches : List (List R)) (records : List R) (gate : ℕ) (file : List ℕ) (f : Front spelled Valid batches records gate file) where
  split_here : file ≡ magic ++ (frames spelled batches ++ get_or file gate 0 ∷ drop (gate + 1) file)
  split_here = file_at file (magic ++ frames spelled batches) gate f.read f.within ∙ append_assoc magic (frames spelled batches) (get_or file gate 0 ∷ drop (gate + 1) file)

  pub closed_here : get_or file gate 0 ≢ 1 → IsJournal spelled Valid records gate file
  closed_here shut = record {
    batches = batches;
    gate = get_or file gate 0;
    rest = drop (gate + 1) file;
    shut = shut;
    good = f.good;
    records_are = f.records_are;
    ends = f.ends;
    file_is = split_here;
  }

  pub torn_here : get_or file gate 0 ≡ 1 → IsNoBatch spelled Valid (drop (gate + 1) file) → IsTornAt spelled Valid gate file
  torn_here is none = record {
    batches = batches;
    rest = drop (gate + 1) file;
    good = f.good;
    ends = f.ends;
    file_is = split_here ∙ ap (λ (b : ℕ). magic ++ (frames spelled batches ++ b ∷ drop (gate + 1) file)) is;
    torn = none;
  }

  pub one_further : (batch : List R) (size : ℕ) (more : List R) → get_or file gate 0 ≡ 1 → BatchStandsFirst spelled Valid batch size (drop (gate + 1) file) → more ≡ records ++ batch
      → Front spelled Valid (batches ++ batch ∷ []) more (gate + (1 + size)) file
  one_further batch size more is first are = record {
    good = AllByRecursion-push (IsBatch spelled Valid) batches batch f.good first.good;
    records_are = joined-push batches batch ∙ ap (λ l. l ++ batch) f.records_are ∙ sym are;
    ends = omega (arith, f.ends, first.size_is, length-frames-push spelled batches batch);
    within = omega (arith, first.followed, length-drop (gate + 1) file);
    read = ap (λ (l : List ℕ). take (gate + (1 + size)) l) whole ∙ take_at (magic ++ frames spelled (batches ++ batch ∷ [])) (drop size (drop (gate + 1) file)) (gate + (1 + size)) (omega (arith, f.ends, first.size_is, length-frames-push spelled batches batch));
  }
    where
      whole : file ≡ (magic ++ frames spelled (batches ++ batch ∷ [])) ++ drop size (drop (gate + 1) file)
      whole =
          split_here
          ∙ ap (λ (b : ℕ). magic ++ (frames spelled batches ++ b ∷ drop (gate + 1) file)) is
          ∙ ap (λ (l : List ℕ). magic ++ (frames spelled batches ++ 1 ∷ l)) first.bytes_are
          ∙ ap (λ (l : List ℕ). magic ++ l) (sym (frames-push spelled batches batch (drop size (drop (gate + 1) file))))
          ∙ sym (append_assoc magic (frames spelled (batches ++ batch ∷ [])) (drop size (drop (gate + 1) file)))

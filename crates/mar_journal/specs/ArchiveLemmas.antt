-- No record of an archive begins another.
use Rattle.std.specs.Prelude.{Bool, List, length, true, ℕ, ◌++◌, ◌<◌, ◌≡◌}
use Rattle.std.proofs.Common.{ap, append_assoc, arith, sym, ◌∙◌}
use Rattle.std.proofs.lemmas.List.{append_cancel_left}
use Rattle.mar_types.specs.DigestLemmas.{same_front}
use Rattle.mar_types.specs.Varint.{varint}
use Rattle.mar_types.specs.VarintLemmas.{varint_front}
use Rattle.mar_journal.specs.ArchiveRecords.{IsArchived, archive_bytes, put_bytes}
use Rattle.mar_journal.specs.MetaLemmas.{tail_of}
use Rattle.mar_journal.specs.declared.archive_record.ArchiveRecord.{ArchiveRecord}
use Rattle.mar_journal.specs.declared.archive_record.ArchiveRecord.TheVariants.{Prune, Put}

pub after_number : (m n : ℕ) (a b : List ℕ) → varint m ++ a ≡ varint n ++ b → (m ≡ n) × (a ≡ b)
after_number m n a b e =
    let same : m ≡ n = varint_front m n a b e in
    (same, append_cancel_left (varint m) a b (e ∙ ap (λ k. varint k ++ b) (sym same)))

pub after_front : (x y a b : List ℕ) → length x ≡ length y → x ++ a ≡ y ++ b → (x ≡ y) × (a ≡ b)
after_front x y a b long e =
    let same : x ≡ y = same_front x y a b long e in
    (same, append_cancel_left x a b (e ∙ ap (λ z. z ++ b) (sym same)))

module _ {T : Type 0} (name spelled : T → List ℕ) (fits : ℕ → T → Bool) (size : ℕ) (keyed : (index : ℕ) (v : T) → fits index v ≡ true → length (name v) ≡ size)
    (one : (index : ℕ) (v w : T) → fits index v ≡ true → fits index w ≡ true → spelled v ≡ spelled w → v ≡ w) where
  pub put_split : (index : ℕ) (value : T) (rest : List ℕ) → put_bytes name spelled index value ++ rest ≡ varint index ++ (name value ++ (varint (length (spelled value)) ++ (spelled value ++ rest)))
  put_split index value rest =
      append_assoc (varint index) (name value ++ (varint (length (spelled value)) ++ spelled value)) rest
      ∙ ap (λ l. varint index ++ l) (append_assoc (name value) (varint (length (spelled value)) ++ spelled value) rest ∙ ap (λ l. name value ++ l) (append_assoc (varint (length (spelled value))) (spelled value) rest))

  put_one : (h k : ℕ) (v w : T) (a b : List ℕ) → fits h v ≡ true → fits k w ≡ true → put_bytes name spelled h v ++ a ≡ put_bytes name spelled k w ++ b → Put h v ≡ Put k w
  put_one h k v w a b fit fit_too e =
      let indexes = after_number h k _ _ (sym (put_split h v a) ∙ e ∙ put_split k w b) in
      let names = after_front (name v) (name w) _ _ (keyed h v fit ∙ sym (keyed k w fit_too)) indexes.1 in
      let sizes = after_number (length (spelled v)) (length (spelled w)) _ _ names.1 in
      let values = after_front (spelled v) (spelled w) a b sizes.0 sizes.1 in
      let fit_here : fits h w ≡ true = ap (λ n. fits n w) indexes.0 ∙ fit_too in
      ap (λ n. Put n v) indexes.0 ∙ ap (λ x. Put k x) (one h v w fit fit_here values.0)

  pub archive_one : (r s : ArchiveRecord T) (a b : List ℕ) → IsArchived fits spelled r → IsArchived fits spelled s → archive_bytes name spelled r ++ a ≡ archive_bytes name spelled s ++ b → r ≡ s
  archive_one (Put h v) (Put k w) a b is other e = put_one h k v w a b is.1 other.1 (tail_of 0 0 _ _ e)
  archive_one (Put h v) (Prune n) a b is other e = cc
  archive_one (Prune m) (Put k w) a b is other e = cc
  archive_one (Prune m) (Prune n) a b is other e = ap Prune (varint_front m n a b (tail_of 1 1 _ _ e))

pub archive_some : {T : Type 0} (name spelled : T → List ℕ) (r : ArchiveRecord T) → 0 < length (archive_bytes name spelled r)
archive_some name spelled (Put h v) = omega arith
archive_some name spelled (Prune m) = omega arith

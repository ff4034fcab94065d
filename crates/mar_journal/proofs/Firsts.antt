-- What a record's first byte tells of the bytes that it is read from.
use Rattle.std.proofs.Common.{Bool, List, [], ap, arith, drop, get_or, length, refl, suc, sym, take, ℕ, ◌++◌, ◌+◌, ◌-◌, ◌∙◌, ◌∷◌, ◌≡◌, ◌≤◌}
use Rattle.std.proofs.lemmas.List.{take_all}
use Rattle.mar_types.specs.Codec.{HasNoFront, Joined}
use Rattle.mar_types.specs.Varint.{IsVarint, varint}
use Rattle.mar_journal.specs.ArchiveRecords.{IsArchived, archive_bytes, put_bytes}
use Rattle.mar_journal.specs.Heads.{HasNoPut, PutStandsFirst}
use Rattle.mar_journal.specs.MetaLemmas.{tail_of}
use Rattle.mar_journal.specs.MetaRecords.{IsMeta, meta_bytes}
use Rattle.mar_journal.specs.Numbers.{NumberStandsFirst, TwoStandFirst}
use Rattle.mar_journal.specs.Records.{StandsFirst}
use Rattle.mar_journal.specs.declared.archive_record.ArchiveRecord.{ArchiveRecord}
use Rattle.mar_journal.specs.declared.archive_record.ArchiveRecord.TheVariants.{Prune, Put}
use Rattle.mar_journal.specs.declared.meta_record.MetaRecord.{MetaRecord}
use Rattle.mar_journal.specs.declared.meta_record.MetaRecord.TheVariants.{Remove, Set}

-- what is behind the first byte
abbrev pub behind : List ℕ → List ℕ
behind bytes = take (length bytes - 1) (drop 1 bytes)

-- the first byte and what is behind it are all
whole : (bytes : List ℕ) → 1 ≤ length bytes → bytes ≡ get_or bytes 0 0 ∷ behind bytes
whole [] some = absurd (omega (arith, some))
whole (b ∷ bytes) some = ap (λ l. b ∷ l) (sym (take_all (length (b ∷ bytes) - 1) bytes (omega arith)))

-- a record whose bytes begin with this one
first_behind : {R : Type 0} (spelled : R → List ℕ) (Valid : R → Type 0) (r : R) (tag : ℕ) (tail bytes : List ℕ) (size : ℕ) → 1 ≤ length bytes → get_or bytes 0 0 ≡ tag → spelled r ≡ tag ∷ tail → Valid r → length tail ≡ size
    → behind bytes ≡ tail ++ drop size (behind bytes) → StandsFirst spelled Valid r (1 + size) bytes
first_behind spelled Valid r tag tail bytes size some is spells valid long are =
    let same : 1 + size ≡ suc size = omega arith in
    let all : bytes ≡ tag ∷ behind bytes = whole bytes some ∙ ap (λ b. b ∷ behind bytes) is in
    let left : drop (1 + size) bytes ≡ drop size (behind bytes) = ap (λ n. drop n bytes) same ∙ ap (λ l. drop (suc size) l) all in
    record {
      valid = valid;
      size_is = omega (arith, ap length spells, long);
      bytes_are = all ∙ ap (λ l. tag ∷ l) (are ∙ ap (λ l. tail ++ l) (sym left)) ∙ ap (λ l. l ++ drop (1 + size) bytes) (sym spells);
    }

-- of bytes that begin with this one the rest is what is behind it
rest_behind : (tag other : ℕ) (bytes more : List ℕ) → 1 ≤ length bytes → get_or bytes 0 0 ≡ tag → bytes ≡ other ∷ more → (tag ≡ other) × (behind bytes ≡ more)
rest_behind tag other bytes more some is e = (sym is ∙ ap (λ l. get_or l 0 0) e, tail_of (get_or bytes 0 0) other (behind bytes) more (sym (whole bytes some) ∙ e))

module _ {T : Type 0} (name spelled : T → List ℕ) (fits : ℕ → T → Bool) (bytes : List ℕ) where
  pub put_behind : (index : ℕ) (value : T) (size : ℕ) → 1 ≤ length bytes → get_or bytes 0 0 ≡ 0 → PutStandsFirst name spelled fits index value size (behind bytes)
      → StandsFirst (λ r. archive_bytes name spelled r) (λ r. IsArchived fits spelled r) (Put index value) (1 + size) bytes
  put_behind index value size some is p = first_behind (λ r. archive_bytes name spelled r) (λ r. IsArchived fits spelled r) (Put index value) 0 (put_bytes name spelled index value) bytes size some is refl p.valid p.size_is p.bytes_are

  pub prune_behind : (min size : ℕ) → 1 ≤ length bytes → get_or bytes 0 0 ≡ 1 → NumberStandsFirst min size (behind bytes) → StandsFirst (λ r. archive_bytes name spelled r) (λ r. IsArchived fits spelled r) (Prune min) (1 + size) bytes
  prune_behind min size some is n = first_behind (λ r. archive_bytes name spelled r) (λ r. IsArchived fits spelled r) (Prune min) 1 (varint min) bytes size some is refl n.fits n.size_is n.bytes_are

  pub no_put_behind : 1 ≤ length bytes → get_or bytes 0 0 ≡ 0 → HasNoPut name spelled fits (behind bytes) → (r : ArchiveRecord T) (rest : List ℕ) → IsArchived fits spelled r → bytes ≡ archive_bytes name spelled r ++ rest → ⊥
  no_put_behind some is none (Put index value) rest valid e = none index value rest valid (rest_behind 0 0 bytes (put_bytes name spelled index value ++ rest) some is e).1
  no_put_behind some is none (Prune min) rest valid e = omega (arith, (rest_behind 0 1 bytes (varint min ++ rest) some is e).0)

  pub no_prune_behind : 1 ≤ length bytes → get_or bytes 0 0 ≡ 1 → HasNoFront IsVarint (behind bytes) → (r : ArchiveRecord T) (rest : List ℕ) → IsArchived fits spelled r → bytes ≡ archive_bytes name spelled r ++ rest → ⊥
  no_prune_behind some is none (Put index value) rest valid e = omega (arith, (rest_behind 1 0 bytes (put_bytes name spelled index value ++ rest) some is e).0)
  no_prune_behind some is none (Prune min) rest valid e = none (varint min) rest (record { number = min; fits = valid; spelled = refl }) (rest_behind 1 1 bytes (varint min ++ rest) some is e).1

module _ (bytes : List ℕ) where
  pub set_behind : (key value size : ℕ) → 1 ≤ length bytes → get_or bytes 0 0 ≡ 2 → TwoStandFirst key value size (behind bytes) → StandsFirst (λ r. meta_bytes r) (λ r. IsMeta r) (Set key value) (1 + size) bytes
  set_behind key value size some is n = first_behind (λ r. meta_bytes r) (λ r. IsMeta r) (Set key value) 2 (varint key ++ varint value) bytes size some is refl (n.fits, n.fits_too) n.size_is n.bytes_are

  pub remove_behind : (key size : ℕ) → 1 ≤ length bytes → get_or bytes 0 0 ≡ 3 → NumberStandsFirst key size (behind bytes) → StandsFirst (λ r. meta_bytes r) (λ r. IsMeta r) (Remove key) (1 + size) bytes
  remove_behind key size some is n = first_behind (λ r. meta_bytes r) (λ r. IsMeta r) (Remove key) 3 (varint key) bytes size some is refl n.fits n.size_is n.bytes_are

  pub no_set_behind : 1 ≤ length bytes → get_or bytes 0 0 ≡ 2 → HasNoFront (Joined IsVarint IsVarint) (behind bytes) → (r : MetaRecord) (rest : List ℕ) → IsMeta r → bytes ≡ meta_bytes r ++ rest → ⊥
  no_set_behind some is none (Set key value) rest valid e = none (varint key ++ varint value) rest
      (record { first = varint key; second = varint value; first_is = record { number = key; fits = valid.0; spelled = refl }; second_is = record { number = value; fits = valid.1; spelled = refl }; spelled = refl })
      (rest_behind 2 2 bytes ((varint key ++ varint value) ++ rest) some is e).1
  no_set_behind some is none (Remove key) rest valid e = omega (arith, (rest_behind 2 3 bytes (varint key ++ rest) some is e).0)

  pub no_remove_behind : 1 ≤ length bytes → get_or bytes 0 0 ≡ 3 → HasNoFront IsVarint (behind bytes) → (r : MetaRecord) (rest : List ℕ) → IsMeta r → bytes ≡ meta_bytes r ++ rest → ⊥
  no_remove_behind some is none (Set key value) rest valid e = omega (arith, (rest_behind 3 2 bytes ((varint key ++ varint value) ++ rest) some is e).0)
  no_remove_behind some is none (Remove key) rest valid e = none (varint key) rest (record { number = key; fits = valid; spelled = refl }) (rest_behind 3 3 bytes (varint key ++ rest) some is e).1

-- Why no put stands first, and how one does.
use Rattle.std.proofs.Common.{Bool, List, ap, arith, bytes_eq, drop, false, length, length-append, length-drop, length-take, refl, subst, sym, take, take-append-drop, true, ℕ, ◌++◌, ◌+◌, ◌-◌, ◌<◌, ◌∙◌, ◌≡◌, ◌≤◌}
use Rattle.std.proofs.lemmas.List.{drop-drop, drop_at, take_at}
use Rattle.std.proofs.lemmas.Slice.Eq.{bytes_eq-Decides}
use Rattle.mar_types.specs.Codec.{HasNoFront}
use Rattle.mar_types.specs.Varint.{IsNumber, IsVarint, varint}
use Rattle.mar_journal.specs.ArchiveLemmas.{after_front, after_number, put_split}
use Rattle.mar_journal.specs.ArchiveRecords.{put_bytes}
use Rattle.mar_journal.specs.Heads.{HasNoHead, HasNoPut, HeadStandsFirst, PutStandsFirst}
use Rattle.mar_journal.specs.Numbers.{NumberStandsFirst}

pub no_index : (key_size : ℕ) (bytes : List ℕ) → HasNoFront IsVarint bytes → HasNoHead key_size bytes
no_index key_size bytes none index size key rest fits fits_too long e = none (varint index) (key ++ (varint size ++ rest)) (record { number = index; fits = fits; spelled = refl }) e

-- what is behind the index
after_index : (index key : ℕ) (bytes : List ℕ) (other : ℕ) (rest : List ℕ) → NumberStandsFirst index key bytes → bytes ≡ varint other ++ rest → drop key bytes ≡ rest
after_index index key bytes other rest f e = (after_number index other (drop key bytes) rest (sym f.bytes_are ∙ e)).1

pub no_key : (key_size index key : ℕ) (bytes : List ℕ) → NumberStandsFirst index key bytes → length bytes - key < key_size → HasNoHead key_size bytes
no_key key_size index key bytes f short other size k rest fits fits_too long e =
    let behind = after_index index key bytes other (k ++ (varint size ++ rest)) f e in
    omega (arith, ap length behind, length-drop key bytes, length-append k (varint size ++ rest), long, short)

pub no_size : (key_size index key : ℕ) (bytes : List ℕ) → NumberStandsFirst index key bytes → HasNoFront IsVarint (drop (key + key_size) bytes) → HasNoHead key_size bytes
no_size key_size index key bytes f none other size k rest fits fits_too long e =
    let behind = after_index index key bytes other (k ++ (varint size ++ rest)) f e in
    let here : drop (key + key_size) bytes ≡ varint size ++ rest = sym (drop-drop key_size key bytes) ∙ ap (λ (l : List ℕ). drop key_size l) behind ∙ drop_at k (varint size ++ rest) key_size long in
    none (varint size) rest (record { number = size; fits = fits_too; spelled = refl }) here

pub head_first : (key_size index key size more : ℕ) (bytes : List ℕ) → NumberStandsFirst index key bytes → key_size ≤ length bytes - key → NumberStandsFirst size more (drop (key + key_size) bytes)
    → HeadStandsFirst key_size index key size (key + key_size + more) bytes
head_first key_size index key size more bytes f long s = record {
  index_fits = f.fits;
  size_fits = s.fits;
  key_at = sym f.size_is;
  value_at = omega (arith, s.size_is);
  within = omega (arith, s.within, length-drop (key + key_size) bytes, long, f.within);
  bytes_are =
      f.bytes_are
      ∙ ap (λ (l : List ℕ). varint index ++ l) (sym (take-append-drop key_size (drop key bytes)) ∙ ap (λ (l : List ℕ). take key_size (drop key bytes) ++ l) (drop-drop key_size key bytes ∙ s.bytes_are ∙ ap (λ (l : List ℕ). varint size ++ l) (drop-drop more (key + key_size) bytes)));
}

module _ {T : Type 0} (name spelled : T → List ℕ) (fits : ℕ → T → Bool) (key_size : ℕ) (keyed : (index : ℕ) (v : T) → fits index v ≡ true → length (name v) ≡ key_size)
    (one : (index : ℕ) (v w : T) → fits index v ≡ true → fits index w ≡ true → spelled v ≡ spelled w → v ≡ w)
    (index key size at : ℕ) (bytes : List ℕ) (h : HeadStandsFirst key_size index key size at bytes) where
  -- a put that stands first has this head
  record HasHead (other : ℕ) (value : T) (rest : List ℕ) : Type 0 where
    same : index ≡ other
    named : take key_size (drop key bytes) ≡ name value
    sized : size ≡ length (spelled value)
    behind : drop at bytes ≡ spelled value ++ rest

  has_head : (other : ℕ) (value : T) (rest : List ℕ) → fits other value ≡ true → bytes ≡ put_bytes name spelled other value ++ rest → HasHead other value rest
  has_head other value rest fit e =
      let whole = sym h.bytes_are ∙ e ∙ put_split name spelled fits key_size keyed one other value rest in
      let indexes = after_number index other _ _ whole in
      let long : length (take key_size (drop key bytes)) ≡ length (name value) = omega (arith, length-take key_size (drop key bytes), length-drop key bytes, h.within, h.value_at, keyed other value fit) in
      let names = after_front (take key_size (drop key bytes)) (name value) _ _ long indexes.1 in
      let sizes = after_number size (length (spelled value)) _ _ names.1 in
      record { same = indexes.0; named = names.0; sized = sizes.0; behind = sizes.1 }

  pub no_room : length bytes - at < size → HasNoPut name spelled fits bytes
  no_room short other value rest valid e =
      let f = has_head other value rest valid.1 e in
      omega (arith, ap length f.behind, length-drop at bytes, length-append (spelled value) rest, f.sized, short)

  value_here : (other : ℕ) (value : T) (rest : List ℕ) → HasHead other value rest → spelled value ≡ take size (drop at bytes)
  value_here other value rest f = sym (ap (λ (l : List ℕ). take size l) f.behind ∙ take_at (spelled value) rest size (sym f.sized))

  pub no_value : ((value : T) → fits index value ≡ true → spelled value ≡ take size (drop at bytes) → ⊥) → HasNoPut name spelled fits bytes
  no_value none other value rest valid e =
      let f = has_head other value rest valid.1 e in
      none value (ap (λ n. fits n value) f.same ∙ valid.1) (value_here other value rest f)

  pub no_name : (item : T) → fits index item ≡ true → spelled item ≡ take size (drop at bytes) → bytes_eq (name item) (take key_size (drop key bytes)) ≡ false → HasNoPut name spelled fits bytes
  no_name item fit is differs other value rest valid e =
      let f = has_head other value rest valid.1 e in
      let same : item ≡ value = one index item value fit (ap (λ n. fits n value) f.same ∙ valid.1) (is ∙ sym (value_here other value rest f)) in
      let named : name item ≡ take key_size (drop key bytes) = ap name same ∙ sym f.named in
      let found : bytes_eq (name item) (take key_size (drop key bytes)) ≡ true = (bytes_eq-Decides (name item) (take key_size (drop key bytes))).1 named in
      absurd (cc (found, differs))

  pub put_first : (item : T) → fits index item ≡ true → spelled item ≡ take size (drop at bytes) → name item ≡ take key_size (drop key bytes) → size ≤ length bytes - at
      → PutStandsFirst name spelled fits index item (at + size) bytes
  put_first item fit is named room =
      let long : length (spelled item) ≡ size = omega (arith, ap length is, length-take size (drop at bytes), length-drop at bytes, room) in
      let front : put_bytes name spelled index item ++ drop (at + size) bytes ≡ bytes =
      put_split name spelled fits key_size keyed one index item (drop (at + size) bytes)
      ∙ ap (λ (l : List ℕ). varint index ++ l) (ap (λ (l : List ℕ). l ++ (varint (length (spelled item)) ++ (spelled item ++ drop (at + size) bytes))) named
      ∙ ap (λ (l : List ℕ). take key_size (drop key bytes) ++ l) (ap (λ (n : ℕ). varint n ++ (spelled item ++ drop (at + size) bytes)) long ∙ ap (λ (l : List ℕ). varint size ++ l) (ap (λ (l : List ℕ). l ++ drop (at + size) bytes) is ∙ ap (λ (l : List ℕ). take size (drop at bytes) ++ l) (sym (drop-drop size at bytes)) ∙ take-append-drop size (drop at bytes))))
      ∙ sym h.bytes_are in
      record {
        valid = (h.index_fits, fit, subst IsNumber (sym long) h.size_fits);
        size_is = omega (
          arith,
          h.value_at,
          h.key_at,
          long,
          ap length (ap (λ n. varint n) long),
          keyed index item fit,
          length-append (varint index) (name item ++ (varint (length (spelled item)) ++ spelled item)),
          length-append (name item) (varint (length (spelled item)) ++ spelled item),
          length-append (varint (length (spelled item))) (spelled item),
        );
        bytes_are = sym front;
      }

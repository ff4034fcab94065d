-- No record of a metadata store begins another.
use Rattle.std.specs.Prelude.{List, length, ℕ, ◌++◌, ◌<◌, ◌∷◌, ◌≡◌}
use Rattle.std.proofs.Common.{ap, append_assoc, arith, sym, ◌∙◌}
use Rattle.std.proofs.lemmas.List.{append_cancel_left}
use Rattle.mar_types.specs.Varint.{varint}
use Rattle.mar_types.specs.VarintLemmas.{varint_front}
use Rattle.mar_journal.specs.MetaRecords.{IsMeta, meta_bytes}
use Rattle.mar_journal.specs.declared.meta_record.MetaRecord.{MetaRecord}
use Rattle.mar_journal.specs.declared.meta_record.MetaRecord.TheVariants.{Remove, Set}

-- lists that begin alike go on alike
pub tail_of : {T : Type 0} (x y : T) (xs ys : List T) → x ∷ xs ≡ y ∷ ys → xs ≡ ys
tail_of x y xs ys e = cc

two_one : (k v l w : ℕ) (a b : List ℕ) → (varint k ++ varint v) ++ a ≡ (varint l ++ varint w) ++ b → (k ≡ l) × (v ≡ w)
two_one k v l w a b e =
    let whole : varint k ++ (varint v ++ a) ≡ varint l ++ (varint w ++ b) = sym (append_assoc (varint k) (varint v) a) ∙ e ∙ append_assoc (varint l) (varint w) b in
    let keys : k ≡ l = varint_front k l _ _ whole in
    let after : varint v ++ a ≡ varint w ++ b = append_cancel_left (varint k) _ _ (whole ∙ ap (λ n. varint n ++ (varint w ++ b)) (sym keys)) in
    (keys, varint_front v w a b after)

set_is : (k v l w : ℕ) → (k ≡ l) × (v ≡ w) → Set k v ≡ Set l w
set_is k v l w (e, f) = ap (λ n. Set n v) e ∙ ap (λ n. Set l n) f

pub meta_one : (r s : MetaRecord) (a b : List ℕ) → IsMeta r → IsMeta s → meta_bytes r ++ a ≡ meta_bytes s ++ b → r ≡ s
meta_one (Set k v) (Set l w) a b is other e = set_is k v l w (two_one k v l w a b (tail_of 2 2 _ _ e))
meta_one (Set k v) (Remove l) a b is other e = cc
meta_one (Remove k) (Set l w) a b is other e = cc
meta_one (Remove k) (Remove l) a b is other e = ap Remove (varint_front k l a b (tail_of 3 3 _ _ e))

pub meta_some : (r : MetaRecord) → 0 < length (meta_bytes r)
meta_some (Set k v) = omega arith
meta_some (Remove k) = omega arith

-- A key's bytes: how many, and that no key's bytes begin another's.
use Rattle.std.proofs.Common.{List, ap, arith, length, max, subst, sym, ℕ, ◌++◌, ◌+◌, ◌∙◌, ◌∷◌, ◌≡◌, ◌≤◌}
use Rattle.mar_types.specs.Codec.{IsUnambiguous}
use Rattle.mar_types.specs.Varint.{varint}
use Rattle.mar_types.specs.VarintLemmas.{length-varint, varint-injective, varint_front}
use Rattle.mar_types.specs.Round.{round_bytes}
use Rattle.mar_types.specs.RoundBytes.{length-round_bytes, round_bytes-injective, round_front}
use Rattle.mar_key.specs.Keys.{IsKey, IsKeyOf, Key, block_key, finalized_key, key_bytes, notarized_key}
use Rattle.mar_key.specs.SpelledKeys.{SpellsKey}
use Rattle.mar_key.specs.Views.{key_of}
use Rattle.mar_key.specs.declared.keys.Key.{Key as KeyCode}
use Rattle.mar_key.specs.declared.keys.Key.TheVariants as key

head_is : (x y : ℕ) (xs ys : List ℕ) → x ∷ xs ≡ y ∷ ys → x ≡ y
head_is x y xs ys e = cc

tail_is : (x y : ℕ) (xs ys : List ℕ) → x ∷ xs ≡ y ∷ ys → xs ≡ ys
tail_is x y xs ys e = cc

-- bytes that begin with two keys' spellings begin with one key's
pub key_front : (Spells : List ℕ → Type 0) → IsUnambiguous Spells → (k l : Key) (rest left : List ℕ) → IsKeyOf Spells k → IsKeyOf Spells l → key_bytes k ++ rest ≡ key_bytes l ++ left → k ≡ l
key_front Spells one (block_key c) (block_key d) rest left a b e = ap block_key (one c d rest left a b (tail_is 0 0 (c ++ rest) (d ++ left) e))
key_front Spells one (finalized_key h) (finalized_key k) rest left a b e = ap finalized_key (varint_front h k rest left (tail_is 1 1 (varint h ++ rest) (varint k ++ left) e))
key_front Spells one (notarized_key r) (notarized_key s) rest left a b e = ap notarized_key (round_front r s rest left (tail_is 2 2 (round_bytes r ++ rest) (round_bytes s ++ left) e))
key_front Spells one (block_key c) (finalized_key h) rest left a b e = absurd (let heads : 0 ≡ 1 = head_is 0 1 (c ++ rest) (varint h ++ left) e in omega arith)
key_front Spells one (block_key c) (notarized_key r) rest left a b e = absurd (let heads : 0 ≡ 2 = head_is 0 2 (c ++ rest) (round_bytes r ++ left) e in omega arith)
key_front Spells one (finalized_key h) (block_key d) rest left a b e = absurd (let heads : 1 ≡ 0 = head_is 1 0 (varint h ++ rest) (d ++ left) e in omega arith)
key_front Spells one (finalized_key h) (notarized_key r) rest left a b e = absurd (let heads : 1 ≡ 2 = head_is 1 2 (varint h ++ rest) (round_bytes r ++ left) e in omega arith)
key_front Spells one (notarized_key r) (block_key d) rest left a b e = absurd (let heads : 2 ≡ 0 = head_is 2 0 (round_bytes r ++ rest) (d ++ left) e in omega arith)
key_front Spells one (notarized_key r) (finalized_key h) rest left a b e = absurd (let heads : 2 ≡ 1 = head_is 2 1 (round_bytes r ++ rest) (varint h ++ left) e in omega arith)

pub key_unambiguous : (Spells : List ℕ → Type 0) → IsUnambiguous Spells → IsUnambiguous (SpellsKey Spells)
key_unambiguous Spells one front other rest left f o e =
    let same : f.key ≡ o.key = key_front Spells one f.key o.key rest left f.is_key o.is_key (ap (λ x. x ++ rest) (sym f.spelled) ∙ e ∙ ap (λ x. x ++ left) o.spelled) in
    f.spelled ∙ ap key_bytes same ∙ sym o.spelled

-- keys of commitments of one size
pub length-key_bytes : {D : Type 0} (bytes : D → List ℕ) (size : ℕ) → ((d : D) → length (bytes d) ≡ size) → (k : KeyCode D) → length (key_bytes (key_of bytes k)) ≤ max 20 size + 1
length-key_bytes bytes size sized (key.Block d) = omega (arith, sized d)
length-key_bytes bytes size sized (key.Finalized h) = omega (arith, length-varint h)
length-key_bytes bytes size sized (key.Notarized r) = omega (arith, length-round_bytes r)

-- a key of a digest of 32 bytes
pub short_key : (k : Key) → IsKey k → length (key_bytes k) ≤ 33
short_key (block_key c) is_key = omega (arith, is_key.0)
short_key (finalized_key h) is_key = omega (arith, length-varint h)
short_key (notarized_key r) is_key = omega (arith, length-round_bytes r)

-- no two keys have one spelling
pub same_spelling : (k l : Key) → key_bytes k ≡ key_bytes l → k ≡ l
same_spelling (block_key c) (block_key d) e = ap block_key (tail_is 0 0 c d e)
same_spelling (finalized_key h) (finalized_key k) e = ap finalized_key (varint-injective h k (tail_is 1 1 (varint h) (varint k) e))
same_spelling (notarized_key r) (notarized_key s) e = ap notarized_key (round_bytes-injective r s (tail_is 2 2 (round_bytes r) (round_bytes s) e))
same_spelling (block_key c) (finalized_key h) e = absurd (let heads : 0 ≡ 1 = head_is 0 1 c (varint h) e in omega arith)
same_spelling (block_key c) (notarized_key r) e = absurd (let heads : 0 ≡ 2 = head_is 0 2 c (round_bytes r) e in omega arith)
same_spelling (finalized_key h) (block_key d) e = absurd (let heads : 1 ≡ 0 = head_is 1 0 (varint h) d e in omega arith)
same_spelling (finalized_key h) (notarized_key r) e = absurd (let heads : 1 ≡ 2 = head_is 1 2 (varint h) (round_bytes r) e in omega arith)
same_spelling (notarized_key r) (block_key d) e = absurd (let heads : 2 ≡ 0 = head_is 2 0 (round_bytes r) d e in omega arith)
same_spelling (notarized_key r) (finalized_key h) e = absurd (let heads : 2 ≡ 1 = head_is 2 1 (round_bytes r) (varint h) e in omega arith)

-- a key whose spelling is read as one
pub key_is_spelled : (Spells : List ℕ → Type 0) (k : Key) → SpellsKey Spells (key_bytes k) → IsKeyOf Spells k
key_is_spelled Spells k read = subst (IsKeyOf Spells) (sym (same_spelling k read.key read.spelled)) read.is_key

-- a key is told by what the definitions see of it, where a commitment is told by its bytes
pub key_of-injective : {D : Type 0} (bytes : D → List ℕ) → ((d e : D) → bytes d ≡ bytes e → d ≡ e) → (k l : KeyCode D) → key_of bytes k ≡ key_of bytes l → k ≡ l
key_of-injective bytes one (key.Block c) (key.Block d) e = ap key.Block (one c d (let same : bytes c ≡ bytes d = cc in same))
key_of-injective bytes one (key.Finalized h) (key.Finalized k) e = cc
key_of-injective bytes one (key.Notarized r) (key.Notarized s) e = cc
key_of-injective bytes one (key.Block c) (key.Finalized h) e = absurd cc
key_of-injective bytes one (key.Block c) (key.Notarized r) e = absurd cc
key_of-injective bytes one (key.Finalized h) (key.Block d) e = absurd cc
key_of-injective bytes one (key.Finalized h) (key.Notarized r) e = absurd cc
key_of-injective bytes one (key.Notarized r) (key.Block d) e = absurd cc
key_of-injective bytes one (key.Notarized r) (key.Finalized h) e = absurd cc

-- no two keys have one spelling, where no two commitments have
pub key_bytes-injective : {D : Type 0} (bytes : D → List ℕ) → ((d e : D) → bytes d ≡ bytes e → d ≡ e) → (k l : KeyCode D) → key_bytes (key_of bytes k) ≡ key_bytes (key_of bytes l) → k ≡ l
key_bytes-injective bytes one k l e = key_of-injective bytes one k l (same_spelling (key_of bytes k) (key_of bytes l) e)

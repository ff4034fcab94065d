-- A varint that is written or read a byte at a time.
use Rattle.std.proofs.Common.{Err, List, Ok, Result, [], ap, append_assoc, arith, inl, inr, length, length-append, refl, suc, sym, ℕ, ◌%◌, ◌*◌, ◌++◌, ◌+◌, ◌-◌, ◌/◌, ◌<◌, ◌^◌, ◌∙◌, ◌∷◌, ◌≡◌, ◌≤◌}
use Rattle.std.proofs.lemmas.List.{append-nil}
use Rattle.std.proofs.Math.Nat.{mul-le-mul, mul-le-mul_left, pow-le-pow_right, pow-suc}
use Rattle.std.proofs.lemmas.Bool.{cases_lt}
use Rattle.mar_types.specs.Codec.{Takes, UsesRoom}
use Rattle.bytes.specs.Filled.{UsesSpare}
use Rattle.std.specs.Prelude.{OnOk}
use Rattle.mar_types.specs.Varint.{IsBadByte, IsBadVarint, IsContinued, IsCutVarint, IsNumber, IsVarint, varint}
use Rattle.mar_types.specs.VarintLemmas.{varint-large, varint-small}

pub length-varint-small : (n : ℕ) → n < 128 → length (varint n) ≡ 1
length-varint-small n h = ap length (varint-small n h)

add-one-length : (n : ℕ) → suc n ≡ n + 1
add-one-length n = omega arith

pub length-varint-large : (n : ℕ) → 128 ≤ n → IsNumber n → length (varint n) ≡ length (varint (n / 128)) + 1
length-varint-large n large fits = ap length (varint-large n large fits) ∙ add-one-length (length (varint (n / 128)))

pub length-varint-positive : (n : ℕ) → IsNumber n → 0 < length (varint n)
length-varint-positive n fits = elim (cases_lt n 128) [
  | inl small ↦ omega (arith, length-varint-small n small)
  | inr large ↦ omega (arith, length-varint-large n large fits)
]

-- a part of a number's spelling stands in the buffer, and that of `value` is to come
pub record IsPartWritten (number value : ℕ) (start now : List ℕ) (room left : ℕ) : Type 0 where
  pub front : List ℕ
  pub spelled : varint number ≡ front ++ varint value
  pub wrote : now ≡ start ++ front
  pub room_left : room ≤ left + length front
  pub fits : IsNumber value

pub write_goes_on : (n value room left left' : ℕ) (start now now' : List ℕ) → IsPartWritten n value start now room left → 128 ≤ value → now' ≡ now ++ (value % 128 + 128) ∷ [] → left ≤ left' + 1 → IsPartWritten n (value / 128) start now' room left'
write_goes_on n value room left left' start now now' p large put spare = record {
  front = p.front ++ (value % 128 + 128) ∷ [];
  spelled = p.spelled ∙ ap (λ xs. p.front ++ xs) (varint-large value large p.fits) ∙ sym (append_assoc p.front ((value % 128 + 128) ∷ []) (varint (value / 128)));
  wrote = put ∙ ap (λ xs. xs ++ (value % 128 + 128) ∷ []) p.wrote ∙ append_assoc start p.front ((value % 128 + 128) ∷ []);
  room_left = omega (arith, p.room_left, length-append p.front ((value % 128 + 128) ∷ []));
  fits = omega (arith, p.fits);
}

pub write_lacks : (n value room left : ℕ) (start now : List ℕ) → IsPartWritten n value start now room left → left < 1 → room < length (varint n)
write_lacks n value room left start now p full =
    omega (arith, p.room_left, ap length p.spelled, length-append p.front (varint value), length-varint-positive value p.fits)

pub write_ends : (n value room left : ℕ) (start now now' : List ℕ) → IsPartWritten n value start now room left → value < 128 → now' ≡ now ++ value ∷ [] → now' ≡ start ++ varint n
write_ends n value room left start now now' p small put =
    put ∙ ap (λ xs. xs ++ value ∷ []) p.wrote ∙ append_assoc start p.front (value ∷ [])
    ∙ ap (λ xs. start ++ xs) (ap (λ xs. p.front ++ xs) (sym (varint-small value small)) ∙ sym p.spelled)

pub write_used : (n value room left left' : ℕ) (start now : List ℕ) → IsPartWritten n value start now room left → left ≤ left' + 1 → room ≤ left' + length (varint n)
write_used n value room left left' start now p spare =
    omega (arith, p.room_left, ap length p.spelled, length-append p.front (varint value), length-varint-positive value p.fits)

pub write_ends_ok : {T E : Type 0} (r : Result T E) (n value room left : ℕ) (start now now' : List ℕ) → IsPartWritten n value start now room left → value < 128 → OnOk r (now' ≡ now ++ value ∷ []) → OnOk r (now' ≡ start ++ varint n)
write_ends_ok (Ok v) n value room left start now now' p small put = write_ends n value room left start now now' p small put
write_ends_ok (Err e) n value room left start now now' p small put = put

pub write_ends_room : {T E : Type 0} (r : Result T E) (n value room left left' : ℕ) (start now : List ℕ) → IsPartWritten n value start now room left → UsesSpare r left left' 1 → UsesRoom r room left' (length (varint n))
write_ends_room (Ok v) n value room left left' start now p spare = write_used n value room left left' start now p spare
write_ends_room (Err e) n value room left left' start now p spare = write_lacks n value room left start now p spare.0

-- so many bytes with the top bit were read; the next one is worth `weight`
pub record IsPartRead (place value weight : ℕ) (start now : List ℕ) : Type 0 where
  pub high : List ℕ
  pub spelled : start ≡ high ++ now
  pub continued : IsContinued high
  pub so_many : length high ≡ place
  pub weighs : weight ≡ 128 ^ place
  pub below : value < weight
  pub begins : (n : ℕ) → value + n * weight < 2 ^ 64 → (0 < place → 0 < n) → varint (value + n * weight) ≡ high ++ varint n

continued_more : (high : List ℕ) (b : ℕ) → IsContinued high → 128 ≤ b → IsContinued (high ++ b ∷ [])
continued_more [] b c h = (h, tt)
continued_more (x ∷ high) b c h = (c.0, continued_more high b c.1 h)

part_below : (value weight part : ℕ) → value < weight → part < 128 → value + part * weight < weight * 128
part_below value weight part below small = omega (arith, mul-le-mul_left weight (less part small))
  where
    less : (part : ℕ) → part < 128 → part ≤ 127
    less part h = omega arith

regrouped : (value part weight n : ℕ) → value + part * weight + n * (weight * 128) ≡ value + (part + n * 128) * weight
regrouped value part weight n = omega arith

small_part : (value weight n : ℕ) → value < weight → value + n * weight < 2 ^ 64 → n < 2 ^ 64
small_part value weight n below fits = omega (arith, mul-le-mul_left n positive)
  where
    positive : 1 ≤ weight
    positive = omega arith

one_more : (high : List ℕ) (value weight b n : ℕ) → 128 ≤ b → b < 256 → 0 < n → value < weight
    → value + (b - 128 + n * 128) * weight < 2 ^ 64
    → varint (b - 128 + n * 128) ≡ b ∷ varint n
one_more high value weight b n large byte positive below fits =
    let number : IsNumber (b - 128 + n * 128) = small_part value weight (b - 128 + n * 128) below fits in
    let low : (b - 128 + n * 128) % 128 + 128 ≡ b = omega arith in
    let rest : (b - 128 + n * 128) / 128 ≡ n = omega arith in
    varint-large (b - 128 + n * 128) (omega arith) number ∙ ap (λ x. x ∷ varint ((b - 128 + n * 128) / 128)) low ∙ ap (λ m. b ∷ varint m) rest

pub read_goes_on : (place value weight b : ℕ) (start now now' : List ℕ) → IsPartRead place value weight start now → now ≡ b ∷ now' → 128 ≤ b → b < 256 → IsPartRead (place + 1) (value + (b - 128) * weight) (weight * 128) start now'
read_goes_on place value weight b start now now' p got large byte = record {
  high = p.high ++ b ∷ [];
  spelled = p.spelled ∙ ap (λ xs. p.high ++ xs) got ∙ sym (append_assoc p.high (b ∷ []) now');
  continued = continued_more p.high b p.continued large;
  so_many = length-append p.high (b ∷ []) ∙ ap (λ n. n + 1) p.so_many;
  weighs = ap (λ w. w * 128) p.weighs ∙ sym (pow-suc 128 place) ∙ ap (λ n. 128 ^ n) (add-one-length place);
  below = part_below value weight (b - 128) p.below (omega arith);
  begins = λ n small positive.
      let some : 0 < n = positive (omega arith) in
      let fits : value + (b - 128 + n * 128) * weight < 2 ^ 64 = rw (← regrouped value (b - 128) weight n) small in
      ap varint (regrouped value (b - 128) weight n)
      ∙ p.begins (b - 128 + n * 128) fits (λ _. omega arith)
      ∙ ap (λ xs. p.high ++ xs) (one_more p.high value weight b n large byte some p.below fits)
      ∙ sym (append_assoc p.high (b ∷ []) (varint n));
}

-- each of the first nine bytes is worth at most this
pub weight_bound : (place value weight : ℕ) (start now : List ℕ) → IsPartRead place value weight start now → place < 9 → weight ≤ 2 ^ 56
weight_bound place value weight start now p few =
    let bound : 128 ^ place ≤ 128 ^ 8 = pow-le-pow_right {n = 128} (omega arith) {i = place} {j = 8} (omega arith) in omega (arith, p.weighs)

pub worth_bound : (b weight : ℕ) → b < 128 → weight ≤ 2 ^ 56 → b * weight ≤ 127 * 2 ^ 56
worth_bound b weight small light = omega (arith, mul-le-mul small' light)
  where
    small' : b ≤ 127
    small' = omega arith

pub value_bound : (place value weight part : ℕ) (start now : List ℕ) → IsPartRead place value weight start now → place < 9 → part < 128 → value + part * weight < 2 ^ 64
value_bound place value weight part start now p few small =
    let light : weight ≤ 2 ^ 56 = weight_bound place value weight start now p few in
    let worth : part * weight ≤ 127 * 2 ^ 56 = worth_bound part weight small light in
    omega (arith, p.below)

pub read_ends : (place value weight b : ℕ) (start now now' : List ℕ) → IsPartRead place value weight start now → now ≡ b ∷ now' → b < 128 → (0 < place → 0 < b) → value + b * weight < 2 ^ 64 → Takes IsVarint (varint (value + b * weight)) start now'
read_ends place value weight b start now now' p got small positive fits = record {
  in_grammar = record { number = value + b * weight; fits = fits; spelled = refl };
  taken = p.spelled ∙ ap (λ xs. p.high ++ xs) got
      ∙ sym (append_assoc p.high (b ∷ []) now')
      ∙ ap (λ xs. xs ++ now') (sym (p.begins b fits positive ∙ ap (λ xs. p.high ++ xs) (varint-small b small)));
}

-- the tenth byte is 1
pub read_ends_tenth : (place value weight b : ℕ) (start now now' : List ℕ) → IsPartRead place value weight start now → place ≡ 9 → now ≡ b ∷ now' → b ≡ 1 → Takes IsVarint (varint (value + weight)) start now'
read_ends_tenth place value weight b start now now' p tenth got one =
    let light : weight ≡ 128 ^ 9 = p.weighs ∙ ap (λ n. 128 ^ n) tenth in
    let same : value + 1 * weight ≡ value + weight = omega arith in
    rw (← same) (read_ends place value weight 1 start now now' p (got ∙ ap (λ x. x ∷ now') one) (omega arith) (λ _. omega arith) (omega (arith, p.below)))

pub read_cut : (place value weight : ℕ) (start now : List ℕ) → IsPartRead place value weight start now → now ≡ [] → place < 10 → IsCutVarint start
read_cut place value weight start now p none few =
    let all : start ≡ p.high = p.spelled ∙ ap (λ xs. p.high ++ xs) none ∙ append-nil p.high in
    rw all (record { continued = p.continued; short = omega (arith, p.so_many) })

pub read_bad : (place value weight b : ℕ) (start now now' : List ℕ) → IsPartRead place value weight start now → now ≡ b ∷ now' → IsBadByte place b → IsBadVarint start
read_bad place value weight b start now now' p got bad =
    record { high = p.high; last = b; rest = now'; spelled = p.spelled ∙ ap (λ xs. p.high ++ xs) got; continued = p.continued; bad = rw p.so_many bad }

-- a tenth byte that isn't 1
pub bad_tenth : (place b : ℕ) → place ≡ 9 → (b ≡ 1 → ⊥) → IsBadByte place b
bad_tenth place b tenth other = elim (cases_lt 1 b) [
  | inl above ↦ inr (above, tenth)
  | inr low ↦ inl (omega arith, omega arith, omega arith)
]

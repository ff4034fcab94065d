-- A commitment made of its parts: it is valid where they are, and they are found in it.
use Rattle.std.proofs.Common.{List, [], ap, append_assoc, arith, drop, length, length-append, refl, replicate, suc, sym, take, true, zero, ℕ, ◌++◌, ◌-◌, ◌∙◌, ◌∷◌, ◌≡◌, ◌≤◌}
use Rattle.std.proofs.Math.Seq.{drop-append_seam, take-append_seam}
use Rattle.std.proofs.lemmas.List.{append-nil, length-replicate}
use Rattle.std.specs.List.{AllByRecursion, slice_range}
use Rattle.mar_types.specs.Digest.{IsByte, IsBytes}
use Rattle.mar_types.specs.Coding.{JoinsParts, SpellsCommitment, SpellsConfig, SpellsField, commitment_bytes, is_zero, padded}

-- a digest that is spelled, and fits a field
pub record IsPart (Spells : List ℕ → Type 0) (size : ℕ) (digest : List ℕ) : Type 0 where
  pub spelled : Spells digest
  pub sized : IsBytes size digest
  pub fits : size ≤ 32

length-padded : (digest : List ℕ) → length digest ≤ 32 → length (padded digest) ≡ 32
length-padded digest fits = omega (arith, length-append digest (replicate (32 - length digest) 0), length-replicate {A = ℕ} (32 - length digest) 0)

all_zero : (n : ℕ) → is_zero (replicate n 0) ≡ true
all_zero zero = refl
all_zero (suc n) = all_zero n

are_bytes-append : (xs ys : List ℕ) → AllByRecursion IsByte xs → AllByRecursion IsByte ys → AllByRecursion IsByte (xs ++ ys)
are_bytes-append [] ys first second = second
are_bytes-append (x ∷ xs) ys first second = (first.0, are_bytes-append xs ys first.1 second)

zeros_are_bytes : (n : ℕ) → AllByRecursion IsByte (replicate n 0)
zeros_are_bytes zero = tt
zeros_are_bytes (suc n) = (omega arith, zeros_are_bytes n)

take_front : (n : ℕ) (front rest : List ℕ) → length front ≡ n → take n (front ++ rest) ≡ front
take_front n front rest long = ap (λ k. take k (front ++ rest)) (sym long) ∙ take-append_seam front rest

drop_front : (n : ℕ) (front rest : List ℕ) → length front ≡ n → drop n (front ++ rest) ≡ rest
drop_front n front rest long = ap (λ k. drop k (front ++ rest)) (sym long) ∙ drop-append_seam front rest

-- what stands between a front and a rest
part_at : (at n : ℕ) (front part rest : List ℕ) → length front ≡ at → length part ≡ n → take n (drop at (front ++ (part ++ rest))) ≡ part
part_at at n front part rest begins long = ap (take n) (drop_front at front (part ++ rest) begins) ∙ take_front n part rest long

field_is : (Spells : List ℕ → Type 0) (size : ℕ) (digest : List ℕ) → IsPart Spells size digest → SpellsField Spells size (padded digest)
field_is Spells size digest is =
    let zeros = replicate (32 - length digest) 0 in
    let front : take size (padded digest) ≡ digest = take_front size digest zeros is.sized.0 in
    let rest : drop size (padded digest) ≡ zeros = drop_front size digest zeros is.sized.0 in
    record { digest = rw front is.spelled; padding = ap is_zero rest ∙ all_zero (32 - length digest) }

padded_bytes : (size : ℕ) (digest : List ℕ) → IsBytes size digest → AllByRecursion IsByte (padded digest)
padded_bytes size digest is = are_bytes-append digest (replicate (32 - length digest) 0) is.1 (zeros_are_bytes (32 - length digest))

-- the bytes of the four parts, one after another
in_order : (block root context config : List ℕ) → commitment_bytes block root context config ≡ padded block ++ (padded root ++ (padded context ++ config))
in_order block root context config = append_assoc (padded block) (padded root) (padded context ++ config)

to_the_end : (block root context config : List ℕ) → commitment_bytes block root context config ≡ ((padded block ++ padded root) ++ padded context) ++ (config ++ [])
to_the_end block root context config =
    sym (append_assoc (padded block ++ padded root) (padded context) config) ∙ ap (λ xs. ((padded block ++ padded root) ++ padded context) ++ xs) (sym (append-nil config))

pub block_field : (block root context config : List ℕ) → length block ≤ 32 → slice_range (commitment_bytes block root context config) 0 32 ≡ padded block
block_field block root context config b =
    ap (λ xs. slice_range xs 0 32) (in_order block root context config) ∙ part_at 0 32 [] (padded block) (padded root ++ (padded context ++ config)) refl (length-padded block b)

pub root_field : (block root context config : List ℕ) → length block ≤ 32 → length root ≤ 32 → slice_range (commitment_bytes block root context config) 32 64 ≡ padded root
root_field block root context config b r =
    ap (λ xs. slice_range xs 32 64) (in_order block root context config) ∙ part_at 32 32 (padded block) (padded root) (padded context ++ config) (length-padded block b) (length-padded root r)

two_fields : (block root : List ℕ) → length block ≤ 32 → length root ≤ 32 → length (padded block ++ padded root) ≡ 64
two_fields block root b r = omega (arith, length-append (padded block) (padded root), length-padded block b, length-padded root r)

pub context_field : (block root context config : List ℕ) → length block ≤ 32 → length root ≤ 32 → length context ≤ 32 → slice_range (commitment_bytes block root context config) 64 96 ≡ padded context
context_field block root context config b r c =
    part_at 64 32 (padded block ++ padded root) (padded context) config (two_fields block root b r) (length-padded context c)

three_fields : (block root context : List ℕ) → length block ≤ 32 → length root ≤ 32 → length context ≤ 32 → length ((padded block ++ padded root) ++ padded context) ≡ 96
three_fields block root context b r c =
    omega (arith, length-append (padded block ++ padded root) (padded context), two_fields block root b r, length-padded context c)

pub config_field : (block root context config : List ℕ) → length block ≤ 32 → length root ≤ 32 → length context ≤ 32 → length config ≡ 4 → slice_range (commitment_bytes block root context config) 96 100 ≡ config
config_field block root context config b r c k =
    ap (λ xs. slice_range xs 96 100) (to_the_end block root context config) ∙ part_at 96 4 ((padded block ++ padded root) ++ padded context) config [] (three_fields block root context b r c) k

-- a digest at the front of its field
pub digest_in_field : (size : ℕ) (digest : List ℕ) → length digest ≡ size → take size (padded digest) ≡ digest
digest_in_field size digest sized = take_front size digest (replicate (32 - length digest) 0) sized

config_is_bytes : (config : List ℕ) → SpellsConfig config → IsBytes 4 config
config_is_bytes config is = rw is.spelled (
  omega (arith, length-append is.first is.second, is.first_is.0.0, is.second_is.0.0),
  are_bytes-append is.first is.second is.first_is.0.1 is.second_is.0.1,
)

at_most_32 : (Spells : List ℕ → Type 0) (size : ℕ) (digest : List ℕ) → IsPart Spells size digest → length digest ≤ 32
at_most_32 Spells size digest is = omega (arith, is.sized.0, is.fits)

-- parts that are spelled make a commitment that is
pub made_commitment : (Block Root Context : List ℕ → Type 0) (block_size root_size context_size : ℕ) (block root context config : List ℕ) → IsPart Block block_size block → IsPart Root root_size root → IsPart Context context_size context → SpellsConfig config → SpellsCommitment Block Root Context block_size root_size context_size (commitment_bytes block root context config)
made_commitment Block Root Context block_size root_size context_size block root context config b r c k =
    let b_fits = at_most_32 Block block_size block b in
    let r_fits = at_most_32 Root root_size root r in
    let c_fits = at_most_32 Context context_size context c in
    let four = config_is_bytes config k in
    record {
      sized = (
        omega (arith, length-append (padded block ++ padded root) (padded context ++ config), length-append (padded context) config, two_fields block root b_fits r_fits, length-padded context c_fits, four.0),
        are_bytes-append (padded block ++ padded root) (padded context ++ config)
            (are_bytes-append (padded block) (padded root) (padded_bytes block_size block b.sized) (padded_bytes root_size root r.sized))
            (are_bytes-append (padded context) config (padded_bytes context_size context c.sized) four.1),
      );
      block = rw (block_field block root context config b_fits) (field_is Block block_size block b);
      root = rw (root_field block root context config b_fits r_fits) (field_is Root root_size root r);
      context = rw (context_field block root context config b_fits r_fits c_fits) (field_is Context context_size context c);
      config = rw (config_field block root context config b_fits r_fits c_fits four.0) k;
    }

-- joined parts make a commitment that is valid where they are spelled, and each is found in it
pub joins_parts : (Block Root Context : List ℕ → Type 0) (block_size root_size context_size : ℕ) (block root context config bytes : List ℕ) → bytes ≡ commitment_bytes block root context config → IsBytes block_size block → block_size ≤ 32 → IsBytes root_size root → root_size ≤ 32 → IsBytes context_size context → context_size ≤ 32 → SpellsConfig config → JoinsParts Block Root Context block_size root_size context_size block root context config bytes
joins_parts Block Root Context block_size root_size context_size block root context config bytes joined b b_fits r r_fits c c_fits k =
    let b_short : length block ≤ 32 = omega (arith, b.0) in
    let r_short : length root ≤ 32 = omega (arith, r.0) in
    let c_short : length context ≤ 32 = omega (arith, c.0) in
    record {
      joined = joined;
      valid = λ b_is r_is c_is. rw joined (made_commitment Block Root Context block_size root_size context_size block root context config
          (record { spelled = b_is; sized = b; fits = b_fits }) (record { spelled = r_is; sized = r; fits = r_fits }) (record { spelled = c_is; sized = c; fits = c_fits }) k);
      block_found = ap (λ xs. take block_size (slice_range xs 0 32)) joined ∙ ap (take block_size) (block_field block root context config b_short) ∙ digest_in_field block_size block b.0;
      root_found = ap (λ xs. take root_size (slice_range xs 32 64)) joined ∙ ap (take root_size) (root_field block root context config b_short r_short) ∙ digest_in_field root_size root r.0;
      context_found = ap (λ xs. take context_size (slice_range xs 64 96)) joined ∙ ap (take context_size) (context_field block root context config b_short r_short c_short) ∙ digest_in_field context_size context c.0;
      config_found = ap (λ xs. slice_range xs 96 100) joined ∙ config_field block root context config b_short r_short c_short (config_is_bytes config k).0;
    }

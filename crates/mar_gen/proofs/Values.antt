-- Made blocks and finalizations are values of their kinds, and short.
use Rattle.std.proofs.Common.{List, [], arith, length, length-append, lit<, lit≤, refl, replicate, suc, zero, ℕ, ◌%◌, ◌++◌, ◌+◌, ◌/◌, ◌<◌, ◌∷◌, ◌≤◌}
use Rattle.std.specs.Int.{to_be_bytes, w32}
use Rattle.std.specs.List.{AllByRecursion}
use Rattle.std.specs.Prelude.{slice_index}
use Rattle.sha2.specs.Sha256.{digest_bytes, final_hash, initial_hash_256, sha256}
use Rattle.sha2.proofs.Facts256.{length-sha256}
use Rattle.mar_types.specs.Digest.{IsByte, IsDigest}
use Rattle.mar_types.specs.Varint.{IsNumber, varint}
use Rattle.mar_types.specs.VarintLemmas.{length-varint}
use Rattle.mar_types.specs.Round.{round_bytes}
use Rattle.mar_store.proofs.Lookups.{AllByRecursion-append}
use Rattle.mar_cert.specs.Block.{IsBlock}
use Rattle.mar_cert.specs.Finalization.{finalization_bytes, finalize}
use Rattle.mar_cert.specs.MockScheme.{IsFinalization, Verifies, signer_bytes}
use Rattle.mar_gen.specs.Chain.{made_block, made_finalization, round_of, signed}
use Rattle.mar_gen.specs.Draws.{drawn}
use Rattle.mar_gen.proofs.Heights.{state_fits}

-- DIGESTS

all_bytes : (h : List ℕ) (n : ℕ) → AllByRecursion IsByte (digest_bytes h n)
unfolding digest_bytes
all_bytes h zero = tt
all_bytes h (suc n) = AllByRecursion-append IsByte (digest_bytes h n) (to_be_bytes w32 (slice_index h n)) (all_bytes h n) (omega arith, (omega arith, (omega arith, (omega arith, tt))))

pub is_digest : (m : List ℕ) → IsDigest (sha256 m)
unfolding sha256
is_digest m = (length-sha256 m, all_bytes (final_hash initial_hash_256 m) 8)

zeros : (k : ℕ) → AllByRecursion IsByte (replicate k 0)
zeros zero = tt
zeros (suc k) = (lit< tt, zeros k)

digest_of_made : (seed i : ℕ) → IsDigest (made_block seed i).digest
unfolding made_block
digest_of_made seed zero = is_digest _
digest_of_made seed (suc i) = is_digest _

-- VALUES

pub block_is : (seed i : ℕ) → IsNumber seed → IsNumber i → IsBlock (made_block seed i)
unfolding made_block
block_is seed zero fits low = record { timestamp = seed; timestamp_fits = fits; height_fits = low; parent_fits = (refl, zeros 32); bytes = refl; digest_is = refl; commitment_is = refl; parent_commitment_is = refl }
block_is seed (suc i) fits low = record {
  timestamp = drawn seed (suc i);
  timestamp_fits = omega (arith, state_fits seed (suc i) fits);
  height_fits = low;
  parent_fits = digest_of_made seed i;
  bytes = refl;
  digest_is = refl;
  commitment_is = refl;
  parent_commitment_is = refl;
}

tag_is : (h : ℕ) (payload : List ℕ) (member : ℕ) → IsDigest (signed h payload member).tag
tag_is h payload member = is_digest _

ascending : (k : ℕ) → k + 1 < 3 → slice_index (0 ∷ 1 ∷ 2 ∷ []) k < slice_index (0 ∷ 1 ∷ 2 ∷ []) (k + 1)
ascending zero low = lit< tt
ascending (suc zero) low = lit< tt
ascending (suc (suc k)) low = absurd (omega (arith, low))

pub finalization_is : (seed h : ℕ) → h ≤ 10_000 → IsFinalization 4 (made_finalization seed h)
finalization_is seed h low =
    let payload : List ℕ = (made_block seed h).digest in
    record {
      round_fits = (omega (arith, low), omega arith);
      parent_fits = omega arith;
      payload_fits = digest_of_made seed h;
      signers = signed h payload 0 ∷ signed h payload 1 ∷ signed h payload 2 ∷ [];
      certificate_is = record { spelled = refl; ascending = ascending; below = (lit< tt, (lit< tt, (lit< tt, tt))); tags = (tag_is h payload 0, (tag_is h payload 1, (tag_is h payload 2, tt))) };
    }

-- the quorum of four signed it
pub finalization_holds : (seed h : ℕ) → Verifies 4 finalize (made_finalization seed h)
finalization_holds seed h =
    let payload : List ℕ = (made_block seed h).digest in
    record {
      signers = signed h payload 0 ∷ signed h payload 1 ∷ signed h payload 2 ∷ [];
      certificate_is = record { spelled = refl; ascending = ascending; below = (lit< tt, (lit< tt, (lit< tt, tt))); tags = (tag_is h payload 0, (tag_is h payload 1, (tag_is h payload 2, tt))) };
      enough = lit≤ tt;
      right = (refl, (refl, (refl, tt)));
    }

-- LENGTHS

pub block_short : (seed i : ℕ) → length (made_block seed i).encoded ≤ 52
unfolding made_block
block_short seed zero = omega (arith, length-append (replicate 32 0 ++ varint 0) (varint seed), length-append (replicate 32 0) (varint 0), length-varint 0, length-varint seed)
block_short seed (suc i) =
    let parent : List ℕ = (made_block seed i).digest in
    omega (arith, length-append (parent ++ varint (suc i)) (varint (drawn seed (suc i))), length-append parent (varint (suc i)), length-varint (suc i), length-varint (drawn seed (suc i)), (digest_of_made seed i).0)

signer_short : (h : ℕ) (payload : List ℕ) (member : ℕ) → length (signer_bytes (signed h payload member)) ≤ 42
signer_short h payload member = omega (arith, length-append (varint member) (signed h payload member).tag, length-varint member, (tag_is h payload member).0)

pub finalization_short : (seed h : ℕ) → length (finalization_bytes (made_finalization seed h)) ≤ 1_000
finalization_short seed h =
    let payload : List ℕ = (made_block seed h).digest in
    let a : List ℕ = signer_bytes (signed h payload 0) in
    let b : List ℕ = signer_bytes (signed h payload 1) in
    let c : List ℕ = signer_bytes (signed h payload 2) in
    omega (
      arith,
      length-append (round_bytes (round_of h) ++ varint (h % 10) ++ payload) (varint 3 ++ (a ++ (b ++ (c ++ [])))),
      length-append (round_bytes (round_of h) ++ varint (h % 10)) payload,
      length-append (round_bytes (round_of h)) (varint (h % 10)),
      length-append (varint (h / 10)) (varint (h % 10 + 1)),
      length-varint (h / 10),
      length-varint (h % 10 + 1),
      length-varint (h % 10),
      (digest_of_made seed h).0,
      length-append (varint 3) (a ++ (b ++ (c ++ []))),
      length-append a (b ++ (c ++ [])),
      length-append b (c ++ []),
      length-append c [],
      length-varint 3,
      signer_short h payload 0,
      signer_short h payload 1,
      signer_short h payload 2,
    )

-- How many bytes proposals, signers and certificates take.
use Rattle.std.proofs.Common.{List, arith, length, length-append, ℕ, ◌++◌, ◌+◌, ◌*◌, ◌≡◌, ◌≤◌, ap, [], ◌∷◌}
use Rattle.std.specs.List.{flat_map}
use Rattle.mar_types.specs.Varint.{varint}
use Rattle.mar_types.specs.VarintLemmas.{length-varint, varint-small}
use Rattle.mar_types.specs.Round.{Round, round_bytes}
use Rattle.mar_types.specs.RoundBytes.{length-round_bytes}
use Rattle.mar_cert.specs.MockScheme.{Signer, signer_bytes}
use Rattle.mar_cert.specs.Signers.{AreSigners, IsMockCertificate}
use Rattle.mar_cert.specs.SignersLemmas.{length-signers, signers_of_certificate}

-- a proposal's parts but its payload
pub length-proposal : (r : Round) (parent : ℕ) (payload : List ℕ) → length (round_bytes r ++ varint parent ++ payload) ≤ 30 + length payload
length-proposal r parent payload =
    omega (arith, length-append (round_bytes r ++ varint parent) payload, length-append (round_bytes r) (varint parent), length-round_bytes r, length-varint parent)

-- a signer of at most 128 members takes 33 bytes
length-small_signers : (n low : ℕ) (signers : List Signer) → n ≤ 128 → AreSigners n low signers → length (flat_map signer_bytes signers) ≡ 33 * length signers
length-small_signers n low [] few are = omega arith
length-small_signers n low (s ∷ signers) few are =
    omega (arith, length-append (signer_bytes s) (flat_map signer_bytes signers), length-append (varint s.member) s.tag, ap length (varint-small s.member (omega (arith, are.1))), are.2.0, length-small_signers n (s.member + 1) signers few are.3)

-- a certificate of so many members fits the greatest size of no fewer
pub length-certificate : (n m : ℕ) (bytes : List ℕ) → n ≤ 64 → n ≤ m → IsMockCertificate n bytes → length bytes ≤ 1 + 33 * m
length-certificate n m bytes few most is =
    let are = signers_of_certificate n is.signers bytes is.certificate_is in
    let count = length-signers n 0 is.signers are in
    omega (arith, ap length is.certificate_is.spelled, length-append (varint (length is.signers)) (flat_map signer_bytes is.signers), ap length (varint-small (length is.signers) (omega (arith, count))), length-small_signers n 0 is.signers (omega arith) are, count)

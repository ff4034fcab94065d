-- How long the payloads are that a node sends at most: requests to peers, answers to them, and blocks by a buffer.
use Rattle.std.specs.Prelude.{List, length, max, min, ℕ, ◌++◌, ◌+◌, ◌-◌, ◌<◌, ◌^◌, ◌≡◌, ◌≤◌}
use Rattle.mar_cert.specs.Block.{Block}
use Rattle.mar_cert.specs.Finalization.{finalization_bytes}
use Rattle.mar_cert.specs.Views.{final_of, notarization_of}
use Rattle.mar_cert.specs.declared.finalization.Finalization.{Finalization}
use Rattle.mar_cert.specs.declared.notarization.Notarization.{Notarization}

-- the bytes that a request takes beside its key, and an answer beside its value
abbrev pub request_overhead : ℕ
request_overhead = 11

abbrev pub answer_overhead : ℕ
answer_overhead = 16

-- the greatest length that a value in an answer may have
abbrev pub value_limit : ℕ
value_limit = 4294967295

-- the longest value: a block, a notarization with a block, or a finalization with an application block; by the most bytes of
-- a certificate with its proposal, of a block in an answer and of an application block
abbrev pub longest_value : ℕ → ℕ → ℕ → ℕ
longest_value signed block application = max block (max (signed + block) (signed + application))

-- the longest request or answer, by the most bytes of a key and of a value
abbrev pub longest_backfill : ℕ → ℕ → ℕ
longest_backfill key value = max (request_overhead + key) (answer_overhead + value)

-- the longest value, by the bytes of a commitment and the most of a certificate, of a block in an answer and of an
-- application block: beside its certificate a proposal takes thirty bytes and a commitment
abbrev pub longest_answered : ℕ → ℕ → ℕ → ℕ → ℕ
longest_answered commitment certificate block application = longest_value (30 + commitment + certificate) block application

-- and the longest request or answer: a key is a commitment, or twenty bytes, behind the byte of its kind
abbrev pub longest_exchanged : ℕ → ℕ → ℕ → ℕ → ℕ
longest_exchanged commitment certificate block application =
    longest_backfill (max 20 commitment + 1) (longest_answered commitment certificate block application)

-- a value of this length is too long for an answer, and told as this: the last number stands for what is above it
abbrev pub IsTooLong : ℕ → ℕ → Type 0
IsTooLong value told = (value_limit < value) × (told ≡ min value (2 ^ 64 - 1))

-- what the bytes of a finalization and of a notarization are, by those of commitments and certificates
abbrev pub spelled_finalization : {D C : Type 0} → (D → List ℕ) → (C → List ℕ) → Finalization D C → List ℕ
spelled_finalization commitment certificate f = finalization_bytes (final_of commitment certificate f)

abbrev pub spelled_notarization : {D C : Type 0} → (D → List ℕ) → (C → List ℕ) → Notarization D C → List ℕ
spelled_notarization commitment certificate n = finalization_bytes (notarization_of commitment certificate n)

-- its certificate has at most so many bytes
abbrev pub IsShortFinalization : {D C : Type 0} → (C → List ℕ) → ℕ → Finalization D C → Type 0
IsShortFinalization certificate most f = length (certificate f.certificate) ≤ most

abbrev pub IsShortNotarization : {D C : Type 0} → (C → List ℕ) → ℕ → Notarization D C → Type 0
IsShortNotarization certificate most n = length (certificate n.certificate) ≤ most

-- n bytes suffice for each request, and for each answer whose application block and whose certificate are short enough: keys,
-- finalizations, notarizations and application blocks by their bytes; an application block and its commitment make a block
pub record AreEnough {K F N A : Type 0} (key : K → List ℕ) (finalization : F → List ℕ) (IsShortF : F → Type 0)
    (notarization : N → List ℕ) (IsShortN : N → Type 0) (application : A → List ℕ) (Commits : A → List ℕ → Type 0)
    (made : A → List ℕ → Block) (IsShort : A → Type 0) (n : ℕ) : Type 0 where
  pub requests : (k : K) → request_overhead + length (key k) ≤ n
  pub blocks : (a : A) (c : List ℕ) → Commits a c → IsShort a → answer_overhead + length (made a c).encoded ≤ n
  pub notarized : (m : N) (a : A) (c : List ℕ) → IsShortN m → Commits a c → IsShort a
      → answer_overhead + length (notarization m ++ (made a c).encoded) ≤ n
  pub finalized : (f : F) (a : A) → IsShortF f → IsShort a → answer_overhead + length (finalization f ++ application a) ≤ n

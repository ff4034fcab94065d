-- The stated bounds suffice.
use Rattle.std.proofs.Common.{Err, List, Ok, Result, arith, length, length-append, ℕ, ◌<◌, ◌≡◌, ◌≤◌}
use Rattle.std.specs.Prelude.{IfOk, min}
use Rattle.mar_cert.specs.Block.{Block}
use Rattle.mar_block.specs.PayloadSizes.{AreEnough, longest_backfill, longest_value, value_limit}

pub ok_both : {X E : Type 0} (r : Result X E) (P Q R : X → Type 0) → ((x : X) → P x → Q x → R x) → IfOk r P → IfOk r Q → IfOk r R
ok_both (Ok x) P Q R both p q = both x p q
ok_both (Err e) P Q R both p q = p

-- sums that stop at the last number didn't stop where the longest value is within the limit
pub not_stopped : (keys' keys signed' signed blocks' blocks size n most : ℕ) → keys' ≡ keys → signed' ≡ min signed most → value_limit < most → blocks' ≡ blocks
    → n ≡ longest_backfill keys' (longest_value signed' blocks' size) → longest_value signed' blocks' size ≤ value_limit → n ≡ longest_backfill keys (longest_value signed blocks size)
not_stopped keys' keys signed' signed blocks' blocks size n most key_is signed_is far block_is is fits = omega (arith, key_is, signed_is, far, block_is, is, fits)

module _ {K F N A : Type 0} (key : K → List ℕ) (finalization : F → List ℕ) (IsShortF : F → Type 0)
    (notarization : N → List ℕ) (IsShortN : N → Type 0) (application : A → List ℕ) (Commits : A → List ℕ → Type 0) (made : A → List ℕ → Block) where
  pub sizes_enough : (IsShort : A → Type 0) (keys signed blocks size n : ℕ) → ((k : K) → length (key k) ≤ keys) → ((f : F) → IsShortF f → length (finalization f) ≤ signed)
      → ((m : N) → IsShortN m → length (notarization m) ≤ signed)
      → ((a : A) (c : List ℕ) → Commits a c → IsShort a → length (made a c).encoded ≤ blocks)
      → ((a : A) → IsShort a → length (application a) ≤ size)
      → n ≡ longest_backfill keys (longest_value signed blocks size)
      → AreEnough key finalization IsShortF notarization IsShortN application Commits made IsShort n
  sizes_enough IsShort keys signed blocks size n of_key of_finalization of_notarization of_block of_application is = record {
    requests = λ k. omega (arith, is, of_key k);
    blocks = λ a c commits short. omega (arith, is, of_block a c commits short);
    notarized = λ m a c shortM commits short. omega (arith, is, of_notarization m shortM, of_block a c commits short, length-append (notarization m) (made a c).encoded);
    finalized = λ f a shortF short. omega (arith, is, of_finalization f shortF, of_application a short, length-append (finalization f) (application a));
  }

  -- more bytes suffice for fewer blocks
  pub more_enough : (IsShort IsFewer : A → Type 0) (n more : ℕ) → ((a : A) → IsFewer a → IsShort a) → n ≤ more
      → AreEnough key finalization IsShortF notarization IsShortN application Commits made IsShort n → AreEnough key finalization IsShortF notarization IsShortN application Commits made IsFewer more
  more_enough IsShort IsFewer n more fewer above enough = record {
    requests = λ k. omega (arith, above, enough.requests k);
    blocks = λ a c commits short. omega (arith, above, enough.blocks a c commits (fewer a short));
    notarized = λ m a c shortM commits short. omega (arith, above, enough.notarized m a c shortM commits (fewer a short));
    finalized = λ f a shortF short. omega (arith, above, enough.finalized f a shortF (fewer a short));
  }

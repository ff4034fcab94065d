-- A certificate over a name of 32 bytes, each the same, is small.
use Rattle.std.proofs.Common.{List, [], ap, arith, length, length-append, ℕ, ◌++◌, ◌∙◌, ◌≡◌}
use Rattle.std.proofs.lemmas.List.{length-replicate}
use Rattle.std.specs.Prelude.{replicate}
use Rattle.mar_types.specs.Round.{Round, round_bytes}
use Rattle.mar_types.specs.RoundBytes.{length-round_bytes}
use Rattle.mar_types.specs.Varint.{varint}
use Rattle.mar_types.specs.VarintLemmas.{length-varint}
use Rattle.mar_cert.specs.Finalization.{finalization_bytes}
use Rattle.mar_store.specs.Sizes.{IsSmall}

pub small_vote : (r : Round) (name : List ℕ) (byte : ℕ) → name ≡ replicate 32 byte
    → IsSmall (finalization_bytes (record { round = r; parent = 0; payload = name; certificate = [] }))
small_vote r name byte filled = omega (
  arith,
  ap length filled ∙ length-replicate {A = ℕ} 32 byte,
  length-append (round_bytes r ++ varint 0 ++ name) [],
  length-append (round_bytes r ++ varint 0) name,
  length-append (round_bytes r) (varint 0),
  length-round_bytes r,
  length-varint 0,
)

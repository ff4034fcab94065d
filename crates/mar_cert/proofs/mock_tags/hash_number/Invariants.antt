use Rattle.std.proofs.Common.{List, ◌++◌, ◌≡◌, ℕ}
use Rattle.mar_types.specs.Varint.{IsNumber, varint}
use Rattle.mar_cert.proofs.mock_tags.hash_number.Given as goal

abbrev pub invariant-bytes : goal.invariant-bytes
invariant-bytes g l = record {
  fits : IsNumber l.left;
  held : (before : List ℕ) → g.H.Hasher.holds l.initial.hasher before
      → (front : List ℕ) × g.H.Hasher.holds l.hasher (before ++ front) × (varint l.fn.number ≡ front ++ varint l.left);
}

abbrev pub decreases-bytes : goal.decreases-bytes
decreases-bytes g l = l.left

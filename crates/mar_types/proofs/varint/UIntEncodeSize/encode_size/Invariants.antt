use Rattle.std.proofs.Common.{length, ◌+◌, ◌≡◌}
use Rattle.mar_types.specs.Varint.{IsNumber, varint}
use Rattle.mar_types.proofs.varint.UIntEncodeSize.encode_size.Given as goal

abbrev pub invariant-bytes : goal.invariant-bytes
invariant-bytes l = record {
  counted : l.size + length (varint l.value) ≡ length (varint l.initial.value) + 1;
  fits : IsNumber l.value;
}

abbrev pub decreases-bytes : goal.decreases-bytes
decreases-bytes l = l.value

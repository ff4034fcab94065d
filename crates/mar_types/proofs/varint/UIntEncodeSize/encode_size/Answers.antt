use Rattle.std.proofs.Common.{arith}
use Rattle.mar_types.specs.VarintLemmas.{length-varint}
use Rattle.mar_types.proofs.VarintSteps.{length-varint-large, length-varint-positive, length-varint-small}
use Rattle.mar_types.proofs.varint.UIntEncodeSize.encode_size.Goals as goal

pub overflow_add-size : goal.overflow_add-size
overflow_add-size c =
    omega (arith, c.bytes.invariant.counted, length-varint c.args.self.now.0, length-varint-positive c.bytes.value c.bytes.invariant.fits)

pub bytes-preserved : goal.bytes-preserved
bytes-preserved c = record {
  counted = omega (arith, c.bytes.invariant.counted, length-varint-large c.bytes.value c.bytes-test.true c.bytes.invariant.fits);
  fits = omega arith;
}

pub returns : goal.returns
returns c = omega (arith, c.bytes.invariant.counted, length-varint-small c.bytes.value c.bytes-test.false)

use Rattle.std.proofs.Common.{length, ◌++◌, ◌≡◌}
use Rattle.hex.specs.Hex.{IsBytes, encode_lower}
use Rattle.mar_script.proofs.words.bytes_of.Given as goal

abbrev pub invariant-loop-rest : goal.invariant-loop-rest
invariant-loop-rest l = record {
  read : l.word ≡ encode_lower l.bytes.items ++ l.rest;
  are : IsBytes l.bytes.items;
}

abbrev pub decreases-loop-rest : goal.decreases-loop-rest
decreases-loop-rest l = length l.rest

use Rattle.std.proofs.Common.{length, ◌++◌, ◌≡◌}
use Rattle.std.specs.Prelude.{map}
use Rattle.std.specs.List.{flat_map}
use Rattle.mar_cert.specs.MockScheme.{signer_bytes}
use Rattle.mar_cert.specs.MockViews.{plain_signer}
use Rattle.mar_cert.specs.Signers.{AreSigners, next_member}
use Rattle.mar_cert.proofs.mock.read_signers.Given as goal

abbrev pub invariant-signers : goal.invariant-signers
invariant-signers g l = record {
  are : AreSigners l.members 0 (map plain_signer l.signers.items);
  low : l.low ≡ next_member 0 (map plain_signer l.signers.items);
  so_many : length (map plain_signer l.signers.items) ≡ l.counter;
  taken : g.B.Buf.unread l.initial.buf ≡ flat_map signer_bytes (map plain_signer l.signers.items) ++ g.B.Buf.unread l.buf;
}

-- Certificates over proposals as plain data.
use Rattle.std.specs.Prelude.{List, ℕ, ◌++◌}
use Rattle.mar_types.specs.Round.{Round, round_bytes}
use Rattle.mar_types.specs.Varint.{varint}

-- a certificate over a proposal; `parent` is the parent's view
pub record Finalization : Type 0 where
  pub round : Round
  pub parent : ℕ
  pub payload : List ℕ
  pub certificate : List ℕ

-- a notarization has the same parts
abbrev pub Notarization : Type 0
Notarization = Finalization

-- what a certificate is about
pub data Subject : Type 0 where
  notarize : Subject
  finalize : Subject

abbrev pub proposal_bytes : Finalization → List ℕ
proposal_bytes f = round_bytes f.round ++ varint f.parent ++ f.payload

abbrev pub finalization_bytes : Finalization → List ℕ
finalization_bytes f = proposal_bytes f ++ f.certificate

-- Mock certificates of the code as plain data.
use Rattle.std.specs.Prelude.{List, map}
use Rattle.mar_cert.specs.MockScheme.{Signer}
use Rattle.mar_cert.specs.declared.signer.Signer.{Signer as SignerOf}
use Rattle.mar_cert.specs.declared.mock.MockCertificate.{MockCertificate}

abbrev pub plain_signer : SignerOf → Signer
plain_signer s = record { member = s.member; tag = s.tag.bytes }

abbrev pub plain_signers : MockCertificate → List Signer
plain_signers c = map plain_signer c.signers.items

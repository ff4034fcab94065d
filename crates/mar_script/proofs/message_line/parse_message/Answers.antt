use Rattle.std.proofs.Common.{ap, rules, ◌≡◌}
use Rattle.mar_inbox.specs.Views.{identifier_of}
use Rattle.mar_inbox.specs.declared.Message.TheVariants as message
use Rattle.mar_script.specs.Lines.{IsHint, IsRoundBlock, IsSentBlock, hint_of, message_row, plain_finalization, plain_message, round_block_of, sent_block_of}
use Rattle.mar_script.specs.declared.message_line.MessageKind.TheVariants as told
use Rattle.mar_script.proofs.Rows.{made_by, reads}
use Rattle.mar_script.proofs.message_line.parse_message.Goals as goal

pub returns-in-Final : goal.returns-in-Final
returns-in-Final c = rw c.in-Final.is (made_by (message_row told.Final) plain_finalization (reads (λ v is. (is, tt)) (λ v are. are.0) c.finalization_of.ensures.is_finalization c.finalization_of.ensures.found c.finalization_of.ensures.only) c.map.ensures.cases (λ x y is. ap plain_message is))

pub returns-in-Notar : goal.returns-in-Notar
returns-in-Notar c = rw c.in-Notar.is (made_by (message_row told.Notar) plain_finalization (reads (λ v is. (is, tt)) (λ v are. are.0) c.finalization_of-in-Notar.ensures.is_finalization c.finalization_of-in-Notar.ensures.found c.finalization_of-in-Notar.ensures.only) c.map-in-Notar.ensures.cases (λ x y is. ap plain_message is))

pub returns-in-Certn : goal.returns-in-Certn
returns-in-Certn c = rw c.in-Certn.is (made_by (message_row told.Certn) plain_finalization (reads (λ v is. (is, tt)) (λ v are. are.0) c.finalization_of-in-Certn.ensures.is_finalization c.finalization_of-in-Certn.ensures.found c.finalization_of-in-Certn.ensures.only) c.map-in-Certn.ensures.cases (λ x y is. ap plain_message is))

pub returns-in-Info : goal.returns-in-Info
returns-in-Info c = rw c.in-Info.is (made_by (message_row told.Info) (identifier_of (λ d. d.bytes)) (reads (λ v is. (is, tt)) (λ v are. are.0) c.identifier.ensures.is_identifier c.identifier.ensures.found c.identifier.ensures.only) c.map-in-Info.ensures.cases (λ x y is. let same : y ≡ message.GetInfo 0 x = search rules in ap plain_message same))

pub returns-in-Block : goal.returns-in-Block
returns-in-Block c = rw c.in-Block.is (made_by (message_row told.Block) (identifier_of (λ d. d.bytes)) (reads (λ v is. (is, tt)) (λ v are. are.0) c.identifier-in-Block.ensures.is_identifier c.identifier-in-Block.ensures.found c.identifier-in-Block.ensures.only) c.map-in-Block.ensures.cases (λ x y is. let same : y ≡ message.GetBlock 0 x = search rules in ap plain_message same))

pub returns-in-Finalization : goal.returns-in-Finalization
returns-in-Finalization c = rw c.in-Finalization.is (made_by (message_row told.Finalization) (λ h. h) (reads (λ v is. (is, tt)) (λ v are. are.0) c.height.ensures.fits c.height.ensures.found c.height.ensures.only) c.map-in-Finalization.ensures.cases (λ x y is. let same : y ≡ message.GetFinalization 0 x = search rules in ap plain_message same))

pub returns-in-GetVerified : goal.returns-in-GetVerified
returns-in-GetVerified c = rw c.in-GetVerified.is (made_by (message_row told.GetVerified) (λ r. r) (reads (λ r is. (is.0, (is.1, tt))) (λ r are. (are.0, are.1.0)) c.round.ensures.is_round c.round.ensures.found c.round.ensures.only) c.map-in-GetVerified.ensures.cases (λ x y is. let same : y ≡ message.GetVerified 0 x = search rules in ap plain_message same))

pub returns-in-Verified : goal.returns-in-Verified
returns-in-Verified c = rw c.in-Verified.is (made_by (message_row told.Verified) round_block_of (reads {Is = IsRoundBlock} (λ v is. (is.0.0, (is.0.1, (is.1, tt)))) (λ v are. ((are.0, are.1.0), are.1.1.0)) c.round_and_block.ensures.is c.round_and_block.ensures.found c.round_and_block.ensures.only) c.map-in-Verified.ensures.cases (λ x y is. let same : y ≡ message.Verified 0 x.round x.block = search rules in ap plain_message same))

pub returns-in-Certified : goal.returns-in-Certified
returns-in-Certified c = rw c.in-Certified.is (made_by (message_row told.Certified) round_block_of (reads {Is = IsRoundBlock} (λ v is. (is.0.0, (is.0.1, (is.1, tt)))) (λ v are. ((are.0, are.1.0), are.1.1.0)) c.round_and_block-in-Certified.ensures.is c.round_and_block-in-Certified.ensures.found c.round_and_block-in-Certified.ensures.only) c.map-in-Certified.ensures.cases (λ x y is. let same : y ≡ message.Certified 0 x.round x.block = search rules in ap plain_message same))

pub returns-in-Proposed : goal.returns-in-Proposed
returns-in-Proposed c = rw c.in-Proposed.is (made_by (message_row told.Proposed) sent_block_of (reads {Is = IsSentBlock} (λ v is. (is.0.0, (is.0.1, (is.1, (is.2, tt))))) (λ v are. ((are.0, are.1.0), are.1.1.0, are.1.1.1.0)) c.sent_block.ensures.is c.sent_block.ensures.found c.sent_block.ensures.only) c.map-in-Proposed.ensures.cases (λ x y is. let same : y ≡ message.Proposed 0 x.round x.recipients x.block = search rules in ap plain_message same))

pub returns-in-Prepared : goal.returns-in-Prepared
returns-in-Prepared c = rw c.in-Prepared.is (made_by (message_row told.Prepared) sent_block_of (reads {Is = IsSentBlock} (λ v is. (is.0.0, (is.0.1, (is.1, (is.2, tt))))) (λ v are. ((are.0, are.1.0), are.1.1.0, are.1.1.1.0)) c.sent_block-in-Prepared.ensures.is c.sent_block-in-Prepared.ensures.found c.sent_block-in-Prepared.ensures.only) c.map-in-Prepared.ensures.cases (λ x y is. let same : y ≡ message.Prepared x.round x.recipients x.block = search rules in ap plain_message same))

pub returns-in-Hint : goal.returns-in-Hint
returns-in-Hint c = rw c.in-Hint.is (made_by (message_row told.Hint) hint_of (reads {Is = IsHint} (λ v is. (is.0, ((is.1, is.2), tt))) (λ v are. (are.0, are.1.0.0, are.1.0.1)) c.hinted.ensures.is c.hinted.ensures.found c.hinted.ensures.only) c.map-in-Hint.ensures.cases (λ x y is. let same : y ≡ message.HintFinalized x.height x.targets = search rules in ap plain_message same))

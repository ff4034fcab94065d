-- Lines of scripts and of outputs, letter by letter.
use Rattle.std.proofs.Common.{◌-◌, ◌^◌, ◌≡◌, ℕ, List, [], ◌∷◌, ◌++◌, Some, None, refl, codes, replicate}
use Rattle.std.specs.Fmt.{digits}
use Rattle.hex.specs.Hex.{encode_with}
use Rattle.mar_cert.specs.Block.{Block}
use Rattle.mar_key.specs.Cutoff.{at_epoch}
use Rattle.mar_key.specs.Processed.{at_block, at_absent}
use Rattle.mar_store.specs.Kept.{At}
use Rattle.mar_key.specs.Keys.{block_key, finalized_key, notarized_key, finalized_by_height, finalized_by_round, untrusted_at, above_round, fetch, retain, key_bytes}
use Rattle.mar_key.specs.Asked.{judged_invalid}
use Rattle.mar_model.specs.Messages.{hint_finalized, get_info, of_height, subscribe_commitment, fetch_by_commitment}
use Rattle.mar_model.specs.Node.{Node}
use Rattle.mar_model.specs.Acks.{mark_waiting, mark_given, mark_dropped}
use Rattle.mar_types.specs.Varint.{varint, read_varint, read_varint_within, varint_within}
use Rattle.mar_cert.specs.MockScheme.{read_signers, signers_of}
use Rattle.mar_model.specs.Faults.{meta_store}
use Rattle.mar_model.specs.Answers.{info_value, anchor_value, sync_value, to}
use Rattle.mar_script.specs.Script.{tell_line, peer_line, fail_line, line_bytes, settings_bytes, hex}
use Rattle.mar_script.specs.Text.{line_of, ask_words, answer_words, outcome_words, node_words}
use Rattle.mar_model_tests.proofs.SmallChain.{d1, b1}
use Rattle.mar_model_tests.proofs.DeliveryRun.{begun}

d2 : List ℕ
d2 = replicate 32 162

fetch_block : line_of (ask_words (fetch (block_key d2) (finalized_by_height 2) None)) ≡ codes "fetch 00a2a2a2a2a2a2a2a2a2a2a2a2a2a2a2a2a2a2a2a2a2a2a2a2a2a2a2a2a2a2a2a2 fin h2" ++ 10 ∷ []
unfolding digits encode_with d2
fetch_block = refl

fetch_height : line_of (ask_words (fetch (finalized_key 1) (finalized_by_height 1) None)) ≡ codes "fetch 0101 fin h1" ++ 10 ∷ []
unfolding digits encode_with varint_within
fetch_height = refl

fetch_to : line_of (ask_words (fetch (finalized_key 12) (finalized_by_height 12) (Some (1 ∷ [])))) ≡ codes "fetch 010c fin h12 to 1" ++ 10 ∷ []
unfolding digits encode_with varint_within
fetch_to = refl

fetch_round : line_of (ask_words (fetch (block_key d1) (finalized_by_round (record { epoch = 1; view = 1 })) None)) ≡ codes "fetch 00ce32c67642e5135e430855a082568f3b774ee1efc23b9f2d1bc13c3f65ce873a fin r1.1" ++ 10 ∷ []
unfolding digits encode_with
fetch_round = refl

fetch_untrusted : line_of (ask_words (fetch (block_key d1) (untrusted_at 1) None)) ≡ codes "fetch 00ce32c67642e5135e430855a082568f3b774ee1efc23b9f2d1bc13c3f65ce873a unt h1" ++ 10 ∷ []
unfolding digits encode_with
fetch_untrusted = refl

retain_epoch : line_of (ask_words (retain (above_round (at_epoch 0)))) ≡ codes "retain epoch 0" ++ 10 ∷ []
unfolding digits
retain_epoch = refl

answer_sync : line_of (answer_words (to 0 (sync_value 0))) ≡ codes "answer 0 sync 0" ++ 10 ∷ []
unfolding digits
answer_sync = refl

answer_info : line_of (answer_words (to 0 (info_value 1 d1))) ≡ codes "answer 0 1 ce32c67642e5135e430855a082568f3b774ee1efc23b9f2d1bc13c3f65ce873a" ++ 10 ∷ []
unfolding digits encode_with
answer_info = refl

answer_anchor : line_of (answer_words (to 3 (anchor_value (at_block 1) (record b1 { encoded = 255 ∷ 0 ∷ [] })))) ≡ codes "answer 3 b1 ff00" ++ 10 ∷ []
unfolding digits encode_with
answer_anchor = refl

outcome : line_of (outcome_words (record { ticket = 0; key = finalized_key 2; outcome = judged_invalid })) ≡ codes "outcome 0 invalid" ++ 10 ∷ []
unfolding digits
outcome = refl

-- the fields of a node: an awaited floor, marks, an epoch, ranges, uncovered writes and open syncs
at : ℕ → At Block
at h = record { height = h; value = record b1 { height = h } }

busy : Node
busy = record begun {
  processed = Some (at_absent 10);
  cutoff = at_epoch 1;
  awaited = Some (record { round = record { epoch = 1; view = 1 }; commitment = d1 });
  out = record { ticket = 0; height = 0; mark = mark_waiting } ∷ record { ticket = 1; height = 1; mark = mark_given } ∷ record { ticket = 2; height = 2; mark = mark_dropped } ∷ [];
  blocks = record { held = at 3 ∷ at 0 ∷ at 5 ∷ at 4 ∷ at 1 ∷ []; sure = at 0 ∷ []; may = [] };
  covered = 1;
  uncovered = 3 ∷ 2 ∷ 1 ∷ [];
  syncs = record { ticket = 0; position = 3 } ∷ record { ticket = 2; position = 4 } ∷ [];
  cache_syncs = record { ticket = 1; entries = []; answer = None } ∷ [];
}

node_written : line_of (node_words busy) ≡ codes "node p=a10 o=0:0,1:1+,2:2x c=1.* w=1.1 b=0-1,3-5 bs=0-0 f=- fs=- u=3,2,1 s=0:3,2:4 y=1" ++ 10 ∷ []
unfolding digits busy at
node_written = refl

-- AS READ

config_written : settings_bytes (record { members = 4; epoch_length = 10; window = 2; max_repair = 4; retention = 5; capacity = 8; first_epoch = 0; last_epoch = 100 }) ≡ codes "config 4 10 2 4 5 8 0 100" ++ 10 ∷ []
unfolding settings_bytes digits
config_written = refl

hint_written : line_bytes (tell_line (hint_finalized 12 (1 ∷ 3 ∷ []))) ≡ codes "hint 12 1,3" ++ 10 ∷ []
unfolding line_bytes digits
hint_written = refl

peer_written : line_bytes (peer_line (finalized_key 12) []) ≡ codes "peer 010c -" ++ 10 ∷ []
unfolding line_bytes digits encode_with varint_within
peer_written = refl

info_written : line_bytes (tell_line (get_info (of_height 1))) ≡ codes "info h1" ++ 10 ∷ []
unfolding line_bytes digits
info_written = refl

subscribe_written : line_bytes (tell_line (subscribe_commitment d1 (fetch_by_commitment 1))) ≡ codes "subc ce32c67642e5135e430855a082568f3b774ee1efc23b9f2d1bc13c3f65ce873a height 1" ++ 10 ∷ []
unfolding line_bytes digits encode_with
subscribe_written = refl

fail_written : line_bytes (fail_line meta_store 1) ≡ codes "fail meta 1" ++ 10 ∷ []
unfolding line_bytes digits
fail_written = refl

key : hex (key_bytes (notarized_key (record { epoch = 67890; view = 12345 }))) ≡ codes "02b29204b960"
unfolding varint_within encode_with
key = refl

-- a certificate of two signers is read back
two_signers : signers_of (2 ∷ 0 ∷ replicate 32 7 ++ 130 ∷ 1 ∷ replicate 32 8) ≡ Some (record { member = 0; tag = replicate 32 7 } ∷ record { member = 130; tag = replicate 32 8 } ∷ [])
unfolding read_varint_within read_signers
two_signers = refl

longer : read_varint (128 ∷ 0 ∷ []) ≡ None
unfolding read_varint_within
longer = refl

greatest_of : read_varint (varint (2 ^ 64 - 1)) ≡ Some (2 ^ 64 - 1, [])
unfolding read_varint_within varint_within
greatest_of = refl

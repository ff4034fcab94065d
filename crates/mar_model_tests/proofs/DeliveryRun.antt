-- The delivery run: block 0 is handed over; block 1 is finalized, and handed over once its sync finished; both are acknowledged. Its
-- text.
use Rattle.std.proofs.Common.{◌≡◌, ℕ, List, [], ◌∷◌, ◌++◌, Some, None, refl, codes, take}
use Rattle.std.specs.Fmt.{digits}
use Rattle.hex.specs.Hex.{encode_with}
use Rattle.mar_key.specs.Cutoff.{at_round, cutoff_zero}
use Rattle.mar_key.specs.Processed.{at_block}
use Rattle.mar_store.specs.Kept.{Kept, reopened_store}
use Rattle.mar_key.specs.Keys.{retain, above_height, above_round}
use Rattle.mar_model.specs.Messages.{report_finalization}
use Rattle.mar_model.specs.Node.{Node}
use Rattle.mar_model.specs.Acks.{mark_waiting}
use Rattle.mar_model.specs.Cached.{Cached, finalization_entry}
use Rattle.mar_model.specs.Faults.{from_genesis}
use Rattle.mar_model.specs.Step.{new_tip, handed_over, Made, nothing_made}
use Rattle.mar_model.specs.Lives.{opened_node}
use Rattle.mar_script.specs.Script.{open_line, tell_line, buffer_line, sync_line, ack_line}
use Rattle.mar_script.specs.Text.{output_text, text, Output, silent_output, running, Done}
use Rattle.mar_model.specs.Held.{ArePassed}
use Rattle.mar_model.proofs.Passing.{ArePassed-refl}
use Rattle.mar_script.specs.Accounts.{Account, first_account, fresh_watches}
use Rattle.mar_script.specs.Run.{empty_stores}
use Rattle.mar_model_tests.proofs.SmallChain.{d1, b0, b1, r1, f1, config}

-- the node at the end of the opening's first part, and after each line
abbrev pub begun : Node
begun = opened_node config (reopened_store (record { height = 0; value = b0 } ∷ [])) [] (record { sure = []; may = [] }) 0 (0 ∷ []) (record { processed = None; cutoff = cutoff_zero })

abbrev pub n0 : Node
n0 = record begun { out = record { ticket = 0; height = 0; mark = mark_waiting } ∷ []; next_ack = 1 }

abbrev pub n1 : Node
n1 = record n0 { buffer = b1 ∷ [] }

-- the finalization of block 1 is cached, and sure there
abbrev pub one_entry : List Cached
one_entry = finalization_entry f1 ∷ []

abbrev pub one_cached : Kept Cached
one_cached = reopened_store one_entry

-- block 1 and its finalization are written, and a sync that covers them is open
abbrev pub n2 : Node
n2 = record n1 {
  blocks = record {
    held = record { height = 0; value = b0 } ∷ record { height = 1; value = b1 } ∷ [];
    sure = record { height = 0; value = b0 } ∷ [];
    may = record { height = 0; value = b0 } ∷ record { height = 1; value = b1 } ∷ [];
  };
  certs = record { held = record { height = 1; value = f1 } ∷ []; sure = []; may = record { height = 1; value = f1 } ∷ [] };
  uncovered = 1 ∷ [];
  syncs = record { ticket = 0; position = 1 } ∷ [];
  cache = one_cached;
  next_sync = 1;
  tip = 1;
}

abbrev pub n3 : Node
n3 = record n1 {
  blocks = reopened_store (record { height = 0; value = b0 } ∷ record { height = 1; value = b1 } ∷ []);
  certs = reopened_store (record { height = 1; value = f1 } ∷ []);
  out = record { ticket = 0; height = 0; mark = mark_waiting } ∷ record { ticket = 1; height = 1; mark = mark_waiting } ∷ [];
  covered = 1;
  uncovered = [];
  cache = one_cached;
  next_sync = 1;
  tip = 1;
  next_ack = 2;
}

abbrev pub n4 : Node
n4 = record n3 { processed = Some (at_block 0); meta = record { processed = Some 0; cutoff = cutoff_zero } ∷ []; out = record { ticket = 1; height = 1; mark = mark_waiting } ∷ [] }

abbrev pub n5 : Node
n5 = record n4 { processed = Some (at_block 1); cutoff = at_round r1; meta = record { processed = Some 1; cutoff = at_round r1 } ∷ []; out = []; witnessed = r1 }

abbrev pub making : Made → Output
making made = record silent_output { made = made }

-- beside each state: no store in memory failed, and no call is armed
abbrev pub fresh : Account
fresh = first_account fresh_watches

pub none_failed : ArePassed fresh_watches fresh_watches
none_failed = ArePassed-refl fresh_watches

abbrev pub delivery_run : List Done
delivery_run =
    record { line = open_line (from_genesis b0); output = making (record nothing_made { reports = handed_over 0 b0 ∷ [] }); after = running n0; account = fresh }
    ∷ record { line = buffer_line b1; output = silent_output; after = running n1; account = fresh }
    ∷ record { line = tell_line (report_finalization f1); output = making (record nothing_made { reports = new_tip r1 1 d1 ∷ [] }); after = running n2; account = fresh }
    ∷ record { line = sync_line 0; output = making (record nothing_made { reports = handed_over 1 b1 ∷ [] }); after = running n3; account = fresh }
    ∷ record { line = ack_line 0; output = making (record nothing_made { asks = retain (above_height 0) ∷ [] }); after = running n4; account = fresh }
    ∷ record { line = ack_line 1; output = making (record nothing_made { asks = retain (above_height 1) ∷ retain (above_round (at_round r1)) ∷ [] }); after = running n5; account = fresh }
    ∷ []

-- a text line
unfoldable pub line : List ℕ → List ℕ
line bytes = bytes ++ 10 ∷ []

unfoldable pub output : List ℕ
output =
    line (codes "node end p=- c=0.0 bs=- bm=- fs=- fm=-")
    ++ line (codes "block 0 0 17b0761f87b081d5cf10757ccc89f12be355c70e2e29df288b65b30710dcbcd1")
    ++ line (codes "node p=- o=0:0 c=0.0 w=- b=0-0 bs=0-0 f=- fs=- u=- s=- y=-")
    ++ line (codes "node p=- o=0:0 c=0.0 w=- b=0-0 bs=0-0 f=- fs=- u=- s=- y=-")
    ++ line (codes "tip 0.1 1 ce32c67642e5135e430855a082568f3b774ee1efc23b9f2d1bc13c3f65ce873a")
    ++ line (codes "node p=- o=0:0 c=0.0 w=- b=0-1 bs=0-0 f=1-1 fs=- u=1 s=0:1 y=-")
    ++ line (codes "block 1 1 ce32c67642e5135e430855a082568f3b774ee1efc23b9f2d1bc13c3f65ce873a")
    ++ line (codes "node p=- o=0:0,1:1 c=0.0 w=- b=0-1 bs=0-1 f=1-1 fs=1-1 u=- s=- y=-")
    ++ line (codes "retain height 0")
    ++ line (codes "node p=b0 o=1:1 c=0.0 w=- b=0-1 bs=0-1 f=1-1 fs=1-1 u=- s=- y=-")
    ++ line (codes "retain height 1")
    ++ line (codes "retain round 0.1")
    ++ line (codes "node p=b1 o=- c=0.1 w=- b=0-1 bs=0-1 f=1-1 fs=1-1 u=- s=- y=-")

pub delivery_text : text empty_stores delivery_run ≡ output
unfolding output output_text digits encode_with line
delivery_text = refl

-- after the first line alone: nothing more is handed over, since block 1 is missing
opening_text : text empty_stores (take 1 delivery_run) ≡
    line (codes "node end p=- c=0.0 bs=- bm=- fs=- fm=-")
    ++ line (codes "block 0 0 17b0761f87b081d5cf10757ccc89f12be355c70e2e29df288b65b30710dcbcd1")
    ++ line (codes "node p=- o=0:0 c=0.0 w=- b=0-0 bs=0-0 f=- fs=- u=- s=- y=-")
unfolding output_text digits encode_with line
opening_text = refl

-- Script lines, by their one spelling each.
use Rattle.std.specs.List.{AllByRecursion, flat_map, join_with_byte}
use Rattle.std.specs.Prelude.{AllPairs, List, [], codes, decimal, length, map, nat_le, ℕ, ⊤, ◌&&◌, ◌++◌, ◌-◌, ◌<◌, ◌^◌, ◌∷◌, ◌≢◌, ◌≤◌}
use Rattle.hex.specs.Hex.{encode_lower}
use Rattle.mar_types.specs.Round.{Round}
use Rattle.mar_cert.specs.Block.{Block, IsBlock}
use Rattle.mar_cert.specs.Finalization.{Finalization, finalization_bytes, finalize, notarize}
use Rattle.mar_types.specs.Epochs.{fixed_epochs}
use Rattle.mar_key.specs.Keys.{IsKey, Key, key_bytes}
use Rattle.mar_model.specs.Messages.{Fallback, Identifier, Message, Peers, all_peers, certify, close_ticket, fetch_by_commitment, fetch_by_round, forward, get_anchor, get_block, get_finalization, get_info, get_processed, get_verified, hint_finalized, hint_notarized, latest, of_digest, of_height, prepared, proposed, prune_below, report_certification, report_finalization, report_notarization, set_floor, some_peers, subscribe_commitment, subscribe_digest, verified, wait}
use Rattle.mar_model.specs.Config.{Config}
use Rattle.mar_types.specs.Varint.{IsNumber}
use Rattle.mar_types.specs.Digest.{IsByte, IsDigest}
use Rattle.mar_cert.specs.MockScheme.{IsFinalization, mock_verifies}
use Rattle.mar_model.specs.Faults.{Begin, StoreName, block_store, cache_store, cert_store, from_floor, from_genesis, meta_store}

-- the first line
pub record Settings : Type 0 where
  pub members : ℕ
  pub epoch_length : ℕ
  pub window : ℕ
  pub max_repair : ℕ
  pub retention : ℕ
  pub capacity : ℕ
  pub first_epoch : ℕ
  pub last_epoch : ℕ

-- The lines after the first.
pub data Line : Type 0 where
  open_line : Begin → Line
  tell_line : Message → Line  -- the lines from `final` to `close T`
  peer_line : Key → List ℕ → Line
  ask_line : Key → Line
  serve_line : Line
  buffer_line : Block → Line
  bufclose_line : Line
  put_line : Message → Line
  take_line : Line
  sync_line : ℕ → Line
  ack_line : ℕ → Line
  drop_line : ℕ → Line
  fail_line : StoreName → ℕ → Line
  crash_line : ℕ → Line

-- SPELLING

-- words with one space between
abbrev pub sentence : List (List ℕ) → List ℕ
sentence words = join_with_byte 32 words

-- lower-case hexadecimal, `-` for no bytes
abbrev pub hex : List ℕ → List ℕ
hex [] = codes "-"
hex (b ∷ bytes) = encode_lower (b ∷ bytes)

abbrev pub comma_numbers : List ℕ → List ℕ
comma_numbers [] = codes "-"
comma_numbers (p ∷ peers) = join_with_byte 44 (map decimal (p ∷ peers))

abbrev pub peers_text : Peers → List ℕ
peers_text all_peers = codes "all"
peers_text (some_peers peers) = comma_numbers peers

abbrev pub identifier_text : Identifier → List ℕ
identifier_text (of_height h) = codes "h" ++ decimal h
identifier_text (of_digest d) = codes "d" ++ hex d
identifier_text latest = codes "latest"

abbrev pub store_name : StoreName → List ℕ
store_name block_store = codes "blocks"
store_name cert_store = codes "certs"
store_name meta_store = codes "meta"
store_name cache_store = codes "cache"

-- One word of a line, by its value.
pub data Field : Type 0 where
  as_letters : List ℕ → Field  -- just these
  as_number : ℕ → Field
  as_count : ℕ → Field  -- from 1 on
  as_digest : List ℕ → Field
  as_bytes : List ℕ → Field
  as_key : Key → Field
  as_identifier : Identifier → Field
  as_block : Block → Field
  as_finalization : Finalization → Field
  as_recipients : Peers → Field
  as_peers : List ℕ → Field  -- one at least
  as_store : StoreName → Field
  as_none : Field  -- no word may stand here

abbrev pub field_text : Field → List ℕ
field_text (as_letters word) = word
field_text (as_number n) = decimal n
field_text (as_count n) = decimal n
field_text (as_digest d) = hex d
field_text (as_bytes bytes) = hex bytes
field_text (as_key key) = hex (key_bytes key)
field_text (as_identifier id) = identifier_text id
field_text (as_block b) = hex b.encoded
field_text (as_finalization f) = hex (finalization_bytes f)
field_text (as_recipients peers) = peers_text peers
field_text (as_peers peers) = comma_numbers peers
field_text (as_store store) = store_name store
field_text as_none = []

-- a round, and what stands behind it
abbrev pub in_round : Round → List Field → List Field
in_round r more = as_number r.epoch ∷ as_number r.view ∷ more

abbrev pub fallback_fields : Fallback → List Field
fallback_fields wait = as_letters (codes "wait") ∷ []
fallback_fields (fetch_by_round r) = as_letters (codes "round") ∷ in_round r []
fallback_fields (fetch_by_commitment h) = as_letters (codes "height") ∷ as_number h ∷ []

-- `height H` is for `subc` alone
abbrev pub digest_fallback_fields : Fallback → List Field
digest_fallback_fields (fetch_by_commitment h) = as_none ∷ []
digest_fallback_fields fallback = fallback_fields fallback

-- a message, word by word
abbrev pub message_fields : Message → List Field
message_fields (report_finalization f) = as_letters (codes "final") ∷ as_finalization f ∷ []
message_fields (report_notarization f) = as_letters (codes "notar") ∷ as_finalization f ∷ []
message_fields (report_certification f) = as_letters (codes "certn") ∷ as_finalization f ∷ []
message_fields (verified r b) = as_letters (codes "verified") ∷ in_round r (as_block b ∷ [])
message_fields (proposed r peers b) = as_letters (codes "proposed") ∷ in_round r (as_recipients peers ∷ as_block b ∷ [])
message_fields (prepared r peers b) = as_letters (codes "prepared") ∷ in_round r (as_recipients peers ∷ as_block b ∷ [])
message_fields (certify r b) = as_letters (codes "certified") ∷ in_round r (as_block b ∷ [])
message_fields (set_floor f) = as_letters (codes "floor") ∷ as_finalization f ∷ []
message_fields (prune_below h) = as_letters (codes "prune") ∷ as_number h ∷ []
message_fields (hint_finalized h peers) = as_letters (codes "hint") ∷ as_number h ∷ as_peers peers ∷ []
message_fields (hint_notarized r d) = as_letters (codes "hintn") ∷ in_round r (as_digest d ∷ [])
message_fields (get_info id) = as_letters (codes "info") ∷ as_identifier id ∷ []
message_fields (get_block id) = as_letters (codes "block") ∷ as_identifier id ∷ []
message_fields (get_finalization h) = as_letters (codes "finalization") ∷ as_number h ∷ []
message_fields get_processed = as_letters (codes "processed") ∷ []
message_fields get_anchor = as_letters (codes "anchor") ∷ []
message_fields (get_verified r) = as_letters (codes "getverified") ∷ in_round r []
message_fields (subscribe_digest d fallback) = as_letters (codes "subd") ∷ as_digest d ∷ digest_fallback_fields fallback
message_fields (subscribe_commitment c fallback) = as_letters (codes "subc") ∷ as_digest c ∷ fallback_fields fallback
message_fields (forward r d peers) = as_letters (codes "forward") ∷ in_round r (as_digest d ∷ as_recipients peers ∷ [])
message_fields (close_ticket t) = as_letters (codes "close") ∷ as_number t ∷ []

-- a line, word by word
abbrev pub line_fields : Line → List Field
line_fields (open_line (from_genesis b)) = as_letters (codes "open") ∷ as_letters (codes "genesis") ∷ as_block b ∷ []
line_fields (open_line (from_floor f)) = as_letters (codes "open") ∷ as_letters (codes "floor") ∷ as_finalization f ∷ []
line_fields (tell_line m) = message_fields m
line_fields (peer_line key value) = as_letters (codes "peer") ∷ as_key key ∷ as_bytes value ∷ []
line_fields (ask_line key) = as_letters (codes "ask") ∷ as_key key ∷ []
line_fields serve_line = as_letters (codes "serve") ∷ []
line_fields (buffer_line b) = as_letters (codes "buffer") ∷ as_block b ∷ []
line_fields bufclose_line = as_letters (codes "bufclose") ∷ []
line_fields (put_line m) = as_letters (codes "put") ∷ message_fields m
line_fields take_line = as_letters (codes "take") ∷ []
line_fields (sync_line t) = as_letters (codes "sync") ∷ as_number t ∷ []
line_fields (ack_line t) = as_letters (codes "ack") ∷ as_number t ∷ []
line_fields (drop_line t) = as_letters (codes "drop") ∷ as_number t ∷ []
line_fields (fail_line store n) = as_letters (codes "fail") ∷ as_store store ∷ as_count n ∷ []
line_fields (crash_line luck) = as_letters (codes "crash") ∷ as_number luck ∷ []

abbrev pub settings_words : Settings → List (List ℕ)
settings_words s =
    codes "config" ∷ decimal s.members ∷ decimal s.epoch_length ∷ decimal s.window ∷ decimal s.max_repair ∷ decimal s.retention
    ∷ decimal s.capacity ∷ decimal s.first_epoch ∷ decimal s.last_epoch ∷ []

-- each line ended by LF
unfoldable pub line_bytes : Line → List ℕ
line_bytes line = sentence (map field_text (line_fields line)) ++ 10 ∷ []

unfoldable pub settings_bytes : Settings → List ℕ
settings_bytes s = sentence (settings_words s) ++ 10 ∷ []

-- the settings, then the lines
abbrev pub script_bytes : Settings → List Line → List ℕ
script_bytes s lines = settings_bytes s ++ flat_map line_bytes lines

-- GRAMMAR

abbrev pub IsBetween : ℕ → ℕ → ℕ → Type 0
IsBetween low high n = (low ≤ n) × (n ≤ high)

-- the limits of the settings
pub record IsSettings (s : Settings) : Type 0 where
  pub members : IsBetween 1 64 s.members
  pub epoch_length : IsBetween 2 (2 ^ 64 - 1) s.epoch_length
  pub window : IsBetween 1 1024 s.window
  pub max_repair : IsBetween 1 1024 s.max_repair
  pub retention : IsNumber s.retention
  pub capacity : IsBetween 1 1024 s.capacity
  pub last_epoch : IsNumber s.last_epoch
  pub epochs : s.first_epoch ≤ s.last_epoch

-- peers are all different u32
abbrev pub ArePeers : List ℕ → Type 0
ArePeers peers = AllByRecursion (λ p. p < 2 ^ 32) peers × AllPairs (λ p q. p ≢ q) peers

abbrev pub IsPeers : Peers → Type 0
IsPeers all_peers = ⊤
IsPeers (some_peers peers) = ArePeers peers

abbrev pub IsIdentifier : Identifier → Type 0
IsIdentifier (of_height h) = IsNumber h
IsIdentifier (of_digest d) = IsDigest d
IsIdentifier latest = ⊤

-- the value is within its type, with n members
abbrev pub IsField : ℕ → Field → Type 0
IsField n (as_letters word) = ⊤
IsField n (as_number k) = IsNumber k
IsField n (as_count k) = (1 ≤ k) × IsNumber k
IsField n (as_digest d) = IsDigest d
IsField n (as_bytes bytes) = AllByRecursion IsByte bytes
IsField n (as_key key) = IsKey key
IsField n (as_identifier id) = IsIdentifier id
IsField n (as_block b) = IsBlock b
IsField n (as_finalization f) = IsFinalization n f
IsField n (as_recipients peers) = IsPeers peers
IsField n (as_peers peers) = ArePeers peers × (1 ≤ length peers)
IsField n (as_store store) = ⊤
IsField n as_none = ⊥

-- The messages that are not read yet stand in the grammar, and are answered as outside it.
abbrev pub IsBuiltMessage : Message → Type 0
IsBuiltMessage (set_floor f) = ⊥
IsBuiltMessage (prune_below h) = ⊥
IsBuiltMessage (hint_notarized r d) = ⊥
IsBuiltMessage (subscribe_digest d fallback) = ⊥
IsBuiltMessage (subscribe_commitment c fallback) = ⊥
IsBuiltMessage (forward r d peers) = ⊥
IsBuiltMessage (close_ticket t) = ⊥
IsBuiltMessage _ = ⊤

-- a line that is read
abbrev pub IsBuilt : Line → Type 0
IsBuilt (open_line (from_genesis b)) = ⊤
IsBuilt (tell_line m) = IsBuiltMessage m
IsBuilt (buffer_line b) = ⊤
IsBuilt (sync_line t) = ⊤
IsBuilt (ack_line t) = ⊤
IsBuilt (drop_line t) = ⊤
IsBuilt (fail_line store k) = ⊤
IsBuilt (crash_line luck) = ⊤
IsBuilt _ = ⊥

-- at most 65,536 bytes without the LF
pub record IsLine (n : ℕ) (line : Line) : Type 0 where
  pub built : IsBuilt line
  pub values : AllByRecursion (IsField n) (line_fields line)
  pub short : length (line_bytes line) ≤ 65_537

-- the settings as the node has them: epochs of one length, a commitment is the digest, the mock scheme in
-- the provider's epochs
abbrev pub config_of : Settings → Config
config_of s = record {
  members = s.members;
  window = s.window;
  max_repair = s.max_repair;
  retention = s.retention;
  capacity = s.capacity;
  epochs = fixed_epochs s.epoch_length;
  inner = λ c. c;
  scoped = λ e. nat_le s.first_epoch e && nat_le e s.last_epoch;
  verifies = mock_verifies s.members finalize;
  verifies_notarization = mock_verifies s.members notarize;
}

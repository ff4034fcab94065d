-- Lines of the code as plain data, which bytes spell them, and what their first words tell.
use Rattle.std.specs.List.{AllByRecursion, find, list_all}
use Rattle.std.specs.Option.{option_map}
use Rattle.std.specs.Prelude.{Bool, Contains, IfOk, List, Option, Result, Some, [], codes, decimal, false, length, map, nat_lt, refl, true, ℕ, ⊤, ◌++◌, ◌∷◌, ◌≡◌, ◌≤◌}
use Rattle.std.specs.Str.{bytes_eq}
use Rattle.sha2.specs.Sha256.{sha256}
use Rattle.mar_types.specs.Round.{IsRound, Round}
use Rattle.mar_types.specs.Varint.{IsNumber}
use Rattle.mar_types.specs.declared.Sha256.{Sha256}
use Rattle.mar_types.specs.declared.Sha256Digest.{Sha256Digest}
use Rattle.mar_cert.specs.Finalization.{Finalization}
use Rattle.mar_cert.specs.MockViews.{plain_signers}
use Rattle.mar_cert.specs.Signers.{certificate_bytes}
use Rattle.mar_cert.specs.Views.{final_of}
use Rattle.mar_cert.specs.declared.Finalization.{Finalization as FinalizationCode}
use Rattle.mar_cert.specs.declared.MockCertificate.{MockCertificate}
use Rattle.mar_cert.specs.Block.{Block, IsBlock}
use Rattle.mar_block.specs.EmptyBlock.{block_bytes, block_message, standard_block}
use Rattle.mar_block.specs.declared.EmptyBlock.{EmptyBlock}
use Rattle.mar_block.specs.Sent.{sending}
use Rattle.mar_block.specs.declared.recipients.Sent.{Sent as SentCode}
use Rattle.mar_inbox.specs.Views.{message_of, peers_of, sent_of}
use Rattle.mar_inbox.specs.declared.Message.{Message as MessageCode}
use Rattle.mar_model.specs.Answers.{Sent}
use Rattle.mar_model.specs.Messages.{Identifier, Message, Peers, certify, get_anchor, get_block, get_finalization, get_info, get_processed, get_verified, hint_finalized, prepared, proposed, report_certification, report_finalization, report_notarization, verified}
use Rattle.mar_model.specs.Faults.{StoreName, from_genesis}
use Rattle.mar_model.specs.Views.{store_name_of}
use Rattle.mar_model.specs.declared.StoreName.{StoreName as StoreNameCode}
use Rattle.mar_script.specs.Script.{ArePeers, Field, IsBuilt, IsBuiltMessage, IsField, IsPeers, Line, ack_line, as_block, as_count, as_finalization, as_identifier, as_key, as_letters, as_number, as_peers, as_recipients, as_store, buffer_line, comma_numbers, crash_line, drop_line, fail_line, field_text, hex, in_round, line_bytes, line_fields, message_fields, open_line, peers_text, sentence, sync_line, tell_line}
use Rattle.mar_script.specs.Words.{Yields}
use Rattle.mar_script.specs.declared.block_line.RoundBlock.{RoundBlock}
use Rattle.mar_script.specs.declared.hint_line.Hint.{Hint}
use Rattle.mar_script.specs.declared.line.Line.{Line as LineCode}
use Rattle.mar_script.specs.declared.line.Line.TheVariants as line
use Rattle.mar_script.specs.declared.words.ParseError.{ParseError}
use Rattle.mar_script.specs.declared.line.Kind.{Kind}
use Rattle.mar_script.specs.declared.line.Kind.TheVariants as kind
use Rattle.mar_script.specs.declared.line.TheConstants.{BEGINS, KINDS, STORES}
use Rattle.mar_script.specs.declared.message_line.MessageKind.{MessageKind}
use Rattle.mar_script.specs.declared.message_line.MessageKind.TheVariants as told

abbrev pub plain_block : EmptyBlock Sha256 Sha256Digest → Block
plain_block b =
    standard_block (λ e. sha256 (block_message e.parent.bytes e.height e.timestamp)) (λ e. e.height) (λ e. e.parent.bytes) (λ e. block_bytes e.parent.bytes e.height e.timestamp) b

abbrev pub plain_finalization : FinalizationCode Sha256Digest MockCertificate → Finalization
plain_finalization f = final_of (λ digest. digest.bytes) (λ c. certificate_bytes (plain_signers c)) f

-- a block that was sent
abbrev pub plain_sent : SentCode (EmptyBlock Sha256 Sha256Digest) → Sent
plain_sent s = sent_of (sending plain_block s)

-- a message of a script's node
abbrev pub plain_message : MessageCode Sha256Digest (EmptyBlock Sha256 Sha256Digest) (FinalizationCode Sha256Digest MockCertificate) (FinalizationCode Sha256Digest MockCertificate) → Message
plain_message m = message_of (λ digest. digest.bytes) plain_block plain_finalization plain_finalization m

abbrev pub plain_line : LineCode → Line
plain_line (line.OpenGenesis b) = open_line (from_genesis (plain_block b))
plain_line (line.Buffer b) = buffer_line (plain_block b)
plain_line (line.Tell m) = tell_line (plain_message m)
plain_line (line.Sync t) = sync_line t
plain_line (line.Ack t) = ack_line t
plain_line (line.Drop t) = drop_line t
plain_line (line.Fail store calls) = fail_line (store_name_of store) calls
plain_line (line.Crash luck) = crash_line luck

-- what words spell, one space between
abbrev pub fields_text : List Field → List ℕ
fields_text fields = sentence (map field_text fields)

-- their values are within their types, with n members
abbrev pub AreFields : ℕ → List Field → Type 0
AreFields n fields = AllByRecursion (IsField n) fields

-- These bytes and a line's end are a line that is read, with n members.
pub record Spells (n : ℕ) (bytes : List ℕ) (line : Line) : Type 0 where
  pub built : IsBuilt line
  pub values : AreFields n (line_fields line)
  pub spelled : bytes ++ 10 ∷ [] ≡ line_bytes line

-- THE FIRST WORD

-- no space in it
abbrev pub IsWord : List ℕ → Type 0
IsWord word = Contains word 32 → ⊥

-- what a table of words has for this one
abbrev pub named : {K : Type 0} → List (List ℕ × K) → List ℕ → Option K
named table word = option_map (λ row. row.1) (find (λ row. bytes_eq row.0 word) table)

-- the tables of the code
abbrev pub kinds : List (List ℕ × Kind)
kinds = map (λ row. (row.0.now, row.1)) KINDS

abbrev pub begins : List (List ℕ × ⊤)
begins = map (λ row. (row.0.now, row.1)) BEGINS

abbrev pub stores : List (List ℕ × StoreNameCode)
stores = map (λ row. (row.0.now, row.1)) STORES

-- what a table has for the first word of a line, with more behind it
pub record NamesFirst {K : Type 0} (table : List (List ℕ × K)) (line : List ℕ) (k : K) (rest : List ℕ) : Type 0 where
  pub word : List ℕ
  pub is_word : IsWord word
  pub names : named table word ≡ Some k
  pub split : line ≡ word ++ 32 ∷ rest

-- two words of a round, and what stands behind them
abbrev pub behind_round : Round → List ℕ → List ℕ
behind_round r rest = decimal r.epoch ++ 32 ∷ (decimal r.view ++ 32 ∷ rest)

-- a round and a block, as the code has them, and as words
abbrev pub round_block_of : RoundBlock → Round × Block
round_block_of v = (v.round, plain_block v.block)

abbrev pub IsRoundBlock : Round × Block → Type 0
IsRoundBlock v = IsRound v.0 × IsBlock v.1

abbrev pub round_block_text : Round × Block → List ℕ
round_block_text v = behind_round v.0 (hex v.1.encoded)

-- the same with the peers to which the block is to be sent
abbrev pub sent_block_of : SentCode (EmptyBlock Sha256 Sha256Digest) → Round × Peers × Block
sent_block_of s = (s.round, peers_of s.recipients, plain_block s.block)

abbrev pub IsSentBlock : Round × Peers × Block → Type 0
IsSentBlock v = IsRound v.0 × IsPeers v.1 × IsBlock v.2

abbrev pub sent_block_text : Round × Peers × Block → List ℕ
sent_block_text v = behind_round v.0 (peers_text v.1 ++ 32 ∷ hex v.2.encoded)

-- a hint: a height, and the peers that are said to hold its finalization
abbrev pub hint_of : Hint → ℕ × List ℕ
hint_of v = (v.height, v.targets)

abbrev pub IsHint : ℕ × List ℕ → Type 0
IsHint v = IsNumber v.0 × ArePeers v.1 × (1 ≤ length v.1)

abbrev pub hint_text : ℕ × List ℕ → List ℕ
hint_text v = decimal v.0 ++ 32 ∷ comma_numbers v.1

-- ROWS

-- neither a space nor a line's end is in it
abbrev pub is_inked : List ℕ → Bool
is_inked word = list_all (λ b. nat_lt 32 b) word

-- nor in its text, whatever its value within its type; keys are not read yet
abbrev pub is_ink : Field → Bool
is_ink (as_letters word) = is_inked word
is_ink (as_key key) = false
is_ink field = true

-- A row of the grammar: a first word, the words that stand behind it for a value, and what is made of that. What is made is
-- read, and spelled so.
pub record Row {T : Type 0} (fields_of : T → List Field) (IsRead : T → Type 0) : Type 1 where
  pub word : List ℕ
  pub Value : Type 0
  pub fields : Value → List Field
  pub text : (v : Value) → fields_text (as_letters word ∷ fields v) ≡ word ++ 32 ∷ fields_text (fields v)
  pub ink : (v : Value) → list_all is_ink (fields v) ≡ true
  pub make : Value → T
  pub read : (v : Value) → IsRead (make v)
  pub spelled : (v : Value) → fields_of (make v) ≡ as_letters word ∷ fields v

abbrev pub MessageRow : Type 1
MessageRow = Row message_fields IsBuiltMessage

abbrev pub LineRow : Type 1
LineRow = Row line_fields IsBuilt

-- THE SHAPES OF WORDS BEHIND THE FIRST

module _ {T : Type 0} {fields_of : T → List Field} {IsRead : T → Type 0} (word : List ℕ) where
  abbrev pub of_number : (make : ℕ → T) → ((n : ℕ) → IsRead (make n)) → ((n : ℕ) → fields_of (make n) ≡ as_letters word ∷ as_number n ∷ []) → Row fields_of IsRead
  of_number make read spelled = record { word = word; Value = ℕ; fields = λ n. as_number n ∷ []; text = λ n. refl; ink = λ n. refl; make = make; read = read; spelled = spelled }

  abbrev pub of_finalization : (make : Finalization → T) → ((f : Finalization) → IsRead (make f)) → ((f : Finalization) → fields_of (make f) ≡ as_letters word ∷ as_finalization f ∷ []) → Row fields_of IsRead
  of_finalization make read spelled = record { word = word; Value = Finalization; fields = λ f. as_finalization f ∷ []; text = λ f. refl; ink = λ f. refl; make = make; read = read; spelled = spelled }

  abbrev pub of_block : (make : Block → T) → ((b : Block) → IsRead (make b)) → ((b : Block) → fields_of (make b) ≡ as_letters word ∷ as_block b ∷ []) → Row fields_of IsRead
  of_block make read spelled = record { word = word; Value = Block; fields = λ b. as_block b ∷ []; text = λ b. refl; ink = λ b. refl; make = make; read = read; spelled = spelled }

  abbrev pub of_identifier : (make : Identifier → T) → ((id : Identifier) → IsRead (make id)) → ((id : Identifier) → fields_of (make id) ≡ as_letters word ∷ as_identifier id ∷ []) → Row fields_of IsRead
  of_identifier make read spelled = record { word = word; Value = Identifier; fields = λ id. as_identifier id ∷ []; text = λ id. refl; ink = λ id. refl; make = make; read = read; spelled = spelled }

  abbrev pub of_round : (make : Round → T) → ((r : Round) → IsRead (make r)) → ((r : Round) → fields_of (make r) ≡ as_letters word ∷ in_round r []) → Row fields_of IsRead
  of_round make read spelled = record { word = word; Value = Round; fields = λ r. in_round r []; text = λ r. refl; ink = λ r. refl; make = make; read = read; spelled = spelled }

  abbrev pub of_round_block : (make : Round → Block → T) → ((r : Round) (b : Block) → IsRead (make r b)) → ((r : Round) (b : Block) → fields_of (make r b) ≡ as_letters word ∷ in_round r (as_block b ∷ [])) → Row fields_of IsRead
  of_round_block make read spelled = record {
    word = word;
    Value = Round × Block;
    fields = λ v. in_round v.0 (as_block v.1 ∷ []);
    text = λ v. refl;
    ink = λ v. refl;
    make = λ v. make v.0 v.1;
    read = λ v. read v.0 v.1;
    spelled = λ v. spelled v.0 v.1;
  }

  abbrev pub of_sent_block : (make : Round → Peers → Block → T) → ((r : Round) (peers : Peers) (b : Block) → IsRead (make r peers b)) → ((r : Round) (peers : Peers) (b : Block) → fields_of (make r peers b) ≡ as_letters word ∷ in_round r (as_recipients peers ∷ as_block b ∷ [])) → Row fields_of IsRead
  of_sent_block make read spelled = record {
    word = word;
    Value = Round × Peers × Block;
    fields = λ v. in_round v.0 (as_recipients v.1 ∷ as_block v.2 ∷ []);
    text = λ v. refl;
    ink = λ v. refl;
    make = λ v. make v.0 v.1 v.2;
    read = λ v. read v.0 v.1 v.2;
    spelled = λ v. spelled v.0 v.1 v.2;
  }

-- THE GRAMMAR

-- the messages that are read, but for those of one word
abbrev pub message_row : MessageKind → MessageRow
message_row told.Final = of_finalization (codes "final") report_finalization (λ f. tt) (λ f. refl)
message_row told.Notar = of_finalization (codes "notar") report_notarization (λ f. tt) (λ f. refl)
message_row told.Certn = of_finalization (codes "certn") report_certification (λ f. tt) (λ f. refl)
message_row told.Info = of_identifier (codes "info") get_info (λ id. tt) (λ id. refl)
message_row told.Block = of_identifier (codes "block") get_block (λ id. tt) (λ id. refl)
message_row told.Finalization = of_number (codes "finalization") get_finalization (λ h. tt) (λ h. refl)
message_row told.GetVerified = of_round (codes "getverified") get_verified (λ r. tt) (λ r. refl)
message_row told.Verified = of_round_block (codes "verified") verified (λ r b. tt) (λ r b. refl)
message_row told.Certified = of_round_block (codes "certified") certify (λ r b. tt) (λ r b. refl)
message_row told.Proposed = of_sent_block (codes "proposed") proposed (λ r peers b. tt) (λ r peers b. refl)
message_row told.Prepared = of_sent_block (codes "prepared") prepared (λ r peers b. tt) (λ r peers b. refl)
message_row told.Hint = record {
  word = codes "hint";
  Value = ℕ × List ℕ;
  fields = λ v. as_number v.0 ∷ as_peers v.1 ∷ [];
  text = λ v. refl;
  ink = λ v. refl;
  make = λ v. hint_finalized v.0 v.1;
  read = λ v. tt;
  spelled = λ v. refl;
}

-- a message as a line
abbrev pub told_row : MessageRow → LineRow
told_row r = record { word = r.word; Value = r.Value; fields = r.fields; text = r.text; ink = r.ink; make = λ v. tell_line (r.make v); read = r.read; spelled = r.spelled }

-- the lines
abbrev pub row : Kind → LineRow
row kind.Open = record {
  word = codes "open";
  Value = Block;
  fields = λ b. as_letters (codes "genesis") ∷ as_block b ∷ [];
  text = λ b. refl;
  ink = λ b. refl;
  make = λ b. open_line (from_genesis b);
  read = λ b. tt;
  spelled = λ b. refl;
}
row kind.Buffer = of_block (codes "buffer") buffer_line (λ b. tt) (λ b. refl)
row (kind.Tell k) = told_row (message_row k)
row kind.Sync = of_number (codes "sync") sync_line (λ t. tt) (λ t. refl)
row kind.Ack = of_number (codes "ack") ack_line (λ t. tt) (λ t. refl)
row kind.Drop = of_number (codes "drop") drop_line (λ t. tt) (λ t. refl)
row kind.Fail = record {
  word = codes "fail";
  Value = StoreName × ℕ;
  fields = λ v. as_store v.0 ∷ as_count v.1 ∷ [];
  text = λ v. refl;
  ink = λ v. refl;
  make = λ v. fail_line v.0 v.1;
  read = λ v. tt;
  spelled = λ v. refl;
}
row kind.Crash = of_number (codes "crash") crash_line (λ luck. tt) (λ luck. refl)

-- This is made of a value that these bytes spell, with n members.
pub record MadeOf {T : Type 0} {fields_of : T → List Field} {IsRead : T → Type 0} (n : ℕ) (r : Row fields_of IsRead) (bytes : List ℕ) (made : T) : Type 0 where
  pub value : r.Value
  pub are : AreFields n (r.fields value)
  pub spelled : bytes ≡ fields_text (r.fields value)
  pub made_is : r.make value ≡ made

-- these bytes are a line of one word
abbrev pub IsLone : List ℕ → Line → Type 0
IsLone bytes (tell_line get_processed) = bytes ≡ codes "processed"
IsLone bytes (tell_line get_anchor) = bytes ≡ codes "anchor"
IsLone bytes line = ⊥

-- The answer is one of which this holds; where there is one, it is that or want of memory.
pub record Parses {C T : Type 0} (plain : C → T) (Is : T → Type 0) (result : Result C ParseError) : Type 0 where
  pub found : IfOk result (λ x. Is (plain x))
  pub only : (x : T) → Is x → Yields (λ found. plain found ≡ x) result

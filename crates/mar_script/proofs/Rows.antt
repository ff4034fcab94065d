-- The first word of a line that is read tells its row, and its row what stands behind that word.
use Rattle.std.proofs.Common.{Bool, Err, List, None, Ok, Result, Some, [], ap, arith, false, inl, inr, refl, subst, suc, sym, true, zero, ℕ, ◌&&◌, ◌++◌, ◌∙◌, ◌∷◌, ◌≡◌, ◌≤◌, ◌⊎◌}
use Rattle.std.specs.Bool.{⊤}
use Rattle.std.specs.List.{list_all}
use Rattle.std.specs.Prelude.{IfOk, IsOkAnd, MatchResult, codes, decimal, option_map}
use Rattle.std.proofs.lemmas.List.{append_cancel_right}
use Rattle.std.proofs.lemmas.Result.{IfOk-weaker}
use Rattle.mar_types.specs.Varint.{IsNumber}
use Rattle.mar_types.specs.declared.Sha256.{Sha256}
use Rattle.mar_types.specs.declared.Sha256Digest.{Sha256Digest}
use Rattle.mar_cert.specs.declared.Finalization.{Finalization as FinalizationCode}
use Rattle.mar_cert.specs.declared.MockCertificate.{MockCertificate}
use Rattle.mar_block.specs.declared.EmptyBlock.{EmptyBlock}
use Rattle.mar_inbox.specs.declared.Message.{Message as MessageCode}
use Rattle.mar_model.specs.Faults.{StoreName, block_store, cache_store, cert_store, from_genesis, meta_store}
use Rattle.mar_model.specs.Messages.{certify, get_anchor, get_block, get_finalization, get_info, get_processed, get_verified, hint_finalized, prepared, proposed, report_certification, report_finalization, report_notarization, verified}
use Rattle.mar_model.specs.Views.{store_name_of}
use Rattle.mar_model.specs.declared.StoreName.{StoreName as StoreNameCode}
use Rattle.mar_model.specs.declared.StoreName.TheVariants as code
use Rattle.mar_script.specs.Lines.{AreFields, IsLone, IsWord, MadeOf, NamesFirst, Parses, Row, Spells, begins, fields_text, is_ink, is_inked, kinds, message_row, named, plain_line, plain_message, row, stores}
use Rattle.mar_script.specs.Script.{Field, IsBuilt, Line, ack_line, buffer_line, crash_line, drop_line, fail_line, line_bytes, line_fields, open_line, store_name, sync_line, tell_line}
use Rattle.mar_script.specs.Words.{Yields}
use Rattle.mar_script.specs.declared.line.Line.{Line as LineCode}
use Rattle.mar_script.specs.declared.line.Line.TheVariants as line
use Rattle.mar_script.specs.declared.words.ParseError.{ParseError}
use Rattle.mar_script.specs.declared.words.ParseError.TheVariants.{Grammar}
use Rattle.mar_script.specs.declared.line.Kind.{Kind}
use Rattle.mar_script.specs.declared.line.Kind.TheVariants as kind
use Rattle.mar_script.specs.declared.message_line.MessageKind.{MessageKind}
use Rattle.mar_script.specs.declared.message_line.MessageKind.TheVariants as told
use Rattle.mar_script.proofs.FirstWords.{inked_word, is_table, no_sentence, one_split, row_inked, row_named}

-- EACH ROW

-- what a row of the table makes
record IsMade (made : Line) : Type 0 where
  kind : Kind
  names : named kinds (row kind).word ≡ Some kind
  value : (row kind).Value
  made_is : (row kind).make value ≡ made

by : (k : Kind) (v : (row k).Value) → named kinds (row k).word ≡ Some k → IsMade ((row k).make v)
by k v names = record { kind = k; names = names; value = v; made_is = refl }

-- each line that is read is of one word, or made by a row of the table
line_row : (bytes : List ℕ) (l : Line) → IsBuilt l → bytes ≡ fields_text (line_fields l) → IsMade l ⊎ IsLone bytes l
line_row bytes (open_line (from_genesis b)) built is = inl (by kind.Open b refl)
line_row bytes (buffer_line b) built is = inl (by kind.Buffer b refl)
line_row bytes (tell_line (report_finalization f)) built is = inl (by (kind.Tell told.Final) f refl)
line_row bytes (tell_line (report_notarization f)) built is = inl (by (kind.Tell told.Notar) f refl)
line_row bytes (tell_line (report_certification f)) built is = inl (by (kind.Tell told.Certn) f refl)
line_row bytes (tell_line (get_info id)) built is = inl (by (kind.Tell told.Info) id refl)
line_row bytes (tell_line (get_block id)) built is = inl (by (kind.Tell told.Block) id refl)
line_row bytes (tell_line (get_finalization h)) built is = inl (by (kind.Tell told.Finalization) h refl)
line_row bytes (tell_line get_processed) built is = inr is
line_row bytes (tell_line get_anchor) built is = inr is
line_row bytes (tell_line (get_verified r)) built is = inl (by (kind.Tell told.GetVerified) r refl)
line_row bytes (tell_line (verified r b)) built is = inl (by (kind.Tell told.Verified) (r, b) refl)
line_row bytes (tell_line (certify r b)) built is = inl (by (kind.Tell told.Certified) (r, b) refl)
line_row bytes (tell_line (proposed r peers b)) built is = inl (by (kind.Tell told.Proposed) (r, peers, b) refl)
line_row bytes (tell_line (prepared r peers b)) built is = inl (by (kind.Tell told.Prepared) (r, peers, b) refl)
line_row bytes (tell_line (hint_finalized h peers)) built is = inl (by (kind.Tell told.Hint) (h, peers) refl)
line_row bytes (sync_line t) built is = inl (by kind.Sync t refl)
line_row bytes (ack_line t) built is = inl (by kind.Ack t refl)
line_row bytes (drop_line t) built is = inl (by kind.Drop t refl)
line_row bytes (fail_line store k) built is = inl (by kind.Fail (store, k) refl)
line_row bytes (crash_line luck) built is = inl (by kind.Crash luck refl)
line_row bytes l built is = absurd built

kinds_table : is_table (λ k. (row k).word) kinds ≡ true
kinds_table = refl

-- BOTH WAYS, BY ANY ROW

spelling : (bytes : List ℕ) (l : Line) → bytes ++ 10 ∷ [] ≡ line_bytes l → bytes ≡ fields_text (line_fields l)
unfolding line_bytes
spelling bytes l is = append_cancel_right bytes (fields_text (line_fields l)) (10 ∷ []) is

spelled : (bytes : List ℕ) (l : Line) → bytes ≡ fields_text (line_fields l) → bytes ++ 10 ∷ [] ≡ line_bytes l
unfolding line_bytes
spelled bytes l is = ap (λ b. b ++ 10 ∷ []) is

row_text : (k : Kind) (v : (row k).Value) → fields_text (line_fields ((row k).make v)) ≡ (row k).word ++ 32 ∷ fields_text ((row k).fields v)
row_text k v = ap fields_text ((row k).spelled v) ∙ (row k).text v

row_spells : (n : ℕ) (bytes rest : List ℕ) (k : Kind) (l : Line) → NamesFirst kinds bytes k rest → MadeOf n (row k) rest l → Spells n bytes l
row_spells n bytes rest k l first of =
    let word = row_named (λ j. (row j).word) kinds first.word k kinds_table first.names in
    subst (Spells n bytes) of.made_is (record {
      built = (row k).read of.value;
      values = subst (AreFields n) (sym ((row k).spelled of.value)) (tt, of.are);
      spelled = spelled bytes ((row k).make of.value) (first.split ∙ ap (λ w. w ++ 32 ∷ rest) word.0 ∙ ap (λ r. (row k).word ++ 32 ∷ r) of.spelled ∙ sym (row_text k of.value));
    })

-- what a row makes is spelled with its word in front
made_of : (n : ℕ) (bytes : List ℕ) (k : Kind) (v : (row k).Value) → Spells n bytes ((row k).make v) → (bytes ≡ (row k).word ++ 32 ∷ fields_text ((row k).fields v)) × MadeOf n (row k) (fields_text ((row k).fields v)) ((row k).make v)
made_of n bytes k v s =
    let values = subst (AreFields n) ((row k).spelled v) s.values in
    (spelling bytes ((row k).make v) s.spelled ∙ row_text k v, record { value = v; are = values.1; spelled = refl; made_is = refl })

-- so a line is of the row that its first word names
of_row : (n : ℕ) (bytes rest : List ℕ) (k : Kind) (l : Line) → NamesFirst kinds bytes k rest → Spells n bytes l → IsMade l → MadeOf n (row k) rest l
of_row n bytes rest k l first s made =
    let of = made_of n bytes made.kind made.value (subst (Spells n bytes) (sym made.made_is) s) in
    let word = row_named (λ j. (row j).word) kinds (row made.kind).word made.kind kinds_table made.names in
    let split = one_split first.word (row made.kind).word rest (fields_text ((row made.kind).fields made.value)) first.is_word word.1 (sym first.split ∙ of.0) in
    let same : made.kind ≡ k = (let two : Some made.kind ≡ Some k = sym made.names ∙ ap (named kinds) (sym split.0) ∙ first.names in cc) in
    subst (λ (j : Kind). MadeOf n (row j) rest l) same (subst (MadeOf n (row made.kind) rest) made.made_is (subst (λ (r : List ℕ). MadeOf n (row made.kind) r ((row made.kind).make made.value)) (sym split.1) of.1))

-- and no other first word is a line's
no_row : (n : ℕ) (bytes : List ℕ) (l : Line) → ((k : Kind) (rest : List ℕ) → NamesFirst kinds bytes k rest → ⊥) → Spells n bytes l → IsMade l → ⊥
no_row n bytes l none s made =
    let of = made_of n bytes made.kind made.value (subst (Spells n bytes) (sym made.made_is) s) in
    let word = row_named (λ j. (row j).word) kinds (row made.kind).word made.kind kinds_table made.names in
    none made.kind (fields_text ((row made.kind).fields made.value)) (record { word = (row made.kind).word; is_word = word.1; names = made.names; split = of.0 })

-- a line of one word has no space
lone_word : (bytes : List ℕ) (l : Line) → IsLone bytes l → IsWord bytes
lone_word bytes (tell_line get_processed) is = subst IsWord (sym is) (inked_word (codes "processed") refl)
lone_word bytes (tell_line get_anchor) is = subst IsWord (sym is) (inked_word (codes "anchor") refl)
lone_word bytes l is = absurd is

lone_spells : (n : ℕ) (bytes : List ℕ) (l : Line) → IsLone bytes l → Spells n bytes l
lone_spells n bytes (tell_line get_processed) is = record { built = tt; values = (tt, tt); spelled = spelled bytes (tell_line get_processed) is }
lone_spells n bytes (tell_line get_anchor) is = record { built = tt; values = (tt, tt); spelled = spelled bytes (tell_line get_anchor) is }
lone_spells n bytes l is = absurd is

row_of : (n : ℕ) (bytes : List ℕ) (l : Line) → Spells n bytes l → IsMade l ⊎ IsLone bytes l
row_of n bytes l s = line_row bytes l s.built (spelling bytes l s.spelled)

row_ink : (k : Kind) (v : (row k).Value) → named kinds (row k).word ≡ Some k → list_all is_ink (line_fields ((row k).make v)) ≡ true
row_ink k v names = ap (list_all is_ink) ((row k).spelled v) ∙ and_both (is_inked (row k).word) (list_all is_ink ((row k).fields v)) (row_inked (λ j. (row j).word) kinds (row k).word k kinds_table names).1 ((row k).ink v)
  where
    and_both : (a b : Bool) → a ≡ true → b ≡ true → (a && b) ≡ true
    and_both true b p q = q
    and_both false b p q = absurd cc

-- a line that is read is all ink but for its spaces
pub line_ink : (l : Line) → IsBuilt l → list_all is_ink (line_fields l) ≡ true
line_ink l built = elim (line_row (fields_text (line_fields l)) l built refl) [
  | inl made ↦ subst (λ x. list_all is_ink (line_fields x) ≡ true) made.made_is (row_ink made.kind made.value made.names)
  | inr lone ↦ lone_ink (fields_text (line_fields l)) l lone
]
  where
    lone_ink : (bytes : List ℕ) (x : Line) → IsLone bytes x → list_all is_ink (line_fields x) ≡ true
    lone_ink bytes (tell_line get_processed) is = refl
    lone_ink bytes (tell_line get_anchor) is = refl
    lone_ink bytes x is = absurd is

-- LINES

pub parsed : (n : ℕ) (bytes rest : List ℕ) (k : Kind) (result : Result LineCode ParseError) → NamesFirst kinds bytes k rest → Parses plain_line (MadeOf n (row k) rest) result → Parses plain_line (Spells n bytes) result
parsed n bytes rest k result first p = record {
  found = IfOk-weaker result _ _ (λ l of. row_spells n bytes rest k (plain_line l) first of) p.found;
  only = λ l s. elim (row_of n bytes l s) [
    | inl made ↦ p.only l (of_row n bytes rest k l first s made)
    | inr lone ↦ absurd (no_sentence bytes first.word rest (lone_word bytes l lone) first.split)
  ];
}

pub parsed_lone : (n : ℕ) (bytes : List ℕ) (result : Result LineCode ParseError) → ((k : Kind) (rest : List ℕ) → NamesFirst kinds bytes k rest → ⊥) → Parses plain_line (IsLone bytes) result → Parses plain_line (Spells n bytes) result
parsed_lone n bytes result none p = record {
  found = IfOk-weaker result _ _ (λ l lone. lone_spells n bytes (plain_line l) lone) p.found;
  only = λ l s. elim (row_of n bytes l s) [
    | inl made ↦ absurd (no_row n bytes l none s made)
    | inr lone ↦ p.only l lone
  ];
}

-- WHAT STANDS BEHIND THE FIRST WORD

-- A value is read of these words, as a row has it.
pub record Reads {C V : Type 0} (n : ℕ) (fields : V → List Field) (words : List ℕ) (plain : C → V) (read : Result C ParseError) : Type 0 where
  pub found : IfOk read (λ x. AreFields n (fields (plain x)) × (words ≡ fields_text (fields (plain x))))
  pub only : (v : V) → AreFields n (fields v) → words ≡ fields_text (fields v) → Yields (λ x. plain x ≡ v) read

-- by the words that a reader of such values takes
pub reads : {C V : Type 0} {Is : V → Type 0} {n : ℕ} {fields : V → List Field} {words : List ℕ} {plain : C → V} {read : Result C ParseError} → ((v : V) → Is v → AreFields n (fields v)) → ((v : V) → AreFields n (fields v) → Is v)
    → IfOk read (λ x. Is (plain x)) → IfOk read (λ x. words ≡ fields_text (fields (plain x))) → ((v : V) → Is v → words ≡ fields_text (fields v) → Yields (λ x. plain x ≡ v) read) → Reads n fields words plain read
reads {read = Ok x} are is_of is found only = record { found = (are _ is, found); only = λ v fields same. only v (is_of v fields) same }
reads {read = Err e} are is_of is found only = record { found = tt; only = λ v fields same. only v (is_of v fields) same }

-- what is made of a value that is read
pub made_by : {C D T : Type 0} {fields_of : T → List Field} {IsRead : T → Type 0} {n : ℕ} {words : List ℕ} {plain : D → T} {read : Result C ParseError} {result : Result D ParseError} {Made : C → D → Type 0} (r : Row fields_of IsRead) (of : C → r.Value) → Reads n r.fields words of read
    → MatchResult read (λ x. IsOkAnd result (Made x)) (λ e. result ≡ Err e) → ((x : C) (y : D) → Made x y → plain y ≡ r.make (of x)) → Parses plain (MadeOf n r words) result
made_by {read = Ok x} {result = Ok y} r of p maps makes = record {
  found = record { value = of x; are = p.found.0; spelled = p.found.1; made_is = sym (makes x y maps) };
  only = λ z made. makes x y maps ∙ ap r.make (p.only made.value made.are made.spelled) ∙ made.made_is;
}
made_by {read = Ok x} {result = Err e} r of p maps makes = absurd maps
made_by {read = Err e} {result = Ok y} r of p maps makes = absurd (cc)
made_by {read = Err e} {result = Err d} r of p maps makes = record { found = tt; only = λ z made. let same : d ≡ e = cc in rw same (p.only made.value made.are made.spelled) }

-- a message is a line
abbrev ScriptMessage : Type 0
ScriptMessage = MessageCode Sha256Digest (EmptyBlock Sha256 Sha256Digest) (FinalizationCode Sha256Digest MockCertificate) (FinalizationCode Sha256Digest MockCertificate)

pub told_line : {n : ℕ} {words : List ℕ} (k : MessageKind) {read : Result ScriptMessage ParseError} {result : Result LineCode ParseError} {Made : ScriptMessage → LineCode → Type 0} → Parses plain_message (MadeOf n (message_row k) words) read → MatchResult read (λ m. IsOkAnd result (Made m)) (λ e. result ≡ Err e) → ((m : ScriptMessage) (l : LineCode) → Made m l → l ≡ line.Tell m) → Parses plain_line (MadeOf n (row (kind.Tell k)) words) result
told_line k {read = Ok m} {result = Ok l} p maps tells = record {
  found = record { value = p.found.value; are = p.found.are; spelled = p.found.spelled; made_is = ap tell_line p.found.made_is ∙ ap plain_line (sym (tells m l maps)) };
  only = λ z made. ap plain_line (tells m l maps) ∙ ap tell_line (p.only _ (record { value = made.value; are = made.are; spelled = made.spelled; made_is = refl })) ∙ made.made_is;
}
told_line k {read = Ok m} {result = Err e} p maps tells = absurd maps
told_line k {read = Err e} {result = Ok l} p maps tells = absurd (cc)
told_line k {read = Err e} {result = Err d} p maps tells = record { found = tt; only = λ z made. let same : d ≡ e = cc in rw same (p.only _ (record { value = made.value; are = made.are; spelled = made.spelled; made_is = refl })) }

pub refused : {C T : Type 0} {plain : C → T} {Is : T → Type 0} → ((x : T) → Is x → ⊥) → Parses plain Is (Err Grammar)
refused none = record { found = tt; only = none }

-- WHAT A LIFE IS OPENED FROM

begins_table : is_table (λ u. codes "genesis") begins ≡ true
begins_table = refl

-- the word `genesis` in front, and what stands behind it
pub genesis_first : (words rest : List ℕ) (u : ⊤) → NamesFirst begins words u rest → (words ≡ codes "genesis" ++ 32 ∷ rest) × ((more : List ℕ) → words ≡ codes "genesis" ++ 32 ∷ more → rest ≡ more)
genesis_first words rest u first =
    let word = row_named (λ u. codes "genesis") begins first.word u begins_table first.names in
    let split = first.split ∙ ap (λ w. w ++ 32 ∷ rest) word.0 in
    (split, λ more same. (one_split (codes "genesis") (codes "genesis") rest more (inked_word (codes "genesis") refl) (inked_word (codes "genesis") refl) (sym split ∙ same)).1)

pub first_genesis : (words rest : List ℕ) → words ≡ codes "genesis" ++ 32 ∷ rest → NamesFirst begins words tt rest
first_genesis words rest split = record { word = codes "genesis"; is_word = inked_word (codes "genesis") refl; names = refl; split = split }

-- STORES THAT FAIL

-- the names of stores
named_store : (s : StoreName) → (c : StoreNameCode) × (store_name_of c ≡ s) × (named stores (store_name s) ≡ Some c)
named_store block_store = (code.Blocks, refl, refl)
named_store cert_store = (code.Certs, refl, refl)
named_store meta_store = (code.Meta, refl, refl)
named_store cache_store = (code.Cache, refl, refl)

stores_table : is_table (λ c. store_name (store_name_of c)) stores ≡ true
stores_table = refl

-- the store and the number of a line that makes a store fail
pub record MakesFail (words : List ℕ) (l : Line) : Type 0 where
  pub store : StoreNameCode
  pub rest : List ℕ
  pub first : NamesFirst stores words store rest
  pub calls : ℕ
  pub some : 1 ≤ calls
  pub fits : IsNumber calls
  pub spelled : rest ≡ decimal calls
  pub made : fail_line (store_name_of store) calls ≡ l

pub makes_fail : (n : ℕ) (words : List ℕ) (l : Line) → MadeOf n (row kind.Fail) words l → MakesFail words l
makes_fail n words l of =
    let found = named_store of.value.0 in
    let word = row_named (λ c. store_name (store_name_of c)) stores (store_name of.value.0) found.0 stores_table found.2 in
    record {
      store = found.0;
      rest = decimal of.value.1;
      first = record { word = store_name of.value.0; is_word = word.1; names = found.2; split = of.spelled };
      calls = of.value.1;
      some = of.are.1.0.0;
      fits = of.are.1.0.1;
      spelled = refl;
      made = ap (λ s. fail_line s of.value.1) found.1 ∙ of.made_is;
    }

-- a first word is one of a table in one way
pub one_first : {K : Type 0} (table : List (List ℕ × K)) (words : List ℕ) (j k : K) (rest more : List ℕ) → NamesFirst table words j rest → NamesFirst table words k more → (j ≡ k) × (rest ≡ more)
one_first table words j k rest more first other =
    let split = one_split first.word other.word rest more first.is_word other.is_word (sym first.split ∙ other.split) in
    let two : Some j ≡ Some k = sym first.names ∙ ap (named table) split.0 ∙ other.names in
    (cc, split.1)

pub fails_with : (n : ℕ) (words rest : List ℕ) (c : StoreNameCode) (k : ℕ) → NamesFirst stores words c rest → 1 ≤ k → IsNumber k → rest ≡ decimal k → MadeOf n (row kind.Fail) words (fail_line (store_name_of c) k)
fails_with n words rest c k first some is spells =
    let word = row_named (λ c. store_name (store_name_of c)) stores first.word c stores_table first.names in
    record { value = (store_name_of c, k); are = (tt, ((some, is), tt)); spelled = first.split ∙ ap (λ w. w ++ 32 ∷ rest) word.0 ∙ ap (λ r. store_name (store_name_of c) ++ 32 ∷ r) spells; made_is = refl }

pub positive : (k : ℕ) → (k ≡ 0 → ⊥) → 1 ≤ k
positive zero apart = absurd (apart refl)
positive (suc k) apart = omega arith

-- Made lines are a script that is read whole, and one that is lawful for the made chain.
use Rattle.std.proofs.Common.{Contains, List, None, Option, Some, [], ap, arith, inl, inr, length, length-append, lit<, lit≤, refl, subst, suc, sym, zero, ℕ, ◌*◌, ◌++◌, ◌+◌, ◌<◌, ◌∙◌, ◌∷◌, ◌≡◌, ◌≤◌, ◌⊎◌}
use Rattle.std.specs.Fmt.{decimal}
use Rattle.std.specs.List.{AllByRecursion, filter_map, flat_map}
use Rattle.std.specs.Prelude.{codes}
use Rattle.std.proofs.lemmas.Fmt.{length-decimal-le}
use Rattle.std.proofs.lemmas.List.{append-nil}
use Rattle.std.proofs.lemmas.List.Elements.{Contains-append_cases}
use Rattle.hex.specs.Hex.{encode_lower, encode_with}
use Rattle.mar_types.specs.Varint.{IsNumber}
use Rattle.mar_types.specs.Fixed.{fixed_partition}
use Rattle.mar_cert.specs.Block.{Block}
use Rattle.mar_cert.specs.Finalization.{Finalization, finalization_bytes}
use Rattle.mar_model.specs.Cached.{Cached, cached_block}
use Rattle.mar_model.specs.Chain.{IsBlockAt}
use Rattle.mar_model.specs.Faults.{from_floor, from_genesis}
use Rattle.mar_model.specs.Lives.{IsGoodEnded}
use Rattle.mar_model.specs.Messages.{Message, report_finalization, set_floor}
use Rattle.mar_model.specs.Node.{Agrees, BlocksAgree, Ended, IsFinalized}
use Rattle.mar_store.proofs.Lookups.{AllByRecursion-contains}
use Rattle.mar_script.specs.Lines.{fields_text}
use Rattle.mar_script.specs.Plays.{IsSmallLine}
use Rattle.mar_script.specs.Refused.{max_lines}
use Rattle.mar_script.specs.Run.{Appears, EndsWith, HonestBytes, IsLawfulScript, IsLineBytes, Premises, ReadsLines, Status, StopsAt, line_blocks, messages_of}
use Rattle.mar_script.specs.Script.{IsLine, IsSettings, Line, ack_line, buffer_line, config_of, crash_line, hex, line_bytes, line_fields, open_line, script_bytes, sync_line, tell_line}
use Rattle.mar_gen.specs.Chain.{made_block, made_chain, made_finalization}
use Rattle.mar_gen.specs.Plan.{IsWithin}
use Rattle.mar_gen.specs.declared.Owed.TheVariants.{Ack, Sync}
use Rattle.mar_gen.specs.declared.Planned.TheVariants.{Buffer, Crash, Final, Open}
use Rattle.mar_gen.proofs.Lawful.{commitment_of, made_at, made_finalized, made_in, made_lawful}
use Rattle.mar_gen.proofs.Values.{block_is, block_short, finalization_is, finalization_short}
use Rattle.mar_script.proofs.SmallLines.{small_line}
use Rattle.mar_replay.specs.Gen.{HasOwnDigests, HasOwnCachedDigests, IsMadeLine, gen_settings}

-- LINES ARE SHORT

hex_short : (bytes : List ℕ) → length (encode_lower bytes) ≤ 2 * length bytes
unfolding encode_with
hex_short [] = omega arith
hex_short (b ∷ bytes) = omega (arith, hex_short bytes)

text_short : (bytes : List ℕ) → length (hex bytes) ≤ 2 * length bytes + 1
text_short [] = omega arith
text_short (b ∷ bytes) = omega (arith, hex_short (b ∷ bytes))

number_short : (n : ℕ) → IsNumber n → length (decimal n) ≤ 20
number_short n fits = length-decimal-le 20 n (omega arith) (omega (arith, fits)) fits

open_short : (b : Block) → length b.encoded ≤ 52 → length (line_bytes (open_line (from_genesis b))) ≤ 65_537
unfolding line_bytes
open_short b short = omega (arith, short, text_short b.encoded, length-append (fields_text (line_fields (open_line (from_genesis b)))) (10 ∷ []), length-append (codes "open") (32 ∷ (codes "genesis" ++ 32 ∷ hex b.encoded)), length-append (codes "genesis") (32 ∷ hex b.encoded))

buffer_short : (b : Block) → length b.encoded ≤ 52 → length (line_bytes (buffer_line b)) ≤ 65_537
unfolding line_bytes
buffer_short b short = omega (arith, short, text_short b.encoded, length-append (fields_text (line_fields (buffer_line b))) (10 ∷ []), length-append (codes "buffer") (32 ∷ hex b.encoded))

final_short : (f : Finalization) → length (finalization_bytes f) ≤ 1_000 → length (line_bytes (tell_line (report_finalization f))) ≤ 65_537
unfolding line_bytes
final_short f short = omega (arith, short, text_short (finalization_bytes f), length-append (fields_text (line_fields (tell_line (report_finalization f)))) (10 ∷ []), length-append (codes "final") (32 ∷ hex (finalization_bytes f)))

crash_short : (luck : ℕ) → IsNumber luck → length (line_bytes (crash_line luck)) ≤ 65_537
unfolding line_bytes
crash_short luck fits = omega (arith, number_short luck fits, length-append (fields_text (line_fields (crash_line luck))) (10 ∷ []), length-append (codes "crash") (32 ∷ decimal luck))

sync_short : (t : ℕ) → IsNumber t → length (line_bytes (sync_line t)) ≤ 65_537
unfolding line_bytes
sync_short t fits = omega (arith, number_short t fits, length-append (fields_text (line_fields (sync_line t))) (10 ∷ []), length-append (codes "sync") (32 ∷ decimal t))

ack_short : (t : ℕ) → IsNumber t → length (line_bytes (ack_line t)) ≤ 65_537
unfolding line_bytes
ack_short t fits = omega (arith, number_short t fits, length-append (fields_text (line_fields (ack_line t))) (10 ∷ []), length-append (codes "ack") (32 ∷ decimal t))

-- THEY ARE LINES

is_line : (seed n : ℕ) (l : Line) → IsNumber seed → n ≤ 10_000 → IsMadeLine seed n l → IsLine 4 l
is_line seed n l fits few (inl (Open, within, is)) = subst (IsLine 4) (sym is) (record { built = tt; values = (tt, (tt, (block_is seed 0 fits (omega arith), tt))); short = open_short (made_block seed 0) (block_short seed 0) })
is_line seed n l fits few (inl (Buffer h, within, is)) = subst (IsLine 4) (sym is) (record { built = tt; values = (tt, (block_is seed h fits (omega (arith, few, within.within)), tt)); short = buffer_short (made_block seed h) (block_short seed h) })
is_line seed n l fits few (inl (Final h, within, is)) =
    subst (IsLine 4) (sym is) (record { built = tt; values = (tt, (finalization_is seed h (omega (arith, few, within.within)), tt)); short = final_short (made_finalization seed h) (finalization_short seed h) })
is_line seed n l fits few (inl (Crash luck, within, is)) = subst (IsLine 4) (sym is) (record { built = tt; values = (tt, (within, tt)); short = crash_short luck within })
is_line seed n l fits few (inr (Sync t, ticket, is)) = subst (IsLine 4) (sym is) (record { built = tt; values = (tt, (ticket, tt)); short = sync_short t ticket })
is_line seed n l fits few (inr (Ack t, ticket, is)) = subst (IsLine 4) (sym is) (record { built = tt; values = (tt, (ticket, tt)); short = ack_short t ticket })

-- what a made line brings is small enough for a store
pub small_made : (seed n : ℕ) (l : Line) → IsNumber seed → n ≤ 10_000 → IsMadeLine seed n l → IsSmallLine l
small_made seed n l fits few ours = small_line 4 l (is_line seed n l fits few ours)

are_lines : (seed n : ℕ) (lines : List Line) → IsNumber seed → n ≤ 10_000 → AllByRecursion (IsMadeLine seed n) lines → AllByRecursion (IsLine 4) lines
are_lines seed n [] fits few ours = tt
are_lines seed n (l ∷ lines) fits few ours = (is_line seed n l fits few ours.0, are_lines seed n lines fits few ours.1)

pub settings_fit : IsSettings gen_settings
settings_fit = record {
  members = (lit≤ tt, lit≤ tt);
  epoch_length = (lit≤ tt, lit≤ tt);
  window = (lit≤ tt, lit≤ tt);
  max_repair = (lit≤ tt, lit≤ tt);
  retention = lit< tt;
  capacity = (lit≤ tt, lit≤ tt);
  last_epoch = lit< tt;
  epochs = lit≤ tt;
}

-- read whole, or as far as memory lasted
pub reads_made : (seed n : ℕ) (lines : List Line) (status : Status) → IsNumber seed → n ≤ 10_000 → AllByRecursion (IsMadeLine seed n) lines → length lines < max_lines → StopsAt (length lines + 2) (IsLineBytes 4) [] [] status → ReadsLines (Some gen_settings) lines [] status (script_bytes gen_settings lines) []
reads_made seed n lines status fits few ours short stops = (sym (append-nil (script_bytes gen_settings lines)), settings_fit, are_lines seed n lines fits few ours, short, stops)

-- THEY ARE LAWFUL

only : {T : Type 0} (x y : T) → Contains (x ∷ []) y → x ≡ y
only x y (zero, low, is) = is
only x y (suc k, low, is) = absurd (omega (arith, low))

none : {T : Type 0} (x : T) → Contains [] x → ⊥
none x (i, low, is) = omega (arith, low)

abbrev genesis_of : Line → Option Block
genesis_of (open_line (from_genesis b)) = Some b
genesis_of _ = None

abbrev floor_of : Line → Option Finalization
floor_of (open_line (from_floor f)) = Some f
floor_of _ = None

some_is : {T : Type 0} (x y : T) → ◌≡◌ {A = Option T} (Some x) (Some y) → x ≡ y
some_is x y is = cc

some_not : {T : Type 0} (x : T) → ◌≡◌ {A = Option T} None (Some x) → ⊥
some_not x is = cc

made_genesis : (seed n : ℕ) (l : Line) (b : Block) → IsMadeLine seed n l → genesis_of l ≡ Some b → IsBlockAt (made_chain seed n) 0 b
made_genesis seed n l b (inl (Open, within, is)) has = subst (IsBlockAt (made_chain seed n) 0) (some_is _ _ (sym (ap genesis_of is) ∙ has)) (made_at seed n 0 (omega arith))
made_genesis seed n l b (inl (Buffer h, within, is)) has = absurd (some_not b (sym (ap genesis_of is) ∙ has))
made_genesis seed n l b (inl (Final h, within, is)) has = absurd (some_not b (sym (ap genesis_of is) ∙ has))
made_genesis seed n l b (inl (Crash luck, within, is)) has = absurd (some_not b (sym (ap genesis_of is) ∙ has))
made_genesis seed n l b (inr (Sync t, ticket, is)) has = absurd (some_not b (sym (ap genesis_of is) ∙ has))
made_genesis seed n l b (inr (Ack t, ticket, is)) has = absurd (some_not b (sym (ap genesis_of is) ∙ has))

no_floor : (seed n : ℕ) (l : Line) (f : Finalization) → IsMadeLine seed n l → floor_of l ≡ Some f → ⊥
no_floor seed n l f (inl (Open, within, is)) has = some_not f (sym (ap floor_of is) ∙ has)
no_floor seed n l f (inl (Buffer h, within, is)) has = some_not f (sym (ap floor_of is) ∙ has)
no_floor seed n l f (inl (Final h, within, is)) has = some_not f (sym (ap floor_of is) ∙ has)
no_floor seed n l f (inl (Crash luck, within, is)) has = some_not f (sym (ap floor_of is) ∙ has)
no_floor seed n l f (inr (Sync t, ticket, is)) has = some_not f (sym (ap floor_of is) ∙ has)
no_floor seed n l f (inr (Ack t, ticket, is)) has = some_not f (sym (ap floor_of is) ∙ has)

-- the message of a made line finalizes one of the heights
IsMadeMessage : ℕ → ℕ → Message → Type 0
IsMadeMessage seed n m = (h : ℕ) × IsWithin n h × (report_finalization (made_finalization seed h) ≡ m)

message_of : (seed n : ℕ) (l : Line) (m : Message) → IsMadeLine seed n l → Contains (messages_of l) m → IsMadeMessage seed n m
unfolding IsMadeMessage
message_of seed n l m (inl (Open, within, is)) has = absurd (none m (subst (λ x. Contains (messages_of x) m) is has))
message_of seed n l m (inl (Buffer h, within, is)) has = absurd (none m (subst (λ x. Contains (messages_of x) m) is has))
message_of seed n l m (inl (Final h, within, is)) has = (h, within, only _ _ (subst (λ x. Contains (messages_of x) m) is has))
message_of seed n l m (inl (Crash luck, within, is)) has = absurd (none m (subst (λ x. Contains (messages_of x) m) is has))
message_of seed n l m (inr (Sync t, ticket, is)) has = absurd (none m (subst (λ x. Contains (messages_of x) m) is has))
message_of seed n l m (inr (Ack t, ticket, is)) has = absurd (none m (subst (λ x. Contains (messages_of x) m) is has))

-- a block of a made line is one of the made chain
IsMadeBlock : ℕ → ℕ → Block → Type 0
IsMadeBlock seed n b = (i : ℕ) × (i ≤ n) × (made_block seed i ≡ b)

block_of : (seed n : ℕ) (l : Line) (b : Block) → IsMadeLine seed n l → Contains (line_blocks l) b → IsMadeBlock seed n b
unfolding IsMadeBlock
block_of seed n l b (inl (Open, within, is)) has = (0, omega arith, only _ _ (subst (λ x. Contains (line_blocks x) b) is has))
block_of seed n l b (inl (Buffer h, within, is)) has = (h, within.within, only _ _ (subst (λ x. Contains (line_blocks x) b) is has))
block_of seed n l b (inl (Final h, within, is)) has = absurd (none b (subst (λ x. Contains (line_blocks x) b) is has))
block_of seed n l b (inl (Crash luck, within, is)) has = absurd (none b (subst (λ x. Contains (line_blocks x) b) is has))
block_of seed n l b (inr (Sync t, ticket, is)) has = absurd (none b (subst (λ x. Contains (line_blocks x) b) is has))
block_of seed n l b (inr (Ack t, ticket, is)) has = absurd (none b (subst (λ x. Contains (line_blocks x) b) is has))

no_peer : (seed n : ℕ) (l : Line) (b : Block) → IsMadeLine seed n l → EndsWith b l → ⊥
no_peer seed n l b (inl (Open, within, is)) has = subst (EndsWith b) is has
no_peer seed n l b (inl (Buffer h, within, is)) has = subst (EndsWith b) is has
no_peer seed n l b (inl (Final h, within, is)) has = subst (EndsWith b) is has
no_peer seed n l b (inl (Crash luck, within, is)) has = subst (EndsWith b) is has
no_peer seed n l b (inr (Sync t, ticket, is)) has = subst (EndsWith b) is has
no_peer seed n l b (inr (Ack t, ticket, is)) has = subst (EndsWith b) is has

honest : (seed n : ℕ) (l : Line) → IsMadeLine seed n l → HonestBytes (config_of gen_settings) (made_chain seed n) l
honest seed n l (inl (Open, within, is)) = subst (HonestBytes (config_of gen_settings) (made_chain seed n)) (sym is) tt
honest seed n l (inl (Buffer h, within, is)) = subst (HonestBytes (config_of gen_settings) (made_chain seed n)) (sym is) tt
honest seed n l (inl (Final h, within, is)) = subst (HonestBytes (config_of gen_settings) (made_chain seed n)) (sym is) tt
honest seed n l (inl (Crash luck, within, is)) = subst (HonestBytes (config_of gen_settings) (made_chain seed n)) (sym is) tt
honest seed n l (inr (Sync t, ticket, is)) = subst (HonestBytes (config_of gen_settings) (made_chain seed n)) (sym is) tt
honest seed n l (inr (Ack t, ticket, is)) = subst (HonestBytes (config_of gen_settings) (made_chain seed n)) (sym is) tt

-- what is of one of the lines
of_lines : {T : Type 0} (f : Line → List T) (Is : T → Type 0) (seed n : ℕ) (lines : List Line) (x : T) → ((l : Line) → IsMadeLine seed n l → Contains (f l) x → Is x) → AllByRecursion (IsMadeLine seed n) lines → Contains (flat_map f lines) x → Is x
of_lines f Is seed n [] x of_one ours has = absurd (none x has)
of_lines f Is seed n (l ∷ lines) x of_one ours has = by (of_lines f Is seed n lines x of_one ours.1) (Contains-append_cases (f l) (flat_map f lines) x has)
  where
    by : (Contains (flat_map f lines) x → Is x) → Contains (f l) x ⊎ Contains (flat_map f lines) x → Is x
    by more (inl here) = of_one l ours.0 here
    by more (inr there) = more there

module _ (seed n : ℕ) (lines : List Line) (ours : AllByRecursion (IsMadeLine seed n) lines) where
  made_message : (m : Message) → Contains (flat_map messages_of lines) m → IsMadeMessage seed n m
  made_message m has = of_lines messages_of (IsMadeMessage seed n) seed n lines m (λ l is there. message_of seed n l m is there) ours has

  made_line : (l : Line) → Contains lines l → IsMadeLine seed n l
  made_line l has = AllByRecursion-contains (IsMadeLine seed n) lines l ours has

  -- a block of the chain or of a line is one of the made chain
  appears : (cached : List Cached) (b : Block) → Appears (made_chain seed n) lines cached b → IsMadeBlock seed n b ⊎ Contains (filter_map cached_block cached) b
  unfolding IsMadeBlock
  appears cached b (inl of_chain) = inl (made_in seed n b of_chain)
  appears cached b (inr (inl of_line)) = inl (of_lines line_blocks (IsMadeBlock seed n) seed n lines b (λ l is there. block_of seed n l b is there) ours of_line)
  appears cached b (inr (inr (inl (i, l, low, is, ends)))) = absurd (no_peer seed n l b (made_line l (i, low, is)) ends)
  appears cached b (inr (inr (inr there))) = inr there

  reported : (f : Finalization) → IsMadeMessage seed n (report_finalization f) → IsFinalized (made_chain seed n) f.round f.payload
  unfolding IsMadeMessage
  reported f (h, within, is) = subst (λ g. IsFinalized (made_chain seed n) g.round g.payload) (inside _ _ is) (made_finalized seed n h within.above within.within)
    where
      inside : (a b : Finalization) → report_finalization a ≡ report_finalization b → a ≡ b
      inside a b e = cc

  no_set : (f : Finalization) → IsMadeMessage seed n (set_floor f) → ⊥
  unfolding IsMadeMessage
  no_set f (h, within, is) = clash _ is
    where
      clash : (a : Finalization) → report_finalization a ≡ set_floor f → ⊥
      clash a e = cc

  own_digest : (b : Block) → IsMadeBlock seed n b → b.commitment ≡ b.digest
  unfolding IsMadeBlock
  own_digest b (i, low, is) = subst (λ x. x.commitment ≡ x.digest) is (commitment_of seed i)

  same_block : HasOwnDigests seed n → (a b : Block) → IsMadeBlock seed n a → IsMadeBlock seed n b → a.digest ≡ b.digest → a ≡ b
  unfolding IsMadeBlock
  same_block apart a b (i, low, is) (j, high, also) same = sym is ∙ apart i j low high (ap (λ x. x.digest) is ∙ same ∙ ap (λ x. x.digest) (sym also)) ∙ also

  -- OVER STORES IN WHICH THIS MAY BE LEFT CACHED

  module _ (apart : HasOwnDigests seed n) (cached : List Cached) (own : HasOwnCachedDigests cached) (agree : BlocksAgree (made_chain seed n) cached) where
    abbrev IsKnown : Block → Type 0
    IsKnown b = IsMadeBlock seed n b ⊎ Contains (filter_map cached_block cached) b

    names_own : (b : Block) → IsKnown b → b.commitment ≡ b.digest
    names_own b (inl made) = own_digest b made
    names_own b (inr there) = own.names b there

    -- a cached block of a made one's digest has its commitment too, so that it is the chain's
    cached_made : (a b : Block) → Contains (filter_map cached_block cached) a → IsMadeBlock seed n b → a.digest ≡ b.digest → b ≡ a
    unfolding IsMadeBlock
    cached_made a b there (i, low, is) same =
        AllByRecursion-contains (Agrees (made_chain seed n)) (filter_map cached_block cached) a agree there i b (subst (IsBlockAt (made_chain seed n) i) is (made_at seed n i low))
        (own_digest b (i, low, is) ∙ (sym same ∙ sym (own.names a there)))

    one_known : (a b : Block) → IsKnown a → IsKnown b → a.digest ≡ b.digest → a ≡ b
    one_known a b (inl made) (inl also) same = same_block apart a b made also same
    one_known a b (inl made) (inr there) same = cached_made b a there made (sym same)
    one_known a b (inr there) (inl made) same = sym (cached_made a b there made same)
    one_known a b (inr here) (inr there) same = own.one a b here there same

    lawful_script : IsLawfulScript (config_of gen_settings) (made_chain seed n) lines cached
    lawful_script = record {
      genesis = λ b has. made_genesis seed n (open_line (from_genesis b)) b (made_line (open_line (from_genesis b)) has) refl;
      reported = λ f has. reported f (made_message (report_finalization f) has);
      floors = λ f has verifies. absurd (no_set f (made_message (set_floor f) has));
      first_floor = λ f has verifies. absurd (no_floor seed n (open_line (from_floor f)) f (made_line (open_line (from_floor f)) has) refl);
      peer_bytes = λ l has. honest seed n l (made_line l has);
      inner = λ b there. names_own b (appears cached b there);
      one_block = λ a b first second same. one_known a b (appears cached a first) (appears cached b second) same;
    }

  -- all that the headline asks of the lines and the chain, but for the digests
  pub premises_made : (before : Ended) → n ≤ 10_000 → HasOwnDigests seed n → HasOwnCachedDigests before.cache_may → IsGoodEnded (made_chain seed n) before → 0 < length before.meta → Premises (config_of gen_settings) (made_chain seed n) lines before
  premises_made before few apart own good some = record {
    partition = fixed_partition 10 (lit< tt) (lit< tt);
    lawful = made_lawful seed n few;
    script = lawful_script apart before.cache_may own good.may_cached_blocks;
    good = good;
    some_pair = some;
  }

-- The headline holds of the delivery run: of its very bytes, for every chain on which the script is lawful.
use Rattle.std.proofs.Common.{◌≡◌, ℕ, zero, suc, ◌≤◌, ◌<◌, ◌==◌, nat_lt, nat_le, Bool, true, false, ◌&&◌, ◌||◌, List, [], ◌∷◌, ◌++◌, Option, Some, None, option_map, slice_get, Contains, refl, sym, ◌∙◌, ap, subst, subst₂, append-nil, IsTrue, IsFalse, inl, inr, lit<, lit≤, arith, codes}
use Rattle.std.specs.List.{AllByRecursion, list_all, flat_map}
use Rattle.std.specs.List.Sorted.{IsStrictlyIncreasing}
use Rattle.std.specs.Fmt.{digits}
use Rattle.hex.specs.Hex.{encode_with}
use Rattle.sha2.specs.Sha256.{sha256, digest_bytes, hash_after, compress, rounds, schedule, first_words}
use Rattle.mar_types.specs.Round.{Round, round_lt}
use Rattle.mar_cert.specs.Block.{Block, IsBlock}
use Rattle.mar_cert.specs.Finalization.{finalize}
use Rattle.mar_key.specs.Cutoff.{at_round, covers, cutoff_zero}
use Rattle.mar_model.specs.Chain.{Chain, IsBlockAt, IsFinal, commitment_at}
use Rattle.mar_store.specs.Kept.{At}
use Rattle.mar_model.specs.Node.{FloorSafe}
use Rattle.mar_types.specs.Digest.{IsByte}
use Rattle.mar_cert.specs.MockScheme.{IsFinalization, Signer, read_signers, mock_verifies}
use Rattle.mar_types.specs.Varint.{varint_within, read_varint_within}
use Rattle.mar_script.specs.Script.{IsSettings, IsLine, settings_bytes, line_bytes}
use Rattle.mar_script.specs.Text.{running, text}
use Rattle.mar_script.specs.Run.{Premises, Appears, read_to_end, Replays, Headline, empty_stores, fresh_stores}
use Rattle.mar_model_tests.proofs.SmallDigests.{digest_0_is, digest_1_is}
use Rattle.mar_model_tests.proofs.SmallChain.{chain as small_chain, d1, b0, b1, r1, f1, tag_0, tag_1, tag_2, settings, config}
use Rattle.mar_model_tests.specs.Laws.{IsRunOf}
use Rattle.mar_model_tests.proofs.DeliveryRun.{delivery_run, delivery_text, n5, line, output}
use Rattle.mar_model.proofs.Soundness.{crash_is_good}
use Rattle.mar_model_tests.proofs.DeliverySteps.{good5, delivery_is_run}
use Rattle.mar_model_tests.proofs.PremisesMet.{delivery_lives, left, lines, premises}

-- THE SCRIPT'S VALUES

small_and : (b : ℕ) (p q : Bool) (P : Type 0) → nat_lt b 256 ≡ p → (q ≡ true → P) → (p && q) ≡ true → (b < 256) × P
small_and b true true P small others e = (small_is small, others refl)
  where
    small_is : nat_lt b 256 ≡ true → b < 256
    small_is g = grind arith
small_and b true false P small others e = absurd cc
small_and b false q P small others e = absurd cc

bytes_are : (xs : List ℕ) → list_all (λ b. nat_lt b 256) xs ≡ true → AllByRecursion IsByte xs
bytes_are [] e = tt
bytes_are (b ∷ xs) e = small_and b (nat_lt b 256) (list_all (λ c. nat_lt c 256) xs) (AllByRecursion IsByte xs) refl (bytes_are xs) e

is_block_0 : IsBlock b0
unfolding varint_within
is_block_0 = record {
  timestamp = 0;
  timestamp_fits = lit< tt;
  height_fits = lit< tt;
  parent_fits = (refl, bytes_are b0.parent refl);
  bytes = refl;
  digest_is = digest_0_is;
  commitment_is = refl;
  parent_commitment_is = refl;
}

is_block_1 : IsBlock b1
unfolding varint_within
is_block_1 = record {
  timestamp = 0;
  timestamp_fits = lit< tt;
  height_fits = lit< tt;
  parent_fits = (refl, bytes_are b1.parent refl);
  bytes = refl;
  digest_is = digest_1_is;
  commitment_is = refl;
  parent_commitment_is = refl;
}

signers : List Signer
signers = record { member = 0; tag = tag_0 } ∷ record { member = 1; tag = tag_1 } ∷ record { member = 2; tag = tag_2 } ∷ []

is_final_1 : IsFinalization 4 f1
unfolding varint_within signers
is_final_1 = record {
  round_fits = (lit< tt, lit< tt);
  parent_fits = lit< tt;
  payload_fits = (refl, bytes_are d1 refl);
  signers = signers;
  certificate_is = record {
    spelled = refl;
    ascending = ascends;
    below = (lit< tt, (lit< tt, (lit< tt, tt)));
    tags = ((refl, bytes_are tag_0 refl), ((refl, bytes_are tag_1 refl), ((refl, bytes_are tag_2 refl), tt)));
  };
}
  where
    ascends : IsStrictlyIncreasing (0 ∷ 1 ∷ 2 ∷ [])
    ascends zero lt = lit< tt
    ascends (suc zero) lt = lit< tt
    ascends (suc (suc k)) lt = absurd (omega arith)

-- its signatures are right
verifies : mock_verifies 4 finalize f1 ≡ true
unfolding read_varint_within read_signers varint_within sha256 digest_bytes hash_after compress rounds schedule first_words
verifies = refl

unfoldable pub input : List ℕ
input =
    line (codes "config 4 10 2 4 5 8 0 100")
    ++ line (codes "open genesis 00000000000000000000000000000000000000000000000000000000000000000000")
    ++ line (codes "buffer 17b0761f87b081d5cf10757ccc89f12be355c70e2e29df288b65b30710dcbcd10100")
    ++ line (codes "final 000100ce32c67642e5135e430855a082568f3b774ee1efc23b9f2d1bc13c3f65ce873a030079de65bafcae2f1e15f9c1f69d6b12f47d809758ee0d43d8450694c3945c83d6011e903bade6550d2adf3cd78bed996c897aa4b77e86edc3970b60a55b0c40d08e02ca73cf9411c92583c370223e2b7ac7057728cd2f958e028efddfd5ed9da478f6")
    ++ line (codes "sync 0") ++ line (codes "ack 0") ++ line (codes "ack 1")

input_is : input ≡ settings_bytes settings ++ flat_map line_bytes lines ++ []
unfolding input line settings_bytes line_bytes digits encode_with varint_within
input_is = refl

are_settings : IsSettings settings
are_settings = record { members = (lit≤ tt, lit≤ tt); epoch_length = (lit≤ tt, lit≤ tt); window = (lit≤ tt, lit≤ tt); max_repair = (lit≤ tt, lit≤ tt); retention = lit< tt; capacity = (lit≤ tt, lit≤ tt); last_epoch = lit< tt; epochs = lit≤ tt }

are_lines : AllByRecursion (IsLine 4) lines
unfolding line_bytes digits encode_with varint_within
are_lines = (
  record { built = tt; values = (tt, (tt, (is_block_0, tt))); short = lit≤ tt },
  (
    record { built = tt; values = (tt, (is_block_1, tt)); short = lit≤ tt },
    (
      record { built = tt; values = (tt, (is_final_1, tt)); short = lit≤ tt },
      (
        record { built = tt; values = (tt, (lit< tt, tt)); short = lit≤ tt },
        (
          record { built = tt; values = (tt, (lit< tt, tt)); short = lit≤ tt },
          (record { built = tt; values = (tt, (lit< tt, tt)); short = lit≤ tt }, tt),
        ),
      ),
    ),
  ),
)

-- EVERY CHAIN

found : {T U : Type 0} (f : T → U) (o : Option T) (u : U) → option_map f o ≡ Some u → (t : T) × (o ≡ Some t) × (f t ≡ u)
found f None u e = absurd cc
found f (Some t) u e = (t, refl, same (f t) u e)
  where
    same : {A : Type 0} (x y : A) → ◌≡◌ {A = Option A} (Some x) (Some y) → x ≡ y
    same x y p = cc

stands_in : {T : Type 0} (xs : List T) (i : ℕ) (x : T) → slice_get xs i ≡ Some x → Contains xs x
stands_in [] i x e = absurd cc
stands_in (y ∷ xs) zero x e = (0, omega arith, same y x e)
  where
    same : {A : Type 0} (a b : A) → ◌≡◌ {A = Option A} (Some a) (Some b) → a ≡ b
    same a b p = cc
stands_in (y ∷ xs) (suc i) x e = let (k, lt, is) = stands_in xs i x e in (suc k, omega arith, is)

module _ (chain : Chain) (p : Premises config chain lines empty_stores) where
  at0 : IsBlockAt chain 0 b0
  at0 = p.script.genesis b0 (0, lit< tt, refl)

  -- block 1 of the script is the chain's
  with_subscription : (h : ℕ) → IsFinal chain r1 h → commitment_at chain h ≡ Some d1 → IsBlockAt chain 1 b1 × IsFinal chain r1 1
  with_subscription h named is = by (found (λ b. b.commitment) (slice_get chain.blocks h) d1 is)
    where
      by : ((c : Block) × (slice_get chain.blocks h ≡ Some c) × (c.commitment ≡ d1)) → IsBlockAt chain 1 b1 × IsFinal chain r1 1
      by (c, there, commits) =
          let appears : Appears chain lines [] c = inl (stands_in chain.blocks h c there) in
          let digest : c.digest ≡ d1 = sym (p.script.inner c appears) ∙ commits in
          let same : c ≡ b1 = p.script.one_block c b1 appears (inr (inl (1, lit< tt, refl))) digest in
          let height : 1 ≡ h = sym (ap (λ b. b.height) same) ∙ p.lawful.heights h c there in
          (subst (λ k. IsBlockAt chain k b1) (sym height) (there ∙ ap Some same), subst (λ k. IsFinal chain r1 k) (sym height) named)

  reported : IsBlockAt chain 1 b1 × IsFinal chain r1 1
  reported = let (h, f) = p.script.reported f1 (0, lit< tt, refl) in with_subscription h f.named f.payload_is

  zero_safe : (r : Round) (h : ℕ) → IsFinal chain r h → IsFalse (covers cutoff_zero r)
  zero_safe r h named = let seen : 1 ≤ r.view = p.lawful.views r h named in none_below r.epoch r.view seen
    where
      none_below : (e v : ℕ) → 1 ≤ v → (nat_lt e 0 || (e == 0 && nat_le v 0)) ≡ false
      none_below e v seen = grind arith

  safe_at_zero : (sure : List (At Block)) → FloorSafe (Some 0) cutoff_zero sure chain
  safe_at_zero sure r h named covered = absurd (uncovered (zero_safe r h named) covered)
    where
      uncovered : IsFalse (covers cutoff_zero r) → IsTrue (covers cutoff_zero r) → ⊥
      uncovered off on = cc

  safe_at_one : (sure : List (At Block)) → FloorSafe (Some 1) (at_round r1) sure chain
  safe_at_one sure r h named covered = inl (by (round_lt r r1) refl)
    where
      seen : 1 ≤ r.view
      seen = p.lawful.views r h named

      low : (e v : ℕ) → 1 ≤ v → (nat_lt e 0 || (e == 0 && nat_le v 1)) ≡ true → (e ≡ 0) × (v ≡ 1)
      low e v some on = (grind arith, grind arith)

      at_one : (e v : ℕ) → e ≡ 0 → v ≡ 1 → ◌≡◌ {A = Round} (record { epoch = e; view = v }) r1
      at_one e v a b = subst (λ x. ◌≡◌ {A = Round} (record { epoch = x; view = v }) r1) (sym a) (subst (λ x. ◌≡◌ {A = Round} (record { epoch = 0; view = x }) r1) (sym b) refl)

      by : (b : Bool) → round_lt r r1 ≡ b → h ≤ 1
      by true older = p.lawful.no_lower r r1 h 1 named reported.1 older
      by false older =
          let same : r ≡ r1 = at_one r.epoch r.view (low r.epoch r.view seen covered).0 (low r.epoch r.view seen covered).1 in
          let height : h ≡ 1 = p.lawful.one_height r1 h 1 (subst (λ s. IsFinal chain s h) same named) reported.1 in
          omega arith

  replays : Replays config chain lines (text empty_stores delivery_run) read_to_end fresh_stores left
  replays = record {
    run = delivery_run;
    lines_done = refl;
    last = running n5;
    lives = delivery_is_run chain at0 reported.0 reported.1 zero_safe safe_at_zero safe_at_one;
    output = refl;
    hands_back = (λ h. refl, λ h. refl, refl, λ h held. held, λ h held. held);
    good = crash_is_good config chain n5 (good5 chain at0 reported.0 reported.1 zero_safe safe_at_zero safe_at_one);
    watches_are = refl;
    some_pair = lit< tt;
    memory = (λ m. cc, (λ m. cc, (λ m. cc, (λ m. cc, (λ m. cc, λ m. absurd cc)))));
    excused = (tt, (tt, (tt, (tt, (tt, (tt, tt))))));
    complete = λ quiet smooth. (inl refl, (inl refl, (inl refl, (inl refl, (inl refl, (inl refl, tt))))));
  }

-- the script read, the output written, the answer given
pub headline : Headline input [] (text empty_stores delivery_run) read_to_end fresh_stores left
headline = record {
  settings = Some settings;
  lines = lines;
  rest = [];
  told = ((input_is, are_settings, are_lines, lit< tt, (lit< tt, refl, refl)), λ chain p. replays chain p);
}

-- the law of it, for bytes that are these
pub delivery_is : (script out : List ℕ) → script ≡ input → out ≡ output → IsRunOf script out
delivery_is script out is_input is_output = record {
  settings = settings;
  lines = lines;
  spelled = is_input ∙ input_is ∙ append-nil (settings_bytes settings ++ flat_map line_bytes lines);
  chain = small_chain;
  premises = premises;
  run = delivery_run;
  last = running n5;
  lines_done = refl;
  lives = delivery_lives;
  text_is = is_output ∙ sym delivery_text;
  after = left;
  headline = subst₂ (λ x y. Headline x [] y read_to_end fresh_stores left) (sym is_input) (delivery_text ∙ sym is_output) headline;
}

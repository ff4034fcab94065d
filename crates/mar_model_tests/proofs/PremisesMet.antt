-- The premises can be met: the small chain and the delivery script are lawful.
use Rattle.std.proofs.Common.{◌≡◌, ℕ, zero, suc, ◌+◌, ◌≤◌, List, [], ◌∷◌, Option, Some, None, refl, sym, ◌∙◌, ap, subst, arith, lit<, lit≤, Contains, Any, map, inl, inr, ◌⊎◌, add-one}
use Rattle.mar_cert.specs.Block.{Block}
use Rattle.mar_cert.specs.Finalization.{Finalization}
use Rattle.mar_types.specs.Epochs.{containing}
use Rattle.mar_types.specs.Fixed.{fixed_partition}
use Rattle.mar_model.specs.Chain.{IsLawful, IsBlockAt}
use Rattle.mar_model_tests.proofs.EmptyStores.{empty_is_good}
use Rattle.mar_script.specs.Accounts.{fresh_watches}
use Rattle.mar_script.specs.Run.{Run, IsLawfulScript, Premises, Appears, EndsWith, HonestBytes, read_to_end, Replays, empty_stores, fresh_stores}
use Rattle.mar_script.specs.Text.{running, stopped, text}
use Rattle.mar_model.specs.Held.{Remains}
use Rattle.mar_model.specs.Node.{IsFinalized, left_by}
use Rattle.mar_model.specs.Faults.{from_genesis, from_floor}
use Rattle.mar_model.specs.Messages.{report_finalization, set_floor}
use Rattle.mar_script.specs.Script.{Line, open_line}
use Rattle.mar_model_tests.proofs.SmallChain.{chain, config, b0, b1, f1}
use Rattle.mar_model_tests.proofs.DeliveryRun.{delivery_run, fresh, n5}
use Rattle.mar_model.proofs.Soundness.{crash_is_good}
use Rattle.mar_model_tests.proofs.DeliverySteps.{good5, delivery_is_run}
use Rattle.mar_model_tests.proofs.SmallCutoffs.{zero_safe, safe_at_zero, safe_at_one}
use Rattle.mar_model_tests.proofs.SmallFacts.{only, final_round, final_height}

-- A LAWFUL CHAIN

height_of_two : (i : ℕ) (b : Block) → IsBlockAt chain i b → b.height ≡ i
height_of_two zero b e = sym (ap height (some_is _ _ e))
  where
    height : Block → ℕ
    height c = c.height

    some_is : (x y : Block) → ◌≡◌ {A = Option Block} (Some x) (Some y) → x ≡ y
    some_is x y p = cc
height_of_two (suc zero) b e = sym (ap height (some_is _ _ e))
  where
    height : Block → ℕ
    height c = c.height

    some_is : (x y : Block) → ◌≡◌ {A = Option Block} (Some x) (Some y) → x ≡ y
    some_is x y p = cc
height_of_two (suc (suc i)) b e = absurd cc

parents_of_two : (i : ℕ) (a b : Block) → IsBlockAt chain i a → IsBlockAt chain (suc i) b → (b.parent ≡ a.digest) × (b.parent_commitment ≡ a.commitment)
parents_of_two zero a b p q = (sym (ap (λ c. c.parent) (same b1 b q)) ∙ ap (λ c. c.digest) (same b0 a p), sym (ap (λ c. c.parent_commitment) (same b1 b q)) ∙ ap (λ c. c.commitment) (same b0 a p))
  where
    same : (x y : Block) → ◌≡◌ {A = Option Block} (Some x) (Some y) → x ≡ y
    same x y e = cc
parents_of_two (suc i) a b p q = absurd cc

next : (i : ℕ) (b : Block) → IsBlockAt chain (i + 1) b → IsBlockAt chain (suc i) b
next i b e = rw add-one at e

pub lawful : IsLawful config.epochs chain
lawful = record {
  heights = height_of_two;
  parents = λ i a b p q. (parents_of_two i a b p (next i b q)).0;
  parent_commitments = λ i a b p q. (parents_of_two i a b p (next i b q)).1;
  bounded = lit< tt;
  one_height = λ r h k p q. sym (final_height r h p) ∙ final_height r k q;
  no_lower = λ r s h k p q later. let a : 1 ≡ h = final_height r h p in let b : 1 ≡ k = final_height s k q in omega arith;
  above_zero = λ r h p. let a : 1 ≡ h = final_height r h p in omega arith;
  in_list = λ r h p. let a : 1 ≡ h = final_height r h p in omega arith;
  views = λ r h p. subst (λ s. 1 ≤ s.view) (final_round r h p) (lit≤ tt);
  own_epoch = λ r h p. subst (λ k. containing config.epochs k ≡ Some r.epoch) (final_height r h p) (ap (λ s. Some s.epoch) (final_round r h p));
}

-- THE DELIVERY SCRIPT IS LAWFUL

abbrev pub lines : List Line
lines = map (λ d. d.line) delivery_run

one_of_two : (x : Block) → Contains (b0 ∷ b1 ∷ []) x → (b0 ≡ x) ⊎ (b1 ≡ x)
one_of_two x (zero, lt, e) = inl e
one_of_two x (suc zero, lt, e) = inr e
one_of_two x (suc (suc k), lt, e) = absurd (omega arith)

no_peers : (b : Block) → Any (EndsWith b) lines → ⊥
no_peers b (zero, line, lt, e, ends) = (subst (λ l. EndsWith b l) (sym e) ends)
no_peers b (suc zero, line, lt, e, ends) = (subst (λ l. EndsWith b l) (sym e) ends)
no_peers b (suc (suc zero), line, lt, e, ends) = (subst (λ l. EndsWith b l) (sym e) ends)
no_peers b (suc (suc (suc zero)), line, lt, e, ends) = (subst (λ l. EndsWith b l) (sym e) ends)
no_peers b (suc (suc (suc (suc zero))), line, lt, e, ends) = (subst (λ l. EndsWith b l) (sym e) ends)
no_peers b (suc (suc (suc (suc (suc zero)))), line, lt, e, ends) = (subst (λ l. EndsWith b l) (sym e) ends)
no_peers b (suc (suc (suc (suc (suc (suc k))))), line, lt, e, ends) = omega arith

appears : (x : Block) → Appears chain lines [] x → (b0 ≡ x) ⊎ (b1 ≡ x)
appears x (inl there) = one_of_two x there
appears x (inr (inl there)) = one_of_two x there
appears x (inr (inr (inl there))) = absurd (no_peers x there)
appears x (inr (inr (inr (k, lt, is)))) = absurd (omega arith)

first_byte : List ℕ → ℕ
first_byte [] = 0
first_byte (b ∷ bytes) = b

two_digests : b0.digest ≡ b1.digest → ⊥
unfolding first_byte
two_digests e = bytes (ap first_byte e)
  where
    bytes : ◌≡◌ {A = ℕ} 23 206 → ⊥
    bytes p = omega arith

same_block : (x y : Block) → (b0 ≡ x) ⊎ (b1 ≡ x) → (b0 ≡ y) ⊎ (b1 ≡ y) → x.digest ≡ y.digest → x ≡ y
same_block x y (inl p) (inl q) e = sym p ∙ q
same_block x y (inr p) (inr q) e = sym p ∙ q
same_block x y (inl p) (inr q) e = absurd (two_digests (ap (λ c. c.digest) p ∙ e ∙ sym (ap (λ c. c.digest) q)))
same_block x y (inr p) (inl q) e = absurd (two_digests (ap (λ c. c.digest) q ∙ sym e ∙ sym (ap (λ c. c.digest) p)))

abbrev genesis_of : Line → Option Block
genesis_of (open_line (from_genesis b)) = Some b
genesis_of _ = None

abbrev floor_line : Line → Option Finalization
floor_line (open_line (from_floor f)) = Some f
floor_line _ = None

first_line : (line : Line) → Contains lines line → (genesis_of line ≡ None) ⊎ (genesis_of line ≡ Some b0)
first_line line (zero, lt, e) = inr (sym (ap genesis_of e))
first_line line (suc zero, lt, e) = inl (sym (ap genesis_of e))
first_line line (suc (suc zero), lt, e) = inl (sym (ap genesis_of e))
first_line line (suc (suc (suc zero)), lt, e) = inl (sym (ap genesis_of e))
first_line line (suc (suc (suc (suc zero))), lt, e) = inl (sym (ap genesis_of e))
first_line line (suc (suc (suc (suc (suc zero)))), lt, e) = inl (sym (ap genesis_of e))
first_line line (suc (suc (suc (suc (suc (suc k))))), lt, e) = absurd (omega arith)

is_genesis : (b : Block) → (Some b ≡ None) ⊎ (Some b ≡ Some b0) → IsBlockAt chain 0 b
is_genesis b (inl no_) = absurd cc
is_genesis b (inr is) = sym is

no_floor_line : (f : Finalization) (line : Line) → Contains lines line → line ≡ open_line (from_floor f) → ⊥
no_floor_line f line there is = clash (floor_in line there) (ap floor_line is)
  where
    clash : floor_line line ≡ None → floor_line line ≡ Some f → ⊥
    clash p q = cc

    floor_in : (l : Line) → Contains lines l → floor_line l ≡ None
    floor_in l (zero, lt, e) = sym (ap floor_line e)
    floor_in l (suc zero, lt, e) = sym (ap floor_line e)
    floor_in l (suc (suc zero), lt, e) = sym (ap floor_line e)
    floor_in l (suc (suc (suc zero)), lt, e) = sym (ap floor_line e)
    floor_in l (suc (suc (suc (suc zero))), lt, e) = sym (ap floor_line e)
    floor_in l (suc (suc (suc (suc (suc zero)))), lt, e) = sym (ap floor_line e)
    floor_in l (suc (suc (suc (suc (suc (suc k))))), lt, e) = absurd (omega arith)

honest : (line : Line) → Contains lines line → HonestBytes config chain line
honest line (zero, lt, e) = subst (λ l. HonestBytes config chain l) e tt
honest line (suc zero, lt, e) = subst (λ l. HonestBytes config chain l) e tt
honest line (suc (suc zero), lt, e) = subst (λ l. HonestBytes config chain l) e tt
honest line (suc (suc (suc zero)), lt, e) = subst (λ l. HonestBytes config chain l) e tt
honest line (suc (suc (suc (suc zero))), lt, e) = subst (λ l. HonestBytes config chain l) e tt
honest line (suc (suc (suc (suc (suc zero)))), lt, e) = subst (λ l. HonestBytes config chain l) e tt
honest line (suc (suc (suc (suc (suc (suc k))))), lt, e) = absurd (omega arith)

inner_of : (x : Block) → (b0 ≡ x) ⊎ (b1 ≡ x) → x.commitment ≡ x.digest
inner_of x (inl p) = subst (λ c. c.commitment ≡ c.digest) p refl
inner_of x (inr p) = subst (λ c. c.commitment ≡ c.digest) p refl

pub lawful_script : IsLawfulScript config chain lines []
lawful_script = record {
  genesis = λ b there. is_genesis b (first_line (open_line (from_genesis b)) there);
  reported = λ f there. let e : report_finalization f1 ≡ report_finalization f = only _ _ there in subst (λ g. IsFinalized chain g.round g.payload) (reported_f f e) (1, record { named = (0, lit< tt, refl); payload_is = refl });
  floors = λ f there verifies. absurd (not_floor f (only _ _ there));
  first_floor = λ f there verifies. absurd (no_floor_line f (open_line (from_floor f)) there refl);
  peer_bytes = honest;
  inner = λ x p. inner_of x (appears x p);
  one_block = λ x y p q e. same_block x y (appears x p) (appears y q) e;
}
  where
    reported_f : (f : Finalization) → report_finalization f1 ≡ report_finalization f → f1 ≡ f
    reported_f f e = cc

    not_floor : (f : Finalization) → report_finalization f1 ≡ set_floor f → ⊥
    not_floor f e = cc

pub premises : Premises config chain lines empty_stores
premises = record { partition = fixed_partition 10 (lit< tt) (lit< tt); lawful = lawful; script = lawful_script; good = empty_is_good config chain lawful; some_pair = lit< tt }

-- THE HEADLINE'S CLAUSE HOLDS OF THE DELIVERY RUN

-- the stores that are handed back
abbrev pub left : Remains
left = record { ended = left_by n5; watches = fresh_watches }

pub delivery_lives : Run config chain fresh (stopped empty_stores) delivery_run (running n5)
delivery_lives = delivery_is_run chain refl refl (0, lit< tt, refl) zero_safe safe_at_zero safe_at_one

pub delivery_replays : Replays config chain lines (text empty_stores delivery_run) read_to_end fresh_stores left
delivery_replays = record {
  run = delivery_run;
  lines_done = refl;
  last = running n5;
  lives = delivery_lives;
  output = refl;
  hands_back = (λ h. refl, λ h. refl, refl, λ h held. held, λ h held. held);
  good = crash_is_good config chain n5 (good5 chain refl refl (0, lit< tt, refl) zero_safe safe_at_zero safe_at_one);
  watches_are = refl;
  some_pair = lit< tt;
  memory = (λ m. cc, (λ m. cc, (λ m. cc, (λ m. cc, (λ m. cc, λ m. absurd cc)))));
  excused = (tt, (tt, (tt, (tt, (tt, (tt, tt))))));
  complete = λ quiet smooth. (inl refl, (inl refl, (inl refl, (inl refl, (inl refl, (inl refl, tt))))));
}

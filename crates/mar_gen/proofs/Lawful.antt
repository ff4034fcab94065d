-- The chain that a seed makes is lawful, and the order is one of its heights.
use Rattle.std.proofs.Common.{Bool, Contains, IsTrue, None, Some, [], add-one, ap, arith, false, get_or, if◌then◌else◌, inl, inr, length, length-append, lit<, nat_le, refl, subst, suc, sym, true, zero, ℕ, ◌%◌, ◌*◌, ◌++◌, ◌+◌, ◌-◌, ◌/◌, ◌<◌, ◌^◌, ◌∙◌, ◌∷◌, ◌≡◌, ◌≤◌, ◌⊎◌}
use Rattle.std.proofs.lemmas.List.{get_or_append_left}
use Rattle.std.proofs.lemmas.List.Elements.{Contains-append_cases, Contains-append_left, Contains-append_right}
use Rattle.std.proofs.lemmas.Option.{get_or_from_slice_get, slice_get-get_or, slice_get_within}
use Rattle.std.specs.Prelude.{option_map}
use Rattle.std.proofs.Math.Seq.{get_or-append_seam}
use Rattle.mar_types.specs.Epochs.{containing, fixed_epochs}
use Rattle.mar_types.specs.Round.{round_lt}
use Rattle.mar_types.proofs.Partitions.{fixed_found}
use Rattle.mar_types.specs.Fixed.{exists}
use Rattle.mar_cert.specs.Block.{Block}
use Rattle.mar_model.specs.Chain.{Final, IsBlockAt, IsLawful}
use Rattle.mar_model.specs.Node.{IsFinalized}
use Rattle.mar_gen.specs.Chain.{made_block, made_blocks, made_chain, made_finals, round_of}
use Rattle.mar_gen.proofs.FirstSteps.{block_next}

-- BLOCKS

pub length-made : (seed n : ℕ) → length (made_blocks seed n) ≡ n + 1
unfolding made_blocks
length-made seed zero = refl
length-made seed (suc n) = length-append (made_blocks seed n) (made_block seed (suc n) ∷ []) ∙ ap (λ k. k + 1) (length-made seed n ∙ add-one n)

next_place : (seed n i : ℕ) (d : Block) (b : Bool) → nat_le i n ≡ b → i ≤ suc n → (i ≤ n → get_or (made_blocks seed n) i d ≡ made_block seed i) → get_or (made_blocks seed n ++ made_block seed (suc n) ∷ []) i d ≡ made_block seed i
next_place seed n i d true is low before =
    let below : i ≤ n = grind (arith, is) in
    get_or_append_left (made_blocks seed n) (made_block seed (suc n) ∷ []) d i (let l : i < length (made_blocks seed n) = omega (arith, below, length-made seed n) in l) ∙ before below
next_place seed n i d false is low before =
    let last : suc n ≡ i = grind (arith, is, low) in
    subst (λ k. get_or (made_blocks seed n ++ made_block seed (suc n) ∷ []) k d ≡ made_block seed k) last
    (subst (λ k. get_or (made_blocks seed n ++ made_block seed (suc n) ∷ []) k d ≡ made_block seed (suc n)) (length-made seed n ∙ add-one n) (get_or-append_seam (made_blocks seed n) (made_block seed (suc n)) [] d))

pub get-made : (seed n i : ℕ) (d : Block) → i ≤ n → get_or (made_blocks seed n) i d ≡ made_block seed i
unfolding made_blocks
get-made seed zero i d low = subst (λ k. get_or (made_block seed 0 ∷ []) k d ≡ made_block seed k) (let z : 0 ≡ i = omega (arith, low) in z) refl
get-made seed (suc n) i d low = next_place seed n i d (nat_le i n) refl low (λ below. get-made seed n i d below)

-- the block at a height is the one that is made for it
pub block_at : (seed n i : ℕ) (b : Block) → IsBlockAt (made_chain seed n) i b → (i ≤ n) × (made_block seed i ≡ b)
block_at seed n i b at =
    let low : i < length (made_blocks seed n) = slice_get_within _ _ _ at in
    let within : i ≤ n = omega (arith, low, length-made seed n) in
    (within, sym (get-made seed n i b within) ∙ get_or_from_slice_get (made_blocks seed n) i b b at)

height_of : (seed i : ℕ) → (made_block seed i).height ≡ i
unfolding made_block
height_of seed zero = refl
height_of seed (suc i) = refl

pub commitment_of : (seed i : ℕ) → (made_block seed i).commitment ≡ (made_block seed i).digest
unfolding made_block
commitment_of seed zero = refl
commitment_of seed (suc i) = refl

-- FINALIZATIONS

only : {T : Type 0} (x y : T) → Contains (x ∷ []) y → x ≡ y
only x y (zero, low, is) = is
only x y (suc k, low, is) = absurd (omega (arith, low))

-- the round of a height, which is one from 1 on
pub record IsOwn (n : ℕ) (f : Final) : Type 0 where
  pub above : 1 ≤ f.height
  pub within : f.height ≤ n
  pub round_is : round_of f.height ≡ f.round

own_next : (n : ℕ) (f : Final) → (Contains (made_finals n) f → IsOwn n f) → Contains (made_finals n) f ⊎ Contains (record { round = round_of (suc n); height = suc n } ∷ []) f → IsOwn (suc n) f
own_next n f before (inl has) = let own = before has in record { above = own.above; within = omega (arith, own.within); round_is = own.round_is }
own_next n f before (inr has) = subst (IsOwn (suc n)) (only _ _ has) (record { above = omega arith; within = omega arith; round_is = refl })

pub finals_own : (n : ℕ) (f : Final) → Contains (made_finals n) f → IsOwn n f
unfolding made_finals
finals_own zero f (i, low, is) = absurd (omega (arith, low))
finals_own (suc n) f has = own_next n f (finals_own n f) (Contains-append_cases (made_finals n) (record { round = round_of (suc n); height = suc n } ∷ []) f has)

same_height : (h k : ℕ) → round_of h ≡ round_of k → h ≡ k
same_height h k is =
    let epochs : h / 10 ≡ k / 10 = ap (λ r. r.epoch) is in
    let views : h % 10 + 1 ≡ k % 10 + 1 = ap (λ r. r.view) is in
    omega (arith, epochs, views)

no_lower_height : (h k : ℕ) → IsTrue (round_lt (round_of h) (round_of k)) → h ≤ k
no_lower_height h k later = grind (arith, later)

own_epoch : (h : ℕ) → h ≤ 10_000 → containing (fixed_epochs 10) h ≡ Some (h / 10)
own_epoch h low = fixed_found 10 h (record { first = h / 10 * 10; last = h / 10 * 10 + 10 - 1 }) (lit< tt) (lit< tt) (ap (λ b. if b then Some (record { first = h / 10 * 10; last = h / 10 * 10 + 10 - 1 }) else None) (exists 10 (h / 10) (let fits : h / 10 * 10 + 10 ≤ 2 ^ 64 = omega (arith, low) in fits)))

-- THE CHAIN

pub made_lawful : (seed n : ℕ) → n ≤ 10_000 → IsLawful (fixed_epochs 10) (made_chain seed n)
made_lawful seed n few = record {
  heights = λ i b at. sym (ap (λ x. x.height) (block_at seed n i b at).1) ∙ height_of seed i;
  parents = λ i a b p q. sym (ap (λ x. x.parent) (block_at seed n (i + 1) b q).1) ∙ ap (λ x. x.parent) (block_next seed i) ∙ ap (λ x. x.digest) (block_at seed n i a p).1;
  parent_commitments = λ i a b p q.
      sym (ap (λ x. x.parent_commitment) (block_at seed n (i + 1) b q).1) ∙ ap (λ x. x.parent_commitment) (block_next seed i) ∙ sym (commitment_of seed i) ∙ ap (λ x. x.commitment) (block_at seed n i a p).1;
  bounded = omega (arith, few, length-made seed n);
  one_height = λ r h k p q. same_height h k ((finals_own n _ p).round_is ∙ sym (finals_own n _ q).round_is);
  no_lower = λ r s h k p q later.
      no_lower_height h k (subst (λ x. IsTrue (round_lt (round_of h) x)) (sym (finals_own n _ q).round_is) (subst (λ x. IsTrue (round_lt x s)) (sym (finals_own n _ p).round_is) later));
  above_zero = λ r h p. (finals_own n _ p).above;
  in_list = λ r h p. omega (arith, length-made seed n, (finals_own n (record { round = r; height = h }) p).within);
  views = λ r h p. subst (λ x. 1 ≤ x.view) (finals_own n _ p).round_is (omega arith);
  own_epoch = λ r h p. own_epoch h (omega (arith, few, (finals_own n (record { round = r; height = h }) p).within)) ∙ ap (λ x. Some x.epoch) (finals_own n _ p).round_is;
}

-- WHAT STANDS IN IT

pub made_at : (seed n i : ℕ) → i ≤ n → IsBlockAt (made_chain seed n) i (made_block seed i)
made_at seed n i low =
    let within : i < length (made_blocks seed n) = omega (arith, low, length-made seed n) in
    slice_get-get_or (made_blocks seed n) i (made_block seed i) within ∙ ap (λ b. Some b) (get-made seed n i (made_block seed i) low)

pub made_in : (seed n : ℕ) (b : Block) → Contains (made_blocks seed n) b → (i : ℕ) × (i ≤ n) × (made_block seed i ≡ b)
made_in seed n b (i, low, is) =
    let within : i ≤ n = omega (arith, low, length-made seed n) in
    (i, within, sym (get-made seed n i b within) ∙ is)

final_next : (n h : ℕ) (b : Bool) → nat_le h n ≡ b → h ≤ suc n → (h ≤ n → Contains (made_finals n) (record { round = round_of h; height = h })) → Contains (made_finals n ++ record { round = round_of (suc n); height = suc n } ∷ []) (record { round = round_of h; height = h })
final_next n h true is low before = Contains-append_left (made_finals n) (record { round = round_of (suc n); height = suc n } ∷ []) (record { round = round_of h; height = h }) (before (grind (arith, is)))
final_next n h false is low before =
    let last : suc n ≡ h = grind (arith, is, low) in
    subst (λ k. Contains (made_finals n ++ record { round = round_of (suc n); height = suc n } ∷ []) (record { round = round_of k; height = k })) last
    (Contains-append_right (made_finals n) (record { round = round_of (suc n); height = suc n } ∷ []) (record { round = round_of (suc n); height = suc n }) (0, lit< tt, refl))

final_in : (n h : ℕ) → 1 ≤ h → h ≤ n → Contains (made_finals n) (record { round = round_of h; height = h })
unfolding made_finals
final_in zero h some low = absurd (omega (arith, some, low))
final_in (suc n) h some low = final_next n h (nat_le h n) refl low (λ within. final_in n h some within)

-- a height's finalization is the chain's
pub made_finalized : (seed n h : ℕ) → 1 ≤ h → h ≤ n → IsFinalized (made_chain seed n) (round_of h) (made_block seed h).digest
made_finalized seed n h some low = (h, record { named = final_in n h some low; payload_is = ap (λ o. option_map (λ b. b.commitment) o) (made_at seed n h low) ∙ ap (λ d. Some d) (commitment_of seed h) })

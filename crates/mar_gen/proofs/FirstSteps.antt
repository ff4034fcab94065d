-- One step further in what a seed makes.
use Rattle.std.proofs.Common.{Bool, List, [], add-one, ap, append_assoc, arith, false, if◌then◌else◌, refl, replicate, sym, true, ℕ, ◌%◌, ◌*◌, ◌++◌, ◌+◌, ◌-◌, ◌/◌, ◌^◌, ◌∙◌, ◌==◌, ◌∷◌, ◌≡◌}
use Rattle.std.specs.List.{swap}
use Rattle.mar_gen.specs.Chain.{block_of, made_block, made_blocks, made_finals, round_of}
use Rattle.mar_gen.specs.Draws.{drawn, next_state, state_after}
use Rattle.mar_gen.specs.Plan.{exchanged, height_steps, heights_upto, restart, steps_upto}
use Rattle.mar_gen.specs.declared.steps.Planned.{Planned}
use Rattle.mar_gen.specs.declared.steps.Planned.TheVariants.{Crash, Open}

pub state_next : (seed k : ℕ) → state_after seed (k + 1) ≡ next_state (state_after seed k)
unfolding state_after
state_next seed k = rw add-one refl

pub block_next : (seed i : ℕ) → made_block seed (i + 1) ≡ block_of (made_block seed i).digest (i + 1) (drawn seed (i + 1))
unfolding made_block
block_next seed i = rw add-one refl

pub blocks_next : (seed n : ℕ) → made_blocks seed (n + 1) ≡ made_blocks seed n ++ made_block seed (n + 1) ∷ []
unfolding made_blocks
blocks_next seed n = rw add-one refl

pub finals_next : (n : ℕ) → made_finals (n + 1) ≡ made_finals n ++ record { round = round_of (n + 1); height = n + 1 } ∷ []
unfolding made_finals
finals_next n = rw add-one refl

pub heights_next : (n : ℕ) → heights_upto (n + 1) ≡ heights_upto n ++ (n + 1) ∷ []
unfolding heights_upto
heights_next n = rw add-one refl

pub exchanged_next : (seed n k : ℕ) → exchanged seed n (k + 1) ≡ swap (exchanged seed n k) (n - 1 - k) (drawn seed (n + 1 + k) % (n - k))
unfolding exchanged
exchanged_next seed n k = rw add-one refl

pub steps_next : (seed n k : ℕ) → steps_upto seed n (k + 1) ≡ steps_upto seed n k ++ height_steps seed n k
unfolding steps_upto
steps_next seed n k = ap (steps_upto seed n) (add-one k)

-- BEFORE THE FIRST STEP

pub state_first : (seed : ℕ) → state_after seed 0 ≡ seed
unfolding state_after
state_first seed = refl

pub block_first : (seed : ℕ) → made_block seed 0 ≡ block_of (replicate 32 0) 0 seed
unfolding made_block
block_first seed = refl

pub blocks_first : (seed : ℕ) → made_blocks seed 0 ≡ made_block seed 0 ∷ []
unfolding made_blocks
blocks_first seed = refl

pub heights_first : heights_upto 0 ≡ []
unfolding heights_upto
heights_first = refl

pub exchanged_first : (seed n : ℕ) → exchanged seed n 0 ≡ heights_upto n
unfolding exchanged
exchanged_first seed n = refl

pub steps_first : (seed n : ℕ) → steps_upto seed n 0 ≡ Open ∷ []
unfolding steps_upto
steps_first seed n = refl

-- THE DRAWS OF CRASHES

sixteenth : (k : ℕ) → (k + 1) % 16 ≡ 0 → (k + 1) / 16 ≡ k / 16 + 1
sixteenth k is = omega (arith, is)

not_sixteenth : (k : ℕ) → ((k + 1) % 16 ≡ 0 → ⊥) → (k + 1) / 16 ≡ k / 16
not_sixteenth k is = omega (arith, is)

-- the generator moves where there is a crash
pub draws_next : (seed base k x : ℕ) → x ≡ state_after seed (base + k / 16) → (if (k + 1) % 16 == 0 then next_state x else x) ≡ state_after seed (base + (k + 1) / 16)
draws_next seed base k x is = by ((k + 1) % 16 == 0) refl
  where
    by : (b : Bool) → ((k + 1) % 16 == 0) ≡ b → (if b then next_state x else x) ≡ state_after seed (base + (k + 1) / 16)
    by true here =
        let q : (k + 1) / 16 ≡ k / 16 + 1 = sixteenth k (grind (arith, here)) in
        ap next_state is ∙ sym (state_next seed (base + k / 16)) ∙ ap (state_after seed) (let p : base + k / 16 + 1 ≡ base + (k + 1) / 16 = omega (arith, q) in p)
    by false here =
        let q : (k + 1) / 16 ≡ k / 16 = not_sixteenth k (λ z. grind (arith, here, z)) in
        is ∙ ap (λ m. state_after seed (base + m)) (sym q)

-- and the crash has its draw
pub restart_next : (seed n k x : ℕ) → x ≡ state_after seed (2 * n - 1 + k / 16) → (if (k + 1) % 16 == 0 then Crash (next_state x / 2 ^ 33) ∷ Open ∷ [] else []) ≡ restart seed n (k + 1)
restart_next seed n k x is = by ((k + 1) % 16 == 0) refl
  where
    by : (b : Bool) → ((k + 1) % 16 == 0) ≡ b → (if b then Crash (next_state x / 2 ^ 33) ∷ Open ∷ [] else []) ≡ (if b then Crash (drawn seed (2 * n - 1 + (k + 1) / 16)) ∷ Open ∷ [] else [])
    by true here =
        let q : (k + 1) / 16 ≡ k / 16 + 1 = sixteenth k (grind (arith, here)) in
        let p : 2 * n - 1 + k / 16 + 1 ≡ 2 * n - 1 + (k + 1) / 16 = omega (arith, q) in
        ap (λ m. Crash (m / 2 ^ 33) ∷ Open ∷ []) (ap next_state is ∙ sym (state_next seed (2 * n - 1 + k / 16)) ∙ ap (state_after seed) p)
    by false here = refl

-- the steps of one height behind the others
pub height_more : (steps : List Planned) (first second : Planned) (more : List Planned) → ((steps ++ first ∷ []) ++ second ∷ []) ++ more ≡ steps ++ first ∷ second ∷ more
height_more steps first second more = append_assoc (steps ++ first ∷ []) (second ∷ []) more ∙ append_assoc steps (first ∷ []) (second ∷ more)

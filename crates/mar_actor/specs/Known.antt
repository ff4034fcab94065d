-- The commitments that a life knows as certified, and what it takes note of.
use Rattle.std.specs.Prelude.{List, filter, min, nat_lt, ℕ, ◌+◌, ◌-◌, ◌<◌, ◌^◌, ◌||◌, ◌≡◌}
use Rattle.mar_model.specs.Answers.{is_known as is_among}
use Rattle.mar_model.specs.Held.{Held, Remembered, Seen}
use Rattle.mar_model.specs.Node.{CertifiedCommitment}
use Rattle.mar_parts.specs.Certified.{Certified, is_known, known_list}

-- those above a tip
abbrev pub known_above : {C : Type 0} → (C → List ℕ) → ℕ → Certified C → List CertifiedCommitment
known_above bytes tip certified = filter (λ x. nat_lt tip x.height) (known_list bytes certified)

-- the least height above a tip, of those that there are
abbrev pub least_above : ℕ → ℕ
least_above tip = min (tip + 1) (2 ^ 64 - 1)

-- what contracts see of an actor with these stores, by what a commitment is as bytes
abbrev pub seen_knowing : {P E C : Type 0} → (C → List ℕ) → Held → Remembered P E → Certified C → Seen P E
seen_knowing bytes held life certified = record { held = held; life = life; certified = known_above bytes life.tip certified }

-- above a tip, these are known besides those before
abbrev pub TakesNote : {C : Type 0} → (C → List ℕ) → ℕ → List CertifiedCommitment → Certified C → Certified C → Type 0
TakesNote bytes tip found old new = (h : ℕ) (c : List ℕ) → tip < h → is_known bytes new h c ≡ (is_known bytes old h c || is_among found h c)

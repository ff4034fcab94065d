-- Terms: runs of consecutive views with one leader. View 0 is a term of its own, and the others follow from view 1 on.
use Rattle.std.specs.Prelude.{if◌then◌else◌, ℕ, ◌*◌, ◌+◌, ◌-◌, ◌/◌, ◌==◌, ◌≡◌, ◌≤◌, ◌⊎◌}

-- the first view of the view's term
abbrev pub term_start : ℕ → ℕ → ℕ
term_start length v = if v == 0 then 0 else (v - 1) / length * length + 1

-- the last view of the view's term
abbrev pub term_end : ℕ → ℕ → ℕ
term_end length v = if v == 0 then 0 else term_start length v + length - 1

-- the first view of the term after the view's
abbrev pub next_term_start : ℕ → ℕ → ℕ
next_term_start length v = term_end length v + 1

-- the views are of one term
abbrev pub IsSameTerm : ℕ → ℕ → ℕ → Type 0
IsSameTerm length v w = term_start length v ≡ term_start length w

-- w is v or a later view of v's term
abbrev pub Covers : ℕ → ℕ → ℕ → Type 0
Covers length v w = (v ≤ w) × IsSameTerm length v w

-- from v on, one may hear of p: it isn't after v, or it is the next view, or the first view of the next term
abbrev pub Admits : ℕ → ℕ → ℕ → Type 0
Admits length v p = (p ≤ v) ⊎ (p ≡ v + 1) ⊎ (p ≡ next_term_start length v)

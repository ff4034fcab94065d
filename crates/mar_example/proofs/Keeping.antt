-- A ledger that enters a block has it, and has what it had before.
use Rattle.std.proofs.Common.{◌≡◌, ℕ, ◌<◌, ◌≤◌, ◌==◌, ◌++◌, Bool, true, false, if◌then◌else◌, List, [], ◌∷◌, arith, refl, subst, nat_lt, eqb-true}
use Rattle.std.specs.List.{All}
use Rattle.std.proofs.lemmas.Bool.Decides.{nat_tests}
use Rattle.std.proofs.lemmas.List.Elements.{All-push, All-weaker}
use Rattle.mar_ledger.specs.Books.{entry_at, posted}
use Rattle.mar_ledger.specs.Ledger.{Ledger, applied_by, delivered, entered, gap, ledger_at, next_of}
use Rattle.mar_ledger.specs.declared.applied.Applied.{Applied as Outcome}
use Rattle.mar_ledger.specs.declared.applied.Applied.TheVariants.{Seen}
use Rattle.mar_example.specs.Entered.{Enters, Has}

-- it has the height, and none less than before
record Grows (l : Ledger) (h : ℕ) (new : Ledger) : Type 0 where
  pub has : Has new h
  pub no_less : next_of l.height ≤ next_of new.height

lt_of : (a b : ℕ) → nat_lt a b ≡ true → a < b
lt_of a b e = grind (arith, nat_tests)

same_ledger : (l m : Ledger) (a b : Outcome) → entered l a ≡ entered m b → l ≡ m
same_ledger l m a b e = cc

grows : (l new : Ledger) (h t : ℕ) → Enters l h t new → Grows l h new
grows l new h t e = by (nat_lt h (next_of l.height)) (h == next_of l.height) refl refl e.1
  where
    next : Ledger
    next = ledger_at h (posted (entry_at t) l.books)

    by : (low same : Bool) → nat_lt h (next_of l.height) ≡ low → (h == next_of l.height) ≡ same
        → (if low then entered l Seen else if same then entered next (applied_by (entry_at t) l.books) else gap (next_of l.height) h) ≡ entered new e.0
        → Grows l h new
    by true same low_is same_is e2 =
        subst (Grows l h) (same_ledger l new Seen e.0 e2) (record { has = lt_of h (next_of l.height) low_is; no_less = omega arith })
    by false true low_is same_is e2 =
        let at = eqb-true h (next_of l.height) same_is in
        subst (Grows l h) (same_ledger next new (applied_by (entry_at t) l.books) e.0 e2) (record { has = omega arith; no_less = omega (arith, at) })
    by false false low_is same_is e2 = absurd cc

-- what is in the ledger stays there, and the block that is entered is there too
pub has_each : {X : Type 0} (height : X → ℕ) (l new : Ledger) (t : ℕ) (xs : List X) (x : X) → Enters l (height x) t new
    → All (λ y. Has l (height y)) xs → All (λ y. Has new (height y)) (xs ++ x ∷ [])
has_each height l new t xs x e all =
    let g = grows l new (height x) t e in
    All-push (λ y. Has new (height y)) xs x (All-weaker (λ y. Has l (height y)) (λ y. Has new (height y)) (λ y has. omega (arith, has, g.no_less)) xs all) g.has

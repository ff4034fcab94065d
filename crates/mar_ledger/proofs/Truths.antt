-- A ledger that enters blocks of a list stays true of it; true ledgers of one height are one.
use Rattle.std.proofs.Common.{◌≡◌, ℕ, zero, suc, ◌+◌, ◌<◌, ◌++◌, ◌==◌, Bool, true, false, if◌then◌else◌, List, [], ◌∷◌, Some, None, Option, arith, refl, sym, subst, ap, ap₂, ◌∙◌, length, map, nat_lt, slice_get, take, eqb-true}
use Rattle.std.proofs.lemmas.List.{map-append}
use Rattle.mar_cert.specs.Block.{Block}
use Rattle.mar_ledger.specs.Books.{Books, books_after, books_from, first_books, posted}
use Rattle.mar_ledger.specs.Entries.{books_upto, entry_of}
use Rattle.mar_ledger.specs.Ledger.{Ledger, applied_by, delivered, entered, first_ledger, gap, ledger_at, next_of}
use Rattle.mar_ledger.specs.Truth.{IsTrueLedger}
use Rattle.mar_ledger.specs.declared.applied.Applied.{Applied as Outcome}
use Rattle.mar_ledger.specs.declared.applied.Applied.TheVariants.{Seen}
use Rattle.mar_ledger.specs.declared.transfer.Transfer.{Transfer}

-- one transfer more
books_push : (s : Books) (ts : List Transfer) (t : Transfer) → books_from s (ts ++ t ∷ []) ≡ posted t (books_from s ts)
books_push s [] t = refl
books_push s (x ∷ ts) t = books_push (posted x s) ts t

inside : {T : Type 0} (a b : T) → ◌≡◌ {A = Option T} (Some a) (Some b) → a ≡ b
inside a b p = cc

-- one block more
take_push : {T : Type 0} (xs : List T) (i : ℕ) (x : T) → slice_get xs i ≡ Some x → take (i + 1) xs ≡ take i xs ++ x ∷ []
take_push [] i x at = absurd cc
take_push (y ∷ ys) zero x at = ap (λ z. z ∷ []) (inside y x at)
take_push (y ∷ ys) (suc i) x at =
    let same : suc (i + 1) ≡ suc i + 1 = omega arith in
    subst (λ k. take k (y ∷ ys) ≡ y ∷ (take i ys ++ x ∷ [])) same (ap (λ zs. y ∷ zs) (take_push ys i x at))

in_list : {T : Type 0} (xs : List T) (i : ℕ) (x : T) → slice_get xs i ≡ Some x → i < length xs
in_list [] i x at = absurd cc
in_list (y ∷ ys) zero x at = omega arith
in_list (y ∷ ys) (suc i) x at = let low : i < length ys = in_list ys i x at in omega arith

next_books : (blocks : List Block) (h : Option ℕ) (b : Block) → slice_get blocks (next_of h) ≡ Some b
    → posted (entry_of b) (books_upto blocks h) ≡ books_upto blocks (Some (next_of h))
next_books blocks None b at = sym (ap (λ xs. books_after (map entry_of xs)) (take_push blocks 0 b at))
next_books blocks (Some k) b at =
    sym (books_push first_books (map entry_of (take (k + 1) blocks)) (entry_of b))
    ∙ sym (ap books_after (ap (map entry_of) (take_push blocks (k + 1) b at) ∙ map-append entry_of (take (k + 1) blocks) (b ∷ [])))

pub first_is_true : (blocks : List Block) → IsTrueLedger blocks first_ledger
first_is_true blocks = record { books = refl; within = omega arith }

-- the next block of the list
next_is_true : (blocks : List Block) (l : Ledger) (h : ℕ) (b : Block) → IsTrueLedger blocks l → h ≡ next_of l.height → slice_get blocks h ≡ Some b
    → IsTrueLedger blocks (ledger_at h (posted (entry_of b) l.books))
next_is_true blocks l h b is next at = record {
  books = ap (posted (entry_of b)) is.books ∙ next_books blocks l.height b (subst (λ k. slice_get blocks k ≡ Some b) next at) ∙ ap (λ k. books_upto blocks (Some k)) (sym next);
  within = let low = in_list blocks h b at in omega (arith, low);
}

same_ledger : (l m : Ledger) (a b : Outcome) → entered l a ≡ entered m b → l ≡ m
same_ledger l m a b e = cc

-- whatever block of the list is delivered, and however often
pub stays_true : (blocks : List Block) (l new : Ledger) (h : ℕ) (b : Block) (how : Outcome) → IsTrueLedger blocks l → slice_get blocks h ≡ Some b
    → delivered l h (entry_of b) ≡ entered new how → IsTrueLedger blocks new
stays_true blocks l new h b how is at e = by (nat_lt h (next_of l.height)) (h == next_of l.height) refl e
  where
    next : Ledger
    next = ledger_at h (posted (entry_of b) l.books)

    by : (low same : Bool) → (h == next_of l.height) ≡ same
        → (if low then entered l Seen else if same then entered next (applied_by (entry_of b) l.books) else gap (next_of l.height) h) ≡ entered new how → IsTrueLedger blocks new
    by true same same_is e = subst (IsTrueLedger blocks) (same_ledger l new Seen how e) is
    by false true same_is e =
        subst (IsTrueLedger blocks) (same_ledger next new (applied_by (entry_of b) l.books) how e) (next_is_true blocks l h b is (eqb-true h (next_of l.height) same_is) at)
    by false false same_is e = absurd cc

pub one_by_height : (blocks : List Block) (l m : Ledger) → IsTrueLedger blocks l → IsTrueLedger blocks m → l.height ≡ m.height → l ≡ m
one_by_height blocks l m is also same = ap₂ pair same (is.books ∙ ap (books_upto blocks) same ∙ sym also.books)
  where
    pair : Option ℕ → Books → Ledger
    pair h s = record { height = h; books = s }

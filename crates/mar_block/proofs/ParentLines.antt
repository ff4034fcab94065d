-- A line of parents, read from its first block, is a front of all parents of that block.
use Rattle.std.proofs.Common.{Bool, Contains, List, None, Some, [], ap, arith, cond, false, inl, inr, length, refl, suc, sym, true, zero, ℕ, ◌+◌, ◌<◌, ◌∙◌, ◌∷◌, ◌≡◌}
use Rattle.std.specs.Prelude.{IsTrue, bytes_eq, find, slice_index_or}
use Rattle.std.proofs.lemmas.Slice.Eq.{bytes_eq-Decides}
use Rattle.mar_cert.specs.Block.{Block}
use Rattle.mar_block.specs.Links.{AreLinked, Ends, HaveOwnDigests, IsDirectParent, IsFront}
use Rattle.mar_block.specs.Parents.{is_parent, parents, parents_below}

-- the only one of these that passes a test is found
find_only : (p : Block → Bool) (xs : List Block) (x : Block) (k : ℕ) → k < length xs → slice_index_or xs k x ≡ x → IsTrue (p x)
    → ((y : Block) → Contains xs y → IsTrue (p y) → y ≡ x) → find p xs ≡ Some x
find_only p [] x k below at passes only = absurd (omega (arith, below))
find_only p (z ∷ xs) x zero below at passes only = let is : p z ≡ true = ap p at ∙ passes in rw is (ap Some at)
find_only p (z ∷ xs) x (suc k) below at passes only = by_test (p z) refl (find_only p xs x k (omega (arith, below)) at passes (λ y is. only y (suc is.0, omega (arith, is.1), is.2)))
  where
    by_test : (b : Bool) → p z ≡ b → find p xs ≡ Some x → cond b (Some z) (find p xs) ≡ Some x
    by_test true is behind = ap Some (only z (zero, omega arith, refl) is)
    by_test false is behind = behind

find_none : (p : Block → Bool) (xs : List Block) → ((y : Block) → Contains xs y → IsTrue (p y) → ⊥) → find p xs ≡ None
find_none p [] none = refl
find_none p (z ∷ xs) none = by_test (p z) refl (find_none p xs (λ y is. none y (suc is.0, omega (arith, is.1), is.2)))
  where
    by_test : (b : Bool) → p z ≡ b → find p xs ≡ None → cond b (Some z) (find p xs) ≡ None
    by_test true is behind = absurd (none z (zero, omega arith, refl) is)
    by_test false is behind = behind

one_below : (child parent : Block) → IsDirectParent child parent → parent.height + 1 ≡ child.height
one_below child parent is = grind (arith, is)

parent_passes : (child parent : Block) (h : ℕ) → child.height ≡ suc h → IsDirectParent child parent → IsTrue (is_parent child h parent)
parent_passes child parent h high is = grind (arith, high, is)

passes_direct : (child parent : Block) (h : ℕ) → child.height ≡ suc h → IsTrue (is_parent child h parent) → IsDirectParent child parent
passes_direct child parent h high is = grind (arith, high, is)

named : (child parent : Block) → IsDirectParent child parent → parent.digest ≡ child.parent
named child parent is = let same : bytes_eq parent.digest child.parent ≡ true = grind (arith, is) in (bytes_eq-Decides parent.digest child.parent).0 same

parent_found : (child parent : Block) (h : ℕ) (blocks : List Block) → child.height ≡ suc h → IsDirectParent child parent → Contains blocks parent
    → HaveOwnDigests blocks → find (is_parent child h) blocks ≡ Some parent
parent_found child parent h blocks high is in_blocks own =
    find_only (is_parent child h) blocks parent in_blocks.0 in_blocks.1 in_blocks.2 (parent_passes child parent h high is)
    (λ y among passes. own y parent among in_blocks (named child y (passes_direct child y h high passes) ∙ sym (named child parent is)))

parent_height : (child parent : Block) (h : ℕ) → child.height ≡ suc h → IsDirectParent child parent → parent.height ≡ h
parent_height child parent h high is = omega (arith, high, one_below child parent is)

front_below : (n : ℕ) (b : Block) (rest blocks : List Block) → b.height ≡ n → AreLinked (b ∷ rest)
    → ((x : Block) → Contains rest x → Contains blocks x) → HaveOwnDigests blocks → IsFront (b ∷ rest) (parents_below n b blocks)
front_below zero b [] blocks high linked among own = ([], refl)
front_below zero b (x ∷ rest) blocks high linked among own = absurd (omega (arith, high, one_below b x linked.0))
front_below (suc h) b [] blocks high linked among own = (_, refl)
front_below (suc h) b (x ∷ rest) blocks high linked among own =
    let found = parent_found b x h blocks high linked.0 (among x (zero, omega arith, refl)) own in
    let behind = front_below h x rest blocks (parent_height b x h high linked.0) linked.1 (λ y is. among y (suc is.0, omega (arith, is.1), is.2)) own in
    rw found (behind.0, ap (λ l. b ∷ l) behind.1)

whole_below : (n : ℕ) (b : Block) (rest blocks : List Block) → b.height ≡ n → AreLinked (b ∷ rest)
    → ((x : Block) → Contains rest x → Contains blocks x) → HaveOwnDigests blocks → Ends blocks b rest → parents_below n b blocks ≡ b ∷ rest
whole_below zero b [] blocks high linked among own ends = refl
whole_below zero b (x ∷ rest) blocks high linked among own ends = absurd (omega (arith, high, one_below b x linked.0))
whole_below (suc h) b [] blocks high linked among own (inl low) = absurd (omega (arith, high, low))
whole_below (suc h) b [] blocks high linked among own (inr none) = rw (find_none (is_parent b h) blocks (λ y is passes. none y is (passes_direct b y h high passes))) refl
whole_below (suc h) b (x ∷ rest) blocks high linked among own ends =
    let found = parent_found b x h blocks high linked.0 (among x (zero, omega arith, refl)) own in
    rw found (ap (λ l. b ∷ l) (whole_below h x rest blocks (parent_height b x h high linked.0) linked.1 (λ y is. among y (suc is.0, omega (arith, is.1), is.2)) own ends))

pub line_front : (b : Block) (rest blocks : List Block) → AreLinked (b ∷ rest) → ((x : Block) → Contains rest x → Contains blocks x) → HaveOwnDigests blocks → IsFront (b ∷ rest) (parents b blocks)
line_front b rest blocks = front_below b.height b rest blocks refl

pub line_whole : (b : Block) (rest blocks : List Block) → AreLinked (b ∷ rest) → ((x : Block) → Contains rest x → Contains blocks x)
    → HaveOwnDigests blocks → Ends blocks b rest → parents b blocks ≡ b ∷ rest
line_whole b rest blocks = whole_below b.height b rest blocks refl

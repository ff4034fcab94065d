-- What comes behind a block whose parent was asked for.
use Rattle.std.proofs.Common.{Bool, Err, Option, ℕ, Ok, Result, false, subst, sym, true, ◌==◌, ◌≡◌}
use Rattle.std.specs.Prelude.{IfOk}
use Rattle.mar_cert.specs.Block.{Block as PlainBlock}
use Rattle.mar_block.specs.Links.{IsDirectParent, Yields, block_comes, coming_of}
use Rattle.mar_block.specs.Streams.{Ahead, IsAskedBehind, IsAskedOf, MayComeAhead}
use Rattle.mar_block.specs.declared.polled.Polled.{Polled}
use Rattle.mar_block.specs.declared.polled.Polled.TheVariants.{Block, End, NotContiguous, Pending}

pub asked_wants : (asked_of : ℕ → Option PlainBlock) (x : PlainBlock) (ahead : Ahead) → IsAskedBehind asked_of x ahead → (l : PlainBlock) → MayComeAhead ahead l → IsDirectParent x l
asked_wants asked_of x ahead asked l may = by_height (x.height == 0) asked
  where
    by_height : (b : Bool) → IsAskedOf b asked_of x ahead → IsDirectParent x l
    by_height true is = absurd (subst (λ a. MayComeAhead a l) is may)
    by_height false is = subst (λ a. MayComeAhead a l) is.1 may

fetched : {B : Type 0} (plain : B → PlainBlock) (asked_of : ℕ → Option PlainBlock) (b : PlainBlock) (p : Polled B) (old new : Ahead)
    → MayComeAhead old b → coming_of plain p ≡ block_comes b → IsAskedBehind asked_of b new
    → Yields plain (MayComeAhead old) p (MayComeAhead new)
fetched plain asked_of b (Block x) old new may came asked =
    let same : plain x ≡ b = cc in (subst (MayComeAhead old) (sym same) may, λ l w. subst (λ c. IsDirectParent c l) (sym same) (asked_wants asked_of b new asked l w))
fetched plain asked_of b NotContiguous old new may came asked = absurd cc
fetched plain asked_of b Pending old new may came asked = absurd cc
fetched plain asked_of b End old new may came asked = absurd cc

-- a block that came is yielded, and its parent asked for
pub fetched_yields : {B E : Type 0} (plain : B → PlainBlock) (asked_of : ℕ → Option PlainBlock) (b : PlainBlock) (r : Result (Polled B) E) (old new : Ahead) → MayComeAhead old b
    → IfOk r (λ p. (coming_of plain p ≡ block_comes b) × IsAskedBehind asked_of b new) → IfOk r (λ p. Yields plain (MayComeAhead old) p (MayComeAhead new))
fetched_yields plain asked_of b (Ok p) old new may got = fetched plain asked_of b p old new may got.0 got.1
fetched_yields plain asked_of b (Err e) old new may got = got

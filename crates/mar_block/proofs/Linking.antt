-- Linked blocks, one after another.
use Rattle.std.proofs.Common.{List, None, Some, [], ap, refl, subst, sym, ◌∙◌, ◌∷◌, ◌≡◌}
use Rattle.mar_cert.specs.Block.{Block as PlainBlock}
use Rattle.mar_block.specs.Links.{AreLinked, Gives, AreBehind, IsDirectParent, Keeps, Yields, first, shown_first}
use Rattle.mar_block.specs.declared.polled.Polled.{Polled}
use Rattle.mar_block.specs.declared.polled.Polled.TheVariants.{Block, End, NotContiguous, Pending}

above : (b : PlainBlock) (rest : List PlainBlock) → AreBehind b rest → (l : PlainBlock) → first rest ≡ Some l → IsDirectParent b l
above b [] is l at = absurd cc
above b (x ∷ rest) is l at = let same : x ≡ l = cc in subst (IsDirectParent b) same is

-- what is exactly the next of linked blocks is what may come
pub gives_yields : {B : Type 0} (plain : B → PlainBlock) (old new : List PlainBlock) (p : Polled B) → Gives plain old p new → AreLinked old
    → Yields plain (λ l. first old ≡ Some l) p (λ l. first new ≡ Some l) × Keeps plain (shown_first old) p
gives_yields plain old new (Block b) gives linked =
    let h : AreLinked (plain b ∷ new) = subst AreLinked gives linked in (
      (ap first gives, above (plain b) new h.0),
      rw gives refl,
    )
gives_yields plain old new End gives linked = ((λ l at. let none : None ≡ Some l = ap first (sym gives.1) ∙ at in absurd cc), rw gives.0 tt)
gives_yields plain old new NotContiguous gives linked = absurd gives
gives_yields plain old new Pending gives linked = absurd gives

-- the rest of linked blocks
pub rest_linked : (old rest : List PlainBlock) (b : PlainBlock) → old ≡ b ∷ rest → AreLinked old → AreLinked rest
rest_linked old rest b is linked = let h : AreLinked (b ∷ rest) = subst AreLinked is linked in h.1

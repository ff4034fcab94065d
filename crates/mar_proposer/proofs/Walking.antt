-- A line of parents to which the next one was added.
use Rattle.std.proofs.Common.{List, Ok, Result, [], map, refl, ◌++◌, ◌∷◌}
use Rattle.std.specs.Prelude.{IfOk}
use Rattle.mar_cert.specs.Block.{Block as PlainBlock}
use Rattle.mar_block.specs.Links.{AreLinked, IsDirectParent, Yields}
use Rattle.mar_block.specs.declared.polled.Polled.{Polled}
use Rattle.mar_block.specs.declared.polled.Polled.TheVariants.{Block}
use Rattle.mar_proposer.specs.Rules.{AreWalked}

linked_more : (line : List PlainBlock) (b next : PlainBlock) → AreLinked (line ++ b ∷ []) → IsDirectParent b next → AreLinked ((line ++ b ∷ []) ++ next ∷ [])
linked_more [] b next linked is = (is, (tt, tt))
linked_more (x ∷ []) b next linked is = (linked.0, (is, (tt, tt)))
linked_more (x ∷ y ∷ line) b next linked is = (linked.0, linked_more (y ∷ line) b next linked.1 is)

-- a block that came is behind the line, and what may come then is behind it
pub walked_on : (line : List PlainBlock) (b : PlainBlock) (MayCome MayComeThen : PlainBlock → Type 0) → AreWalked line MayCome → MayCome b
    → ((l : PlainBlock) → MayComeThen l → IsDirectParent b l) → AreWalked (line ++ b ∷ []) MayComeThen
walked_on line b MayCome MayComeThen walked came then = record {
  linked = walked.next b came;
  next = λ l may. linked_more line b l (walked.next b came) (then l may);
}

-- where no more may come than before, the line stays one
pub walked_still : (line : List PlainBlock) (MayCome MayComeThen : PlainBlock → Type 0) → AreWalked line MayCome → ((l : PlainBlock) → MayComeThen l → MayCome l) → AreWalked line MayComeThen
walked_still line MayCome MayComeThen walked fewer = record { linked = walked.linked; next = λ l may. walked.next l (fewer l may) }

-- before the first block any may come
pub walked_none : (MayCome : PlainBlock → Type 0) → AreWalked [] MayCome
walked_none MayCome = record { linked = tt; next = λ b may. (tt, tt) }

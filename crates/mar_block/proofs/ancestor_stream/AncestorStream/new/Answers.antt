use Rattle.std.proofs.Common.{refl, rules, subst, sym}
use Rattle.mar_block.specs.Links.{AreLinked}
use Rattle.mar_block.proofs.ancestor_stream.AncestorStream.new.Goals as goal

pub returns-then-not-are_linked-clause-err : goal.returns-then-not-are_linked-clause-err
returns-then-not-are_linked-clause-err g c = (
  refl,
  refl,
  λ line of_these linked.
      let as_sorted = subst AreLinked (sym (c.sort_newest_first.ensures.only line of_these linked)) linked in
      search (rules, c.are_linked.ensures, as_sorted),
)

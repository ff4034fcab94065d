use Rattle.std.proofs.Common.{rules}
use Rattle.std.proofs.lemmas.List.Sorted.{IsNonDecreasingBy-from_sort_by_key}
use Rattle.mar_block.proofs.Sorting.{line_permutation, only_line}
use Rattle.mar_block.proofs.ancestor_stream.sort_newest_first.Goals as goal

pub returns-clause-permutation : goal.returns-clause-permutation
returns-clause-permutation g c = rw c.reverse.ensures.items (line_permutation g.B.Linked.plain _ _ c.sort_unstable_by_key.ensures.permutation)

pub returns-clause-only : goal.returns-clause-only
returns-clause-only g c =
    let rises = IsNonDecreasingBy-from_sort_by_key (λ b. (g.B.Linked.plain b).height) _ c.sort_unstable_by_key.ensures.sorted (λ a r q k. search rules) in
    rw c.reverse.ensures.items (only_line g.B.Linked.plain _ _ c.sort_unstable_by_key.ensures.permutation rises)

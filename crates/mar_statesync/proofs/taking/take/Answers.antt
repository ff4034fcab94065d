use Rattle.std.proofs.Common.{ap, arith, sym, ◌∙◌}
use Rattle.mar_ledger.specs.Books.{Books}
use Rattle.mar_statesync.proofs.Taken.{is_snapshot, made_of}
use Rattle.mar_statesync.proofs.taking.take.Goals as goal

pub returns-then-is_next-clause-spelled : goal.returns-then-is_next-clause-spelled
returns-then-is_next-clause-spelled g c =
    let same = c.copy-books.ensures ∙ c.books.ensures.books in
    is_snapshot _ _ _ (c.args.block.now.height) (sym c.in-Some.ensures) _ c.books.ensures.is
    (omega (arith, c.rejected-rejected.ensures, ap (λ (b : Books). b.rejected) same)) (made_of _ _ _ (c.args.block.now.height) (sym c.in-Some.ensures) _ _ same c.of.ensures)

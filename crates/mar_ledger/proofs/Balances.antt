-- How far a sum of balances has come.
use Rattle.std.proofs.Common.{◌≡◌, ℕ, ◌+◌, ◌<◌, ◌==◌, List, arith, get_or, length, sum, sym, take, false}
use Rattle.std.proofs.lemmas.Bool.{ne_eqb}
use Rattle.std.proofs.lemmas.List.Sums.{sum_by_more_le}
use Rattle.mar_ledger.specs.Books.{all_money}

-- one balance that is above what is left of the money
pub too_much : (balances : List ℕ) (i rest : ℕ) → i < length balances → rest + sum (take i balances) ≡ all_money → rest < get_or balances i 0 → false ≡ (sum balances == all_money)
too_much balances i rest within so_far above =
    let more = sum_by_more_le (λ x. x) balances i 0 within in
    sym (ne_eqb (sum balances) all_money (λ e. absurd (omega (arith, e, more, so_far, above))))

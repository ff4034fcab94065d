-- What the exit of a `?` returns, and what it says where an epoch isn't where it would have to be.
use Rattle.std.proofs.Common.{◌≡◌, ◌≤◌, ◌<◌, ℕ, Result, Ok, Err, IfOk, IfErr, MatchResult, sym, subst, arith}
use Rattle.std.specs.Result.{IsErrAnd}

-- no clause on what went well speaks of it
pub no_ok : {T E : Type 0} (r : Result T E) (Q : E → Type 0) (P : T → Type 0) → IsErrAnd r Q → IfOk r P
no_ok (Ok x) Q P is = absurd is
no_ok (Err l) Q P is = tt

-- it is how the call failed
pub err_is : {T E : Type 0} (r : Result T E) (lost : E) (P : E → Type 0) → IsErrAnd r (λ l. l ≡ lost) → P lost → IfErr r P
err_is (Ok x) lost P is has = absurd is
err_is (Err l) lost P is has = subst P (sym is) has

pub err_match : {T E : Type 0} (r : Result T E) (lost : E) (P : T → Type 0) (Q : E → Type 0) → IsErrAnd r (λ l. l ≡ lost) → Q lost → MatchResult r P Q
err_match (Ok x) lost P Q is has = absurd is
err_match (Err l) lost P Q is has = subst Q (sym is) has

-- a number that was found below a bound isn't at it or above
pub not_above : (n m e l : ℕ) → n < m → n ≡ e → m ≡ l → l ≤ e → ⊥
not_above n m e l less n_is m_is above = omega (arith, less, n_is, m_is, above)

pub not_below : (n m e l : ℕ) → m ≤ n → n ≡ e → m ≡ l → e < l → ⊥
not_below n m e l above n_is m_is less = omega (arith, above, n_is, m_is, less)

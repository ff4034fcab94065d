-- What is printed is read again.
use Rattle.std.proofs.Common.{◌≡◌, ◌<◌, ◌^◌, ℕ, List, false, Result, Ok, sym, ◌∙◌, subst}
use Rattle.std.specs.Fmt.{decimal}
use Rattle.std.specs.Str.{IsUtf8, bytes_eq}
use Rattle.std.specs.Str.Parse.{ParsesUnsigned}
use Rattle.std.proofs.lemmas.Fmt.{parse-decimal, IsAscii-decimal}
use Rattle.std.proofs.lemmas.Str.{IsUtf8-from_ascii}
use Rattle.std.proofs.lemmas.Bool.Decides.{not_from_Decides}
use Rattle.std.proofs.lemmas.Slice.Eq.{bytes_eq-Decides}

pub is_text : (n : ℕ) (bs : List ℕ) → n < 2 ^ 64 → bs ≡ decimal n → IsUtf8 bs
is_text n bs small is = subst (λ (l : List ℕ). IsUtf8 l) (sym is) (IsUtf8-from_ascii (decimal n) (IsAscii-decimal n small))

pub read_again : {E : Type 0} (n : ℕ) (bs text : List ℕ) (r : Result ℕ E) → n < 2 ^ 64 → bs ≡ decimal n → text ≡ bs → ParsesUnsigned 64 10 text r → r ≡ Ok n
read_again n bs text r small is same h = parse-decimal 64 n text r small small (same ∙ is) h

pub not_other : (xs ys : List ℕ) → bytes_eq xs ys ≡ false → xs ≡ ys → ⊥
not_other xs ys differ same = not_from_Decides (bytes_eq xs ys) (bytes_eq-Decides xs ys) differ same

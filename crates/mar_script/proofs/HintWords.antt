-- The words of a line that hints are read as they were spelled.
use Rattle.std.proofs.Common.{List, ap, arith, sym, ℕ, ◌++◌, ◌≤◌, ◌∙◌, ◌∷◌, ◌≡◌}
use Rattle.std.specs.Fmt.{decimal}
use Rattle.std.specs.Prelude.{length}
use Rattle.mar_script.specs.Lines.{IsHint, IsWord, hint_text}
use Rattle.mar_script.specs.Script.{comma_numbers}
use Rattle.mar_script.proofs.FirstWords.{one_split}
use Rattle.mar_script.proofs.QueryWords.{decimal_word}

-- two words spell one hint
pub hint_words : (words first second : List ℕ) (v : ℕ × List ℕ) → words ≡ first ++ 32 ∷ second → IsWord first → IsHint v → words ≡ hint_text v
    → (first ≡ decimal v.0) × (second ≡ comma_numbers v.1)
hint_words words first second v split word is same = one_split first (decimal v.0) second (comma_numbers v.1) word (decimal_word v.0 is.0) (sym split ∙ same)

pub same_hint : (h : ℕ) (peers : List ℕ) (v : ℕ × List ℕ) → h ≡ v.0 → peers ≡ v.1 → (h, peers) ≡ v
same_hint h peers v one two = ap (λ k. (k, peers)) one ∙ ap (λ ps. (v.0, ps)) two

-- a hint names a peer
pub some_peer : (peers : List ℕ) (v : ℕ × List ℕ) → IsHint v → peers ≡ v.1 → length peers ≡ 0 → ⊥
some_peer peers v is same none = absurd (let some : 1 ≤ length v.1 = is.2 in let zero_long : length v.1 ≡ 0 = sym (ap length same) ∙ none in omega arith)

-- The words of lines that ask are read as they were spelled.
use Rattle.std.proofs.Common.{List, Ok, ap, arith, sym, ℕ, ◌++◌, ◌∙◌, ◌∷◌, ◌≡◌}
use Rattle.std.specs.Fmt.{decimal}
use Rattle.std.proofs.lemmas.List.Elements.{All-contains}
use Rattle.hex.specs.Hex.{decode_of, encode_lower}
use Rattle.hex.proofs.HexLemmas.{decode_of-encode_lower}
use Rattle.mar_types.specs.Digest.{IsDigest}
use Rattle.mar_types.specs.Varint.{IsNumber}
use Rattle.mar_types.specs.Round.{IsRound, Round}
use Rattle.mar_script.specs.Lines.{IsWord}
use Rattle.mar_script.specs.Script.{hex}
use Rattle.mar_script.proofs.FirstWords.{one_split}
use Rattle.mar_script.proofs.ReadBytes.{digest_is_bytes}
use Rattle.mar_script.proofs.Sentences.{IsInk, digits_are_ink}
use Rattle.mar_script.proofs.Spelled.{decodes}

-- a word spells one digest
pub same_digest : (word xs ys : List ℕ) → IsDigest xs → IsDigest ys → word ≡ encode_lower xs → word ≡ hex ys → xs ≡ ys
same_digest word xs ys p q is same =
    let one : decode_of word ≡ Ok xs = ap decode_of is ∙ decode_of-encode_lower xs (digest_is_bytes xs p) in
    let two : decode_of word ≡ Ok ys = decodes word ys (digest_is_bytes ys q) (omega (arith, q.0)) same in
    cc (one, two)

pub decimal_word : (n : ℕ) → IsNumber n → IsWord (decimal n)
decimal_word n fits = λ has. omega (arith, All-contains IsInk (decimal n) 32 (digits_are_ink n fits) has)

-- two words spell one round
pub round_words : (words epoch view : List ℕ) (r : Round) → words ≡ epoch ++ 32 ∷ view → IsWord epoch → IsRound r → words ≡ decimal r.epoch ++ 32 ∷ decimal r.view → (epoch ≡ decimal r.epoch) × (view ≡ decimal r.view)
round_words words epoch view r is word fits same = one_split epoch (decimal r.epoch) view (decimal r.view) word (decimal_word r.epoch fits.0) (sym is ∙ same)

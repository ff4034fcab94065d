-- The words of a line that brings a block are read as they were spelled.
use Rattle.std.proofs.Common.{List, [], ap, arith, map, refl, sym, ℕ, ◌++◌, ◌<◌, ◌^◌, ◌∙◌, ◌∷◌, ◌≡◌}
use Rattle.std.specs.Fmt.{decimal}
use Rattle.std.specs.List.{All, AllByRecursion, join_with_byte}
use Rattle.std.specs.Prelude.{codes}
use Rattle.std.proofs.lemmas.List.Elements.{All-append, All-contains, All-cons}
use Rattle.mar_types.specs.Round.{IsRound, Round}
use Rattle.mar_cert.specs.Block.{Block}
use Rattle.mar_model.specs.Messages.{Peers, all_peers, some_peers}
use Rattle.mar_script.specs.Lines.{IsWord, behind_round}
use Rattle.mar_script.specs.Script.{IsPeers, hex, peers_text}
use Rattle.mar_script.proofs.FirstWords.{inked, no_sentence, one_split}
use Rattle.mar_script.proofs.QueryWords.{decimal_word}
use Rattle.mar_script.proofs.Sentences.{IsInk, digits_are_ink}

joined_ink : (p : ℕ) (ps : List ℕ) → AllByRecursion (λ q. q < 2 ^ 32) (p ∷ ps) → All IsInk (join_with_byte 44 (map decimal (p ∷ ps)))
joined_ink p [] all = digits_are_ink p (let small : p < 2 ^ 32 = all.0 in omega arith)
joined_ink p (q ∷ ps) all = All-append IsInk (decimal p) (44 ∷ join_with_byte 44 (map decimal (q ∷ ps))) (digits_are_ink p (let small : p < 2 ^ 32 = all.0 in omega arith)) (All-cons IsInk 44 (join_with_byte 44 (map decimal (q ∷ ps))) (omega arith) (joined_ink q ps all.1))

pub peers_ink : (p : Peers) → IsPeers p → All IsInk (peers_text p)
peers_ink all_peers is = inked (codes "all") refl
peers_ink (some_peers []) is = inked (codes "-") refl
peers_ink (some_peers (q ∷ ps)) is = joined_ink q ps is.0

peers_word : (p : Peers) → IsPeers p → IsWord (peers_text p)
peers_word p is = λ has. omega (arith, All-contains IsInk (peers_text p) 32 (peers_ink p is) has)

-- THE WORDS, FROM THE FIRST TO THE LAST

-- the epoch stands in front
module _ (words epoch between : List ℕ) (split : words ≡ epoch ++ 32 ∷ between) (word : IsWord epoch) (r : Round) (is : IsRound r) (more : List ℕ) (spelled : words ≡ behind_round r more) where
  pub epoch_first : (epoch ≡ decimal r.epoch) × (between ≡ decimal r.view ++ 32 ∷ more)
  epoch_first = one_split epoch (decimal r.epoch) between (decimal r.view ++ 32 ∷ more) word (decimal_word r.epoch is.0) (sym split ∙ spelled)

  -- then the view, with more behind it
  pub no_last : IsWord between → ⊥
  no_last last = no_sentence between (decimal r.view) more last epoch_first.1

  pub view_next : (view rest : List ℕ) → between ≡ view ++ 32 ∷ rest → IsWord view → (view ≡ decimal r.view) × (rest ≡ more)
  view_next view rest next view_word = one_split view (decimal r.view) rest more view_word (decimal_word r.view is.1) (sym next ∙ epoch_first.1)

pub round_spelled : (words epoch between view rest : List ℕ) (r : Round) → words ≡ epoch ++ 32 ∷ between → between ≡ view ++ 32 ∷ rest → (epoch ≡ decimal r.epoch) × (view ≡ decimal r.view) → words ≡ behind_round r rest
round_spelled words epoch between view rest r split next is =
    split ∙ ap (λ l. epoch ++ 32 ∷ l) next ∙ ap (λ e. e ++ 32 ∷ (view ++ 32 ∷ rest)) is.0 ∙ ap (λ v. decimal r.epoch ++ 32 ∷ (v ++ 32 ∷ rest)) is.1

-- then the peers
pub peers_next : (word rest : List ℕ) (p : Peers) (b : Block) → IsPeers p → peers_text p ++ 32 ∷ hex b.encoded ≡ word ++ 32 ∷ rest → IsWord word → (word ≡ peers_text p) × (rest ≡ hex b.encoded)
peers_next word rest p b is split word_is = one_split word (peers_text p) rest (hex b.encoded) word_is (peers_word p is) (sym split)

pub peers_spelled : (words word rest : List ℕ) (p : Peers) (b : Block) → words ≡ word ++ 32 ∷ rest → word ≡ peers_text p → rest ≡ hex b.encoded → words ≡ peers_text p ++ 32 ∷ hex b.encoded
peers_spelled words word rest p b split word_is rest_is = split ∙ ap (λ w. w ++ 32 ∷ rest) word_is ∙ ap (λ r. peers_text p ++ 32 ∷ r) rest_is

-- VALUES OF EQUAL PARTS

pub same_two : {A B : Type 0} (a : A) (b : B) (v : A × B) → a ≡ v.0 → b ≡ v.1 → (a, b) ≡ v
same_two a b v p q = ap (λ x. (x, b)) p ∙ ap (λ y. (v.0, y)) q

pub same_three : {A B C : Type 0} (a : A) (b : B) (c : C) (v : A × B × C) → a ≡ v.0 → b ≡ v.1 → c ≡ v.2 → (a, b, c) ≡ v
same_three a b c v p q r = ap (λ x. (x, b, c)) p ∙ ap (λ y. (v.0, y, c)) q ∙ ap (λ z. (v.0, v.1, z)) r

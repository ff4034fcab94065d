-- What a reader of a key took, by the key's kind.
use Rattle.std.proofs.Common.{List, ap, refl, subst, ℕ, ◌++◌, ◌∙◌, ◌∷◌, ◌≡◌}
use Rattle.mar_types.specs.Codec.{Takes}
use Rattle.mar_types.specs.Varint.{IsVarint, varint}
use Rattle.mar_types.specs.Round.{Round, SpellsRound, round_bytes}
use Rattle.mar_key.specs.Keys.{block_key, finalized_key, notarized_key}
use Rattle.mar_key.specs.SpelledKeys.{SpellsKey}

pub takes_block : (Spells : List ℕ → Type 0) (encoded bytes old mid new : List ℕ) → encoded ≡ bytes → old ≡ 0 ∷ mid → Takes Spells encoded mid new → Takes (SpellsKey Spells) (0 ∷ bytes) old new
takes_block Spells encoded bytes old mid new same first t = record {
  in_grammar = record { key = block_key bytes; is_key = subst Spells same t.in_grammar; spelled = refl };
  taken = first ∙ ap (λ xs. 0 ∷ xs) (t.taken ∙ ap (λ xs. xs ++ new) same);
}

pub takes_finalized : (Spells : List ℕ → Type 0) (height : ℕ) (old mid new : List ℕ) → old ≡ 1 ∷ mid → Takes IsVarint (varint height) mid new → Takes (SpellsKey Spells) (1 ∷ varint height) old new
takes_finalized Spells height old mid new first t = record {
  in_grammar = record { key = finalized_key t.in_grammar.number; is_key = t.in_grammar.fits; spelled = ap (λ xs. 1 ∷ xs) t.in_grammar.spelled };
  taken = first ∙ ap (λ xs. 1 ∷ xs) t.taken;
}

pub takes_notarized : (Spells : List ℕ → Type 0) (round : Round) (old mid new : List ℕ) → old ≡ 2 ∷ mid → Takes SpellsRound (round_bytes round) mid new → Takes (SpellsKey Spells) (2 ∷ round_bytes round) old new
takes_notarized Spells round old mid new first t = record {
  in_grammar = record { key = notarized_key t.in_grammar.round; is_key = t.in_grammar.is_round; spelled = ap (λ xs. 2 ∷ xs) t.in_grammar.spelled };
  taken = first ∙ ap (λ xs. 2 ∷ xs) t.taken;
}

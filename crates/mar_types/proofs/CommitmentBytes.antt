-- Bytes that are refused as a commitment spell none.
use Rattle.std.proofs.Common.{◌≡◌, inl, inr, ℕ, ◌+◌, List, length, take, sym, ◌∙◌, ap, subst, arith, length-append}
use Rattle.std.proofs.Math.Seq.{take-append_seam}
use Rattle.mar_types.specs.Codec.{HasNoFront, Takes}
use Rattle.mar_types.specs.Digest.{IsBytes}
use Rattle.mar_types.specs.DigestLemmas.{bytes_unambiguous}
use Rattle.mar_types.specs.declared.error.Error.{Error}
use Rattle.mar_types.specs.declared.error.Reason.{Reason}
use Rattle.mar_types.specs.Coding.{RefusesCommitment, RefusesField, RefusesParts, SpellsCommitment, SpellsField}
use Rattle.mar_types.proofs.FieldBytes.{clash}

no_field : (Spells : List ℕ → Type 0) (size : ℕ) (reason : Reason) (field : List ℕ) (e : Error) → RefusesField Spells size reason field e → SpellsField Spells size field → ⊥
no_field Spells size reason field e (inl (is, none)) s = none s.digest
no_field Spells size reason field e (inr (is, digest, more)) s = clash _ s.padding more

-- the parameters of a commitment's grammar
module _ (Block Root Context : List ℕ → Type 0) (block_size root_size context_size : ℕ) where
  no_parts : (bytes : List ℕ) (e : Error) → RefusesParts Block Root Context block_size root_size context_size bytes e → SpellsCommitment Block Root Context block_size root_size context_size bytes → ⊥
  no_parts bytes e (inl block) s = no_field Block block_size _ _ e block s.block
  no_parts bytes e (inr (inl (b, root))) s = no_field Root root_size _ _ e root s.root
  no_parts bytes e (inr (inr (inl (b, r, context)))) s = no_field Context context_size _ _ e context s.context
  no_parts bytes e (inr (inr (inr (b, r, c, is, config)))) s = config s.config

  pub no_commitment : (bytes old new : List ℕ) (e : Error) → Takes (IsBytes 100) bytes old new → RefusesParts Block Root Context block_size root_size context_size bytes e → HasNoFront (SpellsCommitment Block Root Context block_size root_size context_size) old
  no_commitment bytes old new e t parts front rest s is =
      let same : front ≡ bytes = bytes_unambiguous 100 front bytes rest new s.sized t.in_grammar (sym is ∙ t.taken) in
      no_parts bytes e parts (subst (SpellsCommitment Block Root Context block_size root_size context_size) same s)

  pub refuses_whole : (bytes old new : List ℕ) (e : Error) → Takes (IsBytes 100) bytes old new → RefusesParts Block Root Context block_size root_size context_size bytes e → RefusesCommitment Block Root Context block_size root_size context_size old e
  refuses_whole bytes old new e t parts =
      let long : length bytes ≡ 100 = t.in_grammar.0 in
      let all : length old ≡ length bytes + length new = ap length t.taken ∙ length-append bytes new in
      let first : take 100 old ≡ bytes = ap (λ n. take n old) (sym long) ∙ ap (take (length bytes)) t.taken ∙ take-append_seam bytes new in
      inr (omega (arith, long, all), subst (λ xs. RefusesParts Block Root Context block_size root_size context_size xs e) (sym first) parts)

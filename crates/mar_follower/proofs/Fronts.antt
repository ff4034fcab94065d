-- What stands at the front of an archive's bytes.
use Rattle.std.proofs.Common.{◌≡◌, ℕ, ◌+◌, ◌-◌, ◌<◌, ◌++◌, List, [], ◌∷◌, ap, append_assoc, arith, length, refl, sym, ◌∙◌}
use Rattle.std.specs.List.{AllByRecursion}
use Rattle.std.proofs.lemmas.List.{append_cancel_left}
use Rattle.mar_types.specs.Codec.{HasNoFront, IsUnambiguous}
use Rattle.mar_types.specs.Digest.{IsDigest}
use Rattle.mar_types.specs.DigestLemmas.{bytes_unambiguous}
use Rattle.mar_types.specs.Varint.{IsNumber, IsVarint, varint}
use Rattle.mar_cert.specs.Block.{Block, IsBlock}
use Rattle.mar_cert.specs.Finalization.{Finalization, finalization_bytes}
use Rattle.mar_cert.specs.Grammar.{SpellsMockFinalization, finalization_unambiguous, spelled_finalization}
use Rattle.mar_cert.specs.MockScheme.{IsFinalization}
use Rattle.mar_cert.specs.Signers.{IsMockCertificate}
use Rattle.mar_cert.specs.SignersLemmas.{certificate_unambiguous, varint_rest}
use Rattle.mar_block.specs.EmptyBlock.{SpellsBlock}
use Rattle.mar_block.specs.EmptyBlockLemmas.{block_unambiguous, spelled_block}
use Rattle.mar_follower.specs.Reading.{HasNoBlocks, TakesBlocks, TakesSegment, blocks_bytes}
use Rattle.mar_follower.specs.Segments.{HasNoSegment, IsSegment, Segment, segment_blocks, segment_bytes}

pub flat : (a b c rest : List ℕ) → a ++ b ++ c ++ rest ≡ a ++ (b ++ (c ++ rest))
flat a b c rest = append_assoc (a ++ b) c rest ∙ append_assoc a b (c ++ rest)

pub one_block : IsUnambiguous (SpellsBlock IsDigest)
one_block = block_unambiguous IsDigest (bytes_unambiguous 32)

pub one_finalization : (n : ℕ) → IsUnambiguous (SpellsMockFinalization n)
one_finalization n = finalization_unambiguous IsDigest (IsMockCertificate n) (bytes_unambiguous 32) (certificate_unambiguous n)

-- two spellings at one front: what follows each is the same
pub after : (Grammar : List ℕ → Type 0) → IsUnambiguous Grammar → (front other rest left : List ℕ) → Grammar front → Grammar other → front ++ rest ≡ other ++ left → rest ≡ left
after Grammar one front other rest left is also e =
    let same = one front other rest left is also e in
    append_cancel_left front rest left (e ∙ ap (λ xs. xs ++ left) (sym same))

-- BLOCKS

-- where fewer blocks were taken than stand there, another one follows
block_next : (read blocks : List Block) (u rest : List ℕ) → AllByRecursion IsBlock read → AllByRecursion IsBlock blocks → length read < length blocks
    → blocks_bytes read ++ u ≡ blocks_bytes blocks ++ rest → (b : Block) × (left : List ℕ) × IsBlock b × (u ≡ b.encoded ++ left)
block_next read [] u rest are also fewer e = absurd (omega (arith, fewer))
block_next [] (b ∷ blocks) u rest are also fewer e = (b, blocks_bytes blocks ++ rest, also.0, e ∙ append_assoc b.encoded (blocks_bytes blocks) rest)
block_next (a ∷ read) (b ∷ blocks) u rest are also fewer e =
    block_next read blocks u rest are.1 also.1 (omega (arith, fewer))
    (after (SpellsBlock IsDigest) one_block a.encoded b.encoded (blocks_bytes read ++ u) (blocks_bytes blocks ++ rest) (spelled_block a are.0) (spelled_block b also.0)
    (sym (append_assoc a.encoded (blocks_bytes read) u) ∙ e ∙ append_assoc b.encoded (blocks_bytes blocks) rest))

pub no_more : (count : ℕ) (read : List Block) (bytes u : List ℕ) → AllByRecursion IsBlock read → length read < count → bytes ≡ blocks_bytes read ++ u
    → HasNoFront (SpellsBlock IsDigest) u → HasNoBlocks count bytes
no_more count read bytes u are fewer taken none blocks rest also long e =
    let next = block_next read blocks u rest are also (omega (arith, fewer, long)) (sym taken ∙ e) in
    none next.0.encoded next.1 (spelled_block next.0 next.2) next.3

all_push : (blocks : List Block) (b : Block) → AllByRecursion IsBlock blocks → IsBlock b → AllByRecursion IsBlock (blocks ++ b ∷ [])
all_push [] b are is = (is, tt)
all_push (a ∷ blocks) b are is = (are.0, all_push blocks b are.1 is)

bytes_push : (blocks : List Block) (b : Block) (rest : List ℕ) → blocks_bytes (blocks ++ b ∷ []) ++ rest ≡ blocks_bytes blocks ++ (b.encoded ++ rest)
bytes_push [] b rest = append_assoc b.encoded [] rest
bytes_push (a ∷ blocks) b rest =
    append_assoc a.encoded (blocks_bytes (blocks ++ b ∷ [])) rest ∙ ap (λ xs. a.encoded ++ xs) (bytes_push blocks b rest)
    ∙ sym (append_assoc a.encoded (blocks_bytes blocks) (b.encoded ++ rest))

length_push : (blocks : List Block) (b : Block) → length (blocks ++ b ∷ []) ≡ length blocks + 1
length_push [] b = refl
length_push (a ∷ blocks) b = omega (arith, length_push blocks b)

-- one block more
pub takes_more : (count : ℕ) (blocks : List Block) (b : Block) (old mid new : List ℕ) → TakesBlocks count blocks old mid → IsBlock b → mid ≡ b.encoded ++ new
    → TakesBlocks (count + 1) (blocks ++ b ∷ []) old new
takes_more count blocks b old mid new takes is next = record {
  are = all_push blocks b takes.are is;
  counted = length_push blocks b ∙ ap (λ n. n + 1) takes.counted;
  taken = takes.taken ∙ ap (λ xs. blocks_bytes blocks ++ xs) next ∙ sym (bytes_push blocks b new);
}

-- SEGMENTS

pub no_finalization : (n : ℕ) (bytes : List ℕ) → HasNoFront (SpellsMockFinalization n) bytes → HasNoSegment n bytes
no_finalization n bytes none s rest is e =
    none (finalization_bytes s.finalization) (varint (length (segment_blocks s)) ++ (blocks_bytes (segment_blocks s) ++ rest)) (spelled_finalization n s.finalization is.finalization)
    (e ∙ flat (finalization_bytes s.finalization) (varint (length (segment_blocks s))) (blocks_bytes (segment_blocks s)) rest)

-- bytes that begin with a finalization, and with a segment
module _ (n : ℕ) (bytes u : List ℕ) (f : Finalization) (is_f : IsFinalization n f) (taken_f : bytes ≡ finalization_bytes f ++ u) where
  after_finalization : (s : Segment) (rest : List ℕ) → IsSegment n s → bytes ≡ segment_bytes s ++ rest → u ≡ varint (length (segment_blocks s)) ++ (blocks_bytes (segment_blocks s) ++ rest)
  after_finalization s rest is e =
      after (SpellsMockFinalization n) (one_finalization n) (finalization_bytes f) (finalization_bytes s.finalization) u
      (varint (length (segment_blocks s)) ++ (blocks_bytes (segment_blocks s) ++ rest))
      (spelled_finalization n f is_f) (spelled_finalization n s.finalization is.finalization)
      (sym taken_f ∙ e ∙ flat (finalization_bytes s.finalization) (varint (length (segment_blocks s))) (blocks_bytes (segment_blocks s)) rest)

  pub no_count : HasNoFront IsVarint u → HasNoSegment n bytes
  no_count none s rest is e =
      none (varint (length (segment_blocks s))) (blocks_bytes (segment_blocks s) ++ rest)
      (record { number = length (segment_blocks s); fits = is.count; spelled = refl }) (after_finalization s rest is e)

  module _ (count : ℕ) (w : List ℕ) (taken_count : u ≡ varint count ++ w) where
    after_count : (s : Segment) (rest : List ℕ) → IsSegment n s → bytes ≡ segment_bytes s ++ rest → (count ≡ length (segment_blocks s)) × (w ≡ blocks_bytes (segment_blocks s) ++ rest)
    after_count s rest is e = varint_rest count (length (segment_blocks s)) w (blocks_bytes (segment_blocks s) ++ rest) (sym taken_count ∙ after_finalization s rest is e)

    pub no_blocks : count ≡ 0 → HasNoSegment n bytes
    no_blocks none s rest is e = let same = (after_count s rest is e).0 in absurd (omega (arith, same, none))

    pub no_top : HasNoFront (SpellsBlock IsDigest) w → HasNoSegment n bytes
    no_top none s rest is e =
        none s.top.encoded (blocks_bytes s.others ++ rest) (spelled_block s.top is.blocks.0) ((after_count s rest is e).1 ∙ append_assoc s.top.encoded (blocks_bytes s.others) rest)

    module _ (top : Block) (v : List ℕ) (is_top : IsBlock top) (taken_top : w ≡ top.encoded ++ v) where
      pub no_others : HasNoBlocks (count - 1) v → HasNoSegment n bytes
      no_others none s rest is e =
          let here = after_count s rest is e in
          none s.others rest is.blocks.1 (omega (arith, here.0))
          (after (SpellsBlock IsDigest) one_block top.encoded s.top.encoded v (blocks_bytes s.others ++ rest) (spelled_block top is_top) (spelled_block s.top is.blocks.0)
          (sym taken_top ∙ here.1 ∙ append_assoc s.top.encoded (blocks_bytes s.others) rest))

      pub takes_segment : (others : List Block) (new : List ℕ) → IsNumber count → (count ≡ 0 → ⊥) → TakesBlocks (count - 1) others v new
          → TakesSegment n (record { finalization = f; top = top; others = others }) bytes new
      takes_segment others new fits some takes =
          let counted = takes.counted in
          let all : length (top ∷ others) ≡ count = omega (arith, counted, some) in record {
            is = record { finalization = is_f; count = omega (arith, all, fits); blocks = (is_top, takes.are) };
            taken = taken_f ∙ ap (λ xs. finalization_bytes f ++ xs)
                (taken_count ∙ ap (λ xs. varint count ++ xs) (taken_top ∙ ap (λ xs. top.encoded ++ xs) takes.taken ∙ sym
                (append_assoc top.encoded (blocks_bytes others) new)) ∙ ap (λ k. varint k ++ (blocks_bytes (top ∷ others) ++ new)) (sym all))
                ∙ sym (flat (finalization_bytes f) (varint (length (top ∷ others))) (blocks_bytes (top ∷ others)) new);
          }

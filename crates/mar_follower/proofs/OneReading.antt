-- Bytes are read as an archive, or refused, in one way.
use Rattle.std.proofs.Common.{◌≡◌, ℕ, ◌<◌, ◌++◌, ◌⊎◌, List, None, Option, Some, [], ◌∷◌, ap, ap₂, append_assoc, arith, inl, inr, length, refl, suc, subst, sym, ◌∙◌, ◌+◌}
use Rattle.std.specs.List.{AllByRecursion}
use Rattle.std.proofs.lemmas.List.{append-nil}
use Rattle.mar_types.specs.Digest.{IsDigest}
use Rattle.mar_types.specs.Varint.{varint}
use Rattle.mar_cert.specs.Block.{Block, IsBlock}
use Rattle.mar_cert.specs.Finalization.{Finalization, finalization_bytes}
use Rattle.mar_cert.specs.Grammar.{SpellsMockFinalization, same_finalization, spelled_finalization}
use Rattle.mar_cert.specs.SignersLemmas.{varint_rest}
use Rattle.mar_block.specs.EmptyBlock.{SpellsBlock}
use Rattle.mar_block.specs.EmptyBlockLemmas.{same_block, spelled_block}
use Rattle.mar_types.specs.Round.{round_bytes}
use Rattle.mar_follower.specs.Reading.{blocks_bytes}
use Rattle.mar_follower.specs.Segments.{AreParents, Committee, FailsAt, HasFlaw, HasNoSegment, IsArchive, IsParent, IsRefusedBehind, IsRefusedNext, IsSegment, PassInTurn, Passes, Segment, archive_bytes, lowest_before, lowest_of, segment_blocks, segment_bytes}
use Rattle.mar_follower.specs.declared.why.Why.{Why}
use Rattle.mar_follower.specs.declared.why.Why.TheVariants.{Certificate, Epoch, Grammar, Long, Order, Parent, Payload}
use Rattle.mar_follower.proofs.Fronts.{after, flat, one_block, one_finalization}

-- BLOCKS AND SEGMENTS

-- as many blocks at one front are the same
same_blocks : (xs ys : List Block) (rest left : List ℕ) → AllByRecursion IsBlock xs → AllByRecursion IsBlock ys → length xs ≡ length ys
    → blocks_bytes xs ++ rest ≡ blocks_bytes ys ++ left → (xs ≡ ys) × (rest ≡ left)
same_blocks [] [] rest left are also long e = (refl, e)
same_blocks [] (y ∷ ys) rest left are also long e = absurd (omega (arith, long))
same_blocks (x ∷ xs) [] rest left are also long e = absurd (omega (arith, long))
same_blocks (x ∷ xs) (y ∷ ys) rest left are also long e =
    let here = sym (append_assoc x.encoded (blocks_bytes xs) rest) ∙ e ∙ append_assoc y.encoded (blocks_bytes ys) left in
    let is_x = spelled_block x are.0 in
    let is_y = spelled_block y also.0 in
    let bytes = one_block x.encoded y.encoded (blocks_bytes xs ++ rest) (blocks_bytes ys ++ left) is_x is_y here in
    let behind = after (SpellsBlock IsDigest) one_block x.encoded y.encoded (blocks_bytes xs ++ rest) (blocks_bytes ys ++ left) is_x is_y here in
    let others = same_blocks xs ys rest left are.1 also.1 (omega (arith, long)) behind in
    (ap₂ (λ (b : Block) (bs : List Block). b ∷ bs) (same_block x y are.0 also.0 bytes) others.0, others.1)

abbrev made : Finalization → List Block → Segment → Segment
made f [] s = s
made f (b ∷ bs) s = record { finalization = f; top = b; others = bs }

-- two segments at one front are one, and the same is behind them
same_front : (n : ℕ) (s t : Segment) (rest left : List ℕ) → IsSegment n s → IsSegment n t → segment_bytes s ++ rest ≡ segment_bytes t ++ left
    → (s ≡ t) × (rest ≡ left)
same_front n s t rest left is also e = (segment, blocks.1)
  where
    f : List ℕ
    f = finalization_bytes s.finalization

    g : List ℕ
    g = finalization_bytes t.finalization

    u : List ℕ
    u = varint (length (segment_blocks s)) ++ (blocks_bytes (segment_blocks s) ++ rest)

    v : List ℕ
    v = varint (length (segment_blocks t)) ++ (blocks_bytes (segment_blocks t) ++ left)

    here : f ++ u ≡ g ++ v
    here = sym (flat f (varint (length (segment_blocks s))) (blocks_bytes (segment_blocks s)) rest) ∙ e
        ∙ flat g (varint (length (segment_blocks t))) (blocks_bytes (segment_blocks t)) left

    spelled_f : SpellsMockFinalization n f
    spelled_f = spelled_finalization n s.finalization is.finalization

    spelled_g : SpellsMockFinalization n g
    spelled_g = spelled_finalization n t.finalization also.finalization

    finalizations : s.finalization ≡ t.finalization
    finalizations = same_finalization n n s.finalization t.finalization is.finalization also.finalization (one_finalization n f g u v spelled_f spelled_g here)

    counts : (length (segment_blocks s) ≡ length (segment_blocks t)) × (blocks_bytes (segment_blocks s) ++ rest ≡ blocks_bytes (segment_blocks t) ++ left)
    counts =
        varint_rest (length (segment_blocks s)) (length (segment_blocks t)) (blocks_bytes (segment_blocks s) ++ rest) (blocks_bytes (segment_blocks t) ++ left)
        (after (SpellsMockFinalization n) (one_finalization n) f g u v spelled_f spelled_g here)

    blocks : (segment_blocks s ≡ segment_blocks t) × (rest ≡ left)
    blocks = same_blocks (segment_blocks s) (segment_blocks t) rest left is.blocks also.blocks counts.0 counts.1

    segment : s ≡ t
    segment = ap₂ (λ (h : Finalization) (bs : List Block). made h bs s) finalizations blocks.0

-- NO BYTES ARE NO SEGMENT

nil_front : (xs ys : List ℕ) → [] ≡ xs ++ ys → xs ≡ []
nil_front [] ys e = refl
nil_front (x ∷ xs) ys e = absurd cc

nil_back : (xs ys : List ℕ) → [] ≡ xs ++ ys → ys ≡ []
nil_back [] ys e = sym e
nil_back (x ∷ xs) ys e = absurd cc

-- a payload is never empty
no_bytes : (n : ℕ) (s : Segment) (rest : List ℕ) → IsSegment n s → [] ≡ segment_bytes s ++ rest → ⊥
no_bytes n s rest is e =
    let proposal = round_bytes s.finalization.round ++ varint s.finalization.parent in
    let behind = varint (length (segment_blocks s)) ++ (blocks_bytes (segment_blocks s) ++ rest) in
    let f = nil_front (finalization_bytes s.finalization) behind
    (e ∙ flat (finalization_bytes s.finalization) (varint (length (segment_blocks s))) (blocks_bytes (segment_blocks s)) rest) in
    let p = nil_front (proposal ++ s.finalization.payload) s.finalization.certificate (sym f) in
    let none = nil_back proposal s.finalization.payload (sym p) in
    absurd (omega (arith, is.finalization.payload_fits.0, ap length none))

-- WHERE AN ARCHIVE STOPS

-- no segment that passes behind this height stands at the front
abbrev HasNoNext : Committee → Option ℕ → List ℕ → Type 0
HasNoNext committee above bytes = (s : Segment) (rest : List ℕ) → Passes committee above s → bytes ≡ segment_bytes s ++ rest → ⊥

nothing_next : (committee : Committee) (above : Option ℕ) → HasNoNext committee above []
nothing_next committee above s rest passes e = no_bytes committee.members s rest passes.grammar e

-- where each block is the parent of the one before, none fails
no_stranger : (k : ℕ) (b : Block) (others : List Block) (i : ℕ) → AreParents b others → FailsAt k b others i → ⊥
no_stranger k b [] i parents fails = fails
no_stranger k b (c ∷ others) i parents (inl here) = here.1 parents.0
no_stranger k b (c ∷ others) i parents (inr later) = no_stranger (k + 1) c others i parents.1 later.1

-- a flaw is one that the segment has
flawed : (committee : Committee) (above : Option ℕ) (s : Segment) (why : Why) → HasFlaw committee above s why → Passes committee above s → ⊥
flawed committee above s Grammar flaw passes = flaw
flawed committee above s Epoch flaw passes = flaw passes.epoch
flawed committee above s Certificate flaw passes = flaw.1 passes.certificate
flawed committee above s Payload flaw passes = flaw.2 passes.payload
flawed committee above s (Parent i) flaw passes = no_stranger 0 s.top s.others i passes.parents flaw.3
flawed committee above s Order flaw passes = flaw.4 passes.order
flawed committee above s Long flaw passes = flaw

-- A segment in the grammar at the front, with a flaw.
record Flawed (committee : Committee) (above : Option ℕ) (bytes : List ℕ) (why : Why) : Type 0 where
  segment : Segment
  rest : List ℕ
  is : IsSegment committee.members segment
  taken : bytes ≡ segment_bytes segment ++ rest
  flaw : HasFlaw committee above segment why

-- bytes are refused for their grammar, or for what stands at the front
record Ungrammatical (committee : Committee) (bytes : List ℕ) (why : Why) : Type 0 where
  why_is : why ≡ Grammar
  some : [] ≡ bytes → ⊥
  none : HasNoSegment committee.members bytes

some_bytes : (bytes : List ℕ) → 0 < length bytes → [] ≡ bytes → ⊥
some_bytes bytes some e = absurd (omega (arith, some, ap length e))

parted : (committee : Committee) (above : Option ℕ) (bytes : List ℕ) (why : Why) → IsRefusedNext committee above bytes why
    → Ungrammatical committee bytes why ⊎ Flawed committee above bytes why
parted committee above bytes Grammar (some, none) = inl (record { why_is = refl; some = some_bytes bytes some; none = none })
parted committee above bytes Epoch (s, rest, is, taken, flaw) = inr (record { segment = s; rest = rest; is = is; taken = taken; flaw = flaw })
parted committee above bytes Certificate (s, rest, is, taken, flaw) = inr (record { segment = s; rest = rest; is = is; taken = taken; flaw = flaw })
parted committee above bytes Payload (s, rest, is, taken, flaw) = inr (record { segment = s; rest = rest; is = is; taken = taken; flaw = flaw })
parted committee above bytes (Parent i) (s, rest, is, taken, flaw) = inr (record { segment = s; rest = rest; is = is; taken = taken; flaw = flaw })
parted committee above bytes Order (s, rest, is, taken, flaw) = inr (record { segment = s; rest = rest; is = is; taken = taken; flaw = flaw })
parted committee above bytes Long (s, rest, is, taken, flaw) = absurd flaw

refused_no_next : (committee : Committee) (above : Option ℕ) (bytes : List ℕ) (why : Why) → IsRefusedNext committee above bytes why → HasNoNext committee above bytes
refused_no_next committee above bytes why refused s rest passes e = elim (parted committee above bytes why refused) [
  | inl none ↦ none.none s rest passes.grammar e
  | inr there ↦
      let same = same_front committee.members there.segment s there.rest rest there.is passes.grammar (sym there.taken ∙ e) in
      flawed committee above there.segment why there.flaw (subst (λ (t : Segment). Passes committee above t) (sym same.0) passes)
]

refused_some : (committee : Committee) (above : Option ℕ) (bytes : List ℕ) (why : Why) → IsRefusedNext committee above bytes why → [] ≡ bytes → ⊥
refused_some committee above bytes why refused e = elim (parted committee above bytes why refused) [
  | inl none ↦ none.some e
  | inr there ↦ no_bytes committee.members there.segment there.rest there.is (e ∙ there.taken)
]

-- ONE READING

one_reading : (committee : Committee) (above : Option ℕ) (xs ys : List Segment) (u v : List ℕ) → PassInTurn committee above xs → PassInTurn committee above ys
    → HasNoNext committee (lowest_before above xs) u → HasNoNext committee (lowest_before above ys) v → archive_bytes xs ++ u ≡ archive_bytes ys ++ v
    → (xs ≡ ys) × (u ≡ v)
one_reading committee above [] [] u v p q no_u no_v e = (refl, e)
one_reading committee above [] (y ∷ ys) u v p q no_u no_v e = absurd (no_u y (archive_bytes ys ++ v) q.0 (e ∙ append_assoc (segment_bytes y) (archive_bytes ys) v))
one_reading committee above (x ∷ xs) [] u v p q no_u no_v e = absurd (no_v x (archive_bytes xs ++ u) p.0 (sym e ∙ append_assoc (segment_bytes x) (archive_bytes xs) u))
one_reading committee above (x ∷ xs) (y ∷ ys) u v p q no_u no_v e =
    let front = same_front committee.members x y (archive_bytes xs ++ u) (archive_bytes ys ++ v) p.0.grammar q.0.grammar
    (sym (append_assoc (segment_bytes x) (archive_bytes xs) u) ∙ e ∙ append_assoc (segment_bytes y) (archive_bytes ys) v) in
    let passed = subst (λ (s : Segment). PassInTurn committee (Some (lowest_of s)) ys) (sym front.0) q.1 in
    let ended = subst (λ (s : Segment). HasNoNext committee (lowest_before (Some (lowest_of s)) ys) v) (sym front.0) no_v in
    let rest = one_reading committee (Some (lowest_of x)) xs ys u v p.1 passed no_u ended front.1 in
    (ap₂ (λ (s : Segment) (ss : List Segment). s ∷ ss) front.0 rest.0, rest.1)

whole : (committee : Committee) (bytes : List ℕ) (segments : List Segment) → IsArchive committee bytes segments → bytes ≡ archive_bytes segments ++ []
whole committee bytes segments archive = archive.spelled ∙ sym (append-nil (archive_bytes segments))

-- an archive's segments are one list
pub one_archive : (committee : Committee) (bytes : List ℕ) (xs ys : List Segment) → IsArchive committee bytes xs → IsArchive committee bytes ys → xs ≡ ys
one_archive committee bytes xs ys a b =
    (one_reading committee None xs ys [] [] a.passed b.passed (nothing_next committee (lowest_before None xs)) (nothing_next committee (lowest_before None ys))
    (sym (whole committee bytes xs a) ∙ whole committee bytes ys b)).0

-- no archive is refused
pub not_both : (committee : Committee) (bytes : List ℕ) (xs ys : List Segment) (why : Why) → IsArchive committee bytes xs → IsRefusedBehind committee bytes ys why → ⊥
not_both committee bytes xs ys why a b =
    refused_some committee (lowest_before None ys) b.rest why b.refused
    (one_reading committee None xs ys [] b.rest a.passed b.passed (nothing_next committee (lowest_before None xs))
    (refused_no_next committee (lowest_before None ys) b.rest why b.refused) (sym (whole committee bytes xs a) ∙ b.spelled)).1

-- ONE REASON

one_stranger : (k : ℕ) (b : Block) (others : List Block) (i j : ℕ) → FailsAt k b others i → FailsAt k b others j → i ≡ j
one_stranger k b [] i j fails other = absurd fails
one_stranger k b (c ∷ others) i j (inl here) (inl there) = here.0 ∙ sym there.0
one_stranger k b (c ∷ others) i j (inl here) (inr later) = absurd (here.1 later.0)
one_stranger k b (c ∷ others) i j (inr later) (inl here) = absurd (here.1 later.0)
one_stranger k b (c ∷ others) i j (inr later) (inr other) = one_stranger (k + 1) c others i j later.1 other.1

-- of the conditions in their order the first that doesn't hold is one
one_flaw : (committee : Committee) (above : Option ℕ) (s : Segment) (why other : Why) → HasFlaw committee above s why → HasFlaw committee above s other → why ≡ other
one_flaw committee above s Grammar other here there = absurd here
one_flaw committee above s Long other here there = absurd here
one_flaw committee above s why Grammar here there = absurd there
one_flaw committee above s why Long here there = absurd there
one_flaw committee above s Epoch Epoch here there = refl
one_flaw committee above s Epoch other here there = absurd (here there.0)
one_flaw committee above s why Epoch here there = absurd (there here.0)
one_flaw committee above s Certificate Certificate here there = refl
one_flaw committee above s Certificate other here there = absurd (here.1 there.1)
one_flaw committee above s why Certificate here there = absurd (there.1 here.1)
one_flaw committee above s Payload Payload here there = refl
one_flaw committee above s Payload other here there = absurd (here.2 there.2)
one_flaw committee above s why Payload here there = absurd (there.2 here.2)
one_flaw committee above s (Parent i) (Parent j) here there = ap Parent (one_stranger 0 s.top s.others i j here.3 there.3)
one_flaw committee above s (Parent i) Order here there = absurd (no_stranger 0 s.top s.others i there.3 here.3)
one_flaw committee above s Order (Parent i) here there = absurd (no_stranger 0 s.top s.others i here.3 there.3)
one_flaw committee above s Order Order here there = refl

one_reason : (committee : Committee) (above : Option ℕ) (bytes : List ℕ) (why other : Why) → IsRefusedNext committee above bytes why
    → IsRefusedNext committee above bytes other → why ≡ other
one_reason committee above bytes why other a b = elim (parted committee above bytes why a) [
  | inl none ↦ elim (parted committee above bytes other b) [
    | inl also ↦ none.why_is ∙ sym also.why_is
    | inr there ↦ absurd (none.none there.segment there.rest there.is there.taken)
  ]
  | inr here ↦ elim (parted committee above bytes other b) [
    | inl none ↦ absurd (none.none here.segment here.rest here.is here.taken)
    | inr there ↦
        let same = same_front committee.members here.segment there.segment here.rest there.rest here.is there.is (sym here.taken ∙ there.taken) in
        let flaw = subst (λ (s : Segment). HasFlaw committee above s other) (sym same.0) there.flaw in
        one_flaw committee above here.segment why other here.flaw flaw
  ]
]

-- bytes are refused behind the same segments, and for the same reason
pub one_refusal : (committee : Committee) (bytes : List ℕ) (xs ys : List Segment) (why other : Why) → IsRefusedBehind committee bytes xs why
    → IsRefusedBehind committee bytes ys other → (xs ≡ ys) × (why ≡ other)
one_refusal committee bytes xs ys why other a b =
    let same = one_reading committee None xs ys a.rest b.rest a.passed b.passed
    (refused_no_next committee (lowest_before None xs) a.rest why a.refused)
    (refused_no_next committee (lowest_before None ys) b.rest other b.refused) (sym a.spelled ∙ b.spelled) in
    let height = ap (lowest_before None) same.0 in
    let moved = subst (λ (bs : List ℕ). IsRefusedNext committee (lowest_before None ys) bs other) (sym same.1) b.refused in
    let here = subst (λ (h : Option ℕ). IsRefusedNext committee h a.rest other) (sym height) moved in
    (same.0, one_reason committee (lowest_before None xs) a.rest why other a.refused here)

-- What an archive's segments are on a lawful chain; archives that are none.
use Rattle.std.proofs.Common.{◌≡◌, ℕ, zero, suc, ◌+◌, ◌++◌, List, [], ◌∷◌, None, Option, Some, IsTrue, option_map, slice_get, refl, sym, ap, subst, ◌∙◌, arith, Contains}
use Rattle.std.specs.List.{AllByRecursion, flat_map}
use Rattle.mar_types.specs.Epochs.{Epochs}
use Rattle.mar_cert.specs.Block.{Block}
use Rattle.mar_model.specs.Chain.{Chain, IsBlockAt, IsLawful}
use Rattle.mar_model.specs.Node.{IsFinalized}
use Rattle.mar_follower.specs.Chains.{AreFalling, AreTheChains}
use Rattle.mar_follower.specs.Segments.{AreParents, Committee, IsParent, PassInTurn, Passes, Segment, IsBelow, lowest_from, lowest_of, segment_blocks}

-- each is the chain's block at its height
abbrev pub AreOfChain : Chain → List Block → Type 0
AreOfChain chain blocks = AllByRecursion (λ b. IsBlockAt chain b.height b) blocks

-- what is asked of the chain: digests name blocks, and each verified finalization of the archive is the chain's
module _ (committee : Committee) (chain : Chain) (epochs : Epochs) (lawful : IsLawful epochs chain) (among : Block → Type 0)
    (of_chain : (h : ℕ) (c : Block) → IsBlockAt chain h c → among c)
    (one : (a b : Block) → among a → among b → a.digest ≡ b.digest → a ≡ b) (named : (b : Block) → among b → b.commitment ≡ b.digest)
  where
    -- of two neighbours: the parent of a chain's block is the chain's
    below : (b c : Block) → IsBlockAt chain b.height b → among c → IsParent b c → IsBlockAt chain c.height c
    below b c at known parent = by (slice_get chain.blocks c.height) refl
      where
        here : IsBlockAt chain (c.height + 1) b
        here = subst (λ h. IsBlockAt chain h b) parent.1 at

        by : (o : Option Block) → slice_get chain.blocks c.height ≡ o → IsBlockAt chain c.height c
        by (Some d) there = subst (IsBlockAt chain c.height) (one d c (of_chain c.height d there) known (sym (lawful.parents c.height d b there here) ∙ parent.0)) there
        by None there = absurd (missing chain.blocks c.height there b here)
          where
            missing : (xs : List Block) (h : ℕ) → slice_get xs h ≡ None → (x : Block) → slice_get xs (h + 1) ≡ Some x → ⊥
            missing [] h none x some = cc
            missing (y ∷ ys) zero none x some = cc
            missing (y ∷ ys) (suc h) none x some = missing ys h none x (subst (λ k. slice_get (y ∷ ys) k ≡ Some x) (let same : suc h + 1 ≡ suc (h + 1) = omega arith in same) some)

    others_of_chain : (b : Block) (blocks : List Block) → IsBlockAt chain b.height b → AllByRecursion among blocks → AreParents b blocks → AreOfChain chain blocks
    others_of_chain b [] at known parents = tt
    others_of_chain b (c ∷ blocks) at known parents = let here = below b c at known.0 parents.0 in (here, others_of_chain c blocks here known.1 parents.1)

    -- the top of a segment whose payload is a chain block's
    top_of_chain : (s : Segment) → among s.top → s.finalization.payload ≡ s.top.digest → IsFinalized chain s.finalization.round s.finalization.payload → IsBlockAt chain s.top.height s.top
    top_of_chain s known payload (h, finalizes) = by (slice_get chain.blocks h) refl finalizes.payload_is
      where
        by : (o : Option Block) → slice_get chain.blocks h ≡ o → option_map (λ b. b.commitment) o ≡ Some s.finalization.payload → IsBlockAt chain s.top.height s.top
        by None there is = absurd cc
        by (Some d) there is = subst (λ k. IsBlockAt chain k s.top) at (subst (IsBlockAt chain h) same there)
          where
            inside : ◌≡◌ {A = Option (List ℕ)} (Some d.commitment) (Some s.finalization.payload) → d.commitment ≡ s.finalization.payload
            inside p = cc

            same : d ≡ s.top
            same = one d s.top (of_chain h d there) known (sym (named d (of_chain h d there)) ∙ (inside is ∙ payload))

            at : h ≡ s.top.height
            at = sym (lawful.heights h d there) ∙ ap (λ b. b.height) same

    -- A passed archive: each of its blocks is the chain's at its height, and the blocks of later segments stand lower.
    segment_of_chain : (above : Option ℕ) (s : Segment) → Passes committee above s → AllByRecursion among (segment_blocks s)
        → IsFinalized chain s.finalization.round s.finalization.payload → AreOfChain chain (segment_blocks s)
    segment_of_chain above s passes known finalized = let top = top_of_chain s known.0 passes.payload finalized in (top, others_of_chain s.top s.others top known.1 passes.parents)

    pub archive_of_chain : (above : Option ℕ) (segments : List Segment) → PassInTurn committee above segments → AllByRecursion (λ s. AllByRecursion among (segment_blocks s)) segments
        → AllByRecursion (λ s. IsTrue (committee.verifies s.finalization) → IsFinalized chain s.finalization.round s.finalization.payload) segments → AllByRecursion
        (λ s. AreOfChain chain (segment_blocks s)) segments
    archive_of_chain above [] passed known finals = tt
    archive_of_chain above (s ∷ segments) passed known finals =
        (segment_of_chain above s passed.0 known.0 (finals.0 passed.0.certificate), archive_of_chain (Some (lowest_of s)) segments passed.1 known.1 finals.1)

-- NO HEIGHT STANDS TWICE

falls_then : (b : Block) (blocks more : List Block) → AreParents b blocks → AreFalling (Some (lowest_from b blocks)) more
    → AreFalling (Some b.height) (blocks ++ more)
falls_then b [] more parents below = below
falls_then b (c ∷ blocks) more parents below = (let one : b.height ≡ c.height + 1 = parents.0.1 in omega arith, falls_then c blocks more parents.1 below)

pub archive_falls : (committee : Committee) (above : Option ℕ) (segments : List Segment) → PassInTurn committee above segments
    → AreFalling above (flat_map segment_blocks segments)
archive_falls committee above [] passed = tt
archive_falls committee above (s ∷ segments) passed =
    let below = archive_falls committee (Some (lowest_of s)) segments passed.1 in
    (passed.0.order, falls_then s.top s.others (flat_map segment_blocks segments) passed.0.parents below)

-- each block of a passed archive is the chain's
pub passed_are_the_chains : (committee : Committee) (above : Option ℕ) (segments : List Segment) → PassInTurn committee above segments → AreTheChains committee segments
passed_are_the_chains committee above segments passed chain known lawful are finals = archive_of_chain committee chain committee.epochs lawful
    (Contains known) are.of_chain are.one are.named above segments passed are.of_archive finals

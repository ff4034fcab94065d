-- Look-ups in the buffer, the cache and by digest among the held blocks find the block at hand, where a digest names one block.
use Rattle.std.proofs.Common.{◌≡◌, ℕ, zero, suc, List, [], ◌∷◌, ◌++◌, Bool, true, false, if◌then◌else◌, Option, Some, None, option_map, IfSome, Contains, bytes_eq, find, map, slice_get, refl, sym, ◌∙◌, ap, ap₂, subst, arith}
use Rattle.std.specs.Option.{option_or}
use Rattle.std.specs.List.{AllByRecursion, filter_map}
use Rattle.std.proofs.lemmas.List.Elements.{Contains-append_left, Contains-append_right}
use Rattle.std.proofs.lemmas.Option.{same_Some}
use Rattle.std.proofs.lemmas.Slice.Eq.{bytes_eq-Decides}
use Rattle.mar_cert.specs.Block.{Block}
use Rattle.mar_store.specs.Kept.{At, value_at}
use Rattle.mar_store.proofs.Lookups.{AllByRecursion-from_contains, AllByRecursion-value_at, AllByRecursion-weaker}
use Rattle.mar_store.specs.Sizes.{IsSmall}
use Rattle.mar_model.specs.SmallEntries.{AreSmallEntries}
use Rattle.mar_model.specs.Stored.{AreSmall, block_of, values_of}
use Rattle.mar_model.specs.Chain.{Chain}
use Rattle.mar_model.specs.Held.{Seen}
use Rattle.mar_model.specs.Cached.{Cached, cached_block}
use Rattle.mar_model.specs.Entries.{has_commitment}
use Rattle.mar_model.specs.Moves.{cached_by_commitment, found_at_hand, of_commitment}
use Rattle.mar_model.specs.Node.{AreBlocksOf, at_hand}
use Rattle.mar_model.specs.Promise.{AreOne, Waiting, known_blocks, node_of}
use Rattle.mar_model.proofs.AtHand.{AllByRecursion-find, bytes_same}
use Rattle.mar_model.proofs.CachedBlocks.{by_commitment-is}
use Rattle.mar_model.proofs.Filtered.{all_found_within}
use Rattle.mar_model.proofs.SmallFound.{small_block}

-- what stands at a height stands at its own height
pub own_height : {T : Type 0} (plain : T → Block) (o : Option T) (held : List (At Block)) (h : ℕ) → option_map plain o ≡ value_at held h → AllByRecursion (λ x. x.value.height ≡ x.height) held → IfSome o (λ b. (plain b).height ≡ h)
own_height plain None held h is own = tt
own_height plain (Some b) held h is own = AllByRecursion-value_at (λ x. x.value.height ≡ x.height) held h (plain b) own (sym is)

-- the held blocks, without their heights, are small
pub are_small : (held : List (At Block)) → AllByRecursion (λ x. IsSmall x.value.encoded) held → AreSmall (map (λ x. x.value) held)
are_small [] all = tt
are_small (x ∷ held) all = (all.0, are_small held all.1)

pub same_bytes : (xs ys : List ℕ) → xs ≡ ys → bytes_eq xs ys ≡ true
same_bytes xs ys e = (bytes_eq-Decides xs ys).1 e

pub Contains-slice_get : {T : Type 0} (xs : List T) (i : ℕ) (x : T) → slice_get xs i ≡ Some x → Contains xs x
Contains-slice_get [] i x at = absurd cc
Contains-slice_get (y ∷ xs) zero x at = (zero, omega arith, same_Some y x at)
Contains-slice_get (y ∷ xs) (suc i) x at = let has = Contains-slice_get xs i x at in (suc has.0, omega arith, has.2)

pub find-append : {T : Type 0} (test : T → Bool) (xs ys : List T) → find test (xs ++ ys) ≡ option_or (find test xs) (find test ys)
find-append test [] ys = refl
find-append {T = T} test (x ∷ xs) ys = by (test x) (find-append test xs ys)
  where
    by : (b : Bool) → find test (xs ++ ys) ≡ option_or (find test xs) (find test ys) → (if b then Some x else find test (xs ++ ys)) ≡ option_or (if b then Some x else find test xs) (find test ys)
    by true rest = refl
    by false rest = rest

-- the blocks of a list that stand at their heights in the chain are blocks of the chain
pub values_in_chain : (chain : Chain) (held : List (At Block)) → AreBlocksOf chain held → AllByRecursion (Contains chain.blocks) (values_of held)
values_in_chain chain [] blocks = tt
values_in_chain chain (x ∷ held) blocks = (Contains-slice_get chain.blocks x.height x.value blocks.0, values_in_chain chain held blocks.1)

-- what is found at hand is small
pub found_small : (inner : List ℕ → List ℕ) (buffer : List Block) (cached : List Cached) (held : List (At Block)) (commitment : List ℕ) (b : Block) → AreSmall buffer → AreSmallEntries cached → AreSmall (map (λ x. x.value) held) → found_at_hand inner buffer cached held commitment ≡ Some b → IsSmall b.encoded
found_small inner buffer cached held commitment b small_buffer small_cached small_held found = by (find (λ x. bytes_eq x.commitment commitment) buffer) refl (cached_by_commitment commitment cached) refl (block_of held (inner commitment)) refl found
  where
    inside : (x : Block) → ◌≡◌ {A = Option Block} (Some x) (Some b) → x ≡ b
    inside x is = cc

    by : (o : Option Block) → find (λ x. bytes_eq x.commitment commitment) buffer ≡ o → (k : Option Block) → cached_by_commitment commitment cached ≡ k → (h : Option Block) → block_of held (inner commitment) ≡ h → option_or o (option_or k (of_commitment commitment h)) ≡ Some b → IsSmall b.encoded
    by (Some x) first k kept h stored is = subst (λ y. IsSmall y.encoded) (inside x is) (AllByRecursion-find (λ y. IsSmall y.encoded) (λ y. bytes_eq y.commitment commitment) buffer x small_buffer first)
    by None first (Some x) kept h stored is = subst (λ y. IsSmall y.encoded) (inside x is) (small_block (λ y. has_commitment commitment (cached_block y)) cached x small_cached kept)
    by None first None kept None stored is = absurd cc
    by None first None kept (Some x) stored is = of_stored (bytes_eq x.commitment commitment) is
      where
        of_stored : (c : Bool) → (if c then Some x else None) ≡ Some b → IsSmall b.encoded
        of_stored true same = subst (λ y. IsSmall y.encoded) (inside x same) (AllByRecursion-find (λ y. IsSmall y.encoded) (λ y. bytes_eq y.digest (inner commitment)) (values_of held) x small_held stored)
        of_stored false same = absurd cc

module _ (inner : List ℕ → List ℕ) (all : List Block) (one : AreOne inner all) (commitment : List ℕ) where
  -- no other block has the digest of one that has another commitment
  none_other : (x : Block) → Contains all x → bytes_eq x.commitment commitment ≡ false → x.digest ≡ inner commitment → (xs : List Block) → AllByRecursion (Contains all) xs → find (λ b. bytes_eq b.commitment commitment) xs ≡ None
  none_other x there other digest [] inside = refl
  none_other x there other digest (y ∷ xs) inside = by (bytes_eq y.commitment commitment) refl (none_other x there other digest xs inside.1)
    where
      by : (b : Bool) → bytes_eq y.commitment commitment ≡ b → find (λ z. bytes_eq z.commitment commitment) xs ≡ None → (if b then Some y else find (λ z. bytes_eq z.commitment commitment) xs) ≡ None
      by false is rest = rest
      by true is rest = absurd (clash (same_bytes x.commitment commitment (ap (λ z. z.commitment) (one.one x y there inside.0 same) ∙ names)))
        where
          names : y.commitment ≡ commitment
          names = bytes_same y.commitment commitment is

          same : x.digest ≡ y.digest
          same = digest ∙ (ap inner (sym names) ∙ one.names y inside.0)

          clash : bytes_eq x.commitment commitment ≡ true → ⊥
          clash same_is = let both : false ≡ true = sym other ∙ same_is in cc

  by_digest : (xs : List Block) → AllByRecursion (Contains all) xs → find (λ b. bytes_eq b.commitment commitment) xs ≡ of_commitment commitment (find (λ b. bytes_eq b.digest (inner commitment)) xs)
  by_digest [] inside = refl
  by_digest (x ∷ xs) inside = by (bytes_eq x.commitment commitment) refl (bytes_eq x.digest (inner commitment)) refl (by_digest xs inside.1) (none_other x inside.0)
    where
      own : (b : Bool) → bytes_eq x.commitment commitment ≡ b → of_commitment commitment (Some x) ≡ (if b then Some x else None)
      own b is = ap (λ (c : Bool). if c then Some x else None) is

      by : (b : Bool) → bytes_eq x.commitment commitment ≡ b → (c : Bool) → bytes_eq x.digest (inner commitment) ≡ c → find (λ z. bytes_eq z.commitment commitment) xs ≡ of_commitment commitment (find (λ z. bytes_eq z.digest (inner commitment)) xs) → (bytes_eq x.commitment commitment ≡ false → x.digest ≡ inner commitment → (ys : List Block) → AllByRecursion (Contains all) ys → find (λ z. bytes_eq z.commitment commitment) ys ≡ None) → (if b then Some x else find (λ z. bytes_eq z.commitment commitment) xs) ≡ of_commitment commitment (if c then Some x else find (λ z. bytes_eq z.digest (inner commitment)) xs)
      by true is true named rest none = sym (own true is)
      by true is false unnamed rest none = absurd (let names : x.digest ≡ inner commitment = sym (one.names x inside.0) ∙ ap inner (bytes_same x.commitment commitment is) in let test : bytes_eq x.digest (inner commitment) ≡ true = same_bytes x.digest (inner commitment) names in cc)
      by false is true named rest none = none is (bytes_same x.digest (inner commitment) named) xs inside.1 ∙ sym (own false is)
      by false is false unnamed rest none = rest

or_assoc : {T : Type 0} (a b c : Option T) → option_or (option_or a b) c ≡ option_or a (option_or b c)
or_assoc None b c = refl
or_assoc (Some x) b c = refl

-- what is found in one of three lists, one after the other
pub find-three : {T : Type 0} (test : T → Bool) (xs ys zs : List T) → find test (xs ++ ys ++ zs) ≡ option_or (find test xs) (option_or (find test ys) (find test zs))
find-three test xs ys zs =
    find-append test (xs ++ ys) zs ∙ (ap (λ o. option_or o (find test zs)) (find-append test xs ys) ∙ or_assoc (find test xs) (find test ys) (find test zs))

module _ {P E : Type 0} (inner : List ℕ → List ℕ) (chain : Chain) (a : Seen P E) (buffer : List Block) (waiting : Waiting) where
  abbrev known : List Block
  known = known_blocks chain (node_of a buffer waiting)

  abbrev beside : List Block
  beside = buffer ++ filter_map cached_block (a.held.cache.kept.held ++ a.held.cache.kept.may)

  -- the buffer's blocks, the chain's and the cached ones are known
  pub buffer_known : AllByRecursion (Contains known) buffer
  buffer_known = AllByRecursion-from_contains (Contains known) buffer (λ x has. Contains-append_right chain.blocks beside x (Contains-append_left buffer (filter_map cached_block (a.held.cache.kept.held ++ a.held.cache.kept.may)) x has))

  pub chain_known : (x : Block) → Contains chain.blocks x → Contains known x
  chain_known x has = Contains-append_left chain.blocks beside x has

  pub cached_known : AllByRecursion (Contains known) (filter_map cached_block a.held.cache.kept.held)
  cached_known =
      all_found_within cached_block (Contains known) a.held.cache.kept.held (a.held.cache.kept.held ++ a.held.cache.kept.may) (λ x has. Contains-append_left a.held.cache.kept.held a.held.cache.kept.may x has)
      (AllByRecursion-from_contains (Contains known) (filter_map cached_block (a.held.cache.kept.held ++ a.held.cache.kept.may)) (λ x has. Contains-append_right chain.blocks beside x (Contains-append_right buffer (filter_map cached_block (a.held.cache.kept.held ++ a.held.cache.kept.may)) x has)))

  pub values_known : AreBlocksOf chain a.held.blocks.held → AllByRecursion (Contains known) (values_of a.held.blocks.held)
  values_known blocks = AllByRecursion-weaker (Contains chain.blocks) (Contains known) chain_known (values_of a.held.blocks.held) (values_in_chain chain a.held.blocks.held blocks)

  -- what the actor finds is the block at hand
  pub found-is : (commitment : List ℕ) → AreOne inner known → AreBlocksOf chain a.held.blocks.held → found_at_hand inner buffer a.held.cache.kept.held a.held.blocks.held commitment ≡ at_hand (node_of a buffer waiting) commitment
  found-is commitment one blocks =
      ap₂ (λ c h. option_or (find (λ b. bytes_eq b.commitment commitment) buffer) (option_or c h)) (by_commitment-is inner known one commitment a.held.cache.kept.held cached_known) (sym (by_digest inner known one commitment (values_of a.held.blocks.held) (values_known blocks)))
      ∙ sym (find-three (λ b. bytes_eq b.commitment commitment) buffer (filter_map cached_block a.held.cache.kept.held) (values_of a.held.blocks.held))

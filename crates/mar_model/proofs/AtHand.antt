-- A block at hand has the commitment that was looked up, and is the chain's where the blocks agree with the chain.
use Rattle.std.proofs.Common.{◌≡◌, ℕ, List, [], ◌∷◌, ◌++◌, Bool, true, false, if◌then◌else◌, Option, Some, None, option_map, slice_get, bytes_eq, find, refl, ◌∙◌, ap, subst}
use Rattle.std.specs.List.{AllByRecursion, filter_map}
use Rattle.std.proofs.lemmas.Option.{same_Some}
use Rattle.std.proofs.lemmas.Slice.Eq.{bytes_eq-Decides}
use Rattle.mar_types.specs.Round.{Round}
use Rattle.mar_types.specs.Epochs.{Epochs}
use Rattle.mar_cert.specs.Block.{Block}
use Rattle.mar_store.proofs.Lookups.{AllByRecursion-append}
use Rattle.mar_model.specs.Cached.{cached_block}
use Rattle.mar_model.specs.Chain.{Chain, Finalizes, IsBlockAt, IsLawful}
use Rattle.mar_model.specs.Node.{Agrees, Node, at_hand}
use Rattle.mar_model.specs.Stored.{values_of}

-- what is found passes the test, and what holds of each holds of it
pub find-passes : {T : Type 0} (test : T → Bool) (xs : List T) (x : T) → find test xs ≡ Some x → test x ≡ true
find-passes test [] x e = absurd cc
find-passes {T = T} test (y ∷ ys) x e = by (test y) refl e (find-passes test ys x)
  where
    by : (b : Bool) → test y ≡ b → (if b then Some y else find test ys) ≡ Some x → (find test ys ≡ Some x → test x ≡ true) → test x ≡ true
    by true is p others = subst (λ z. test z ≡ true) (same_Some y x p) is
    by false is p others = others p

pub AllByRecursion-find : {T : Type 0} (P : T → Type 0) (test : T → Bool) (xs : List T) (x : T) → AllByRecursion P xs → find test xs ≡ Some x → P x
AllByRecursion-find P test [] x all e = absurd cc
AllByRecursion-find {T = T} P test (y ∷ ys) x all e = by (test y) e (AllByRecursion-find P test ys x all.1)
  where
    by : (b : Bool) → (if b then Some y else find test ys) ≡ Some x → (find test ys ≡ Some x → P x) → P x
    by true p others = subst P (same_Some y x p) all.0
    by false p others = others p

pub bytes_same : (xs ys : List ℕ) → bytes_eq xs ys ≡ true → xs ≡ ys
bytes_same xs ys e = (bytes_eq-Decides xs ys).0 e

pub at_hand-commitment : (n : Node) (c : List ℕ) (b : Block) → at_hand n c ≡ Some b → b.commitment ≡ c
at_hand-commitment n c b e = bytes_same b.commitment c (find-passes (λ x. bytes_eq x.commitment c) (n.buffer ++ filter_map cached_block n.cache.held ++ values_of n.blocks.held) b e)

-- what holds of each block of the buffer, of the cache and of the archive holds of the block at hand
pub at_hand-all : (P : Block → Type 0) (n : Node) (c : List ℕ) (b : Block) → AllByRecursion P n.buffer → AllByRecursion P (filter_map cached_block n.cache.held) → AllByRecursion P (values_of n.blocks.held) → at_hand n c ≡ Some b → P b
at_hand-all P n c b buffered cached held e =
    AllByRecursion-find P (λ x. bytes_eq x.commitment c) (n.buffer ++ filter_map cached_block n.cache.held ++ values_of n.blocks.held) b
    (AllByRecursion-append P (n.buffer ++ filter_map cached_block n.cache.held) (values_of n.blocks.held) (AllByRecursion-append P n.buffer (filter_map cached_block n.cache.held) buffered cached) held) e

-- a block of a finalized payload that agrees with the chain is the chain's at that height
pub block_of_final : (epochs : Epochs) (chain : Chain) → IsLawful epochs chain → (h : ℕ) (r : Round) (b : Block) → Finalizes chain h r b.commitment → Agrees chain b → IsBlockAt chain h b × (b.height ≡ h)
block_of_final epochs chain lawful h r b final agrees = by (slice_get chain.blocks h) refl final.payload_is
  where
    by : (o : Option Block) → slice_get chain.blocks h ≡ o → option_map (λ x. x.commitment) o ≡ Some b.commitment → IsBlockAt chain h b × (b.height ≡ h)
    by None at e = absurd cc
    by (Some c) at e = (there, lawful.heights h b there)
      where
        commits : c.commitment ≡ b.commitment
        commits = inside e
          where
            inside : ◌≡◌ {A = Option (List ℕ)} (Some c.commitment) (Some b.commitment) → c.commitment ≡ b.commitment
            inside p = cc

        there : IsBlockAt chain h b
        there = at ∙ ap Some (agrees h c at commits)

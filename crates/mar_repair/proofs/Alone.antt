-- The newest certificate, and what is done with its block.
use Rattle.std.proofs.Common.{◌≡◌, ◌∷◌, [], List, Option, None, Some, Bool, true, false, cond, if◌then◌else◌, ◌&&◌, ◌==◌, nat_lt, ℕ, ◌<◌, option_map, refl, sym, ◌∙◌, ap, subst, arith}
use Rattle.std.proofs.lemmas.Bool.Decides.{nat_tests}
use Rattle.mar_cert.specs.Block.{Block}
use Rattle.mar_cert.specs.Finalization.{Finalization}
use Rattle.mar_key.specs.Processed.{height_of}
use Rattle.mar_store.specs.Kept.{At, has_height, value_at}
use Rattle.mar_store.specs.Named.{last_index}
use Rattle.mar_model.specs.Acts.{Act}
use Rattle.mar_model.specs.Held.{Held}
use Rattle.mar_model.specs.Moves.{at_height}
use Rattle.mar_model.specs.Repair.{Search, alone_in, certified_acts, certified_alone, fill_acts, is_above_last, look_up, newest_acts, of_height, search_of, walk_start, with_found, with_newest_fill}
use Rattle.mar_model.specs.Stored.{entry_at, newest}
use Rattle.mar_repair.specs.Newest.{IsHeightAlone}

-- A BLOCK AT A HEIGHT

is_same : (b : Block) (h : ℕ) → b.height ≡ h → (b.height == h) ≡ true
is_same b h is = grind (arith, nat_tests)

is_other : (b : Block) (h : ℕ) → (b.height ≡ h → ⊥) → (b.height == h) ≡ false
is_other b h other = by (b.height == h) refl
  where
    same : (b.height == h) ≡ true → b.height ≡ h
    same is = grind (arith, nat_tests)

    by : (c : Bool) → (b.height == h) ≡ c → c ≡ false
    by false is = refl
    by true is = absurd (other (same is))

pub own_found : (b : Block) (h : ℕ) → b.height ≡ h → of_height h (Some b) ≡ Some b
own_found b h is = ap (λ (c : Bool). if c then Some b else None) (is_same b h is)

pub other_found : (b : Block) (h : ℕ) → (b.height ≡ h → ⊥) → of_height h (Some b) ≡ None
other_found b h other = ap (λ (c : Bool). if c then Some b else None) (is_other b h other)

pub own_acts : (f : Finalization) (b : Block) (h : ℕ) → b.height ≡ h → certified_acts (at_height h f) (Some b) ≡ fill_acts None b
own_acts f b h is = ap (λ (c : Bool). if c then fill_acts None b else []) (is_same b h is)

pub other_acts : (f : Finalization) (b : Block) (h : ℕ) → (b.height ≡ h → ⊥) → certified_acts (at_height h f) (Some b) ≡ []
other_acts f b h other = ap (λ (c : Bool). if c then fill_acts None b else []) (is_other b h other)

-- THE NEWEST CERTIFICATE

module _ (held : Held) where
  by_height : (o : Option ℕ) → last_index held.certs.held ≡ o → alone_in held ≡ certified_alone held.processed held.blocks.held (entry_at held.certs.held o)
  by_height o is = ap (λ q. certified_alone held.processed held.blocks.held (entry_at held.certs.held q)) is

  pub none_alone : None ≡ last_index held.certs.held → alone_in held ≡ None
  none_alone none = by_height None (sym none)

  by_value : (h : ℕ) (v : Option Finalization) (c : Bool) → (nat_lt (height_of held.processed) h && is_above_last (last_index held.blocks.held) h) ≡ c → certified_alone held.processed held.blocks.held (option_map (λ x. at_height h x) v) ≡ cond c (option_map (λ x. at_height h x) v) None
  by_value h None true is = refl
  by_value h None false is = refl
  by_value h (Some f) c is = ap (λ (d : Bool). cond d (Some (at_height h f)) None) is

  pub not_alone : (h : ℕ) → Some h ≡ last_index held.certs.held → (nat_lt (height_of held.processed) h && is_above_last (last_index held.blocks.held) h) ≡ false → alone_in held ≡ None
  not_alone h last not = by_height (Some h) (sym last) ∙ by_value h (value_at held.certs.held h) false not

  pub is_alone : (h : ℕ) → IsHeightAlone held h → alone_in held ≡ option_map (λ x. at_height h x) (value_at held.certs.held h)
  is_alone h alone = by_height (Some h) alone.last ∙ by_value h (value_at held.certs.held h) true (both_true alone)
    where
      less : (p q : ℕ) → p < q → nat_lt p q ≡ true
      less p q below = grind (arith, nat_tests)

      both_true : IsHeightAlone held h → (nat_lt (height_of held.processed) h && is_above_last (last_index held.blocks.held) h) ≡ true
      both_true is = ap (λ (c : Bool). c && is_above_last (last_index held.blocks.held) h) (less (height_of held.processed) h is.above) ∙ is.above_blocks

-- by what was tested
pub alone_by : (held : Held) (h : ℕ) → Some h ≡ last_index held.certs.held → (nat_lt (height_of held.processed) h && is_above_last (last_index held.blocks.held) h) ≡ true → IsHeightAlone held h
alone_by held h last tests = by (nat_lt (height_of held.processed) h) refl tests
  where
    less : nat_lt (height_of held.processed) h ≡ true → height_of held.processed < h
    less is = grind (arith, nat_tests)

    by : (c : Bool) → nat_lt (height_of held.processed) h ≡ c → (c && is_above_last (last_index held.blocks.held) h) ≡ true → IsHeightAlone held h
    by true is rest = record { last = sym last; above = less is; above_blocks = rest }
    by false is rest = absurd cc

pub acts_none : (inner : List ℕ → List ℕ) (buffer : List Block) (old : Held) → None ≡ alone_in old → [] ≡ newest_acts (search_of inner buffer old) old.blocks.held (alone_in old)
acts_none inner buffer old none = ap (λ o. newest_acts (search_of inner buffer old) old.blocks.held o) none

module _ (inner : List ℕ → List ℕ) (buffer : List Block) (old one : Held) (same : one ≡ record old { watches = one.watches }) where
  abbrev search : Search
  search = search_of inner buffer old

  pub start_none : None ≡ alone_in old → one.blocks.held ≡ walk_start inner buffer old
  start_none none = ap (λ h. h.blocks.held) same ∙ ap (λ o. with_newest_fill search old.blocks.held o) none

  pub start_some : (x : At Finalization) (new : List (At Block)) → Some x ≡ alone_in old → new ≡ with_found one.blocks.held (of_height x.height (look_up (search_of inner buffer one) one.blocks.held x.value.payload)) → new ≡ walk_start inner buffer old
  start_some x new some is = is ∙ (ap (λ h. with_found h.blocks.held (of_height x.height (look_up (search_of inner buffer h) h.blocks.held x.value.payload))) same ∙ ap (λ o. with_newest_fill search old.blocks.held o) some)

  pub acts_some : (x : At Finalization) → Some x ≡ alone_in old → certified_acts x (look_up (search_of inner buffer one) one.blocks.held x.value.payload) ≡ newest_acts search old.blocks.held (alone_in old)
  acts_some x some = ap (λ h. certified_acts x (look_up (search_of inner buffer h) h.blocks.held x.value.payload)) same ∙ ap (λ o. newest_acts search old.blocks.held o) some

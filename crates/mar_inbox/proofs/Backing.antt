-- The block that backs the processed height, as a caller is answered it.
use Rattle.std.proofs.Common.{◌≡◌, ℕ, ◌<◌, List, Option, Some, None, IfNone, IfSome, option_map, refl, sym, ◌∙◌, ap, subst}
use Rattle.mar_cert.specs.Block.{Block}
use Rattle.mar_inbox.specs.Asking.{backed_value}
use Rattle.mar_key.specs.Processed.{Processed, anchor_of}
use Rattle.mar_model.specs.Answers.{anchor, anchor_value, or_none}
use Rattle.mar_model.proofs.Queries.{none_past}
use Rattle.mar_store.specs.Kept.{At, value_at}
use Rattle.mar_store.specs.Named.{last_index}

-- the block at the height that backs the processed one
pub backed : (blocks : List (At Block)) (p : Option Processed) (h : ℕ) (o : Option Block) → option_map anchor_of p ≡ Some h → o ≡ value_at blocks h → or_none (anchor blocks p) ≡ or_none (backed_value p o)
backed blocks None h o at found = absurd cc
backed blocks (Some q) h o at found = subst (λ k. or_none (option_map (anchor_value q) (value_at blocks k)) ≡ or_none (backed_value (Some q) o)) (sym (inside at)) (subst (λ b. or_none (option_map (anchor_value q) b) ≡ or_none (backed_value (Some q) o)) found (by o))
  where
    inside : ◌≡◌ {A = Option ℕ} (Some (anchor_of q)) (Some h) → anchor_of q ≡ h
    inside e = cc

    by : (b : Option Block) → or_none (option_map (anchor_value q) b) ≡ or_none (backed_value (Some q) b)
    by None = refl
    by (Some b) = refl

-- none backs it past the last block
pub unbacked : (blocks : List (At Block)) (p : Processed) → IfSome (last_index blocks) (λ k. k < anchor_of p) → anchor blocks (Some p) ≡ None
unbacked blocks p past = ap (option_map (anchor_value p)) (none_past blocks (anchor_of p) past)

-- the same of what the stores tell: the processed height, and the last block
pub unbacked_at : (blocks : List (At Block)) (processed : Option Processed) (p : Processed) (last : Option ℕ) → processed ≡ Some p → last ≡ last_index blocks → IfSome last (λ k. k < anchor_of p) → anchor blocks processed ≡ None
unbacked_at blocks processed p last is at past = ap (anchor blocks) is ∙ unbacked blocks p (subst (λ o. IfSome o (λ k. k < anchor_of p)) at past)

pub if_none : {T A B : Type 0} (o : Option T) → (A → B) → IfNone o A → IfNone o B
if_none None then is = then is
if_none (Some x) then is = tt

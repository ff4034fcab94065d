use Rattle.std.proofs.Common.{Bool, ap, false, sym, true, ◌||◌, ◌∙◌, ◌≡◌}
use Rattle.mar_model.specs.Acks.{is_unmarked}
use Rattle.mar_parts.specs.Views.{outstanding_of}
use Rattle.mar_parts.proofs.Entries.{list_any-parts}
use Rattle.mar_parts.proofs.acks.PendingAcks.is_unmarked.Goals as goal

first_says : (r f b g : Bool) → r ≡ f → r ≡ true → (f || b) ≡ g → r ≡ g
first_says r f b g is passed parts = passed ∙ ap (λ x. x || b) (sym passed ∙ is) ∙ parts

second_says : (r s f b g : Bool) → r ≡ f → r ≡ false → s ≡ b → (f || b) ≡ g → s ≡ g
second_says r s f b g is failed also parts = also ∙ ap (λ x. x || b) (sym failed ∙ is) ∙ parts

pub returns-then-has_unmarked : goal.returns-then-has_unmarked
returns-then-has_unmarked c =
    rw (← c.self.view_is) (first_says _ _ _ _ c.has_unmarked.ensures c.if-has_unmarked.true (list_any-parts (is_unmarked c.args.ticket) outstanding_of _ _ _ c.as_slices.ensures.items))

pub returns-else-has_unmarked : goal.returns-else-has_unmarked
returns-else-has_unmarked c =
    rw (← c.self.view_is) (second_says _ _ _ _ _ c.has_unmarked.ensures c.if-has_unmarked.false c.has_unmarked-else-has_unmarked.ensures (list_any-parts (is_unmarked c.args.ticket) outstanding_of _ _ _ c.as_slices.ensures.items))

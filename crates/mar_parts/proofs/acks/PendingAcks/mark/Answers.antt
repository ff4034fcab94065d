use Rattle.std.proofs.Common.{map, refl, ◌∙◌, ◌≡◌}
use Rattle.mar_parts.specs.Views.{outstanding_of}
use Rattle.mar_parts.proofs.Entries.{marked_heights, marked_none}
use Rattle.mar_parts.proofs.acks.PendingAcks.mark.Goals as goal

pub invariant_of-self : goal.invariant_of-self
invariant_of-self c =
    let written = c.make_contiguous.ensures.writes_back c.mark_entries.new.entries (c.mark_entries.auto.entries ∙ c.make_contiguous.ensures.len) in
    (c.self.invariant.0, c.self.invariant.1, rw written (marked_heights outstanding_of _ _ _ _ _ c.mark_entries.ensures.marked c.make_contiguous.ensures.value c.self.invariant.2))

pub returns-clause-kept : goal.returns-clause-kept
returns-clause-kept c = rw (← c.self.view_is) (λ none.
    let written = c.make_contiguous.ensures.writes_back c.mark_entries.new.entries (c.mark_entries.auto.entries ∙ c.make_contiguous.ensures.len) in
    let kept : map outstanding_of c.mark_entries.new.entries ≡ map outstanding_of c.self.inside.entries.items = marked_none outstanding_of _ _ _ _ _ _ c.mark_entries.ensures.marked c.make_contiguous.ensures.value c.mark_entries.ensures.found none in
    rw (written, kept) refl)

use Rattle.std.proofs.Common.{[], ap, map, refl, subst, ◌∙◌, ◌∷◌}
use Rattle.std.proofs.lemmas.List.{map-append}
use Rattle.mar_key.specs.Views.{annotation_of, key_of}
use Rattle.mar_judge.specs.EntryViews.{entry_of}
use Rattle.mar_judge.specs.Found.{IsPlacedAs}
use Rattle.mar_judge.specs.Groups.{claims_of}
use Rattle.mar_judge.specs.Views.{place_of}
use Rattle.mar_judge.proofs.Entering.{entered_more}
use Rattle.mar_judge.proofs.batch.enter_message.Goals as goal

pub returns-in_ok-push-in-Deliver-clause-entries : goal.returns-in_ok-push-in-Deliver-clause-entries
returns-in_ok-push-in-Deliver-clause-entries g c = rw c.in-Deliver.is (λ config before are.
    let view = entry_of g.J.Commitment.Named.bytes g.J.Judge.plain g.J.Judge.finalization g.J.Judge.notarization in
    let placed = subst (λ xs. IsPlacedAs (g.J.Judge.rules c.args.judge.now) config (claims_of g.J.Judge.claimed c.admit.new.groups.items)
    (key_of g.J.Commitment.Named.bytes c.in-Deliver.delivery.key) c.in-Deliver.value (map annotation_of xs)
    (place_of g.J.Judge.plain g.J.Judge.finalization g.J.Judge.notarization c.in_ok-place-in-Deliver.place)) c.as_slice-annotations.ensures.value (c.in_ok-place-in-Deliver.ensures.placed config) in
    entered_more (g.J.Judge.rules c.args.judge.now) config (claims_of g.J.Judge.claimed c.args.groups.now.items) (claims_of g.J.Judge.claimed c.admit.new.groups.items)
    c.in_ok-place-in-Deliver.ensures.kept before _ _ c.in-Deliver.ticket _ _ _ _ are
    (ap (map view) c.in_ok-push-in-Deliver.ensures.pushed ∙ map-append view c.args.entries.now.items (_ ∷ [])) (refl, refl, placed))

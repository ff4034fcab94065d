use Rattle.std.proofs.Common.{rules, ◌≤◌}
use Rattle.std.proofs.lemmas.Map.Made.{filter_same_pairs}
use Rattle.std.specs.Prelude.{nat_le}
use Rattle.mar_parts.proofs.Known.{gone_below, known_from, known_still}
use Rattle.mar_parts.proofs.certified.Certified.retain.Goals as goal

pub returns-then-le-clause-known : goal.returns-then-le-clause-known
returns-then-le-clause-known g c =
    let below : c.args.min ≤ c.self.inside.min = search rules in
    rw (← c.self.view_is) (λ h known. known_still g.C.Named.bytes c.self.inside.commitments c.self.inside.min c.args.min c.self.invariant below h known)

pub invariant_of-self : goal.invariant_of-self
invariant_of-self g c =
    let kept = filter_same_pairs _ (λ e. nat_le c.args.min e.0) _ (λ k v b w f' t. search rules) _ _ c.retain.ensures.filtered in
    λ h below. gone_below c.self.inside.commitments c.retain.new.self c.args.min h kept below

pub returns-clause-known : goal.returns-clause-known
returns-clause-known g c =
    let kept = filter_same_pairs _ (λ e. nat_le c.args.min e.0) _ (λ k v b w f' t. search rules) _ _ c.retain.ensures.filtered in
    rw (← c.self.view_is) (λ h known. known_from g.C.Named.bytes c.self.inside.commitments c.retain.new.self c.self.inside.min c.args.min c.args.min h known kept)

use Rattle.std.proofs.Common.{ap, false, refl, subst, sym, ◌∙◌, ◌≡◌}
use Rattle.std.specs.List.{AllByRecursion}
use Rattle.mar_inbox.specs.Kinds.{hinted_by}
use Rattle.mar_inbox.specs.Policy.{is_hint}
use Rattle.mar_inbox.specs.Turns.{seen}
use Rattle.mar_inbox.proofs.Coming.{first_hint, hint_indexed}
use Rattle.mar_inbox.proofs.Turns.{lookup_last}
use Rattle.mar_inbox.proofs.others.Others.push_hint.Goals as goal

pub invariant_of-self-in_err-append : goal.invariant_of-self-in_err-append
invariant_of-self-in_err-append g c =
    let first : AllByRecursion (λ q. is_hint c.args.height q ≡ false) (seen g.M.Letter.plain c.self.inside.entries.entries) = subst (AllByRecursion (λ q. is_hint c.args.height q ≡ false)) (sym c.self.view_is) c.requires.first in
    rw (c.in_err-append.ensures.same.0, c.in_err-append.ensures.same.1)
    (hint_indexed g.M.Letter.plain _ _ c.self.inside.hints c.insert.new.self c.self.inside.reads c.args.height c.self.inside.next c.in-Ok.ensures.updates.0 first c.self.invariant)

pub tidy_at-requires : goal.tidy_at-requires
tidy_at-requires g c = rw c.in_ok-append.ensures.ok.0 (rw (lookup_last g.M.Letter.plain c.self.inside.entries.entries c.self.inside.next c.args.item c.self.invariant.below) refl)

pub invariant_of-self-2 : goal.invariant_of-self-2
invariant_of-self-2 g c =
    let first : AllByRecursion (λ q. is_hint c.args.height q ≡ false) (seen g.M.Letter.plain c.self.inside.entries.entries) = subst (AllByRecursion (λ q. is_hint c.args.height q ≡ false)) (sym c.self.view_is) c.requires.first in
    rw c.in_ok-append.ensures.ok.1
    (first_hint g.M.Letter.plain c.self.inside.entries.entries c.append.new.entries.entries c.tidy_at.new.entries.entries c.args.item c.self.inside.next c.self.inside.hints c.insert.new.self c.self.inside.reads c.args.height
    c.in-Ok.ensures.updates.0 c.in-Ok.ensures.updates.1 first c.requires.kind c.in_ok-append.ensures.ok.0 c.tidy_at.ensures c.self.invariant).0

pub returns-clause-ok : goal.returns-clause-ok
returns-clause-ok g c =
    let first : AllByRecursion (λ q. is_hint c.args.height q ≡ false) (seen g.M.Letter.plain c.self.inside.entries.entries) = subst (AllByRecursion (λ q. is_hint c.args.height q ≡ false)) (sym c.self.view_is) c.requires.first in
    (first_hint g.M.Letter.plain c.self.inside.entries.entries c.append.new.entries.entries c.tidy_at.new.entries.entries c.args.item c.self.inside.next c.self.inside.hints c.insert.new.self c.self.inside.reads c.args.height
    c.in-Ok.ensures.updates.0 c.in-Ok.ensures.updates.1 first c.requires.kind c.in_ok-append.ensures.ok.0 c.tidy_at.ensures c.self.invariant).1
    ∙ ap (λ qs. hinted_by qs (g.M.Letter.plain c.args.item).message) c.self.view_is

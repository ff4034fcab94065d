use Rattle.std.proofs.Common.{ap, false, subst, ◌∙◌, ◌≡◌}
use Rattle.std.specs.List.{AllByRecursion}
use Rattle.mar_inbox.specs.Kinds.{hinted_by}
use Rattle.mar_inbox.specs.Policy.{is_hint}
use Rattle.mar_inbox.proofs.Coming.{either, merged, not_merged, on_err, on_ok}
use Rattle.mar_inbox.proofs.Turns.{seen_all}
use Rattle.mar_inbox.proofs.others.Others.add_hint.Goals as goal

pub invariant_of-self : goal.invariant_of-self
invariant_of-self g c =
    either c.merge_at.result
    (λ e. (merged g.M.Letter.plain c.in-Some.turn c.args.height _ c.args.item _ _ c.self.inside.hints c.self.inside.reads c.requires c.in-Some.ensures e c.self.invariant).0)
    (λ e. (not_merged g.M.Letter.plain c.in-Some.turn _ _ _ c.self.inside.hints c.self.inside.reads e c.self.invariant).0) c.merge_at.ensures.ok c.merge_at.ensures.same

pub push_hint-requires-clause-first : goal.push_hint-requires-clause-first
push_hint-requires-clause-first g c =
    subst (AllByRecursion (λ q. is_hint c.args.height q ≡ false)) c.self.view_is (seen_all g.M.Letter.plain (λ q. is_hint c.args.height q ≡ false) c.self.inside.entries.entries c.in-None.ensures)

pub returns-in-Some-clause-ok : goal.returns-in-Some-clause-ok
returns-in-Some-clause-ok g c =
    on_ok c.merge_at.result
    (λ e. (merged g.M.Letter.plain c.in-Some.turn c.args.height c.self.inside.next c.args.item _ _ c.self.inside.hints c.self.inside.reads c.requires c.in-Some.ensures e c.self.invariant).1
    ∙ ap (λ qs. hinted_by qs (g.M.Letter.plain c.args.item).message) c.self.view_is) c.merge_at.ensures.ok

pub returns-in-Some-clause-same : goal.returns-in-Some-clause-same
returns-in-Some-clause-same g c =
    on_err c.merge_at.result (λ e. (not_merged g.M.Letter.plain c.in-Some.turn c.self.inside.next _ _ c.self.inside.hints c.self.inside.reads e c.self.invariant).1 ∙ c.self.view_is) c.merge_at.ensures.same

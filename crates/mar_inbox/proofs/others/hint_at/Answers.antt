use Rattle.std.proofs.Common.{sym, ◌∙◌}
use Rattle.mar_inbox.proofs.Coming.{hint_found, hint_missed}
use Rattle.mar_inbox.proofs.others.hint_at.Goals as goal

pub returns-then-is_hint_at : goal.returns-then-is_hint_at
returns-then-is_hint_at g c =
    hint_found g.M.Letter.plain c.args.hints.now c.args.height c.in-Some.turn.now _ (sym c.in-Some.ensures.value) c.requires.rising c.requires.hinted (sym c.is_hint_at.ensures ∙ c.if-is_hint_at.true)

pub returns : goal.returns
returns g c =
    hint_missed g.M.Letter.plain c.args.hints.now c.args.height c.in-Some.turn.now _ (sym c.in-Some.ensures.value) c.requires.rising c.requires.hinted (sym c.is_hint_at.ensures ∙ c.if-is_hint_at.false)

use Rattle.mar_inbox.proofs.Coming.{popped}
use Rattle.mar_inbox.proofs.others.Others.pop_first.Goals as goal

pub invariant_of-self-2 : goal.invariant_of-self-2
invariant_of-self-2 g c =
    popped g.M.Letter.plain c.self.inside.entries.entries _ c.in_ok-turn.turn _ c.in_ok-turn.message c.self.inside.hints c.forget.new.hints c.self.inside.reads c.forget.new.reads
    c.in_ok-turn.ensures.removal c.forget.ensures.hint c.forget.ensures.read c.self.invariant

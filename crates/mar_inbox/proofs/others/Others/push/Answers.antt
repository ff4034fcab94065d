use Rattle.mar_inbox.proofs.Coming.{indexed_pushed}
use Rattle.mar_inbox.proofs.others.Others.push.Goals as goal

pub invariant_of-self-2 : goal.invariant_of-self-2
invariant_of-self-2 g c =
    indexed_pushed g.M.Letter.plain c.append.result c.self.inside.entries.entries _ c.args.item c.self.inside.next _ c.self.inside.hints c.self.inside.reads c.note_read.new.reads
    c.append.ensures.ok c.append.ensures.same c.requires c.in-Ok.ensures.kept c.in-Ok.ensures.ok c.self.invariant

use Rattle.std.proofs.Common.{rules, ◌+◌, ◌∙◌, ◌≡◌}
use Rattle.mar_inbox.proofs.Turns.{insert_last}
use Rattle.mar_inbox.proofs.others.append.Goals as goal

pub returns-in-Ok-clause-ok : goal.returns-in-Ok-clause-ok
returns-in-Ok-clause-ok g c =
    let after : c.in-Some.after ≡ c.args.next.now + 1 = search rules in
    (c.in-Ok.ensures.entries ∙ insert_last c.args.entries.now.entries c.args.next.now c.args.item c.requires, after)

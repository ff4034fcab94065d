use Rattle.std.proofs.Common.{[], sym}
use Rattle.std.proofs.lemmas.List.{append-nil}
use Rattle.marshal.proofs.help.show.Goals as goal

pub returns-in-Ok-clause-front : goal.returns-in-Ok-clause-front
returns-in-Ok-clause-front g c = (c.args.text.now, ([], sym (append-nil c.args.text.now)), rw c.as_bytes.ensures.value at c.in-Ok.ensures.ok)

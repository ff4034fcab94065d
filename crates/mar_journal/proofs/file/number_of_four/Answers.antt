use Rattle.mar_journal.proofs.Bytes.{take_four}
use Rattle.mar_journal.proofs.file.number_of_four.Goals as goal

pub returns-in-len4-up : goal.returns-in-len4-up
returns-in-len4-up c = (
  c.from_be_bytes.type_inv,
  c.in-len4-up.len_at_least,
  take_four c.args.bytes.now c.from_be_bytes.result c.in-len4-up.len_at_least c.type_inv.bytes c.from_be_bytes.ensures,
)

use Rattle.std.proofs.Common.{arith}
use Rattle.mar_journal.proofs.Firsts.{no_remove_behind, no_set_behind, remove_behind, set_behind}
use Rattle.mar_journal.proofs.meta_record.MetaRecordRecord.read.Goals as goal

pub returns-in-Some : goal.returns-in-Some
returns-in-Some c = set_behind c.args.bytes.now c.in-Some.key c.in-Some.value c.in-Some.size c.in-2.len_at_least (omega arith) c.in-Some.ensures

pub returns-in-None : goal.returns-in-None
returns-in-None c = no_set_behind c.args.bytes.now c.in-2.len_at_least (omega arith) c.in-None.ensures

pub returns-in-Some-read_number : goal.returns-in-Some-read_number
returns-in-Some-read_number c = remove_behind c.args.bytes.now c.in-Some-read_number.key c.in-Some-read_number.size c.in-3.len_at_least (omega arith) c.in-Some-read_number.ensures

pub returns-in-None-read_number : goal.returns-in-None-read_number
returns-in-None-read_number c = no_remove_behind c.args.bytes.now c.in-3.len_at_least (omega arith) c.in-None-read_number.ensures

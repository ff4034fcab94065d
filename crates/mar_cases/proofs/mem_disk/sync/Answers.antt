use Rattle.mar_cases.proofs.Calls.{elapses_push, narrows_sync, only_sync, read_sync}
use Rattle.mar_cases.proofs.mem_disk.sync.Goals as goal

pub returns-clause-read : goal.returns-clause-read
returns-clause-read c = λ first. read_sync first _ _ c.in_ok-push.ensures.items

pub returns-clause-durable : goal.returns-clause-durable
returns-clause-durable c = λ first. only_sync first _ _ c.in_ok-push.ensures.items

pub returns-clause-crash : goal.returns-clause-crash
returns-clause-crash c = λ first. narrows_sync first _ _ c.in_ok-push.ensures.items

pub returns-clause-time : goal.returns-clause-time
returns-clause-time c = λ first. elapses_push first _ _ _ c.in_ok-push.ensures.items

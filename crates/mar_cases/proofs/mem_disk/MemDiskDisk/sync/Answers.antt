use Rattle.mar_cases.proofs.mem_disk.MemDiskDisk.sync.Goals as goal

pub returns-in-Ok-clause-time : goal.returns-in-Ok-clause-time
returns-in-Ok-clause-time c = c.sync.ensures.time c.args.self.now.first.items

pub returns-in-Err-clause-time : goal.returns-in-Err-clause-time
returns-in-Err-clause-time c = c.sync.ensures.time c.args.self.now.first.items

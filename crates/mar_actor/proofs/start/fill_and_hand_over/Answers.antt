use Rattle.mar_actor.proofs.start.fill_and_hand_over.Goals as goal

pub returns-in-Err : goal.returns-in-Err
returns-in-Err g c = record { runs = λ standing sends answers start whole rest reached. c.in-Err.ensures.runs standing sends answers start whole _ reached }

pub returns-in-Ok-sync_filled : goal.returns-in-Ok-sync_filled
returns-in-Ok-sync_filled g c = record { runs = λ standing sends answers start whole rest reached. c.dispatch.ensures.runs standing _ sends answers start whole rest (c.in-Ok-sync_filled.ensures.runs _ standing _ start whole _ (c.in-Ok.ensures.runs standing sends answers start whole _ reached)) }

pub returns-in-Err-sync_filled : goal.returns-in-Err-sync_filled
returns-in-Err-sync_filled g c = record { runs = λ standing sends answers start whole rest reached. c.in-Err-sync_filled.ensures.runs _ standing _ start whole _ (c.in-Ok.ensures.runs standing sends answers start whole _ reached) }

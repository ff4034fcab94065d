use Rattle.std.proofs.Common.{◌∙◌, ◌&&◌, ap}
use Rattle.mar_epochs.specs.declared.slot.Slot.TheVariants.{Leftover, Standing}
use Rattle.mar_epochs.proofs.Leaving.{exchanged_elsewhere, left_here, stands_here}
use Rattle.mar_epochs.specs.Failures.{count_at}
use Rattle.mar_epochs.proofs.Failing.{counts_here, counts_others}
use Rattle.std.specs.Ordering.{nat_cmp}
use Rattle.std.specs.BTreeMap.{get}
use Rattle.mar_epochs.proofs.depot_epochs.DepotEpochs.put_back.Goals as goal

pub returns-in-Err-clause-done : goal.returns-in-Err-clause-done
returns-in-Err-clause-done g c =
    let old = c.args.self in
    let new = c.exchange-epochs-in-Err.result.0 in
    let step = c.exchange-epochs-in-Err.ensures in
    rw c.in-Err.is (
      c.lost_by.ensures.fault ∙ c.parts_of-failed.ensures.fault,
      rw (c.lost_by.ensures.wreck, ← c.parts_of-failed.ensures.wreck) (left_here g.A.EpochArchives.book g.A.Wreck.EpochArchivesRuin.left old.opening new.opening old.slots new.slots (g.D.Depot.names old.depot) (g.D.Depot.names new.depot) c.args.epoch c.parts_of-failed.result.1 _ step.opening (ap g.D.Depot.names step.depot) step.slots c.requires.there c.wreck.ensures.left),
    )

pub returns-in-Ok-clause-done : goal.returns-in-Ok-clause-done
returns-in-Ok-clause-done g c =
    let old = c.args.self in
    let new = c.exchange-epochs.result.0 in
    let step = c.exchange-epochs.ensures in
    rw c.in-Ok.is (
      stands_here g.A.EpochArchives.book g.A.Wreck.EpochArchivesRuin.left old.opening new.opening old.slots new.slots (g.D.Depot.names old.depot) (g.D.Depot.names new.depot) c.args.epoch c.in-Ok.archives step.opening (ap g.D.Depot.names step.depot) step.slots c.requires.there,
      exchanged_elsewhere g.A.EpochArchives.book g.A.Wreck.EpochArchivesRuin.left old.opening new.opening old.slots new.slots (g.D.Depot.names old.depot) (g.D.Depot.names new.depot) c.args.epoch (Standing c.in-Ok.archives old.opening) step.opening (ap g.D.Depot.names step.depot) step.slots,
    )

pub returns-in-Ok-clause-calm : goal.returns-in-Ok-clause-calm
returns-in-Ok-clause-calm g c = ap (λ d. g.A.EpochArchives.unfailing && (g.D.Depot.watch d).only_armed) c.exchange-epochs.ensures.depot

pub returns-in-Err-clause-calm : goal.returns-in-Err-clause-calm
returns-in-Err-clause-calm g c = rw c.lost_by.ensures.wreck (c.wreck.ensures.calm ∙ ap (λ d. g.A.EpochArchives.unfailing && (g.D.Depot.watch d).only_armed) c.exchange-epochs-in-Err.ensures.depot)

pub returns-in-Ok-clause-counts : goal.returns-in-Ok-clause-counts
returns-in-Ok-clause-counts g c =
    let old = c.args.self in
    let new = c.exchange-epochs.result.0 in
    let step = c.exchange-epochs.ensures in
    let e = c.args.epoch in
    rw c.in-Ok.is (
      ap (λ d. (g.D.Depot.watch d).faults) step.depot,
      counts_here g.A.EpochArchives.faults g.A.Wreck.EpochArchivesRuin.faults old.slots new.slots e (Standing c.in-Ok.archives old.opening) step.slots (g.D.Depot.names new.depot e) c.requires.there,
      λ k other. ap (λ d. count_at g.A.EpochArchives.faults g.A.Wreck.EpochArchivesRuin.faults (get nat_cmp new.slots k) (g.D.Depot.names d k)) step.depot ∙ counts_others g.A.EpochArchives.faults g.A.Wreck.EpochArchivesRuin.faults old.slots new.slots e (Standing c.in-Ok.archives old.opening) step.slots (g.D.Depot.names old.depot) k other,
    )

pub returns-in-Err-clause-counts : goal.returns-in-Err-clause-counts
returns-in-Err-clause-counts g c =
    let old = c.args.self in
    let new = c.exchange-epochs-in-Err.result.0 in
    let step = c.exchange-epochs-in-Err.ensures in
    let e = c.args.epoch in
    rw c.in-Err.is (
      c.lost_by.ensures.fault ∙ c.parts_of-failed.ensures.fault,
      rw (c.lost_by.ensures.wreck, ← c.parts_of-failed.ensures.wreck) (ap (λ x. x.archives e) c.wreck.ensures.failures ∙ counts_here g.A.EpochArchives.faults g.A.Wreck.EpochArchivesRuin.faults old.slots new.slots e (Leftover c.parts_of-failed.result.1) step.slots (g.D.Depot.names new.depot e) c.requires.there),
    )

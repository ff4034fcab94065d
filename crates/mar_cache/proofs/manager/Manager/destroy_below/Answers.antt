use Rattle.std.proofs.Common.{◌∙◌, ◌&&◌, ap, ap₂, arith}
use Rattle.mar_cache.specs.Bounds.{bounds_of}
use Rattle.mar_cache.specs.Shelved.{shelf_watch}
use Rattle.mar_cache.proofs.Views.{drop_one, loses_one}
use Rattle.mar_cache.proofs.Watched.{lost_calm}
use Rattle.mar_epochs.proofs.Unarmed.{and_left}
use Rattle.mar_cache.proofs.Within.{destroyed_within, within_dropped}
use Rattle.mar_cache.proofs.manager.Manager.destroy_below.Goals as goal

pub invariant_of-result : goal.invariant_of-result
invariant_of-result g c =
    let old = c.args.self in
    record {
      unchanged = old.unchanged;
      quiet = old.quiet;
      durable = old.durable;
      within = within_dropped (g.S.Epochs.states old.epochs) (g.S.Epochs.states c.in-Ok.epochs) (bounds_of (g.M.Meta.current old.meta)) c.args.below (drop_one c.args.epoch c.args.below _ _ (omega arith) c.in-Ok.ensures.done.0 c.in-Ok.ensures.done.1) old.within;
    }

pub lost_epochs-requires-clause-quiet : goal.lost_epochs-requires-clause-quiet
lost_epochs-requires-clause-quiet g c = c.args.self.quiet

pub lost_epochs-requires-clause-within : goal.lost_epochs-requires-clause-within
lost_epochs-requires-clause-within g c = destroyed_within (g.S.Epochs.states c.args.self.epochs) _ c.args.epoch (bounds_of (g.M.Meta.current c.args.self.meta)) _ c.in-Err.ensures.done c.args.self.durable c.args.self.within

pub returns-in-Ok-clause-bare : goal.returns-in-Ok-clause-bare
returns-in-Ok-clause-bare g c = λ less. c.in-Ok.ensures.done.0

pub returns-in-Ok-clause-watched : goal.returns-in-Ok-clause-watched
returns-in-Ok-clause-watched g c = ap (λ k. shelf_watch g.S.Epochs.keeps c.args.self.alarm (k && (g.M.Meta.watch c.args.self.meta).only_armed)) c.in-Ok.ensures.calm

pub returns-in-Err-clause-done : goal.returns-in-Err-clause-done
returns-in-Err-clause-done g c = rw c.lost_epochs.ensures.ways (loses_one c.args.epoch c.args.below _ _ (omega arith) c.in-Err.ensures.done)

pub returns-in-Err-clause-bounds : goal.returns-in-Err-clause-bounds
returns-in-Err-clause-bounds g c = c.lost_epochs.ensures.bounds

pub returns-in-Err-clause-watched : goal.returns-in-Err-clause-watched
returns-in-Err-clause-watched g c = lost_calm g.S.Epochs.keeps (λ w. w.alarm) (λ w. g.S.Wreck.EpochsRuin.calm w.epochs && (g.M.Wreck.MetaRuin.watch w.meta).only_armed) c.args.self.alarm _ _ c.lost_epochs.result c.lost_epochs.ensures.fault c.lost_epochs.ensures.due c.lost_epochs.ensures.faults
    (ap₂ (λ a b. a && b) (ap g.S.Wreck.EpochsRuin.calm c.lost_epochs.ensures.ways ∙ c.in-Err.ensures.calm) (ap (λ x. x.only_armed) c.lost_epochs.ensures.watch)) (λ only. c.in-Err.ensures.memory (and_left _ _ only))

pub returns-in-Ok-clause-done : goal.returns-in-Ok-clause-done
returns-in-Ok-clause-done g c = drop_one c.args.epoch c.args.below _ _ (omega arith) c.in-Ok.ensures.done.0 c.in-Ok.ensures.done.1

use Rattle.std.proofs.Common.{◌∙◌, ◌&&◌, ap, ap₂}
use Rattle.mar_cache.specs.Bounds.{bounds_of}
use Rattle.mar_cache.specs.Shelved.{shelf_watch}
use Rattle.mar_cache.proofs.Watched.{lost_calm}
use Rattle.mar_epochs.proofs.Unarmed.{and_left}
use Rattle.mar_cache.proofs.Within.{fallen_same, fallen_within, within_same}
use Rattle.mar_cache.proofs.manager.Manager.listed.Goals as goal

pub invariant_of-manager : goal.invariant_of-manager
invariant_of-manager g c =
    let old = c.args.self in
    record { unchanged = old.unchanged; quiet = old.quiet; durable = old.durable; within = within_same (g.S.Epochs.states old.epochs) _ (bounds_of (g.M.Meta.current old.meta)) c.list.ensures.same old.within }

pub lost_epochs-requires-clause-quiet : goal.lost_epochs-requires-clause-quiet
lost_epochs-requires-clause-quiet g c = c.args.self.quiet

pub lost_epochs-requires-clause-within : goal.lost_epochs-requires-clause-within
lost_epochs-requires-clause-within g c = rw c.lost_for-lost.ensures.wreck (fallen_within (g.S.Epochs.states c.args.self.epochs) _ (bounds_of (g.M.Meta.current c.args.self.meta)) _ (fallen_same (g.S.Epochs.states c.args.self.epochs) _ _ c.list.ensures.same c.wreck.ensures.left) c.args.self.durable c.args.self.within)

pub returns-in-Ok-clause-watched : goal.returns-in-Ok-clause-watched
returns-in-Ok-clause-watched g c = ap (λ k. shelf_watch g.S.Epochs.keeps c.args.self.alarm (k && (g.M.Meta.watch c.args.self.meta).only_armed)) c.list.ensures.calm

pub returns-in-Err-clause-ways : goal.returns-in-Err-clause-ways
returns-in-Err-clause-ways g c = rw (c.lost_epochs.ensures.ways, c.lost_for-lost.ensures.wreck) (fallen_same (g.S.Epochs.states c.args.self.epochs) _ _ c.list.ensures.same c.wreck.ensures.left)

pub returns-in-Err-clause-bounds : goal.returns-in-Err-clause-bounds
returns-in-Err-clause-bounds g c = c.lost_epochs.ensures.bounds

pub returns-in-Err-clause-watched : goal.returns-in-Err-clause-watched
returns-in-Err-clause-watched g c = lost_calm g.S.Epochs.keeps (λ w. w.alarm) (λ w. g.S.Wreck.EpochsRuin.calm w.epochs && (g.M.Wreck.MetaRuin.watch w.meta).only_armed) c.args.self.alarm _ _ c.lost_epochs.result c.lost_epochs.ensures.fault c.lost_epochs.ensures.due c.lost_epochs.ensures.faults
    (ap₂ (λ a b. a && b) (ap g.S.Wreck.EpochsRuin.calm (c.lost_epochs.ensures.ways ∙ c.lost_for-lost.ensures.wreck) ∙ c.wreck.ensures.calm ∙ c.list.ensures.calm) (ap (λ x. x.only_armed) c.lost_epochs.ensures.watch)) (λ only. c.lost_for-lost.ensures.memory (c.in-Err.ensures.memory (and_left _ _ only)))

pub returns-in-Ok-clause-picks : goal.returns-in-Ok-clause-picks
returns-in-Ok-clause-picks g c = c.list.ensures.picks

pub returns-in-Ok-clause-only : goal.returns-in-Ok-clause-only
returns-in-Ok-clause-only g c = c.in-Ok.ensures.only

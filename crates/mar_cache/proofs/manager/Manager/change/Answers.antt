use Rattle.std.proofs.Common.{◌∙◌, ◌&&◌, ap, ap₂}
use Rattle.mar_store.specs.Lost.{wreck_of}
use Rattle.mar_cache.specs.Bounds.{bounds_of}
use Rattle.mar_cache.specs.Shelved.{shelf_watch}
use Rattle.mar_cache.proofs.Watched.{lost_calm}
use Rattle.mar_epochs.proofs.Unarmed.{and_left}
use Rattle.mar_cache.proofs.Within.{changed_within, within_changed}
use Rattle.mar_cache.proofs.manager.Manager.change.Goals as goal

pub invariant_of-result : goal.invariant_of-result
invariant_of-result g c =
    let old = c.args.self in
    record {
      unchanged = old.unchanged;
      quiet = old.quiet;
      durable = old.durable;
      within = within_changed g.S.Entry.AsEntry.plain c.args.change (g.S.Epochs.states old.epochs) (g.S.Epochs.states c.in-Ok.epochs) (bounds_of (g.M.Meta.current old.meta)) c.args.epoch c.requires.own (g.met.S.Epochs.nested c.in-Ok.epochs) c.in-Ok.ensures.done.0 c.in-Ok.ensures.done.1 old.within;
    }

pub lost_epochs-requires-clause-quiet : goal.lost_epochs-requires-clause-quiet
lost_epochs-requires-clause-quiet g c = c.args.self.quiet

pub lost_epochs-requires-clause-within : goal.lost_epochs-requires-clause-within
lost_epochs-requires-clause-within g c = changed_within (g.S.Epochs.states c.args.self.epochs) _ c.args.epoch _ _ (bounds_of (g.M.Meta.current c.args.self.meta)) _ (g.met.S.Epochs.nested_left (wreck_of c.in-Err.lost)) c.in-Err.ensures.done c.requires.own c.in-Err.ensures.shut c.args.self.durable c.args.self.within

pub returns-in-Ok-clause-watched : goal.returns-in-Ok-clause-watched
returns-in-Ok-clause-watched g c = ap (λ k. shelf_watch g.S.Epochs.keeps c.args.self.alarm (k && (g.M.Meta.watch c.args.self.meta).only_armed)) c.in-Ok.ensures.calm

pub returns-in-Err-clause-done : goal.returns-in-Err-clause-done
returns-in-Err-clause-done g c = rw c.lost_epochs.ensures.ways c.in-Err.ensures.done

pub returns-in-Err-clause-bounds : goal.returns-in-Err-clause-bounds
returns-in-Err-clause-bounds g c = c.lost_epochs.ensures.bounds

pub returns-in-Err-clause-watched : goal.returns-in-Err-clause-watched
returns-in-Err-clause-watched g c = lost_calm g.S.Epochs.keeps (λ w. w.alarm) (λ w. g.S.Wreck.EpochsRuin.calm w.epochs && (g.M.Wreck.MetaRuin.watch w.meta).only_armed) c.args.self.alarm _ _ c.lost_epochs.result c.lost_epochs.ensures.fault c.lost_epochs.ensures.due c.lost_epochs.ensures.faults
    (ap₂ (λ a b. a && b) (ap g.S.Wreck.EpochsRuin.calm c.lost_epochs.ensures.ways ∙ c.in-Err.ensures.calm) (ap (λ x. x.only_armed) c.lost_epochs.ensures.watch)) (λ only. c.in-Err.ensures.memory (and_left _ _ only))

pub returns-in-Ok-clause-settled : goal.returns-in-Ok-clause-settled
returns-in-Ok-clause-settled g c = c.in-Ok.ensures.settled

pub returns-in-Err-clause-settled : goal.returns-in-Err-clause-settled
returns-in-Err-clause-settled g c = λ settled. tt

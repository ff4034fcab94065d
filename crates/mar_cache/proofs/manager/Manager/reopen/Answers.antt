use Rattle.std.proofs.Common.{◌≡◌, ◌∙◌, ◌&&◌, ap, false, map, refl, subst, sym}
use Rattle.std.proofs.lemmas.Result.{IfErr-weaker, IfOk-weaker}
use Rattle.mar_cache.specs.Bounds.{bounds_of}
use Rattle.mar_epochs.specs.EpochStates.{MightBe, is_opened}
use Rattle.mar_epochs.specs.Picks.{picks_by}
use Rattle.mar_cache.specs.Shelved.{shelf_watch}
use Rattle.mar_epochs.proofs.Leaving.{might_stay}
use Rattle.mar_cache.proofs.Shelving.{reopened_ways}
use Rattle.mar_cache.proofs.Watched.{begun, heeds_lost, heeds_then, lost_calm, rung}
use Rattle.mar_epochs.proofs.Unarmed.{and_left}
use Rattle.mar_cache.proofs.Within.{kept_within, reopened_within}
use Rattle.mar_cache.proofs.manager.Manager.reopen.Goals as goal

pub invariant_of-result : goal.invariant_of-result
invariant_of-result g c = record { quiet = c.args.wreck.quiet; within = c.args.wreck.within }

pub returns-then-rings : goal.returns-then-rings
returns-then-rings g c = record {
  states = tt;
  shut = tt;
  picks = tt;
  bounds = tt;
  ways = might_stay _;
  left = λ values has. has;
  watched = rung g.S.Epochs.keeps c.args.wreck.alarm c.rings.new.self c.rings.result _ c.if-rings.true c.rings.ensures.rings c.rings.ensures.due c.rings.ensures.faults;
}

pub with_reopened-requires : goal.with_reopened-requires
with_reopened-requires g c = record {
  quiet = c.args.wreck.quiet;
  within = λ b has. reopened_within (g.S.Wreck.EpochsRuin.left c.args.wreck.epochs) _ (g.S.Epochs.states c.in-Ok.epochs) b c.args.wreck.within c.in-Ok.ensures.done has;
}

pub returns-in-Ok : goal.returns-in-Ok
returns-in-Ok g c =
    let call = c.rings.ensures in
    let begins = begun g.S.Epochs.keeps c.args.wreck.alarm c.rings.new.self c.rings.result (g.S.Wreck.EpochsRuin.calm c.args.wreck.epochs && (g.M.Wreck.MetaRuin.watch c.args.wreck.meta).only_armed) (g.S.Epochs.calm c.in-Ok.epochs && (g.M.Wreck.MetaRuin.watch c.args.wreck.meta).only_armed) c.if-rings.false call.rings call.due call.faults (ap (λ b. b && (g.M.Wreck.MetaRuin.watch c.args.wreck.meta).only_armed) c.in-Ok.ensures.calm) in
    record {
      states = IfOk-weaker c.with_reopened.result _ _ (λ m same. subst (λ s. MightBe (g.S.Wreck.EpochsRuin.left c.args.wreck.epochs) (g.S.Epochs.states s)) (sym same) c.in-Ok.ensures.done) c.with_reopened.ensures.epochs;
      shut = IfOk-weaker c.with_reopened.result _ _ (λ m same. subst (λ s. (k : _) → is_opened (g.S.Epochs.states s k) ≡ false) (sym same) c.in-Ok.ensures.shut) c.with_reopened.ensures.epochs;
      picks = IfOk-weaker c.with_reopened.result _ _ (λ m same. subst (λ s. g.S.Epochs.picks s ≡ picks_by g.S.Epochs.keeps c.args.luck) (sym same) c.in-Ok.ensures.picks) c.with_reopened.ensures.epochs;
      bounds = c.with_reopened.ensures.bounds;
      ways = IfErr-weaker c.with_reopened.result _ _ (λ l all. reopened_ways _ _ (g.S.Epochs.states c.in-Ok.epochs) c.in-Ok.ensures.done c.in-Ok.ensures.shut all) c.with_reopened.ensures.ways;
      left = c.with_reopened.ensures.left;
      watched = heeds_then (λ m. shelf_watch g.S.Epochs.keeps m.alarm (g.S.Epochs.calm m.epochs && (g.M.Meta.watch m.meta).only_armed)) (λ w. shelf_watch g.S.Epochs.keeps w.alarm (g.S.Wreck.EpochsRuin.calm w.epochs && (g.M.Wreck.MetaRuin.watch w.meta).only_armed)) (shelf_watch g.S.Epochs.keeps c.args.wreck.alarm (g.S.Wreck.EpochsRuin.calm c.args.wreck.epochs && (g.M.Wreck.MetaRuin.watch c.args.wreck.meta).only_armed)) _ c.with_reopened.result begins.0 begins.1 c.with_reopened.ensures.watched;
    }

pub invariant_of-wreck : goal.invariant_of-wreck
invariant_of-wreck g c = record {
  quiet = c.args.wreck.quiet;
  within = rw c.parts_of-failed.ensures.wreck (kept_within (g.S.Wreck.EpochsRuin.left c.args.wreck.epochs) _ (map bounds_of (g.M.Wreck.MetaRuin.left c.args.wreck.meta)) _ c.args.wreck.within c.in-Err.ensures.done (λ b has. has));
}

pub returns-in-Err : goal.returns-in-Err
returns-in-Err g c =
    let call = c.rings.ensures in
    let calm = g.S.Wreck.EpochsRuin.calm c.args.wreck.epochs && (g.M.Wreck.MetaRuin.watch c.args.wreck.meta).only_armed in
    let begins = begun g.S.Epochs.keeps c.args.wreck.alarm c.rings.new.self c.rings.result calm calm c.if-rings.false call.rings call.due call.faults refl in
    record {
      states = tt;
      shut = tt;
      picks = tt;
      bounds = tt;
      ways = rw (c.lost_by.ensures.wreck, c.parts_of-failed.ensures.wreck) c.in-Err.ensures.done;
      left = rw c.lost_by.ensures.wreck (λ values has. has);
      watched = heeds_lost (λ w. shelf_watch g.S.Epochs.keeps w.alarm (g.S.Wreck.EpochsRuin.calm w.epochs && (g.M.Wreck.MetaRuin.watch w.meta).only_armed)) _ (shelf_watch g.S.Epochs.keeps c.rings.new.self calm) c.lost_by.result begins.0 begins.1 (lost_calm g.S.Epochs.keeps (λ w. w.alarm) (λ w. g.S.Wreck.EpochsRuin.calm w.epochs && (g.M.Wreck.MetaRuin.watch w.meta).only_armed) c.rings.new.self calm _ c.lost_by.result (c.lost_by.ensures.fault ∙ c.parts_of-failed.ensures.fault)
          (rw c.lost_by.ensures.wreck c.alarm_after.ensures.due) (rw (c.lost_by.ensures.wreck, ← c.parts_of-failed.ensures.fault) c.alarm_after.ensures.faults)
          (rw (c.lost_by.ensures.wreck, c.parts_of-failed.ensures.wreck) (ap (λ b. b && (g.M.Wreck.MetaRuin.watch c.args.wreck.meta).only_armed) c.in-Err.ensures.calm)) (λ only. c.in-Err.ensures.memory (and_left _ _ only)));
    }

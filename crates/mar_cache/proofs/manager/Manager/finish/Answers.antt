use Rattle.std.proofs.Common.{None, [], ap, refl, ◌∙◌, ◌&&◌}
use Rattle.std.proofs.lemmas.Result.{IfErr-weaker, IfOk-weaker}
use Rattle.mar_cache.specs.Shelved.{at_epoch, nothing_gone, shelf_watch}
use Rattle.mar_epochs.specs.declared.Change.TheVariants.{Finish}
use Rattle.mar_cache.proofs.Exits.{err_is, no_ok}
use Rattle.mar_epochs.proofs.Filtering.{contains_none}
use Rattle.mar_cache.proofs.Shelving.{changes_grows, changes_twice, end_leaves, fallen_leaves, grows_at, loses_leaves}
use Rattle.mar_cache.proofs.Watched.{heeds_exit, heeds_exit_then, heeds_then}
use Rattle.mar_cache.proofs.manager.Manager.finish.Goals as goal

pub returns-in_err-manager : goal.returns-in_err-manager
returns-in_err-manager g c = record {
  done = no_ok c.from_residual.result _ _ c.from_residual.ensures.1;
  meta = no_ok c.from_residual.result _ _ c.from_residual.ensures.1;
  ways = err_is c.from_residual.result _ _ c.from_residual.ensures.1 (fallen_leaves (at_epoch c.args.ticket.epoch []) nothing_gone (g.S.Epochs.states c.args.self.epochs) (g.met.S.Epochs.nested c.args.self.epochs) _ c.in_err-manager.ensures.ways);
  bounds = err_is c.from_residual.result _ _ c.from_residual.ensures.1 c.in_err-manager.ensures.bounds;
  watched = heeds_exit _ _ _ c.from_residual.result _ c.from_residual.ensures.1 c.in_err-manager.ensures.watched;
}

pub returns-in_err-manager-2 : goal.returns-in_err-manager-2
returns-in_err-manager-2 g c = record {
  done = no_ok c.from_residual-in_err-manager-2.result _ _ c.from_residual-in_err-manager-2.ensures.1;
  meta = no_ok c.from_residual-in_err-manager-2.result _ _ c.from_residual-in_err-manager-2.ensures.1;
  ways =
      let e = c.args.ticket.epoch in
      let m = c.in_ok-manager.manager in
      err_is c.from_residual-in_err-manager-2.result _ _ c.from_residual-in_err-manager-2.ensures.1 (rw (← c.in_ok-manager.ensures.epochs) (loses_leaves (at_epoch e []) nothing_gone (g.S.Epochs.states m.epochs) (g.met.S.Epochs.nested m.epochs) e [] _ _ (λ x has. contains_none x has) (λ x stays. refl) c.in_err-manager-2.ensures.done));
  bounds = err_is c.from_residual-in_err-manager-2.result _ _ c.from_residual-in_err-manager-2.ensures.1 (c.in_err-manager-2.ensures.bounds ∙ ap g.M.Meta.left c.in_ok-manager.ensures.meta);
  watched = heeds_exit_then _ _ (shelf_watch g.S.Epochs.keeps c.args.self.alarm (g.S.Epochs.calm c.args.self.epochs && (g.M.Meta.watch c.args.self.meta).only_armed)) _ c.from_residual-in_err-manager-2.result _ c.from_residual-in_err-manager-2.ensures.1 c.in_ok-manager.ensures.watched.0 (c.in_ok-manager.ensures.watched.1) c.in_err-manager-2.ensures.watched;
}

pub returns-in-None : goal.returns-in-None
returns-in-None g c = record {
  done =
      let done = c.in_ok-manager-2.ensures.done in
      rw (c.in-None.is, ← c.in_ok-manager.ensures.epochs) ((g.S.Epochs.states c.in_ok-manager-2.manager.epochs c.args.ticket.epoch, done.0, refl), done.1);
  meta = c.in_ok-manager-2.ensures.meta ∙ c.in_ok-manager.ensures.meta;
  ways = tt;
  bounds = tt;
  watched = (c.in_ok-manager.ensures.watched.0, c.in_ok-manager-2.ensures.watched ∙ c.in_ok-manager.ensures.watched.1);
}

pub returns-in-Some : goal.returns-in-Some
returns-in-Some g c = record {
  done =
      let t = c.args.ticket in
      rw (c.in-Some.is, ← c.in_ok-manager.ensures.epochs) (changes_twice g.S.Entry.AsEntry.plain (λ s. g.S.Epochs.states s.epochs) _ t.epoch (Finish t.first.section t.first.number) (Finish c.in-Some.part.section c.in-Some.part.number) (g.S.Epochs.states c.in_ok-manager.manager.epochs) (g.S.Epochs.states c.in_ok-manager-2.manager.epochs) c.change-in-Some.result c.in_ok-manager-2.ensures.done c.change-in-Some.ensures.done);
  meta = IfOk-weaker c.change-in-Some.result _ _ (λ m same. same ∙ c.in_ok-manager-2.ensures.meta ∙ c.in_ok-manager.ensures.meta) c.change-in-Some.ensures.meta;
  ways =
      let e = c.args.ticket.epoch in
      let m = c.in_ok-manager.manager in
      let n = c.in_ok-manager-2.manager in
      let put = at_epoch e [] in
      rw (← c.in_ok-manager.ensures.epochs) (end_leaves _ (λ w. g.S.Wreck.EpochsRuin.left w.epochs) put nothing_gone e [] _ (g.S.Epochs.states m.epochs) (g.S.Epochs.states n.epochs) c.change-in-Some.result (g.met.S.Epochs.nested n.epochs) (λ x has. contains_none x has) (λ x stays. refl)
      (grows_at put nothing_gone e (g.S.Epochs.states m.epochs) (g.S.Epochs.states n.epochs) (changes_grows g.S.Entry.AsEntry.plain (Finish c.args.ticket.first.section c.args.ticket.first.number) (put e) (nothing_gone e) _ _ (λ x has. contains_none x has) (λ x stays. refl) c.in_ok-manager-2.ensures.done.0) c.in_ok-manager-2.ensures.done.1)
      c.change-in-Some.ensures.done);
  bounds = IfErr-weaker c.change-in-Some.result _ _ (λ l same. same ∙ ap g.M.Meta.left (c.in_ok-manager-2.ensures.meta ∙ c.in_ok-manager.ensures.meta)) c.change-in-Some.ensures.bounds;
  watched = heeds_then (λ m. shelf_watch g.S.Epochs.keeps m.alarm (g.S.Epochs.calm m.epochs && (g.M.Meta.watch m.meta).only_armed)) (λ w. shelf_watch g.S.Epochs.keeps w.alarm (g.S.Wreck.EpochsRuin.calm w.epochs && (g.M.Wreck.MetaRuin.watch w.meta).only_armed)) (shelf_watch g.S.Epochs.keeps c.args.self.alarm (g.S.Epochs.calm c.args.self.epochs && (g.M.Meta.watch c.args.self.meta).only_armed)) _ c.change-in-Some.result c.in_ok-manager.ensures.watched.0 (c.in_ok-manager-2.ensures.watched ∙ c.in_ok-manager.ensures.watched.1) c.change-in-Some.ensures.watched;
}
